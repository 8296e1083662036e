-- A scan finds a slot at which its test holds wherever there is one, and what it finds hangs on the slots up to there.
-- Each law is an induction on the steps; around the end a slot is reached after at most as many steps as there are
-- slots.
use Rattle.std.proofs.Common.{◌≡◌, ℕ, zero, suc, ◌+◌, ◌-◌, ◌<◌, ◌≤◌, Bool, true, false, ◌⊎◌, refl, ap, ◌∙◌, inl, inr, ⊎_elim, arith, eq-eqb, ne_eqb}
use Rattle.words.proofs.Cases.{by_test, by_eq, by_lt, clash}
use Rattle.table.specs.Probe.{after, scan}

-- the slot after a slot
pub after_wraps : (len at : ℕ) → at + 1 ≡ len → after len at ≡ 0
unfolding after
after_wraps len at e = rw (eq-eqb (at + 1) len e)

pub after_next : (len at : ℕ) → (at + 1 ≡ len → ⊥) → after len at ≡ at + 1
unfolding after
after_next len at e = rw (ne_eqb (at + 1) len e)

pub after_lt : (len at : ℕ) → at < len → after len at < len
after_lt len at h = by_eq (at + 1) len (λ p e. rw (after_wraps len at p) (omega arith)) (λ p e. rw (after_next len at p) (omega arith))

-- one step, after k others
module _ (stop : ℕ → Bool) (len k at : ℕ) where
  pub left_none : len ≤ k → scan stop len (len - k) at ≡ len
  unfolding scan
  left_none h = let e : len - k ≡ 0 = omega arith in rw e

  one_more : k < len → len - k ≡ suc (len - (k + 1))
  one_more h = omega arith

  pub left_hit : k < len → stop at ≡ true → scan stop len (len - k) at ≡ at
  unfolding scan
  left_hit h e = ap (λ m. scan stop len m at) (one_more h) ∙ rw e

  pub left_miss : k < len → stop at ≡ false → scan stop len (len - k) at ≡ scan stop len (len - (k + 1)) (after len at)
  unfolding scan
  left_miss h e = ap (λ m. scan stop len m at) (one_more h) ∙ rw e

-- what it finds passes the test
pub scan_sound : (stop : ℕ → Bool) (len n at : ℕ) → scan stop len n at < len → stop (scan stop len n at) ≡ true
unfolding scan
scan_sound stop len zero at h = absurd (omega arith)
scan_sound stop len (suc n) at h =
    by_test (stop at) (λ e. rw e e) (λ e. rw e (scan_sound stop len n (after len at) (rw e at h)))

-- two tests that agree on the slots
pub scan_ext : (stop other : ℕ → Bool) (len n at : ℕ) → at < len → ((x : ℕ) → x < len → stop x ≡ other x) → scan stop len n at ≡ scan other len n at
unfolding scan
scan_ext stop other len zero at h e = refl
scan_ext stop other len (suc n) at h e = rw (e at h, scan_ext stop other len n (after len at) (after_lt len at h) e)

-- a stricter test that holds at the slot found finds the same
pub scan_refine : (stop other : ℕ → Bool) (len n at : ℕ) → at < len → ((x : ℕ) → x < len → other x ≡ true → stop x ≡ true)
    → other (scan stop len n at) ≡ true → scan other len n at ≡ scan stop len n at
unfolding scan
scan_refine stop other len zero at h e f = refl
scan_refine stop other len (suc n) at h e f =
    by_test (stop at)
    (λ p. rw (p, rw p at f))
    (λ p. by_test (other at)
    (λ q. clash (e at h q) p)
    (λ q. rw (p, q) (scan_refine stop other len n (after len at) (after_lt len at h) e (rw p at f))))

-- d steps lead from a slot to another, around the end at most once
abbrev Leads : ℕ → ℕ → ℕ → ℕ → Type 0
Leads len at d x = (at + d ≡ x) ⊎ (at + d ≡ x + len)

leads_on : (len at d x : ℕ) → at < len → x < len → Leads len at (suc d) x → Leads len (after len at) d x
leads_on len at d x h g (inl e) = inl (rw (after_next len at (λ p. absurd (omega arith))) (omega arith))
leads_on len at d x h g (inr e) =
    by_eq (at + 1) len (λ p q. inl (rw (after_wraps len at p) (omega arith))) (λ p q. inr (rw (after_next len at p) (omega arith)))

found_within : (stop : ℕ → Bool) (len n at d x : ℕ) → at < len → x < len → stop x ≡ true → d < n → Leads len at d x → scan stop len n at < len
unfolding scan
found_within stop len zero at d x h g e f l = absurd (omega arith)
found_within stop len (suc n) at zero x h g e f l =
    let p : at ≡ x = ⊎_elim (λ q. omega arith) (λ q. omega arith) l in
    rw (ap stop p ∙ e) h
found_within stop len (suc n) at (suc d) x h g e f l =
    by_test (stop at) (λ q. rw q h)
    (λ q. rw q (found_within stop len n (after len at) d x (after_lt len at h) g e (omega arith) (leads_on len at d x h g l)))

pub scan_found : (stop : ℕ → Bool) (len at x : ℕ) → at < len → x < len → stop x ≡ true → scan stop len len at < len
scan_found stop len at x h g e =
    by_lt x at
    (λ p q. found_within stop len len at (x + len - at) x h g e (omega arith) (inr (omega arith)))
    (λ p q. found_within stop len len at (x - at) x h g e (omega arith) (inl (omega arith)))
