-- Chains of places, and the search along the chain of a handle.
-- A chain goes down from place to place, so that one step along it comes nearer and places above it do not matter.
use Prim.Native.Nat.{ℕ, suc, ◌+◌, ◌-◌, ◌%◌, ◌≤◌, ◌<◌}
use mathlib.Core.Path.{◌≡◌, refl, sym, ap, ◌∙◌}
use Rattle.std.specs.Prelude.{None, Some}
use native.Mathlib.Omega.{arith}
use native.Mathlib.Nat.{mod-lt}
use Rattle.query_parts.specs.declared.entries.Parts.{Parts}
use Rattle.query_parts.specs.Inner.{handle_at, next_at, head_at, Leads, here, on, FindAsks, Found}

-- a chain leads where it did, as long as the places below it stay
pub leads_same : {next next' : ℕ → ℕ} (n : ℕ) → ((k : ℕ) → k < n → next k ≤ k) → ((k : ℕ) → k < n → next' k ≡ next k) → {a b : ℕ} → a ≤ n → Leads next a b → Leads next' a b
leads_same n down same l here = here
leads_same n down same l (on {k} {a} w) = on {k = k} {a = a} (rw (same k (omega arith)) (leads_same n down same (omega (arith, down k (omega arith))) w))

module _ {next : ℕ → ℕ} where
  -- a chain that does not end here leads on
  pub leads_on : {a b : ℕ} → Leads next a b → 0 < a → (a ≡ b → ⊥) → Leads next (next (a - 1)) b
  leads_on here l d = absurd (d refl)
  leads_on (on {k} w) l d = let e : suc k - 1 ≡ k = omega arith in rw e w

  -- 0 leads to no place
  pub leads_none : {a b : ℕ} → Leads next a b → a ≡ 0 → 0 < b → ⊥
  leads_none here e l = omega arith
  leads_none (on w) e l = omega arith

-- what is left of the search: the chain from here leads to the place of the handle
pub record Sought (t : Parts) (handle at : ℕ) : Type 0 where
  pub low : at ≤ t.entered
  pub leads : (e : ℕ) → e < t.entered → handle_at t.words.now e ≡ handle → Leads (λ k. next_at t.words.now k) at (suc e)

module _ (t : Parts) (handle at : ℕ) (A : FindAsks t) where
  pub sought_head : at ≡ head_at t.words.now (handle % t.places) → Sought t handle at
  sought_head e = record { low = rw e (A.table.heads (handle % t.places) (mod-lt handle A.some)); leads = λ k l d. rw e (rw d at (A.table.leads k l)) }

  pub sought_none : Sought t handle at → at ≡ 0 → Found t handle None
  sought_none S e = record { none = λ z k l d. leads_none (S.leads k l d) e (omega arith); some = λ k q. cc }

  -- the place that the link leads to, and the handle h that stands there
  module _ (S : Sought t handle at) (place h : ℕ) (leads : at ≡ place + 1) (is : h ≡ handle_at t.words.now place) where
    -- the place before is lower
    pub sought_falls : next_at t.words.now place < at
    sought_falls = omega (arith, A.table.links place (omega (arith, S.low)))

    pub sought_here : h ≡ handle → Found t handle (Some place)
    sought_here e =
        record {
          none = λ z. cc;
          some = λ k q. let same : k ≡ place = cc in (omega (arith, S.low), ap (λ j. handle_at t.words.now j) same ∙ sym is ∙ e);
        }

    pub sought_on : (h ≡ handle → ⊥) → (at' : ℕ) → at' ≡ next_at t.words.now place → Sought t handle at'
    sought_on d at' e =
        record {
          low = omega (arith, S.low, sought_falls);
          leads = λ k l same.
              let apart : at ≡ suc k → ⊥ = λ q. d (is ∙ ap (λ j. handle_at t.words.now j) (omega arith) ∙ same) in
              let before : at - 1 ≡ place = omega arith in
              rw (e, ← before) (leads_on (S.leads k l same) (omega arith) apart);
        }
