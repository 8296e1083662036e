-- The cache: remembering a call changes its group alone, so a cache that is true of a book stays true of it and of
-- every book that it grows to.
-- A group after remembering is a group of before, or the call's with its result.
use Prim.Native.Nat.{ℕ, ◌+◌, ◌*◌, ◌/◌, ◌≤◌, ◌<◌}
use mathlib.Core.Path.{◌≡◌, refl, sym, ◌∙◌}
use mathlib.Core.List.{List}
use mathlib.Core.Logic.{◌⊎◌, inl, inr, ⊎_elim}
use native.Mathlib.Omega.{arith}
use lib.ListN.{length, get_or, set, length-set}
use lib.Seq.{get_or-set_same, get_or-set_other}
use Rattle.family.specs.Family.{Family}
use Rattle.words.proofs.Cases.{by_eq}
use Rattle.store.specs.Cache.{Group, Truth, True}
use Rattle.op_cache.specs.declared.Call.{Call}
use Rattle.std.proofs.Common.{Option, Some}
use Rattle.op_cache.specs.Inner.{RecallOf, hit, Remembered}

-- a recalled result is true
recalled_group : {cache : List ℕ} {n : ℕ} {call : Call} {h : ℕ} → RecallOf cache n call (Some h) → (g : ℕ) × Group cache g call.op call.p call.q h
recalled_group (hit {g = g} G l) = (g, G)

pub recalled_within : {cache : List ℕ} {n : ℕ} {call : Call} {h : ℕ} {x : Option ℕ} → x ≡ Some h → RecallOf cache n call x → h ≤ n + 1
recalled_within e r = out (rw e at r)
  where
    out : {cache : List ℕ} {n : ℕ} {call : Call} {h : ℕ} → RecallOf cache n call (Some h) → h ≤ n + 1
    out (hit G l) = l

pub recalled_true : {limit : ℕ} {B : List Family} {cache : List ℕ} {n : ℕ} {call : Call} {h : ℕ} {x : Option ℕ} → True limit B cache → 1 ≤ call.op → x ≡ Some h → RecallOf cache n call x → Truth limit B call.op call.p call.q h
recalled_true {cache = cache} {n} {call} {h} t l e r =
    let g = recalled_group (rw e at r) in
    ⊎_elim (λ z. absurd (omega (arith, z.op_is, g.1.op_is))) (λ u. u) (t.each g.0 call.op call.p call.q h g.1)

-- what remembering does
abbrev pub noted : List ℕ → ℕ → ℕ → ℕ → ℕ → ℕ → List ℕ
noted cache g op p q h = set (set (set (set cache (4 * g) op) (4 * g + 1) p) (4 * g + 2) q) (4 * g + 3) h

module _ (cache : List ℕ) (s op p q h : ℕ) (fits : 4 * s + 3 < length cache) where
  pub noted_length : length (noted cache s op p q h) ≡ length cache
  noted_length = simp length-set

  noted_other : (k : ℕ) → (k ≡ 4 * s → ⊥) → (k ≡ 4 * s + 1 → ⊥) → (k ≡ 4 * s + 2 → ⊥) → (k ≡ 4 * s + 3 → ⊥) → get_or (noted cache s op p q h) k 0 ≡ get_or cache k 0
  noted_other k a b c d =
      get_or-set_other (set (set (set cache (4 * s) op) (4 * s + 1) p) (4 * s + 2) q) (4 * s + 3) k h 0 d
      ∙ get_or-set_other (set (set cache (4 * s) op) (4 * s + 1) p) (4 * s + 2) k q 0 c
      ∙ get_or-set_other (set cache (4 * s) op) (4 * s + 1) k p 0 b
      ∙ get_or-set_other cache (4 * s) k op 0 a

  noted_here : Group (noted cache s op p q h) s op p q h
  noted_here =
      let l₁ : length (set cache (4 * s) op) ≡ length cache = length-set cache (4 * s) op in
      let l₂ : length (set (set cache (4 * s) op) (4 * s + 1) p) ≡ length cache = simp length-set in
      let l₃ : length (set (set (set cache (4 * s) op) (4 * s + 1) p) (4 * s + 2) q) ≡ length cache = simp length-set in
      record {
        within = rw noted_length fits;
        op_is = get_or-set_other (set (set (set cache (4 * s) op) (4 * s + 1) p) (4 * s + 2) q) (4 * s + 3) (4 * s) h 0 (omega arith)
            ∙ get_or-set_other (set (set cache (4 * s) op) (4 * s + 1) p) (4 * s + 2) (4 * s) q 0 (omega arith)
            ∙ get_or-set_other (set cache (4 * s) op) (4 * s + 1) (4 * s) p 0 (omega arith)
            ∙ get_or-set_same cache (4 * s) op 0 (omega arith);
        first_is = get_or-set_other (set (set (set cache (4 * s) op) (4 * s + 1) p) (4 * s + 2) q) (4 * s + 3) (4 * s + 1) h 0 (omega arith)
            ∙ get_or-set_other (set (set cache (4 * s) op) (4 * s + 1) p) (4 * s + 2) (4 * s + 1) q 0 (omega arith)
            ∙ get_or-set_same (set cache (4 * s) op) (4 * s + 1) p 0 (omega arith);
        second_is = get_or-set_other (set (set (set cache (4 * s) op) (4 * s + 1) p) (4 * s + 2) q) (4 * s + 3) (4 * s + 2) h 0 (omega arith)
            ∙ get_or-set_same (set (set cache (4 * s) op) (4 * s + 1) p) (4 * s + 2) q 0 (omega arith);
        result_is = get_or-set_same (set (set (set cache (4 * s) op) (4 * s + 1) p) (4 * s + 2) q) (4 * s + 3) h 0 (omega arith);
      }

  pub noted_each : (g op' p' q' h' : ℕ) → Group (noted cache s op p q h) g op' p' q' h' → Group cache g op' p' q' h' ⊎ ((op' ≡ op) × (p' ≡ p) × (q' ≡ q) × (h' ≡ h))
  noted_each g op' p' q' h' G =
      by_eq g s
      (λ e d.
      let H = noted_here in
      inr (sym (rw e at G.op_is) ∙ H.op_is, sym (rw e at G.first_is) ∙ H.first_is, sym (rw e at G.second_is) ∙ H.second_is, sym (rw e at G.result_is) ∙ H.result_is))
      (λ e d.
      let l = noted_length in
      inl record {
        within = omega (arith, G.within);
        op_is = sym (noted_other (4 * g) (omega arith) (omega arith) (omega arith) (omega arith)) ∙ G.op_is;
        first_is = sym (noted_other (4 * g + 1) (omega arith) (omega arith) (omega arith) (omega arith)) ∙ G.first_is;
        second_is = sym (noted_other (4 * g + 2) (omega arith) (omega arith) (omega arith) (omega arith)) ∙ G.second_is;
        result_is = sym (noted_other (4 * g + 3) (omega arith) (omega arith) (omega arith) (omega arith)) ∙ G.result_is;
      })

pub noted_remembered : (cache : List ℕ) (s : ℕ) (call : Call) (h : ℕ) → s < length cache / 4 → Remembered cache call h (noted cache s call.op call.p call.q h)
noted_remembered cache s call h l =
    let f : 4 * s + 3 < length cache = omega arith in
    record {
      long = noted_length cache s call.op call.p call.q h f;
      rest = λ k m. noted_other cache s call.op call.p call.q h f k (omega arith) (omega arith) (omega arith) (omega arith);
      each = noted_each cache s call.op call.p call.q h f;
    }

pub nothing_remembered : (cache : List ℕ) (call : Call) (h : ℕ) → Remembered cache call h cache
nothing_remembered cache call h = record { long = refl; rest = λ k m. refl; each = λ g op p q r G. inl G }

-- a true cache that remembers a true result
pub true_remembered : {limit : ℕ} {B : List Family} {cache cache' : List ℕ} {call : Call} {h : ℕ} → True limit B cache → Truth limit B call.op call.p call.q h → Remembered cache call h cache' → True limit B cache'
true_remembered {limit} {B} {cache} {cache'} {call} {h} t u m = record { each = λ g op p q r G. ⊎_elim (λ O. old g op p q r G O (t.each g op p q r O)) (λ e. inr (new op p q r e)) (m.each g op p q r G) }
  where
    new : (op p q r : ℕ) → (op ≡ call.op) × (p ≡ call.p) × (q ≡ call.q) × (r ≡ h) → Truth limit B op p q r
    new op p q r e = rw (e.0, e.1, e.2, e.3) u

    old : (g op p q r : ℕ) → Group cache' g op p q r → Group cache g op p q r → Group cache g 0 0 0 0 ⊎ Truth limit B op p q r → Group cache' g 0 0 0 0 ⊎ Truth limit B op p q r
    old g op p q r G O (inr v) = inr v
    old g op p q r G O (inl z) =
        inl record {
          within = G.within;
          op_is = G.op_is ∙ sym O.op_is ∙ z.op_is;
          first_is = G.first_is ∙ sym O.first_is ∙ z.first_is;
          second_is = G.second_is ∙ sym O.second_is ∙ z.second_is;
          result_is = G.result_is ∙ sym O.result_is ∙ z.result_is;
        }
