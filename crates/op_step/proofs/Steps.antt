-- One step of the recursion, the same for every operation: the family is the node of two families that the same
-- operation names below, so placing the two and then the node places it.
-- A refusal on the way stands, since no book on the way is longer than the last; the cache stays true, since every
-- book on the way only grew.
use Prim.Native.Nat.{ℕ, ◌+◌, ◌*◌, ◌/◌, ◌≤◌, ◌<◌}
use mathlib.Core.Path.{◌≡◌, refl, sym, ap, ◌∙◌}
use mathlib.Core.List.{List}
use native.Mathlib.Omega.{arith}
use lib.ListN.{length, get_or}
use Rattle.std.proofs.Common.{Result, Ok, Err}
use Rattle.family.specs.Family.{Family, top, mk, largest_item}
use Rattle.family.specs.Book.{at, place, made, Grown}
use Rattle.family.proofs.Books.{grown_at, grown_length}
use Rattle.family.proofs.Placing.{place_grown, place_mk, made_grown, room_first, room_second}
use Rattle.store.specs.declared.record.Unplaced.{Unplaced}
use Rattle.store.specs.Operations.{named}
use Rattle.store.specs.Cache.{Truth, True}
use Rattle.store_node.specs.Inner.{NodeAsks, NodeIt}
use Rattle.store.specs.declared.record.Fill.{Fill}
use Rattle.store.specs.Inner.{Reached, Holds, Handed, Outcome, Kept, Ran, Roomy}
use Rattle.store.proofs.Held.{inside}
use Rattle.store.proofs.Growing.{kept_trans, kept_roomy}
use Rattle.store.proofs.Answers.{not_both, handed_of, refused_on, by_answer}
use Rattle.op_cache.specs.declared.Call.{Call}
use Rattle.op_step.specs.Inner.{RememberedAnswer}
use Rattle.store.proofs.Naming.{named_grown}
use Rattle.store.proofs.Cached.{true_grown}
use Rattle.op_cache.proofs.Remembering.{true_remembered}

-- the family that a call names in a book
abbrev pub of : Call → List Family → Family
of call B = named call.op B call.p call.q

-- operands that the call takes, where the limit is at least `least`
pub record Taken (least : ℕ) (call : Call) (n : ℕ) : Type 0 where
  pub operation : (1 ≤ call.op) × (call.op ≤ 8)
  pub first : call.p < n + 2
  pub second : (call.op < 4 → (1 ≤ call.q) × (call.q ≤ least)) × (4 ≤ call.op → call.q < n + 2) × (7 ≤ call.op → call.q ≡ 0)

-- a call by its two calls below a level
pub record Split (least : ℕ) (call below above : Call) (level : ℕ) (n : ℕ) (nodes lookup : List ℕ) : Type 0 where
  pub taken : Taken least call n
  pub other : Taken least above n
  pub level_within : {limit : ℕ} (B : List Family) → Holds limit B n nodes lookup → level ≤ limit
  pub is : {limit : ℕ} (B : List Family) → Holds limit B n nodes lookup → of call B ≡ mk level (of below B) (of above B)
  pub low : {limit : ℕ} (B : List Family) → Holds limit B n nodes lookup → top (of below B) < level
  pub high : {limit : ℕ} (B : List Family) → Holds limit B n nodes lookup → top (of above B) < level

of_grown : {least limit : ℕ} {B C : List Family} {n : ℕ} {nodes lookup : List ℕ} (call : Call) → Taken least call n → Holds limit B n nodes lookup → Grown B C → of call C ≡ of call B
of_grown call t H g = named_grown g call.op call.p call.q (inside H call.p t.first) (λ l. inside H call.q (t.second.1 l))

-- the cache's word for a call whose result was handed over
truth_of : {least limit : ℕ} {B : List Family} {n m h : ℕ} {nodes lookup nodes' lookup' : List ℕ} (call : Call) → least ≤ limit → Taken least call n → Holds limit B n nodes lookup → Handed limit (place B (of call B)) (of call B) h m nodes' lookup'
    → Truth limit (place B (of call B)) call.op call.p call.q h
truth_of {B = B} {h = h} call k t H G =
    let g = place_grown B (of call B) in
    let l = grown_length g in
    record {
      operation = t.operation;
      first = omega (arith, inside H call.p t.first);
      second = (λ m. ((t.second.0 m).0, omega (arith, (t.second.0 m).1)), λ m. omega (arith, inside H call.q (t.second.1 m)), t.second.2);
      result = inside G.holds h G.within;
      means = G.means ∙ sym (of_grown call t H g);
    }

module _ (call below above : Call) (level : ℕ) {least : ℕ} (s : Fill) (nodes lookup cache : List ℕ) (K : Split least call below above level s.count nodes lookup)
    {m₁ : Reached} {nodes₁ lookup₁ cache₁ : List ℕ} (R : Ran least (of below) s nodes lookup cache m₁ nodes₁ lookup₁ cache₁) where
  -- the first result refused
  pub step_first : (x : Unplaced) → m₁.answer ≡ Err x → Ran least (of call) s nodes lookup cache m₁ nodes₁ lookup₁ cache₁
  step_first x e =
      record {
        kept = R.kept;
        handle = R.handle;
        long_cache = R.long_cache;
        rest = R.rest;
        sound = λ B l H t. refused_on x e (rw (K.is B H) (room_first B level (of below B) (of above B))) (R.sound B l H t);
        cached = λ B l H t h d. not_both h x d e;
      }

  module _ (z : ℕ) (ez : m₁.answer ≡ Ok z) {m₂ : Reached} {nodes₂ lookup₂ cache₂ : List ℕ} (S : Ran least (of above) m₁.store nodes₁ lookup₁ cache₁ m₂ nodes₂ lookup₂ cache₂) where
    module _ {limit : ℕ} {B : List Family} (l : least ≤ limit) (H : Holds limit B s.count nodes lookup) (t : True limit B cache) where
      given : Handed limit (place B (of below B)) (of below B) z m₁.store.count nodes₁ lookup₁
      given = handed_of ez (R.sound B l H t)

      same : of above (place B (of below B)) ≡ of above B
      same = of_grown above K.other H (place_grown B (of below B))

      second : Outcome limit (place (place B (of below B)) (of above B)) (of above B) s.capacity m₂.store.count nodes₂ lookup₂ m₂.answer
      second = rw (same, R.kept.same_capacity) at (S.sound (place B (of below B)) l given.holds (R.cached B l H t z ez))

      second_cache : (o : ℕ) → m₂.answer ≡ Ok o → True limit (place (place B (of below B)) (of above B)) cache₂
      second_cache o e = rw same at (S.cached (place B (of below B)) l given.holds (R.cached B l H t z ez) o e)

      -- the zero side, in the book after both
      still : at (place (place B (of below B)) (of above B)) z ≡ of below B
      still = grown_at (place_grown (place B (of below B)) (of above B)) z (inside given.holds z given.within) ∙ given.means

      whole : place B (of call B) ≡ made (place (place B (of below B)) (of above B)) level (of below B) (of above B)
      whole = ap (λ F. place B F) (K.is B H) ∙ place_mk B level (of below B) (of above B)

      whole_grown : Grown (place (place B (of below B)) (of above B)) (place B (of call B))
      whole_grown = rw whole (made_grown (place (place B (of below B)) (of above B)) level (of below B) (of above B))

    chained : Kept s nodes lookup m₂.store nodes₂ lookup₂
    chained = kept_trans R.kept S.kept

    -- the second result refused
    pub step_second : (x : Unplaced) → m₂.answer ≡ Err x → Ran least (of call) s nodes lookup cache m₂ nodes₂ lookup₂ cache₂
    step_second x e =
        record {
          kept = chained;
          handle = S.handle;
          long_cache = S.long_cache ∙ R.long_cache;
          rest = λ k l. S.rest k (rw R.long_cache l) ∙ R.rest k l;
          sound = λ B l H t. refused_on x e (rw (K.is B H) (room_second B level (of below B) (of above B))) (second l H t);
          cached = λ B l H t h d. not_both h x d e;
        }

    -- both given: the node
    module _ (o : ℕ) (eo : m₂.answer ≡ Ok o) {r : Reached} {nodes₃ lookup₃ cache₃ : List ℕ} (N : NodeIt m₂.store nodes₂ lookup₂ level z o r nodes₃ lookup₃)
        (M : RememberedAnswer cache₂ call r.answer cache₃) where
      third : {limit : ℕ} {B : List Family} → least ≤ limit → Holds limit B s.count nodes lookup → True limit B cache → Outcome limit (place B (of call B)) (of call B) s.capacity r.store.count nodes₃ lookup₃ r.answer
      third {B = B} l H t =
          let G = handed_of eo (second l H t) in
          let ea : at (place (place B (of below B)) (of above B)) z ≡ of below B = still l H t in
          let A = N.sound (place (place B (of below B)) (of above B)) (K.level_within B H) G.holds (omega (arith, ap top ea, K.low B H)) (omega (arith, ap top G.means, K.high B H)) in
          rw (whole l H t, K.is B H) (rw (ea, G.means, S.kept.same_capacity ∙ R.kept.same_capacity) at A)

      pub step_done : Ran least (of call) s nodes lookup cache r nodes₃ lookup₃ cache₃
      step_done =
          record {
            kept = kept_trans chained N.kept;
            handle = N.handle;
            long_cache = lasts r.answer M ∙ S.long_cache ∙ R.long_cache;
            rest = λ k l. stays k (rw (S.long_cache ∙ R.long_cache) l) ∙ S.rest k (rw R.long_cache l) ∙ R.rest k l;
            sound = λ B l H t. third l H t;
            cached = λ B l H t h e. true_remembered (true_grown (whole_grown l H t) (second_cache l H t o eo)) (truth_of call l K.taken H (handed_of e (third l H t))) (M.gave h e);
          }
        where
          lasts : (a : Result ℕ Unplaced) → RememberedAnswer cache₂ call a cache₃ → length cache₃ ≡ length cache₂
          lasts (Ok h) M = (M.gave h refl).long
          lasts (Err x) M = ap length (M.refused x refl)

          stays : (k : ℕ) → length cache₂ / 4 * 4 ≤ k → get_or cache₃ k 0 ≡ get_or cache₂ k 0
          stays k l = by_answer r.answer (λ h e. (M.gave h e).rest k l) (λ x e. ap (λ X. get_or X k 0) (M.refused x e))

-- what Getnode asks, after two results: the zero side and the one side
pub node_asks : {least : ℕ} {F G : List Family → Family} {s : Fill} {nodes lookup cache : List ℕ} {first second : Reached} {nodes₁ lookup₁ cache₁ nodes₂ lookup₂ cache₂ : List ℕ} {level z o : ℕ}
    → Roomy s nodes lookup → Ran least F s nodes lookup cache first nodes₁ lookup₁ cache₁ → first.answer ≡ Ok z → Ran least G first.store nodes₁ lookup₁ cache₁ second nodes₂ lookup₂ cache₂
    → second.answer ≡ Ok o → 1 ≤ level → level ≤ largest_item → NodeAsks second.store nodes₂ lookup₂ level z o
node_asks R L e M d some low =
    record {
      roomy = kept_roomy (kept_trans L.kept M.kept) R;
      item_some = some;
      item_low = low;
      zero_held = omega (arith, L.handle _ e, M.kept.grows);
      one_held = M.handle _ d;
    }
