-- Each way out of `walk`: a part met already changes nothing, else its sides are walked and it is put behind them,
-- which places it in the local book.
-- A side has a smaller top than the part, so that walking it cannot meet the part; on words that hold a book
-- nothing is broken.
use Prim.Native.Nat.{ℕ, ◌+◌, ◌≤◌, ◌<◌}
use mathlib.Core.Path.{◌≡◌, refl, sym, ap, ◌∙◌}
use mathlib.Core.Bool.{Bool, true, false}
use mathlib.Core.List.{List}
use native.Mathlib.Omega.{arith}
use lib.ListN.{length, get_or}
use borrow.Author.Tests.{eq-eqb}
use Rattle.std.proofs.Common.{Option, Some, None}
use Rattle.family.specs.Family.{Family, empty, base, node, top, largest_item}
use Rattle.family.specs.Operation.{lacking, holding}
use Rattle.family.specs.Book.{at, number, Held, place}
use Rattle.family.proofs.Books.{add_new, grown_held}
use Rattle.family.proofs.Placing.{book_place, place_grown, place_held, held_below}
use Rattle.words.proofs.Cases.{by_lt}
use Rattle.store_sides.specs.declared.Sides.{Sides}
use Rattle.store.specs.Words.{top_at}
use Rattle.store.specs.Inner.{Holds}
use Rattle.store_sides.specs.Inner.{TwoSides, SidesOf, two, broken}
use Rattle.store.proofs.Held.{top_at_lem, top_node, within, held, at_node}
use Rattle.file_trail.specs.declared.trail.Trail.{Trail}
use Rattle.file_trail.specs.Inner.{met_in, Lent, Visited, Children, NoNode, SplitOf, TrailFits, WalkAsks, Trailed, WalkOf}
use Rattle.file_trail.proofs.Links.{behind_long, behind_other}
use Rattle.file_trail.proofs.Trails.{met_held, unmet_two, unmet_not, few_parts, trail_visit}

-- the two ways out of `children`
pub split_none : (nodes : List ℕ) (n p level : ℕ) → p ≤ n + 1 → level ≡ top_at nodes p → level ≡ 0 → NoNode nodes n p
split_none nodes n p level l e z =
    record {
      never = λ h B lookup H.
          let w = rw (at_node H p h (omega arith)) at (within H p (omega arith)) in
          omega (arith, w.ordered.0, top_node nodes p h);
    }

pub split_sides : {nodes : List ℕ} {n p level : ℕ} {x : Option Sides} → (level ≡ 0 → ⊥) → SidesOf nodes n p level x → SplitOf nodes n p level x
split_sides s (two T) = record { some = omega arith; sides = T }
split_sides s (broken f) = record { never = λ {limit} h B lookup H. f limit B lookup H }

-- after a walk there is still a link for each node
pub walked_lent : {t : Trail} {p : ℕ} {nodes : List ℕ} {n : ℕ} {links links' : List ℕ} {r : Option Trail} → Lent nodes n links → WalkOf t p nodes n links r links' → Lent nodes n links'
walked_lent L R = record { words = L.words; few = L.few; linkable = omega (arith, L.linkable, R.long) }

-- a handle that is held and has a top below a level
pub record Side (nodes : List ℕ) (n level q : ℕ) : Type 0 where
  pub inside : q ≤ n + 1
  pub below : top_at nodes q < level

-- one of two children
pub data Child (z o : ℕ) : ℕ → Type 0 where
  zero_child : Child z o z
  one_child : Child z o o

module _ {nodes : List ℕ} {n p level z o zt ot : ℕ} (S : TwoSides nodes n p level z o zt ot) where
  pub child_side : {q : ℕ} → Child z o q → Side nodes n level q
  child_side zero_child = record { inside = S.halves.zero_within; below = omega (arith, S.ztop, S.zero_below) }
  child_side one_child = record { inside = S.halves.one_within; below = omega (arith, S.otop, S.one_below) }

  -- a child can be walked from any trail that fits
  module _ {t : Trail} {links : List ℕ} (low : level ≤ largest_item) (L : Lent nodes n links) (F : TrailFits n t) where
    child_asks : {q qt : ℕ} → Child z o q → qt ≡ top_at nodes q → WalkAsks t q qt nodes n links
    child_asks c d =
        let side = child_side c in
        record {
          inside = side.inside;
          lent = L;
          level_is = d;
          level_low = omega (arith, side.below);
          trail_fits = F;
        }

    pub zero_asks : WalkAsks t z zt nodes n links
    zero_asks = child_asks zero_child S.ztop

    pub one_asks : WalkAsks t o ot nodes n links
    one_asks = child_asks one_child S.otop

-- a walk that is broken, with the links that it came to
pub walk_broken : (t : Trail) (p : ℕ) (nodes : List ℕ) (n : ℕ) (links links' : List ℕ) → length links' ≡ length links → ((k : ℕ) → n ≤ k → get_or links' k 0 ≡ get_or links k 0)
    → ((limit : ℕ) (B C : List Family) (lookup : List ℕ) → Holds limit B n nodes lookup → Trailed limit B C n t links → ⊥) → WalkOf t p nodes n links None links'
walk_broken t p nodes n links links' e r f = record { long = e; rest = r; trail_fits = tt; sound = λ B C lookup H T. f _ B C lookup H T }

module _ (t : Trail) (p : ℕ) (nodes : List ℕ) (n : ℕ) (links : List ℕ) where
  pub walk_met : p ≤ n + 1 → TrailFits n t → {x : Bool} → x ≡ met_in links p → x ≡ true → WalkOf t p nodes n links (Some t) links
  walk_met lp F em e =
      record {
        long = refl;
        rest = λ k l. refl;
        trail_fits = F;
        sound = λ B C lookup H T. rw (place_held C (at B p) T.book (met_held H T p (omega arith) (sym em ∙ e))) T;
      }

  -- the walks of two handles, one after the other: where one is broken, the walk of p is
  module _ {q₁ : ℕ} {links₁ : List ℕ} where
    pub walk_first_broken : WalkOf t q₁ nodes n links None links₁ → WalkOf t p nodes n links None links₁
    walk_first_broken R = walk_broken t p nodes n links links₁ R.long R.rest (λ limit B C lookup H T. R.sound B C lookup H T)

    module _ {first : Trail} (R : WalkOf t q₁ nodes n links (Some first) links₁) {q₂ : ℕ} {links₂ : List ℕ} where
      pub walk_second_broken : WalkOf first q₂ nodes n links₁ None links₂ → WalkOf t p nodes n links None links₂
      walk_second_broken Q =
          walk_broken t p nodes n links links₂ (Q.long ∙ R.long) (λ k l. Q.rest k l ∙ R.rest k l)
          (λ limit B C lookup H T. Q.sound B (place C (at B q₁)) lookup H (R.sound B C lookup H T))

      module _ {second : Trail} (Q : WalkOf first q₂ nodes n links₁ (Some second) links₂) where
        long₂ : length links₂ ≡ length links
        long₂ = Q.long ∙ R.long

        rest₂ : (k : ℕ) → n ≤ k → get_or links₂ k 0 ≡ get_or links k 0
        rest₂ k l = Q.rest k l ∙ R.rest k l

        trail₂ : {limit : ℕ} {B C : List Family} {lookup : List ℕ} (H : Holds limit B n nodes lookup) (T : Trailed limit B C n t links) → Trailed limit B (place (place C (at B q₁)) (at B q₂)) n second links₂
        trail₂ {B = B} {C} {lookup} H T = Q.sound B (place C (at B q₁)) lookup H (R.sound B C lookup H T)

        module _ (unmet : met_in links p ≡ false) {level : ℕ} (lp : p ≤ n + 1) (is-level : level ≡ top_at nodes p) (S₁ : Side nodes n level q₁) (S₂ : Side nodes n level q₂) where
          -- neither handle's walk meets p, whose top is larger
          lacks : {limit : ℕ} {B C : List Family} {lookup : List ℕ} (H : Holds limit B n nodes lookup) (T : Trailed limit B C n t links) → Held (place (place C (at B q₁)) (at B q₂)) (at B p) → ⊥
          lacks {B = B} {C} H T h =
              unmet_not H T p (omega arith) unmet
              (held_below C (at B q₁) (at B p) (within H q₁ (omega (arith, S₁.inside))).ordered
              (omega (arith, S₁.below, top_at_lem H q₁ (omega (arith, S₁.inside)), top_at_lem H p (omega arith)))
              (held_below (place C (at B q₁)) (at B q₂) (at B p) (within H q₂ (omega (arith, S₂.inside))).ordered
              (omega (arith, S₂.below, top_at_lem H q₂ (omega (arith, S₂.inside)), top_at_lem H p (omega arith))) h))

          pub walk_many : n ≤ 1000000 → 1000000 ≤ second.parts → WalkOf t p nodes n links None links₂
          walk_many l m =
              walk_broken t p nodes n links links₂ long₂ rest₂
              (λ limit B C lookup H T. let f = few_parts H (trail₂ H T) (at B p) (held H p (omega arith)) (lacks H T) in omega arith)

  module _ (unmet : met_in links p ≡ false) (lp : p ≤ n + 1) (level : ℕ) (is-level : level ≡ top_at nodes p) where
    pub walk_no_children : NoNode nodes n p → WalkOf t p nodes n links None links
    walk_no_children N = walk_broken t p nodes n links links refl (λ k l. refl) (λ limit B C lookup H T. N.never (unmet_two H T p unmet) B lookup H)

    -- the without-side, then the with-side, then p itself
    module _ {s : Sides} (K : Children nodes n p level s) {first : Trail} {links₁ : List ℕ} (R : WalkOf t s.zero nodes n links (Some first) links₁)
        {second : Trail} {links₂ : List ℕ} (Q : WalkOf first s.one nodes n links₁ (Some second) links₂) where
      module _ {limit : ℕ} {B C : List Family} {lookup : List ℕ} (H : Holds limit B n nodes lookup) (T : Trailed limit B C n t links) where
        -- the part is the node of its level and its children
        is_node : at B p ≡ node level (at B s.zero) (at B s.one)
        is_node = go (at B p) refl
          where
            go : (F : Family) → at B p ≡ F → F ≡ node level (at B s.zero) (at B s.one)
            go empty e = absurd (omega (arith, K.some, top_at_lem H p (omega arith), ap top e))
            go base e = absurd (omega (arith, K.some, top_at_lem H p (omega arith), ap top e))
            go (node j a b) e =
                let ej : j ≡ level = sym (ap top e) ∙ sym (top_at_lem H p (omega arith)) ∙ sym is-level in
                let ez : at B s.zero ≡ a = K.sides.halves.lacks B lookup H ∙ ap (λ F. lacking level F) e ∙ rw (eq-eqb j level ej) in
                let eo : at B s.one ≡ b = K.sides.halves.holds B lookup H ∙ ap (λ F. holding level F) e ∙ rw (eq-eqb j level ej) in
                rw (ej, ez, eo)

        new : Held (place (place C (at B s.zero)) (at B s.one)) (node level (at B s.zero) (at B s.one)) → ⊥
        new h = lacks R Q unmet lp is-level (child_side K.sides zero_child) (child_side K.sides one_child) H T (rw is_node h)

      pub walk_done : level ≤ largest_item → second.parts < 1000000 → n ≤ length links → {t' : Trail} {links₃ : List ℕ}
          → Visited second links₂ p (record { item = level; zero = s.zero; one = s.one }) t' links₃ → WalkOf t p nodes n links (Some t') links₃
      walk_done low few room {t'} {links₃} W =
          let F = Q.trail_fits in
          record {
            long = ap length W.links_are ∙ behind_long links₂ second.last p ∙ long₂ R Q;
            rest = λ k l. ap (λ X. get_or X k 0) W.links_are ∙ behind_other links₂ second.last p k (omega arith) (omega (arith, F.last_held)) ∙ rest₂ R Q k l;
            trail_fits = record {
              last_held = omega (arith, W.last_is);
              item_low = omega (arith, W.item_is);
              few = omega (arith, W.parts_is);
              some = omega (arith, W.bytes_is, F.some);
              short = omega (arith, W.longer, W.parts_is, F.short);
            };
            sound = λ B C lookup H T.
                let a = K.sides in
                let T₂ = trail₂ R Q H T in
                let ha = book_place C (at B s.zero) T.book (within H s.zero (omega (arith, a.halves.zero_within))) in
                let hb = book_place (place C (at B s.zero)) (at B s.one) ha.0 (within H s.one (omega (arith, a.halves.one_within))) in
                let missing : length (place (place C (at B s.zero)) (at B s.one)) ≤ number (place (place C (at B s.zero)) (at B s.one)) (node level (at B s.zero) (at B s.one)) =
                by_lt (number (place (place C (at B s.zero)) (at B s.one)) (node level (at B s.zero) (at B s.one))) (length (place (place C (at B s.zero)) (at B s.one))) (λ h e. absurd (new H T h)) (λ h e. h) in
                rw (is_node H T, add_new (place (place C (at B s.zero)) (at B s.one)) (node level (at B s.zero) (at B s.one)) missing)
                (trail_visit H T₂ p level s.zero s.one (omega arith) (omega (arith, a.halves.zero_within)) (omega (arith, a.halves.one_within)) (is_node H T) (new H T)
                (grown_held (place_grown (place C (at B s.zero)) (at B s.one)) (at B s.zero) ha.1) hb.1 W (omega (arith, long₂ R Q)));
          }
