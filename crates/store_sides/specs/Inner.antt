-- What reading a node asks and promises. A reader of the promises can pass this page over.
use Rattle.std.specs.Prelude.{ℕ, ◌+◌, ◌*◌, ◌≤◌, ◌<◌, ◌≡◌, List, length, Option, Some, None}
use Rattle.family.specs.Family.{Family}
use Rattle.family.specs.Operation.{lacking, holding}
use Rattle.family.specs.Book.{at}
use Rattle.store.specs.Words.{top_at}
use Rattle.store.specs.Inner.{Holds, Added}
use Rattle.store_sides.specs.declared.Cofactors.{Cofactors}
use Rattle.store_sides.specs.declared.Sides.{Sides}

-- a handle of so many nodes, and their words
pub record TopAsks (nodes : List ℕ) (n p : ℕ) : Type 0 where
  pub held : p ≤ n + 1
  pub words : 3 * n ≤ length nodes

-- a handle whose top is below the level wherever these words hold a book, also after nodes were added
pub record Low (nodes : List ℕ) (n level p : ℕ) : Type 0 where
  pub falls : {limit : ℕ} (B : List Family) (n' : ℕ) (nodes' lookup : List ℕ) → Added n nodes n' nodes' → Holds limit B n' nodes' lookup → top_at nodes' p < level

-- a handle with its top, the words of the nodes, and a level that is not below the top
pub record CofactorsAsks (nodes : List ℕ) (n p top level : ℕ) : Type 0 where
  pub held : p ≤ n + 1
  pub words : 3 * n ≤ length nodes
  pub small : n ≤ 1000000
  pub top_is : top ≡ top_at nodes p
  pub top_low : top ≤ level
  pub some : 0 < level

-- the sides of p at a level
pub record Halves (nodes : List ℕ) (n p level z o : ℕ) : Type 0 where
  pub zero_within : z ≤ n + 1
  pub one_within : o ≤ n + 1
  pub zero_low : Low nodes n level z
  pub one_low : Low nodes n level o
  pub lacks : {limit : ℕ} (B : List Family) (lookup : List ℕ) → Holds limit B n nodes lookup → at B z ≡ lacking level (at B p)
  pub holds : {limit : ℕ} (B : List Family) (lookup : List ℕ) → Holds limit B n nodes lookup → at B o ≡ holding level (at B p)

-- the two sides, or words that no sound store has
pub data CofactorsOf (nodes : List ℕ) (n p level : ℕ) : Option Cofactors → Type 0 where
  split : {c : Cofactors} → Halves nodes n p level c.zero c.one → CofactorsOf nodes n p level (Some c)
  none : ((limit : ℕ) (B : List Family) (lookup : List ℕ) → Holds limit B n nodes lookup → ⊥) → CofactorsOf nodes n p level None

-- a handle, the words of the nodes, and a level that is not below the handle's top
pub record SidesAsks (nodes : List ℕ) (n p level : ℕ) : Type 0 where
  pub held : p ≤ n + 1
  pub words : 3 * n ≤ length nodes
  pub small : n ≤ 1000000
  pub top_low : top_at nodes p ≤ level
  pub some : 0 < level

-- the sides of p at a level, with their tops
pub record TwoSides (nodes : List ℕ) (n p level z o zt ot : ℕ) : Type 0 where
  pub halves : Halves nodes n p level z o
  pub ztop : zt ≡ top_at nodes z
  pub otop : ot ≡ top_at nodes o
  pub zero_below : zt < level
  pub one_below : ot < level

-- the two sides, or words that no sound store has
pub data SidesOf (nodes : List ℕ) (n p level : ℕ) : Option Sides → Type 0 where
  two : {s : Sides} → TwoSides nodes n p level s.zero s.one s.ztop s.otop → SidesOf nodes n p level (Some s)
  broken : ((limit : ℕ) (B : List Family) (lookup : List ℕ) → Holds limit B n nodes lookup → ⊥) → SidesOf nodes n p level None
