-- What the terminal cases ask and promise. A reader of the promises can pass this page over.
use Rattle.std.specs.Prelude.{ℕ, ◌+◌, ◌≤◌, ◌≡◌, ◌⊎◌, List, Option, Some, None}
use Rattle.family.specs.Book.{at}
use Rattle.family.specs.Family.{Family, empty, Ordered, largest_item}
use Rattle.store.specs.Operations.{named}
use Rattle.store.specs.Words.{top_at}
use Rattle.store.specs.declared.record.Fill.{Fill}
use Rattle.store.specs.Inner.{Roomy}
use Rattle.op_cache.specs.declared.Call.{Call}
use Rattle.op_terminal.specs.declared.items.ItemOperation.{ItemOperation}
use Rattle.op_terminal.specs.declared.items.ItemOperation.TheVariants.{Subset1, Subset0, Change}
use Rattle.op_terminal.specs.declared.families.SetOperation.{SetOperation}
use Rattle.op_terminal.specs.declared.families.SetOperation.TheVariants.{Union, Intsec, Diff}

-- the numbers of the operations
abbrev pub item_number : ItemOperation → ℕ
item_number Subset1 = 1
item_number Subset0 = 2
item_number Change = 3

abbrev pub set_number : SetOperation → ℕ
set_number Union = 4
set_number Intsec = 5
set_number Diff = 6

-- the number of an operation on a family and an item
pub record OnItem (op : ℕ) : Type 0 where
  pub some : 1 ≤ op
  pub low : op ≤ 3

-- such a call on words that fit: a handle held, and an item
pub record ItemCall (call : Call) (s : Fill) (nodes lookup : List ℕ) : Type 0 where
  pub roomy : Roomy s nodes lookup
  pub operation : OnItem call.op
  pub held : call.p ≤ s.count + 1
  pub item_some : 1 ≤ call.q
  pub item_low : call.q ≤ largest_item

-- such a call with the top of the family, and an item that is not below it
pub record LeafAsks (call : Call) (level : ℕ) (s : Fill) (nodes lookup : List ℕ) : Type 0 where
  pub taken : ItemCall call s nodes lookup
  pub level_is : level ≡ top_at nodes call.p
  pub not_below : level ≤ call.q

-- the number of an operation on two families
pub record OnFamilies (op : ℕ) : Type 0 where
  pub some : 4 ≤ op
  pub low : op ≤ 6

-- the operands of an operation on two families, in an order that names the same family
pub record OrderedAs (call other : Call) : Type 0 where
  pub op_is : other.op ≡ call.op
  pub operands : ((other.p ≡ call.p) × (other.q ≡ call.q)) ⊎ ((other.p ≡ call.q) × (other.q ≡ call.p))
  pub named_is : (B : List Family) → Ordered (at B call.p) → Ordered (at B call.q) → named other.op B other.p other.q ≡ named call.op B call.p call.q

-- a terminal case: the result is 0 or an operand, and the family named
pub record Shortcut (call : Call) (h : ℕ) : Type 0 where
  pub one_of : (h ≡ 0) ⊎ ((h ≡ call.p) ⊎ (h ≡ call.q))
  pub means : (B : List Family) → at B 0 ≡ empty → Ordered (at B call.p) → Ordered (at B call.q) → at B h ≡ named call.op B call.p call.q

-- operands that are no terminal case
pub record Proper (call : Call) : Type 0 where
  pub apart : call.p ≡ call.q → ⊥
  pub first : call.p ≡ 0 → ⊥
  pub second : call.q ≡ 0 → ⊥

-- a terminal case with its result, or none
pub data ShortcutOf (call : Call) : Option ℕ → Type 0 where
  known : {h : ℕ} → Shortcut call h → ShortcutOf call (Some h)
  unknown : Proper call → ShortcutOf call None
