-- The trail of the parts in placing order, and what its functions promise each other. A reader of the promise can
-- pass this page over.
use Rattle.std.specs.Prelude.{ℕ, ◌+◌, ◌*◌, ◌-◌, ◌≤◌, ◌<◌, ◌≡◌, Bool, true, false, cond, not, Option, Some, None, MatchOption, IfSome, IsSomeAnd, List, eqb, ltb, length, get_or, set, drop}
use Rattle.family.specs.Family.{Family, top, largest_item}
use Rattle.family.specs.Book.{at, number, Held, place, Book}
use Rattle.family.specs.Record.{stands}
use Rattle.family.specs.File.{triples_of, records_bytes}
use Rattle.store_sides.specs.declared.Sides.{Sides}
use Rattle.store.specs.Words.{top_at}
use Rattle.store.specs.Inner.{Holds}
use Rattle.store_sides.specs.Inner.{TwoSides}
use Rattle.file_record.specs.declared.field.Part.{Part}
use Rattle.file_record.specs.Widths.{widths}
use Rattle.file_trail.specs.declared.trail.Trail.{Trail}

-- whether a handle has a link, or is {} or {{}}
unfoldable pub met_in : List ℕ → ℕ → Bool
met_in links p = cond (ltb p 2) true (not (eqb (get_or links (p - 2) 0) 0))

-- the links with the one of p set
unfoldable pub linked : List ℕ → ℕ → ℕ → List ℕ
linked links p next = cond (ltb p 2) links (set links (p - 2) next)

-- the first part once p is met
unfoldable pub first_of : Trail → ℕ → ℕ
first_of t p = cond (eqb t.parts 0) p t.first

-- the words of n nodes, and a link for each of them
pub record Lent (nodes : List ℕ) (n : ℕ) (links : List ℕ) : Type 0 where
  pub words : 3 * n ≤ length nodes
  pub few : n ≤ 1000000
  pub linkable : n ≤ length links

-- what `visit` is asked with: handles that have links, and a trail that can take one part more
pub record VisitAsks (t : Trail) (links : List ℕ) (p : ℕ) : Type 0 where
  pub inside : p ≤ length links + 1
  pub last_inside : t.last ≤ length links + 1
  pub item_low : t.item ≤ largest_item
  pub few : t.parts < 1000000
  pub short : t.bytes ≤ 5 + 11 * t.parts

-- the trail and the links after p, which is this part by handles, was put behind the last part
pub record Visited (t : Trail) (links : List ℕ) (p : ℕ) (part : Part) (t' : Trail) (links' : List ℕ) : Type 0 where
  pub first_is : t'.first ≡ first_of t p
  pub last_is : t'.last ≡ p
  pub item_is : t'.item ≡ part.item
  pub parts_is : t'.parts ≡ t.parts + 1
  pub bytes_is : t'.bytes ≡ t.bytes + widths (stands part.item (t.item + 1)) (stands part.zero 0) (stands part.one t.last)
  pub longer : t'.bytes ≤ t.bytes + 11
  pub links_are : links' ≡ linked (linked links t.last p) p p

-- what `children` is asked with: a handle that is held, and its top
pub record ChildrenAsks (nodes : List ℕ) (n p level : ℕ) : Type 0 where
  pub inside : p ≤ n + 1
  pub words : 3 * n ≤ length nodes
  pub few : n ≤ 1000000
  pub level_is : level ≡ top_at nodes p

-- the children of p
pub record Children (nodes : List ℕ) (n p level : ℕ) (s : Sides) : Type 0 where
  pub some : 0 < level
  pub sides : TwoSides nodes n p level s.zero s.one s.ztop s.otop

-- no book has p as a node
pub record NoNode (nodes : List ℕ) (n p : ℕ) : Type 0 where
  pub never : {limit : ℕ} → 2 ≤ p → (B : List Family) (lookup : List ℕ) → Holds limit B n nodes lookup → ⊥

-- the children of p, or words of no sound store
abbrev pub SplitOf : List ℕ → ℕ → ℕ → ℕ → Option Sides → Type 0
SplitOf nodes n p level r = MatchOption r (NoNode nodes n p) (λ s. Children nodes n p level s)

-- what a trail keeps on any words
pub record TrailFits (n : ℕ) (t : Trail) : Type 0 where
  pub last_held : t.last ≤ n + 1
  pub item_low : t.item ≤ largest_item
  pub few : t.parts ≤ 1000000
  pub some : 5 ≤ t.bytes
  pub short : t.bytes ≤ 5 + 11 * t.parts

-- what `walk` is asked with
pub record WalkAsks (t : Trail) (p level : ℕ) (nodes : List ℕ) (n : ℕ) (links : List ℕ) : Type 0 where
  pub inside : p ≤ n + 1
  pub lent : Lent nodes n links
  pub level_is : level ≡ top_at nodes p
  pub level_low : level ≤ largest_item
  pub trail_fits : TrailFits n t

-- what `descend` is asked with: the handle was not met
pub record DescendAsks (t : Trail) (p level : ℕ) (nodes : List ℕ) (n : ℕ) (links : List ℕ) : Type 0 where
  pub asks : WalkAsks t p level nodes n links
  pub unmet : met_in links p ≡ false

-- The trail over the families of a local book C, whose handles are their numbers in the book B that the store holds.
pub record Trailed (limit : ℕ) (B C : List Family) (n : ℕ) (t : Trail) (links : List ℕ) : Type 0 where
  pub book : Book limit C
  pub inside : (k : ℕ) → k < length C → Held B (at C k)
  pub first_is : 2 < length C → t.first ≡ number B (at C 2)
  pub last_is : t.last ≡ number B (at C (length C - 1))
  pub item_is : t.item ≡ top (at C (length C - 1))
  pub parts_is : t.parts + 2 ≡ length C
  pub bytes_is : t.bytes ≡ 5 + length (records_bytes 0 1 (triples_of C (drop 2 C)))
  pub next : (k : ℕ) → 2 ≤ k → k + 1 < length C → get_or links (number B (at C k) - 2) 0 ≡ number B (at C (k + 1))
  pub end : 2 < length C → get_or links (number B (at C (length C - 1)) - 2) 0 ≡ number B (at C (length C - 1))
  pub unmet : (h : ℕ) → 2 ≤ h → h < n + 2 → (Held C (at B h) → ⊥) → get_or links (h - 2) 0 ≡ 0

-- the trail of a walk that came to its end
abbrev pub came_with : {A : Type 0} → Option A → Trail → Option Trail
came_with None t = None
came_with (Some _) t = Some t

-- What `walk` does: the links of no node stay. A walk from the local book C comes to the local book with the family
-- placed, and is never broken.
pub record WalkOf (t : Trail) (p : ℕ) (nodes : List ℕ) (n : ℕ) (links : List ℕ) (r : Option Trail) (links' : List ℕ) : Type 0 where
  pub long : length links' ≡ length links
  pub rest : (k : ℕ) → n ≤ k → get_or links' k 0 ≡ get_or links k 0
  pub trail_fits : IfSome r (λ t'. TrailFits n t')
  pub sound : {limit : ℕ} (B C : List Family) (lookup : List ℕ) → Holds limit B n nodes lookup → Trailed limit B C n t links → IsSomeAnd r (λ t'. Trailed limit B (place C (at B p)) n t' links')
