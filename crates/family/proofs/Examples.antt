-- Worked examples of the definitions, computed by the checker: document 01's families, their numbers, its files,
-- parts of either parity, and sums of weights.
-- Each holds by computation alone.
use Prim.Native.Nat.{ℕ, zero, suc, ◌*◌, ◌^◌}
use mathlib.Core.Path.{◌≡◌, refl}
use mathlib.Core.Bool.{true, false, decide}
use mathlib.Core.List.{[], ◌∷◌, ◌++◌}
use mathlib.Core.Option.{none, some}
use lib.ListN.{replicate}
use Rattle.family.specs.Family.{Family, empty, base, node, members, size, parts}
use Rattle.family.specs.Operation.{subset1, subset0, change, union, intsec, diff, combine}
use Rattle.family.specs.Parity.{parity}
use Rattle.family.specs.Weights.{sum_by_members, sum_by_nodes}
use Rattle.family.specs.Book.{start, same, add, place}
use Rattle.family.specs.Parts.{part_count}
use Rattle.family.specs.Record.{map_of, record_bytes, read_fields, read_record}
use Rattle.family.specs.File.{file_of, family_of, file_of_book, read_parts, last_of, fits}

-- {{1}}, {{2}}, and {{1}, {2}}
abbrev one : Family
one = node 1 empty base

abbrev two : Family
two = node 2 empty base

abbrev both : Family
both = node 2 one base

make_one : change 1 base ≡ one
make_one = refl

make_both : union one two ≡ both
unfolding combine
make_both = refl

members_both : members both ≡ (1 ∷ []) ∷ (2 ∷ []) ∷ []
members_both = refl

take_one : diff both one ≡ two
unfolding combine
take_one = refl

meet_base : intsec both base ≡ empty
unfolding combine
meet_base = refl

-- {{}} stays where the tops differ
keep_base : intsec (node 1 base base) base ≡ base
unfolding combine
keep_base = refl

drop_two : subset1 2 both ≡ base
drop_two = refl

leave_two : subset0 2 both ≡ one
leave_two = refl

-- a node whose two sides are equal is kept
equal_sides : union base (change 1 base) ≡ node 1 base base
unfolding combine
equal_sides = refl

-- its different parts are itself and {{1}}
parts_both : part_count both ≡ 2
unfolding part_count same decide
parts_both = refl

-- a × b bounds no union: {} has no part, {{1}} has one, and so has their union
product_none : part_count empty * part_count one ≡ 0
unfolding part_count
product_none = refl

union_one : part_count (union empty one) ≡ 1
unfolding part_count combine
union_one = refl

place_both : place start both ≡ empty ∷ base ∷ one ∷ both ∷ []
unfolding same add decide
place_both = refl

-- the without-side is visited first
order_parts : parts (node 3 two one) ≡ two ∷ one ∷ node 3 two one ∷ []
order_parts = refl

-- all subsets of n items
abbrev all : ℕ → Family
all zero = base
all (suc n) = node (suc n) (all n) (all n)

size_all : size (all 10) ≡ 2 ^ 10
size_all = refl

-- of two items: {} and {1, 2} are even, {1} and {2} odd
even_all : members (parity true (all 2)) ≡ [] ∷ (2 ∷ 1 ∷ []) ∷ []
even_all = refl

odd_all : members (parity false (all 2)) ≡ (1 ∷ []) ∷ (2 ∷ []) ∷ []
odd_all = refl

-- weights 10, 20 and 40: item 1's is the first, and each item is in four of the eight subsets of three
weigh_one : sum_by_members (10 ∷ 20 ∷ 40 ∷ []) one ≡ 10
unfolding sum_by_members
weigh_one = refl

weigh_all : sum_by_members (10 ∷ 20 ∷ 40 ∷ []) (all 3) ≡ 280
unfolding sum_by_members
weigh_all = refl

weigh_nodes : sum_by_nodes (10 ∷ 20 ∷ 40 ∷ []) (all 3) ≡ 280
weigh_nodes = refl

-- all subsets of 64 items of weight 0 under an item of weight 1: the size of the with-side, 2^64, is what they sum to
weigh_above : sum_by_nodes (replicate 64 0 ++ (1 ∷ [])) (node 65 empty (all 64)) ≡ 2 ^ 64
weigh_above = refl

-- and without that item they sum to 0, though Size cannot count them
weigh_weightless : sum_by_nodes (replicate 64 0) (all 64) ≡ 0
weigh_weightless = refl

-- "Save of 2", "Save of 4", and the files that get 9
save_one : file_of one ≡ 0x01 ∷ 0x01 ∷ 0x00 ∷ 0x00 ∷ 0x00 ∷ 0x00 ∷ []
unfolding same add decide file_of_book record_bytes map_of
save_one = refl

save_both : file_of both ≡ 0x01 ∷ 0x02 ∷ 0x00 ∷ 0x00 ∷ 0x00 ∷ 0x00 ∷ 0x06 ∷ 0x02 ∷ 0x00 ∷ 0x00 ∷ 0x00 ∷ 0x01 ∷ 0x00 ∷ 0x00 ∷ 0x00 ∷ []
unfolding same add decide file_of_book record_bytes map_of
save_both = refl

load_both : family_of 512 (0x01 ∷ 0x02 ∷ 0x00 ∷ 0x00 ∷ 0x00 ∷ 0x00 ∷ 0x06 ∷ 0x02 ∷ 0x00 ∷ 0x00 ∷ 0x00 ∷ 0x01 ∷ 0x00 ∷ 0x00 ∷ 0x00 ∷ []) ≡ some both
unfolding same add decide read_record read_fields read_parts last_of fits
load_both = refl

needless_item : family_of 512 (0x01 ∷ 0x01 ∷ 0x00 ∷ 0x00 ∷ 0x00 ∷ 0x01 ∷ 0x01 ∷ 0x00 ∷ []) ≡ none
unfolding same add decide read_record read_fields read_parts last_of fits
needless_item = refl

no_parts : family_of 512 (0x01 ∷ 0x00 ∷ 0x00 ∷ 0x00 ∷ 0x00 ∷ []) ≡ none
unfolding same add decide read_record read_fields read_parts last_of fits
no_parts = refl

no_bytes : family_of 512 [] ≡ none
no_bytes = refl

-- a count that no bytes meet
many_parts : family_of 512 (0x01 ∷ 0xfe ∷ 0xff ∷ 0xff ∷ 0xff ∷ 0x00 ∷ []) ≡ none
unfolding same add decide read_record read_fields read_parts last_of fits
many_parts = refl
