-- The six operations on families: document 01, 'Calls', after document 001, section 4.2.
use Rattle.std.specs.Prelude.{ℕ, zero, suc, max, Bool, true, false, cond, not, ◌&&◌, ◌||◌, eqb, ltb}
use Rattle.family.specs.Family.{Family, empty, base, node, top, mk}

-- "Subset1(P, v): members with v, v taken out."
abbrev pub subset1 : ℕ → Family → Family
subset1 v empty = empty
subset1 v base = empty
subset1 v (node i a b) = cond (ltb i v) empty (cond (eqb i v) b (mk i (subset1 v a) (subset1 v b)))

-- "Subset0(P, v): members without v."
abbrev pub subset0 : ℕ → Family → Family
subset0 v empty = empty
subset0 v base = base
subset0 v (node i a b) = cond (ltb i v) (node i a b) (cond (eqb i v) a (mk i (subset0 v a) (subset0 v b)))

-- "Change(P, v): v is put in where absent and taken out where present."
abbrev pub change : ℕ → Family → Family
change v empty = empty
change v base = node v empty base
change v (node i a b) = cond (ltb i v) (node v empty (node i a b)) (cond (eqb i v) (mk i b a) (mk i (change v a) (change v b)))

-- The two cofactors of a family at an item v that is not below its top: the members that lack v, and those that hold
-- it, v taken out.
abbrev pub lacking : ℕ → Family → Family
lacking v empty = empty
lacking v base = base
lacking v (node i a b) = cond (eqb i v) a (node i a b)

abbrev pub holding : ℕ → Family → Family
holding v empty = empty
holding v base = empty
holding v (node i a b) = cond (eqb i v) b empty

abbrev pub is_base : Family → Bool
is_base empty = false
is_base base = true
is_base (node i a b) = false

abbrev pub leaf : Bool → Family
leaf true = base
leaf false = empty

-- "An operation on two families works part by part, top item first": at each item, from the level down, on the two
-- cofactors;
-- below the last item it decides on {{}} alone. f says whether a combination stays, by its membership in the two.
abbrev pub apply : (Bool → Bool → Bool) → ℕ → Family → Family → Family
apply f zero F G = leaf (f (is_base F) (is_base G))
apply f (suc t) F G =
    mk (suc t) (apply f t (lacking (suc t) F) (lacking (suc t) G)) (apply f t (holding (suc t) F) (holding (suc t) G))

unfoldable pub combine : (Bool → Bool → Bool) → Family → Family → Family
combine f F G = apply f (max (top F) (top G)) F G

abbrev pub minus : Bool → Bool → Bool
minus a b = a && not b

-- "Union, Intsec, Diff: of sets of combinations."
abbrev pub union : Family → Family → Family
union F G = combine ◌||◌ F G

abbrev pub intsec : Family → Family → Family
intsec F G = combine ◌&&◌ F G

abbrev pub diff : Family → Family → Family
diff F G = combine minus F G
