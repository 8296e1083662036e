-- The mixing number of every item is what document 01's table held.
-- The table is the rule's 512 values one after another, which the checker computes, and item i's stands at i - 1.
use Rattle.std.proofs.Common.{◌≡◌, ℕ, ◌+◌, ◌-◌, get_or, sym, refl, ap, ◌∙◌, arith}
use Rattle.words.proofs.Tabulated.{tabulated, tabulated_at}
use Rattle.table.specs.Start.{mix_of}
use Rattle.table.specs.Held.{held_table, held_of}
use Rattle.table.specs.Inner.{AnItem}

whole : held_table ≡ tabulated mix_of 1 512
unfolding held_table
whole = refl

pub mix_held : (i : ℕ) → AnItem i → mix_of i ≡ held_of i
mix_held i item =
    let e : 1 + (i - 1) ≡ i = omega (arith, item.some) in
    sym (ap (λ l. get_or l (i - 1) 0) whole ∙ tabulated_at mix_of 1 512 (i - 1) (omega (arith, item.some, item.low)) ∙ ap mix_of e)
