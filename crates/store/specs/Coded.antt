-- An answer of an inner call said as one number of a word. The code hands up the answer itself, and no number for it; the law `coded_held`
-- is about these numbers. A reader of the promises can pass this page over.
use Rattle.std.specs.Prelude.{ℕ, cond, eqb, ltb, Result, Ok, Err}
use Rattle.store.specs.declared.record.Unplaced.{Unplaced}
use Rattle.store.specs.declared.record.Unplaced.TheVariants.{Full, Damaged}

-- the number for full, the largest of a word but one; damaged is the largest
abbrev pub full_number : ℕ
full_number = 4294967294

-- what a number says: full or damaged, and below them a handle
unfoldable pub answer_of : ℕ → Result ℕ Unplaced
answer_of r = cond (ltb r full_number) (Ok r) (cond (eqb r full_number) (Err Full) (Err Damaged))
