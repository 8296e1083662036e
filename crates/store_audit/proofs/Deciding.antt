-- An answer that decides a fact: a plain yes or no.
-- Each is one value of the answer.
use mathlib.Core.Path.{refl}
use mathlib.Core.Bool.{true, false}
use Rattle.words.proofs.Cases.{clash}
use Rattle.store_audit.specs.Inner.{Decides}

pub decides_yes : {P : Type 0} → P → Decides P true
decides_yes p = record { says_yes = λ e. p; says_no = λ e q. clash refl e }

pub decides_no : {P : Type 0} → (P → ⊥) → Decides P false
decides_no d = record { says_yes = λ e. clash e refl; says_no = λ e p. d p }
