-- What the program prints: document 01, 'Report program', as bytes.
use Rattle.std.specs.Prelude.{ℕ, zero, suc, ◌+◌, ◌/◌, ◌%◌, cond, List, [], ◌∷◌, ◌++◌, ltb, codes}

-- The digits of a number with no leading zeros: its last digit behind those of its tenth.
-- The first number says how often to divide at most.
abbrev pub digits_from : ℕ → ℕ → List ℕ
digits_from zero n = []
digits_from (suc k) n = cond (ltb n 10) ((48 + n) ∷ []) (digits_from k (n / 10) ++ ((48 + n % 10) ∷ []))

unfoldable pub decimal_of : ℕ → List ℕ
decimal_of n = digits_from (suc n) n

-- the words that are printed
abbrev pub line_word : List ℕ
line_word = codes "line "

abbrev pub refused_word : List ℕ
refused_word = codes " refused\n"

abbrev pub full_word : List ℕ
full_word = codes " full\n"

abbrev pub report_full : List ℕ
report_full = codes "report full\n"

abbrev pub passed_word : List ℕ
passed_word = codes "passed "

abbrev pub returned_word : List ℕ
returned_word = codes "returned "

abbrev pub both_word : List ℕ
both_word = codes "both "

abbrev pub only_word : List ℕ
only_word = codes "only-returned "

-- "prints only `line 3 refused`, with its number counted from 1, and a full store `line 3 full`": the last word is
-- either
abbrev pub line_text : ℕ → List ℕ → List ℕ
line_text n word = line_word ++ (decimal_of n ++ word)

-- "four lines, each a word and the size"
abbrev pub sum_text : List ℕ → ℕ → List ℕ
sum_text word n = word ++ (decimal_of n ++ (10 ∷ []))

abbrev pub sums_text : ℕ → ℕ → ℕ → ℕ → List ℕ
sums_text passed returned both only = sum_text passed_word passed ++ (sum_text returned_word returned ++ (sum_text both_word both ++ sum_text only_word only))
