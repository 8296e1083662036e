-- The tests of Size and Save, whose scratch is one word per node held: document 01, 'Calls'.
use Rattle.std.specs.Prelude.{ℕ, ◌-◌, List, length}
use Rattle.family.specs.Family.{Family}
use Rattle.store.specs.Tests.{tests_of}

-- the tests of one handle, and of scratch with a word per node held: "the count is the book's length less 2"
unfoldable pub scratch_tests : List Family → ℕ → ℕ → ℕ
scratch_tests B p words = tests_of (length B - 2) p 0 0 words (length B - 2)
