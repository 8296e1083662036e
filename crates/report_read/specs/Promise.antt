-- What reading a log promises. Which answers a reader gives no contract here says; what is made of the answers is
-- exact.
use Rattle.std.specs.Prelude.{ℕ, suc, ◌≡◌, List, [], ◌∷◌, ◌++◌, Option, Some, None, length, take}
use Rattle.report_tally.specs.declared.Tally.{Tally}
use Rattle.report_log.specs.Promise.{TakeCall}
use Rattle.report_read.specs.declared.Input.TheVariants.{More, Done, Failed}
use Rattle.report_read.specs.declared.Fed.{Fed}
use Rattle.report_read.specs.Answers.{ReadAnswer, behind, most_reads}

-- `take_read`, by what the reader answered: none where the read failed, and all is as it came; 0 is the end of the
-- input and all is as it came; else the log is fed with exactly so many bytes of the buffer, and there is more while it
-- goes on.
pub data ReadCall (t : Tally) (nodes lookup cache buffer : List ℕ) : Option ℕ → Fed → List ℕ → List ℕ → List ℕ → Type 0 where
  failed : ReadCall t nodes lookup cache buffer None (record { tally = t; input = Failed }) nodes lookup cache
  ended : ReadCall t nodes lookup cache buffer (Some 0) (record { tally = t; input = Done }) nodes lookup cache
  brought : (k : ℕ) {t' : Tally} {nodes' lookup' cache' : List ℕ} → TakeCall t nodes lookup cache (take (suc k) buffer) t' nodes' lookup' cache'
      → ReadCall t nodes lookup cache buffer (Some (suc k)) (record { tally = t'; input = behind t'.ending }) nodes' lookup' cache'

-- The reads of a log, turn by turn: each takes what one read brought, and comes only where there is more.
pub data Reads (t : Tally) (nodes lookup cache : List ℕ) : List ReadAnswer → Fed → List ℕ → List ℕ → List ℕ → Type 0 where
  none : Reads t nodes lookup cache [] (record { tally = t; input = More }) nodes lookup cache
  turn : {qs : List ReadAnswer} {f : Fed} {nodes₁ lookup₁ cache₁ : List ℕ} → Reads t nodes lookup cache qs f nodes₁ lookup₁ cache₁ → f.input ≡ More
      → (a : ReadAnswer) {f' : Fed} {nodes₂ lookup₂ cache₂ : List ℕ} → ReadCall f.tally nodes₁ lookup₁ cache₁ a.buffer a.got f' nodes₂ lookup₂ cache₂
      → Reads t nodes lookup cache (qs ++ (a ∷ [])) f' nodes₂ lookup₂ cache₂

-- `read_all`: what it leaves is what the reads of a log leave, and it leaves more only where it made all its reads.
pub record ReadAllCall (t : Tally) (nodes lookup cache : List ℕ) (r : Fed) (nodes' lookup' cache' : List ℕ) : Type 0 where
  pub answers : List ReadAnswer
  pub reads : Reads t nodes lookup cache answers r nodes' lookup' cache'
  pub all_made : r.input ≡ More → length answers ≡ most_reads
