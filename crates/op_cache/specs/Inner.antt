-- What recalling and remembering promise. A reader of the public promises can pass this page over.
use Rattle.std.specs.Prelude.{ℕ, ◌+◌, ◌*◌, ◌/◌, ◌≤◌, ◌≡◌, List, ◌⊎◌, length, get_or, Option, Some, None}
use Rattle.store.specs.Cache.{Group}
use Rattle.op_cache.specs.declared.Call.{Call}

-- a call by its three numbers
abbrev pub call_of : ℕ → ℕ → ℕ → Call
call_of op p q = record { op = op; p = p; q = q }

-- a recalled result is a group of the cache, and a handle held
pub data RecallOf (cache : List ℕ) (n : ℕ) (call : Call) : Option ℕ → Type 0 where
  hit : {g h : ℕ} → Group cache g call.op call.p call.q h → h ≤ n + 1 → RecallOf cache n call (Some h)
  miss : RecallOf cache n call None

-- every group after remembering is one of before or the call's with its result; words past the whole groups stay
pub record Remembered (cache : List ℕ) (call : Call) (h : ℕ) (cache' : List ℕ) : Type 0 where
  pub long : length cache' ≡ length cache
  pub rest : (k : ℕ) → length cache / 4 * 4 ≤ k → get_or cache' k 0 ≡ get_or cache k 0
  pub each : (g op p q r : ℕ) → Group cache' g op p q r → Group cache g op p q r ⊎ ((op ≡ call.op) × (p ≡ call.p) × (q ≡ call.q) × (r ≡ h))
