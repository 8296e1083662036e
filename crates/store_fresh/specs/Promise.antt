-- The promise of Fresh: document 01, 'Calls' and 'Numbers and trade words', and document 02, No. 6.
use Rattle.std.specs.Prelude.{ℕ, ◌*◌, ◌/◌, ◌≡◌, cond, List, ltb, leb, length, ⊤, Result, Ok, Err}
use Rattle.words.specs.Words.{zeroed}
use Rattle.store.specs.declared.record.Store.{Store}
use Rattle.store.specs.declared.record.Refusal.{Refusal}
use Rattle.store.specs.declared.record.Answered.{Answered}
use Rattle.store.specs.Capacity.{capacity_of, is_limit}
use Rattle.store.specs.Refusals.{refusal_number}

-- the number of Fresh's answer, 0 where it is not refused
abbrev pub fresh_number : Result ⊤ Refusal → ℕ
fresh_number (Ok _) = 0
fresh_number (Err r) = refusal_number r

-- all that Fresh leaves: the refusal's number, the record, and every lent word
pub record FreshLeft : Type 0 where
  pub refusal : ℕ
  pub store : Store
  pub nodes : List ℕ
  pub lookup : List ℕ
  pub cache : List ℕ

abbrev pub fresh_leaves : Answered ⊤ → List ℕ → List ℕ → List ℕ → FreshLeft
fresh_leaves r nodes lookup cache = record { refusal = fresh_number r.answer; store = r.store; nodes = nodes; lookup = lookup; cache = cache }

-- "a refused Fresh gives capacity 0 and count 0", "a refused Fresh gives limit 0"
abbrev pub no_store : Store
no_store = record { capacity = 0; count = 0; limit = 0 }

-- and touches nothing
abbrev pub fresh_refused : ℕ → List ℕ → List ℕ → List ℕ → FreshLeft
fresh_refused n nodes lookup cache = record { refusal = n; store = no_store; nodes = nodes; lookup = lookup; cache = cache }

-- "Fresh zeroes the node words of the capacity, the lookup and the whole cache groups, and touches nothing else";
-- "Fresh takes an item limit .. and the record carries it"
abbrev pub fresh_done : ℕ → List ℕ → List ℕ → List ℕ → FreshLeft
fresh_done limit nodes lookup cache =
    record {
      refusal = 0;
      store = record { capacity = capacity_of (length nodes); count = 0; limit = limit };
      nodes = zeroed 0 (3 * capacity_of (length nodes)) nodes;
      lookup = zeroed 0 (length lookup) lookup;
      cache = zeroed 0 (length cache / 4 * 4) cache;
    }

-- 1: "fewer than 3 node words"; 2: "lookup length at most the capacity"; "A limit outside that range is a 3, after 1
-- and 2"
unfoldable pub fresh_of : ℕ → List ℕ → List ℕ → List ℕ → FreshLeft
fresh_of limit nodes lookup cache =
    cond (ltb (length nodes) 3)
    (fresh_refused 1 nodes lookup cache)
    (cond (leb (length lookup) (capacity_of (length nodes)))
    (fresh_refused 2 nodes lookup cache)
    (cond (is_limit limit) (fresh_done limit nodes lookup cache) (fresh_refused 3 nodes lookup cache)))

-- Fresh's promise: one equation for every input.
pub record FreshCall (limit : ℕ) (nodes lookup cache : List ℕ) (r : Answered ⊤) (nodes' lookup' cache' : List ℕ) : Type 0 where
  pub leaves_is : fresh_leaves r nodes' lookup' cache' ≡ fresh_of limit nodes lookup cache
