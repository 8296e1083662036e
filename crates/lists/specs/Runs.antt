-- Lists of calls on a store, in which each step is the promise of its call and nothing else: document 01, 'The store',
-- the cache, and 'Calls'.
use Rattle.std.specs.Prelude.{ℕ, ◌≡◌, ⊤, Bool, List, [], ◌∷◌, ◌++◌, length, take, drop}
use Rattle.family.specs.Combination.{items_of}
use Rattle.store.specs.declared.record.Store.{Store}
use Rattle.store.specs.declared.record.Placement.{Placement}
use Rattle.store.specs.declared.record.Answered.{Answered}
use Rattle.store.specs.Capacity.{capacity_of}
use Rattle.store.specs.Refusals.{given_by}
use Rattle.store_fresh.specs.Promise.{fresh_number, FreshCall}
use Rattle.op_promise.specs.Promise.{OperationCall, number_of}
use Rattle.op_parity.specs.Promise.{ParityCall}
use Rattle.query_size.specs.Promise.{by_node, by_part, size_given_by, SizeCall}
use Rattle.query_size_compact.specs.Promise.{CompactCall}
use Rattle.query_has.specs.Promise.{has_given_by, HasCall}
use Rattle.query_weight.specs.Promise.{Way, weight_given_by, WeightCall}
use Rattle.file_save.specs.Promise.{save_given_by, SaveCall}
use Rattle.file_load.specs.Promise.{LoadCall}
use Rattle.store_audit.specs.declared.audit.Audited.{Audited}
use Rattle.store_audit.specs.Promise.{AuditCall}
use Rattle.op_promise.specs.declared.Operation.{Operation}
use Rattle.lists.specs.Calls.{Call, Operate, Parity, Size, Has, Weigh, Save, Load, Audit, Answer}
use Rattle.lists.specs.Acts.{place_returns, size_returns, has_returns, weight_returns, save_returns, audit_returns}
use Rattle.lists.specs.Books.{Bounds}

-- what a call comes to and leaves: the record last given back, and Fresh's words
pub record State : Type 0 where
  pub store : Store
  pub nodes : List ℕ
  pub lookup : List ℕ
  pub cache : List ℕ

-- the state after a call that writes no word of the store
abbrev pub same_words : State → Store → State
same_words x s = record { store = s; nodes = x.nodes; lookup = x.lookup; cache = x.cache }

-- the state after a call that was lent so many of the cache's first words, and left them as `part`: the rest stays
abbrev pub with_part : State → ℕ → Store → (nodes lookup part : List ℕ) → State
with_part x lent s nodes lookup part = record { store = s; nodes = nodes; lookup = lookup; cache = part ++ drop lent x.cache }

-- One call, from a state to the next: "each is handed the record last given back, and is lent Fresh's node and lookup
-- words whole, and any leading part of its cache, none included". The six operations, Even, Odd, Load and Audit are lent
-- a part of the cache, as many words as `lent` says.
pub data Step (x : State) : Call → Answer → State → Type 0 where
  operates : (lent : ℕ) {op : Operation} {p q : ℕ} {r : Answered Placement} {nodes lookup part : List ℕ}
      → OperationCall (number_of op) p q x.store x.nodes x.lookup (take lent x.cache) r nodes lookup part
      → Step x (Operate op p q) (place_returns (given_by r.answer)) (with_part x lent r.store nodes lookup part)
  parts : (lent : ℕ) {even : Bool} {p : ℕ} {r : Answered Placement} {nodes lookup part : List ℕ}
      → ParityCall even p x.store x.nodes x.lookup (take lent x.cache) r nodes lookup part
      → Step x (Parity even p) (place_returns (given_by r.answer)) (with_part x lent r.store nodes lookup part)
  sizes : {p : ℕ} {scratch scratch' : List ℕ} {r : Answered ℕ}
      → SizeCall x.store x.nodes x.lookup p scratch r scratch'
      → Step x (Size by_node p (length scratch)) (size_returns (size_given_by r.answer)) (same_words x r.store)
  sizes_by_part : {p : ℕ} {scratch scratch' : List ℕ} {r : Answered ℕ}
      → CompactCall x.store x.nodes x.lookup p scratch r scratch'
      → Step x (Size by_part p (length scratch)) (size_returns (size_given_by r.answer)) (same_words x r.store)
  asks : {p : ℕ} {combination : List ℕ} {r : Answered Bool}
      → HasCall x.store x.nodes x.lookup p (items_of combination) r
      → Step x (Has p combination) (has_returns (has_given_by r.answer)) (same_words x r.store)
  weighs : {way : Way} {p : ℕ} {weights scratch scratch' : List ℕ} {r : Answered ℕ}
      → WeightCall way x.store x.nodes x.lookup p weights scratch r scratch'
      → Step x (Weigh way p weights (length scratch)) (weight_returns (weight_given_by r.answer)) (same_words x r.store)
  saves : {p : ℕ} {scratch out scratch' out' : List ℕ} {r : Answered ℕ}
      → SaveCall x.store x.nodes x.lookup p scratch out r scratch' out'
      → Step x (Save p (length scratch) (length out)) (save_returns (save_given_by r.answer) out') (same_words x r.store)
  loads : (lent : ℕ) {file scratch : List ℕ} {r : Answered Placement} {nodes lookup part scratch' : List ℕ}
      → LoadCall x.store x.nodes x.lookup (take lent x.cache) file scratch r nodes lookup part scratch'
      → Step x (Load file (length scratch)) (place_returns (given_by r.answer)) (with_part x lent r.store nodes lookup part)
  audits : (lent : ℕ) {r : Audited} {part : List ℕ}
      → AuditCall x.store x.nodes x.lookup (take lent x.cache) r part
      → Step x Audit (audit_returns r.sound) (with_part x lent r.store x.nodes x.lookup part)

-- What Fresh was given: the words that it was lent, and the limit.
pub record Opening : Type 0 where
  pub nodes : List ℕ
  pub lookup : List ℕ
  pub cache : List ℕ
  pub limit : ℕ

-- what the book takes of it
abbrev pub bounds_of : Opening → Bounds
bounds_of o = record { capacity = capacity_of (length o.nodes); limit = o.limit }

-- A list of calls with its answers and the state after it, built call by call: each beginning of it is such a list.
-- "Such a list starts from what a Fresh that wasn't refused left and gave."
pub data Runs (o : Opening) : List Call → List Answer → State → Type 0 where
  fresh : {r : Answered ⊤} {nodes lookup cache : List ℕ}
      → FreshCall o.limit o.nodes o.lookup o.cache r nodes lookup cache → fresh_number r.answer ≡ 0
      → Runs o [] [] (record { store = r.store; nodes = nodes; lookup = lookup; cache = cache })
  next : {calls : List Call} {answers : List Answer} {x y : State} {call : Call} {answer : Answer}
      → Runs o calls answers x → Step x call answer y
      → Runs o (calls ++ (call ∷ [])) (answers ++ (answer ∷ [])) y
