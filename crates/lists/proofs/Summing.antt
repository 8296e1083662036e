-- The numbers that the calls of a list say they added sum to the count in the record.
-- Fresh leaves a count of 0, and each call's promise says by how much it grows the count: a call that places by the
-- number added, every other call by nothing.
use Prim.Native.Nat.{◌+◌}
use mathlib.Core.Path.{◌≡◌, ap}
use mathlib.Core.List.{List, [], ◌∷◌, ◌++◌}
use native.Mathlib.Omega.{arith}
use Rattle.lists.specs.Calls.{Call, Answer, added_by, added_sum}
use Rattle.lists.specs.Runs.{State, Opening, Step, operates, parts, sizes, sizes_by_part, asks, weighs, saves, loads, audits, Runs, fresh, next}
use Rattle.lists.proofs.Invariant.{size, fresh_inv}

sum_snoc : (answers : List Answer) (a : Answer) → added_sum (answers ++ (a ∷ [])) ≡ added_sum answers + added_by a.value
sum_snoc [] a = omega arith
sum_snoc (b ∷ answers) a = omega (arith, sum_snoc answers a)

-- one call
step_counts : {x y : State} {call : Call} {answer : Answer} → Step x call answer y → y.store.count ≡ x.store.count + added_by answer.value
step_counts (operates lent P) = P.counted
step_counts (parts lent P) = P.counted
step_counts (sizes P) = omega (arith, ap (λ s. s.count) P.store_is)
step_counts (sizes_by_part P) = omega (arith, ap (λ s. s.count) P.store_is)
step_counts (asks P) = omega (arith, ap (λ s. s.count) P.store_is)
step_counts (weighs P) = omega (arith, ap (λ s. s.count) P.store_is)
step_counts (saves P) = omega (arith, ap (λ s. s.count) P.store_is)
step_counts (loads lent P) = P.places.counted
step_counts (audits lent P) = omega (arith, ap (λ s. s.count) P.store_is)

pub sums : {o : Opening} {calls : List Call} {answers : List Answer} {x : State} → Runs o calls answers x → added_sum answers ≡ x.store.count
sums {o} (fresh P e) = omega (arith, size (fresh_inv o P e))
sums (next {answers = answers} {answer = answer} R s) = omega (arith, sum_snoc answers answer, sums R, step_counts s)
