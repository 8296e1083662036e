-- `exceeds` goes down the one sides as long as the zero side is {}; the size stays the same on that way.
-- The tops fall, so 512 steps are enough.
use Rattle.query_sizes.proofs.Brims.{Down}
use Rattle.query_sizes.proofs.exceeds.Given as goal

abbrev pub invariant-loop-step : goal.invariant-loop-step
invariant-loop-step l = Down l.nodes l.sizes l.count l.p l.at l._step
