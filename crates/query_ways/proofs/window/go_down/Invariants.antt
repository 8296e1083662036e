-- `go_down` goes through the window from the asked handle down.
-- Before each turn the ways in the words left, with the total, come to the size of the asked family.
use Rattle.query_ways.proofs.Going.{Goes}
use Rattle.query_ways.proofs.window.go_down.Given as goal

abbrev pub invariant-loop-left : goal.invariant-loop-left
invariant-loop-left l =
    Goes l.p l.nodes l.count l.width l.left l.passed l.passage.low l.passage.window.now l.passage.parts l.passage.total
