use Rattle.std.proofs.Common.{◌≤◌, length}
use Rattle.input.proofs.source.fill.Given as goal

abbrev pub invariant-loop : goal.invariant-loop
invariant-loop l = l.count ≤ length l.place
