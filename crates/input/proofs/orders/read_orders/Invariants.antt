use Rattle.std.proofs.Common.{◌≡◌, drop}
use Rattle.input.specs.Read.{orders_of}
use Rattle.input.proofs.Bytewise.{orders_from}
use Rattle.input.proofs.orders.read_orders.Given as goal

abbrev pub invariant-loop-byte : goal.invariant-loop-byte
invariant-loop-byte l = orders_from l.orders l.numeral (drop l.byte-index l.line) ≡ orders_of l.line
