use Rattle.std.proofs.Common.{◌≡◌, drop, vec_items}
use Rattle.input.specs.Read.{numbers_of}
use Rattle.input.proofs.Bytewise.{numbers_from}
use Rattle.input.proofs.numbers.read_numbers.Given as goal

abbrev pub invariant-loop-byte : goal.invariant-loop-byte
invariant-loop-byte l = numbers_from (vec_items l.numbers) l.numeral (drop l.byte-index l.line) ≡ numbers_of l.line
