use Rattle.std.proofs.Common.{arith}
use Rattle.std.proofs.lemmas.Grind.{common_steps}
use Rattle.input.proofs.Bytewise.{numbers_start}
use Rattle.input.proofs.Parsed.{numbers_law}
use Rattle.input.proofs.numbers.read_numbers.Goals as goal

pub loop-byte-init : goal.loop-byte-init
loop-byte-init c = simp c.new-numbers.ensures.items (numbers_start c.args.line.now)

pub returns-in_default-clause-grammar : goal.returns-in_default-clause-grammar
returns-in_default-clause-grammar c = numbers_law _ _ (grind (arith, common_steps))

pub returns-clause-grammar : goal.returns-clause-grammar
returns-clause-grammar c = numbers_law _ _ (grind (arith, common_steps))
