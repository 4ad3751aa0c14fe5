use Rattle.std.proofs.Common.{arith}
use Rattle.std.proofs.lemmas.Grind.{common_steps}
use Rattle.input.proofs.Bytewise.{orders_start}
use Rattle.input.proofs.Parsed.{orders_law}
use Rattle.input.proofs.orders.read_orders.Goals as goal

pub loop-byte-init : goal.loop-byte-init
loop-byte-init c = orders_start c.args.line.now

pub returns-in_err-numeral-in-120-clause-grammar : goal.returns-in_err-numeral-in-120-clause-grammar
returns-in_err-numeral-in-120-clause-grammar c = orders_law _ _ (grind (arith, common_steps))

pub returns-in_err-with_order-in-120-clause-grammar : goal.returns-in_err-with_order-in-120-clause-grammar
returns-in_err-with_order-in-120-clause-grammar c = orders_law _ _ (grind (arith, common_steps))

pub returns-in_default-clause-grammar : goal.returns-in_default-clause-grammar
returns-in_default-clause-grammar c = orders_law _ _ (grind (arith, common_steps))

pub returns-in_default-2-clause-grammar : goal.returns-in_default-2-clause-grammar
returns-in_default-2-clause-grammar c = orders_law _ _ (grind (arith, common_steps))

pub returns-in_err-numeral-clause-grammar : goal.returns-in_err-numeral-clause-grammar
returns-in_err-numeral-clause-grammar c = orders_law _ _ (grind (arith, common_steps))

pub returns-clause-grammar : goal.returns-clause-grammar
returns-clause-grammar c = orders_law _ _ (grind (arith, common_steps))
