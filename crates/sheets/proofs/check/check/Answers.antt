use Rattle.std.proofs.Common.{◌≡◌, ◌-◌, ◌<◌, length, Err, ap, ◌∙◌, rules}
use Rattle.std.proofs.lemmas.Result.{err_from_is_err_and}
use Rattle.sheets.specs.Faults.{bytes_fault, fault_of}
use Rattle.sheets.proofs.Checking.{checked}
use Rattle.sheets.proofs.Going.{goes_on, no_command, refuses, ends, ends_early}
use Rattle.sheets.proofs.Mapped.{mapped_ok, mapped_err}
use Rattle.sheets.proofs.check.check.Goals as goal

pub returns-in_err-command : goal.returns-in_err-command
returns-in_err-command c =
    let answer = err_from_is_err_and c.from_residual.result c.from_residual.ensures.1 in
    let no = mapped_err _ _ _ c.first_command.result _ c.in_err-command.field-0.0 c.first_command.ensures c.in_err-command.ensures.cases in
    let some : 0 < length c.loop-rest.rest.now = search rules in
    let place = length c.args.bytes.now - length c.loop-rest.rest.now in
    let fault : c.in_err-command.field-0.0 ≡ bytes_fault place no.0 = search rules in
    checked c.args.bytes.now (λ i. (c.type_inv.bytes i).fits) _
    (answer.1 ∙ ap Err (answer.2 ∙ fault) ∙ no_command _ _ _ c.loop-rest.invariant no.0 some no.1)

pub returns-in_err-map_err : goal.returns-in_err-map_err
returns-in_err-map_err c =
    let answer = err_from_is_err_and c.from_residual-in_err-map_err.result c.from_residual-in_err-map_err.ensures.1 in
    let going = c.loop-rest.invariant in
    let command = c.in_ok-command.command in
    let read = mapped_ok _ _ _ c.first_command.result (command, c.in_ok-command.tail) c.first_command.ensures c.in_ok-command.ensures.cases in
    let asked = c.step.ensures going.past going.keeps in
    let no = mapped_err _ _ _ c.step.result _ c.in_err-map_err.field-0.0 asked c.in_err-map_err.ensures.cases in
    let some : 0 < length c.loop-rest.rest.now = search rules in
    let place = length c.args.bytes.now - length c.loop-rest.rest.now in
    let fault : c.in_err-map_err.field-0.0 ≡ fault_of c.loop-rest.reader.stage command place no.0 = search rules in
    checked c.args.bytes.now (λ i. (c.type_inv.bytes i).fits) _
    (answer.1 ∙ ap Err (answer.2 ∙ fault) ∙ refuses _ _ _ going command c.in_ok-command.tail.now no.0 some read no.1)

pub loop-rest-preserved : goal.loop-rest-preserved
loop-rest-preserved c =
    let going = c.loop-rest.invariant in
    let command = c.in_ok-command.command in
    let read = mapped_ok _ _ _ c.first_command.result (command, c.in_ok-command.tail) c.first_command.ensures c.in_ok-command.ensures.cases in
    let asked = mapped_ok _ _ _ c.step.result tt (c.step.ensures going.past going.keeps) c.in_ok-map_err.ensures.cases in
    goes_on _ _ _ going _ command c.in_ok-command.tail.now (λ i. (c.type_inv.bytes i).fits) read asked.0 asked.1

pub returns-in-Done : goal.returns-in-Done
returns-in-Done c =
    checked c.args.bytes.now (λ i. (c.type_inv.bytes i).fits) _ (ends _ _ _ c.loop-rest.invariant (search rules) c.in-Done.is)

pub returns-in_default : goal.returns-in_default
returns-in_default c =
    checked c.args.bytes.now (λ i. (c.type_inv.bytes i).fits) _
    (ap Err c.bytes_fault.ensures ∙ ends_early _ _ _ c.loop-rest.invariant (search rules) c.in_default.not-Done)
