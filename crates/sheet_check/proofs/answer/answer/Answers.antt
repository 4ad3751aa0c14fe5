use Rattle.std.proofs.Common.{◌≡◌, ℕ, List, Ok, Err, sym, refl, ap, ◌∙◌, subst, arith}
use Rattle.std.proofs.lemmas.Result.{IfOk-weaker}
use Rattle.sheets.specs.Readings.{SideOf}
use Rattle.sheet_check.specs.Answers.Answer.{accepted, refused}
use Rattle.sheet_check.specs.Texts.{accepted_line}
use Rattle.sheet_check.proofs.answer.answer.Goals as goal

pub returns-in-Ok : goal.returns-in-Ok
returns-in-Ok c =
    let view = c.in-Ok.ensures in
    let side = subst (λ (xs : List ℕ). SideOf xs c.side.result) view.0 c.side.ensures in
    IfOk-weaker c.to_string.result _ _ (λ _ e. accepted (view.1.only_sheets refl) (λ s. e ∙ ap accepted_line (side s))) c.to_string.ensures.ok

pub returns-in-Err : goal.returns-in-Err
returns-in-Err c =
    let checked = c.in-Err.ensures in
    IfOk-weaker c.to_string-in-Err.result _ _
    (λ _ e. refused (λ s. let ok : Err c.in-Err.fault ≡ Ok tt = checked.every_sheet s in grind arith) c.in-Err.fault (sym checked.judged) e)
    c.to_string-in-Err.ensures.ok
