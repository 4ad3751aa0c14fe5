use Rattle.std.proofs.Common.{ℕ, List, vec_items, string_bytes, subst}
use Rattle.std.proofs.lemmas.Option.{MatchOption-at_some, MatchOption-at_none}
use Rattle.std.proofs.lemmas.Result.{IfOk-weaker}
use Rattle.cards.specs.Answers.{ByOrders}
use Rattle.cards.specs.Answers.Answer.{not_typed, typed}
use Rattle.cards.proofs.answer.answer.Goals as goal

pub returns-in_default : goal.returns-in_default
returns-in_default c =
    let t = MatchOption-at_none _ _ c.in_default.is c.in_ok-request.ensures in
    IfOk-weaker c.from_str.result _ _ (λ _ e. not_typed t e) c.from_str.ensures.ok

pub returns : goal.returns
returns c =
    let r = c.in-Some.request in
    let text = string_bytes c.push_answer.new.text in
    typed r.orders (vec_items r.numbers) (MatchOption-at_some _ _ r c.in-Some.is c.in_ok-request.ensures)
    (subst (λ (xs : List ℕ). ByOrders r.orders (vec_items r.numbers) xs text) c.new-text.ensures.bytes c.in_ok-push_answer.ensures)
