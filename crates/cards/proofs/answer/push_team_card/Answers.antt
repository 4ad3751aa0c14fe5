use Rattle.std.proofs.Common.{ℕ, List, ◌++◌, string_bytes, ap, ◌∙◌, arith}
use Rattle.std.proofs.lemmas.Result.{IfOk-weaker}
use Rattle.cards.specs.Texts.{card_text}
use Rattle.cards.proofs.Cards.{card_bytes, not_refused}
use Rattle.cards.proofs.answer.push_team_card.Goals as goal

pub returns-in-Ok : goal.returns-in-Ok
returns-in-Ok g c =
    IfOk-weaker c.write.result _ _
    (λ _ e ps w. e ∙ ap (λ (xs : List ℕ). string_bytes c.args.text.now ++ card_text c.args.team xs)
    (card_bytes (g.G.Group.table c.args.group.now) c.args.numbers.now (string_bytes c.args.text.now) c.args.team c.in-Ok.length _ c.card.new.place ps w c.in-Ok.ensures))
    c.write.ensures.bytes

-- the card of a strong starter is not refused
pub returns-in-Err : goal.returns-in-Err
returns-in-Err g c =
    let t = g.G.Group.table c.args.group.now in
    let l = g.met.G.Group.laws c.args.group.now in
    IfOk-weaker c.write-in-Err.result _ _
    (λ _ _ ps w. absurd
    (not_refused t c.args.numbers.now (string_bytes c.args.text.now) l c.args.team _ c.in-Err.fault ps c.requires (omega (arith, l.odd_order.2)) w c.in-Err.ensures.1))
    c.write-in-Err.ensures.bytes
