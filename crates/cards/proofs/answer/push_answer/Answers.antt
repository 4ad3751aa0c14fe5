use Rattle.std.proofs.Common.{ap}
use Rattle.std.proofs.lemmas.Result.{IfOk-weaker, MatchResult-weaker}
use Rattle.groups.specs.Tables.{cyclic, product}
use Rattle.input.specs.declared.orders.Orders.TheVariants.{One, Two, Three}
use Rattle.cards.proofs.Cards.{by_result, two_tables, three_tables}
use Rattle.cards.proofs.answer.push_answer.Goals as goal

pub returns-in-One : goal.returns-in-One
returns-in-One c =
    IfOk-weaker c.push_made.result _ _
    (λ _ made. by_result c.new.result (λ g. cyclic g.order) _ (One c.in-One.a) _ _ _ _ c.in-One.is c.as_slice-numbers.ensures.value
    (MatchResult-weaker c.new.result c.new.ensures (λ _ m. (ap cyclic m.0, m.1)) (λ _ m. m)) made)
    c.push_made.ensures

pub returns-in-Two : goal.returns-in-Two
returns-in-Two c =
    IfOk-weaker c.push_made-in-Two.result _ _
    (λ _ made. by_result c.double.result (λ p. product (cyclic p.first.order) (cyclic p.second.order)) _ (Two c.in-Two.a c.in-Two.b) _ _ _ _
    c.in-Two.is c.as_slice-numbers.ensures.value
    (MatchResult-weaker c.double.result c.double.ensures (λ _ m. (two_tables _ _ _ _ m.0 m.1, m.2)) (λ _ m. m)) made)
    c.push_made-in-Two.ensures

pub returns-in-Three : goal.returns-in-Three
returns-in-Three c =
    let x = c.in-Three in
    IfOk-weaker c.push_made-in-Three.result _ _
    (λ _ made. by_result c.triple.result (λ p. product (product (cyclic p.first.first.order) (cyclic p.first.second.order)) (cyclic p.second.order)) _
    (Three x.a x.b x.c) _ _ _ _ x.is c.as_slice-numbers.ensures.value
    (MatchResult-weaker c.triple.result c.triple.ensures (λ _ m. (three_tables _ _ _ _ _ _ m.0 m.1 m.2, m.3)) (λ _ m. m)) made)
    c.push_made-in-Three.ensures
