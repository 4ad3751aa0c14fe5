use Rattle.std.proofs.Common.{vec_items, sym, ap, ◌∙◌}
use Rattle.std.specs.Option.{option_map}
use Rattle.input.proofs.Cut.{no_first_line}
use Rattle.cards.proofs.Inputs.{no_last, no_orders, no_numbers}
use Rattle.cards.proofs.answer.read.Goals as goal

pub returns-in_default : goal.returns-in_default
returns-in_default c = λ o bs t. no_first_line c.args.input.now t.first t.rest c.in_default.ensures t.first_line

pub returns-in_default-last_line : goal.returns-in_default-last_line
returns-in_default-last_line c = λ o bs t.
    no_last c.args.input.now c.in-Some.first.now c.in-Some.rest.now o bs c.in-Some.ensures t c.in_default-last_line.ensures

pub returns-in_default-read_orders : goal.returns-in_default-read_orders
returns-in_default-read_orders c = λ o bs t.
    no_orders c.args.input.now c.in-Some.first.now c.in-Some.rest.now o bs c.in-Some.ensures t
    (sym c.read_orders.ensures.value ∙ c.in_default-read_orders.is)

pub returns-in_default-2 : goal.returns-in_default-2
returns-in_default-2 c = λ o bs t.
    no_numbers c.args.input.now c.in-Some.first.now c.in-Some.rest.now o bs c.in-Some.ensures t
    c.in-Some-last_line.second.now c.in-Some-last_line.ensures
    (sym c.in_ok-numbers.ensures.value ∙ ap (option_map vec_items) c.in_default-2.is)
