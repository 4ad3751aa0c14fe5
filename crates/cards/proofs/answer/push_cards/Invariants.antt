use Rattle.std.proofs.Common.{string_bytes}
use Rattle.cards.proofs.Cards.{CardsSoFar}
use Rattle.cards.proofs.answer.push_cards.Given as goal

abbrev pub invariant-loop-team : goal.invariant-loop-team
invariant-loop-team g l =
    CardsSoFar (g.G.Group.table l.group) l.numbers (string_bytes l.initial.text) l.team (string_bytes l.text)
