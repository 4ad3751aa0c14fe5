use Rattle.std.proofs.Common.{◌≡◌, List, ℕ, ◌++◌, take, refl, ap, ◌∙◌, arith}
use Rattle.std.proofs.lemmas.Grind.{put_two}
use Rattle.std.proofs.lemmas.List.{take_all}
use Rattle.cards.specs.Texts.{team_line}
use Rattle.cards.proofs.Rounds.{entries, entries_more, entries_all}
use Rattle.cards.proofs.lines.CardDisplay.fmt.Goals as goal

pub loop-round-preserved : goal.loop-round-preserved
loop-round-preserved g c = λ p.
    let so = c.loop-round.invariant p in
    put_two g.W.Write.write_str_gives _ _ _ _ _ _ so (c.in_ok-write-2.ensures.writes so.plain refl)
    (entries_more c.as_chunks.result.0.now c.loop-round.round c.loop-round-test.true)

pub returns-clause-writes : goal.returns-clause-writes
returns-clause-writes g c = λ p ok.
    let head = c.in_ok-write.ensures.writes p refl in
    let chunks = c.as_chunks.result.0.now in
    let all : entries 0 (take c.loop-round.round chunks) ≡ entries 0 chunks = ap (entries 0) (take_all c.loop-round.round chunks c.loop-round-test.false) in
    put_two g.W.Write.write_str_gives _ _ _ _ _ _ head (c.loop-round.invariant head.plain)
    (ap (λ (text : List ℕ). team_line c.args.self.now.team ++ text)
    (all ∙ ap (entries 0) c.as_chunks.ensures.front ∙ entries_all _ 0 c.args.self.now.bytes.now (omega arith) (omega arith)))
