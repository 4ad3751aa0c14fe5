use Rattle.std.proofs.Common.{sym, refl, ◌∙◌}
use Rattle.sheets.proofs.Noting.{open_round, close_noted}
use Rattle.sheets.proofs.reader.Reader.step.Goals as goal

pub returns-then-not-all_played : goal.returns-then-not-all_played
returns-then-not-all_played c = λ past k.
    let s = sym k.reached ∙ c.in-Open-Close.is-0 in
    let idle = sym (c.all_played.ensures past k) ∙ c.if-not-all_played.true in
    rw c.in-Open-Close.is-1 (simp (s, idle))

pub returns-in_ok-meeting-in-Open-Meet : goal.returns-in_ok-meeting-in-Open-Meet
returns-in_ok-meeting-in-Open-Meet c = λ past k.
    let in_turn = c.in-Open-Meet in
    let asked = c.in_ok-meeting-in-Open-Meet.ensures in
    let last = open_round past in_turn.side in_turn.round (sym k.reached ∙ in_turn.is-0) in
    let kept = c.note.ensures.noted past k (last ∙ sym asked.same.0) in
    rw in_turn.is-1 (asked.asked past k in_turn.is-0, rw (asked.same.1, asked.same.2, asked.same.3) at kept)

pub returns-else-not-all_played : goal.returns-else-not-all_played
returns-else-not-all_played c = λ past k.
    let in_turn = c.in-Open-Close in
    let all = sym (c.all_played.ensures past k) ∙ c.if-not-all_played.false in
    rw in_turn.is-1 (close_noted _ _ past k refl refl refl in_turn.side in_turn.round in_turn.is-0 all refl)
