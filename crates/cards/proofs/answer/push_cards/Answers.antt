use Rattle.std.proofs.Common.{◌≡◌, ℕ, ◌+◌, ◌++◌, string_bytes, sym, ap, ◌∙◌, subst, arith}
use Rattle.std.proofs.lemmas.Result.{IfOk-weaker}
use Rattle.starters.specs.Pairs.{pairs_of}
use Rattle.cards.specs.Answers.ByGroup.{not_claimed}
use Rattle.cards.specs.Texts.{summary_line}
use Rattle.cards.proofs.Cards.{CardsSoFar, no_card, one_card_more, all_written}
use Rattle.cards.proofs.answer.push_cards.Goals as goal
use Rattle.cards.proofs.answer.push_cards.Goals.{else-loop-team-test, then-loop-team-test+in_ok-push_team_card+else-team-side}

pub returns-in-Err : goal.returns-in-Err
returns-in-Err g c =
    IfOk-weaker c.write.result _ _ (λ _ e. not_claimed c.in-Err.fault c.in-Err.ensures.claimed e) c.write.ensures.bytes

pub loop-team-init : goal.loop-team-init
loop-team-init g c =
    no_card (g.G.Group.table c.args.group.now) c.args.numbers.now (string_bytes c.args.text.now)
    (pairs_of c.in_default.field-0) c.in_default.ensures.claimed

pub loop-team-preserved : goal.loop-team-preserved
loop-team-preserved g c =
    let so = c.loop-team.invariant in
    one_card_more (g.G.Group.table c.args.group.now) c.args.numbers.now (string_bytes c.args.text.now) c.loop-team.team
    (string_bytes c.loop-team.text) (string_bytes c.push_team_card.new.text) (omega arith) so (c.in_ok-push_team_card.ensures so.starter so.listed)

pub returns : goal.returns
returns g c =
    let t = g.G.Group.table c.args.group.now in
    let bs = c.args.numbers.now in
    let start = string_bytes c.args.text.now in
    let so = c.loop-team.invariant in
    let u = c.loop-team.team in
    let all : CardsSoFar t bs start (t.order + 1) (string_bytes c.loop-team-test.text) =
    elim c.loop-team-test.branch [
      | else-loop-team-test w ↦
          let last : u ≡ t.order + 1 = omega (arith, c.order-side.ensures) in
          subst (λ s. CardsSoFar t bs start (t.order + 1) (string_bytes s)) (sym w.text-is)
          (subst (λ (k : ℕ). CardsSoFar t bs start k (string_bytes c.loop-team.text)) last so)
      | then-loop-team-test+in_ok-push_team_card+else-team-side w ↦
          let last : u ≡ t.order = omega (arith, c.order-side.ensures) in
          subst (λ s. CardsSoFar t bs start (t.order + 1) (string_bytes s)) (sym w.text-is)
          (subst (λ (k : ℕ). CardsSoFar t bs start (k + 1) (string_bytes w.push_team_card.new.text)) last
          (one_card_more t bs start u (string_bytes c.loop-team.text) (string_bytes w.push_team_card.new.text) (omega arith) so
          (w.in_ok-push_team_card.ensures so.starter so.listed)))
    ] in
    let text = string_bytes c.loop-team-test.text in
    IfOk-weaker c.write-2.result _ _
    (λ _ e. all_written t bs start g.G.Group.LETTER text (string_bytes c.write-2.new.self) all
    (e ∙ ap (λ (n : ℕ). text ++ summary_line n c.LETTER-letter.result) c.order-side.ensures
    ∙ ap (λ (k : ℕ). text ++ summary_line t.order k) c.LETTER-letter.ensures))
    c.write-2.ensures.bytes
