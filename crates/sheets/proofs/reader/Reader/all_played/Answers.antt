use Rattle.std.proofs.Common.{ℕ, ◌+◌, Bool, refl, ◌∙◌, rules, arith}
use borrow.Author.Tests.{tests}
use Rattle.std.proofs.lemmas.Iterator.{YieldsList-from_range}
use Rattle.std.proofs.lemmas.Iterator.Search.{all_from_yields_List}
use Rattle.sheets.specs.Meetings.{meetings, any, in_round}
use Rattle.sheets.proofs.Everyone.{all_numbers}
use Rattle.sheets.proofs.reader.Reader.all_played.Goals as goal

pub returns : goal.returns
returns c = λ past k.
    let test : ℕ → Bool = λ u. any (in_round c.args.current.round u) (meetings past) in
    all_from_yields_List test _ _ _ c.all.ensures.ran (YieldsList-from_range 0 _ (c.args.current.side + 1) refl (omega arith)) (λ x b q h. search (rules, tests))
    ∙ all_numbers test c.args.current.side
