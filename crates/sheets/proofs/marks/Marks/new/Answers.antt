use Rattle.std.proofs.Common.{false, [], replicate}
use Rattle.std.proofs.lemmas.List.{get_or-replicate}
use Rattle.sheets.proofs.marks.Marks.new.Goals as goal

pub returns : goal.returns
returns c =
    record { at = λ a b x y. simp (get_or-replicate 128 a (replicate 128 false) [] x, get_or-replicate 128 b false false y) }
