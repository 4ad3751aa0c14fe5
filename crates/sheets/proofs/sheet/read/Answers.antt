use Rattle.std.proofs.Common.{refl}
use Rattle.std.proofs.lemmas.Grind.{merely}
use Rattle.sheets.proofs.sheet.read.Goals as goal

pub invariant_of-result : goal.invariant_of-result
invariant_of-result c = record { real = merely (c.in_ok-check.ensures.only_sheets refl) }
