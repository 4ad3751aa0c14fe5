use Rattle.std.proofs.Common.{ℕ, List, length, ap, arith}
use Rattle.input.proofs.Cut.{no_last_line}
use Rattle.input.proofs.lines.last_line.Goals as goal

pub returns-in-Some : goal.returns-in-Some
returns-in-Some c = λ w l.
    no_last_line c.args.input.now w _ _ c.in-Some.ensures (λ e. omega (arith, ap (λ (xs : List ℕ). length xs) e)) l
