use Rattle.std.proofs.Common.{ℕ, ◌+◌, ◌*◌, Ok, Err, refl, ap}
use Rattle.sheets.proofs.Checking.{packed_by}
use Rattle.sheets.proofs.entry.league_check.Goals as goal

pub returns-in-Ok : goal.returns-in-Ok
returns-in-Ok c = packed_by c.args.bytes.now 0 (Ok tt) c.in-Ok.ensures refl

pub returns-in-Err : goal.returns-in-Err
returns-in-Err c =
    let fault = c.in-Err.fault in
    packed_by c.args.bytes.now _ (Err fault) c.in-Err.ensures (ap (λ (x : ℕ). x * 65536 + fault.place) c.number.ensures)
