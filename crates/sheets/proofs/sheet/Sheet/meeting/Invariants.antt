use Rattle.std.proofs.Common.{length}
use Rattle.sheets.specs.Readings.{RoomSheet}
use Rattle.sheets.proofs.Scanning.{Scan}
use Rattle.sheets.proofs.sheet.Sheet.meeting.Given as goal

abbrev pub invariant-loop-at : goal.invariant-loop-at
invariant-loop-at l = (s : RoomSheet l.self.bytes.now) → Scan s.side s.square l.round l.venue l.rest

abbrev pub decreases-loop-at : goal.decreases-loop-at
decreases-loop-at l = length l.rest
