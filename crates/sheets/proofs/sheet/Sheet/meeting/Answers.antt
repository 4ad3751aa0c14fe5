use Rattle.std.proofs.Common.{rules, arith}
use Rattle.sheets.proofs.Scanning.{round_there, no_round, scan_begins, scan_found, scan_on, scan_ends}
use Rattle.sheets.proofs.sheet.Sheet.meeting.Goals as goal

pub returns-then-round-side : goal.returns-then-round-side
returns-then-round-side c = λ s. no_round s.side s.square _ _ (omega (arith, c.side-side.ensures s))

pub slice_bounds-rest-start : goal.slice_bounds-rest-start
slice_bounds-rest-start c =
    let there = round_there _ c.args.self.now.real c.args.round _ c.side-side.ensures c.if-round-side.false in search rules

pub slice_bounds-rest-count : goal.slice_bounds-rest-count
slice_bounds-rest-count c = round_there _ c.args.self.now.real c.args.round _ c.side-side.ensures c.if-round-side.false

pub loop-at-init : goal.loop-at-init
loop-at-init c = λ s. scan_begins _ s c.args.round c.side-side.result (c.side-side.ensures s) c.if-round-side.false c.args.venue

pub returns-then-at-venue : goal.returns-then-at-venue
returns-then-at-venue c = λ s.
    let same = c.side-side.ensures s in
    scan_found s.side s.square c.args.round c.args.venue c.loop-at.rest.now c.in-Some.at _ _ _ (c.loop-at.invariant s)
    c.in-Some.ensures (omega (arith, same, c.if-round-side.false)) c.if-at-venue.true

pub loop-at-preserved : goal.loop-at-preserved
loop-at-preserved c = λ s.
    scan_on s.side s.square c.args.round c.args.venue c.loop-at.rest.now c.in-Some.at _ _ _ (c.loop-at.invariant s)
    c.in-Some.ensures c.if-at-venue.false

pub returns : goal.returns
returns c = λ s.
    scan_ends s.side s.square c.args.round c.args.venue c.loop-at.rest.now (c.loop-at.invariant s) c.in_default.ensures
