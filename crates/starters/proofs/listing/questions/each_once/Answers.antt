use Rattle.starters.proofs.Marks.{marked_none}
use Rattle.starters.proofs.listing.questions.each_once.Goals as goal

pub loop-place-init : goal.loop-place-init
loop-place-init c = marked_none c.args.n c.args.numbers.now
