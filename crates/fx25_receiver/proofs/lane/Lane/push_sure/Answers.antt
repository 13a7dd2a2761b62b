use Rattle.fx25_receiver.proofs.KnownLemmas.{known_after}
use Rattle.fx25_receiver.proofs.lane.Lane.push_sure.Goals as goal

pub returns-clause-knows : goal.returns-clause-knows
returns-clause-knows c =
    known_after c.args.self.now.reader c.note.new.self.reader c.push.new.self.reader c.args.self.now.certainties
    c.note.new.self.certainties c.push.new.self.certainties c.args.certainty c.note.ensures.reader c.note.ensures.kept
    c.push.ensures.certainties c.push.ensures.awake c.push.ensures.woken

pub returns-clause-frame : goal.returns-clause-frame
returns-clause-frame c = λ tones octets stands ends.
    c.push.ensures.frame tones octets (c.note.ensures.stands_for tones stands) ends
