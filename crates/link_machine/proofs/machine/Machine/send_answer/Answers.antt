use Rattle.link_machine.proofs.Common.{setting, answered}
use Rattle.link_machine.proofs.Showing.{shows_setting, vr_as_sent}
use Rattle.link_machine.proofs.machine.Machine.send_answer.Goals as goal

pub returns-clause-shows : goal.returns-clause-shows
returns-clause-shows c = λ t h.
    c.send_super.ensures.shows (setting answered t) t.now.incoming.vr
    (shows_setting answered c.args.self.now c.args.room.now t h)
    (vr_as_sent c.args.self.now t.now c.vr.result h.holds
    (c.vr.ensures.stands_for t.now.incoming h.holds.stands.incoming))
