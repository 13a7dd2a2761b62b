use Rattle.link_machine.proofs.Common.{false, refl, named, changing, acknowledged, heard, setting}
use Rattle.link_machine.proofs.Showing.{shows_changing, shows_control}
use Rattle.link_machine.proofs.machine.Machine.take_info.Goals as goal

pub returns-clause-shows : goal.returns-clause-shows
returns-clause-shows c = λ t h valid.
    let n = named c.args.nr t.now in
    let u = setting (heard false) t in
    let hears = shows_control (heard false) c.args.self.now c.hear.new.self c.args.room.now t c.hear.ensures h in
    let acked = shows_changing (acknowledged n) _ c.acknowledge.new.self c.args.room.now u refl hears
    (c.acknowledge.ensures.holds u.now hears.holds valid) in
    c.hear_poll.ensures c.take_by_mode.new.room _ (c.take_by_mode.ensures.shows (changing (acknowledged n) u) acked)
