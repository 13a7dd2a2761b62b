use Rattle.link_machine.proofs.Common.{changing, narrowed, retried, setting}
use Rattle.link_machine.proofs.Showing.{shows_control, shows_in_modulus}
use Rattle.link_machine.proofs.machine.Machine.fall_back.Goals as goal

pub returns-clause-shows : goal.returns-clause-shows
returns-clause-shows c = λ t h.
    let room = c.args.room.now in
    let tried = setting retried t in
    let retry = shows_control retried c.args.self.now c.retry.new.self room t c.retry.ensures h in
    let narrow = shows_in_modulus 8 (record c.args.self.now { control = c.retry.new.self }) c.narrow.new.self room tried
    retry c.narrow.ensures.holds in
    c.send_call.ensures.shows (changing narrowed tried) narrow
