use Rattle.link_machine.proofs.Common.{false, refl, named, setting, acknowledged, heard_busy}
use Rattle.link_machine.proofs.Showing.{shows_control, shows_changing}
use Rattle.link_machine.proofs.machine.Machine.hear_rr.Goals as goal

pub returns : goal.returns
returns c = λ room t h valid.
    let n = named c.args.nr t.now in
    let hears = heard_busy false c.args.answers in
    let heard = shows_control hears c.args.self.now c.hear_busy.new.self room t c.hear_busy.ensures h in
    let acked = shows_changing (acknowledged n) _ c.acknowledge.new.self room (setting hears t) refl heard
    (c.acknowledge.ensures.holds (setting hears t).now heard.holds valid) in
    c.recover.ensures room _ (c.hear_poll.ensures room _ acked)
