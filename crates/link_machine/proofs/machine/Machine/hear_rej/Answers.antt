use Rattle.link_machine.proofs.Common.{false, refl, named, changing, setting, acknowledged, heard_busy, none_again, gone_back}
use Rattle.link_machine.proofs.Showing.{shows_control, shows_changing}
use Rattle.link_machine.proofs.machine.Machine.hear_rej.Goals as goal

pub returns : goal.returns
returns c = λ room t h valid.
    let n = named c.args.nr t.now in
    let hears = heard_busy false c.args.answers in
    let heard = shows_control hears c.args.self.now c.hear_busy.new.self room t c.hear_busy.ensures h in
    let acked = shows_changing (acknowledged n) _ c.acknowledge.new.self room (setting hears t) refl heard
    (c.acknowledge.ensures.holds (setting hears t).now heard.holds valid) in
    let acks = changing (acknowledged n) (setting hears t) in
    let none = shows_changing none_again _ c.pick_none.new.self room acks refl acked
    (c.pick_none.ensures.holds acks.now acked.holds) in
    let back = shows_changing gone_back _ c.go_back.new.self room (changing none_again acks) refl none
    (c.go_back.ensures.holds (changing none_again acks).now none.holds) in
    c.recover.ensures room _ (c.hear_poll.ensures room _ back)
