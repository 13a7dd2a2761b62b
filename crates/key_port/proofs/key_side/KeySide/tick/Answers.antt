use Rattle.key_port.proofs.Sides.{tick_done}
use Rattle.key_port.proofs.key_side.KeySide.tick.Goals as goal

pub returns-clause-ticked : goal.returns-clause-ticked
returns-clause-ticked g c = λ words octets keyed done.
    tick_done words c.args.self.now.port octets _ c.args.sounds keyed c.args.self.now.machine c.tick-act.new.self
    c.tick-act.result _ c.write_if-lost.result c.write_if-lost.new.self
    (g.K.KeyPort.told c.args.key.now) (g.K.KeyPort.told c.write_if-lost.new.key) done
    (c.tick-act.ensures.stands_for words _ done.stands) (c.tick-act.ensures.act words _ done.stands)
    (λ events doing. c.write_if-lost.ensures.does words octets events doing) c.write_if-lost.ensures.port
    c.reports_of_tick.ensures
