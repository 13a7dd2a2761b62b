use Rattle.key_port.proofs.Sides.{written_done}
use Rattle.key_port.proofs.key_side.KeySide.written.Goals as goal

pub returns-clause-written : goal.returns-clause-written
returns-clause-written g c = λ words octets keyed done.
    written_done words c.args.self.now.port octets _ c.args.fault keyed c.args.self.now.machine
    c.written-command.new.self c.written-command.result _ c.write_if-lost.result c.write_if-lost.new.self
    (g.K.KeyPort.told c.args.key.now) (g.K.KeyPort.told c.write_if-lost.new.key) done
    (c.written-command.ensures.stands_for words _ done.stands) (c.written-command.ensures.command words _ done.stands)
    (λ events doing. c.write_if-lost.ensures.does words octets events doing) c.write_if-lost.ensures.port
    c.reports_of_tick.ensures
