use Rattle.key_port.proofs.Tasks.{command_written, command_lost}
use Rattle.key_port.proofs.key_side.KeySide.write.Goals as goal

pub returns-in-Ok-clause-does : goal.returns-in-Ok-clause-does
returns-in-Ok-clause-does g c = λ words octets events tasks doing.
    command_written words _ octets _ c.args.command tasks events c.args.self.now.machine
    (g.K.KeyPort.told c.args.key.now) (g.K.KeyPort.told c.write.new.self) doing
    (λ had is. c.in-Ok.ensures.told had is) c.in-Ok.ensures.faultless

pub returns-in-Err-clause-does : goal.returns-in-Err-clause-does
returns-in-Err-clause-does g c = λ words octets events tasks doing.
    command_lost words _ octets _ c.args.command tasks events c.args.self.now.machine c.command_failed-lost.new.self
    c.command_failed-lost.result (g.K.KeyPort.told c.args.key.now) (g.K.KeyPort.told c.write.new.self)
    (g.K.KeyPort.told c.hang_up.new.self) doing
    (c.command_failed-lost.ensures.stands_for words _ doing.stands)
    (c.command_failed-lost.ensures.told words _ doing.stands) c.in-Err.ensures.unwritten c.in-Err.ensures.failed
    c.hang_up.ensures.told c.hang_up.ensures.faults
