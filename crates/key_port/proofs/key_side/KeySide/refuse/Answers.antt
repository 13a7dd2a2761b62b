use Rattle.key_port.proofs.Tasks.{try_refused}
use Rattle.key_port.proofs.key_side.KeySide.refuse.Goals as goal

pub returns-clause-does : goal.returns-clause-does
returns-clause-does g c = λ words octets written events tasks doing.
    try_refused words _ octets written tasks events c.args.self.now.machine c.tried-lost.new.self c.tried-lost.result
    (g.K.KeyPort.told c.args.key.now) (g.K.KeyPort.told c.hang_up.new.self) doing
    (c.tried-lost.ensures.stands_for words _ doing.stands) (c.tried-lost.ensures.told words _ doing.stands)
    c.hang_up.ensures.told c.hang_up.ensures.faults
