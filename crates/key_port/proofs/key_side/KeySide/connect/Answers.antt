use Rattle.std.proofs.Common.{[], ◌∷◌}
use Rattle.key_port.specs.KeyEvents.KeyEvent.{Began, NotBegun}
use Rattle.key_port.proofs.Tasks.{begun, after_begun, not_begun, after_not_begun}
use Rattle.key_port.proofs.key_side.KeySide.connect.Goals as goal

pub returns-in-Ok-clause-does : goal.returns-in-Ok-clause-does
returns-in-Ok-clause-does g c = λ words octets events tasks doing.
    after_begun words _ octets _ events _ c.open.new.self.machine
    (g.K.KeyPort.told c.args.key.now) (g.K.KeyPort.told c.connect.new.self) (g.K.KeyPort.told c.open.new.key)
    c.in-Ok.ensures.begun c.in-Ok.ensures.faultless
    (c.open.ensures.does words octets (Began ∷ events) [] (begun words tasks events c.args.self.now.machine doing))

pub returns-in-Err-clause-does : goal.returns-in-Err-clause-does
returns-in-Err-clause-does g c = λ words octets events tasks doing.
    after_not_begun words _ octets _ events _ c.refuse.new.self.machine
    (g.K.KeyPort.told c.args.key.now) (g.K.KeyPort.told c.connect.new.self) (g.K.KeyPort.told c.refuse.new.key)
    c.in-Err.ensures.refused c.in-Err.ensures.failed
    (c.refuse.ensures.does words octets _ (NotBegun ∷ events) []
    (not_begun words tasks events c.args.self.now.machine doing))
