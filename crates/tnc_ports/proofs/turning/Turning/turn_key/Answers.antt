use Rattle.key_port.specs.KeySides.{reports_in}
use Rattle.tnc_ports.proofs.Common.{refl}
use Rattle.tnc_ports.proofs.KeySteps.{turned_some, turned_none}
use Rattle.tnc_ports.proofs.turning.Turning.turn_key.Goals as goal

pub returns-in-None-clause-turned : goal.returns-in-None-clause-turned
returns-in-None-clause-turned g c = λ from live keeps key.
    turned_none from c.args.self.now live _ _ _ c.in-None.is keeps key

pub returns-in-Some-clause-turned : goal.returns-in-Some-clause-turned
returns-in-Some-clause-turned g c = λ from live keeps key.
    turned_some from c.args.self.now _ live _ _ _ _ _ c.in-Some.side c.turn-told.new.self
    (g.K.KeyPort.time c.turn-told.new.key) (reports_in c.turn-told.result) c.in-Some.is refl refl refl keeps key
    c.turn-told.ensures.turned c.turn-told.ensures.port c.put_reports.ensures
