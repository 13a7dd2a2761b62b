use Rattle.std.proofs.Common.{◌≡◌, [], ◌∷◌, sym, ◌∙◌}
use Rattle.key_port.specs.declared.key_records.KeyWrite.TheVariants.{Whole, NotYet, Failed as NotWhole}
use Rattle.key_port.specs.KeyEvents.KeyEvent.{NotWritten}
use Rattle.key_port.proofs.Tasks.{try_written, try_early, unopened, after_unopened}
use Rattle.key_port.proofs.key_side.KeySide.open.Goals as goal

pub returns-in-Whole-clause-does : goal.returns-in-Whole-clause-does
returns-in-Whole-clause-does g c = λ words octets events tasks doing.
    try_written words _ octets _ tasks events c.args.self.now.machine c.tried.new.self c.tried.result
    (g.K.KeyPort.told c.args.key.now) (g.K.KeyPort.told c.open.new.self) doing
    (c.tried.ensures.stands_for words _ doing.stands) (c.tried.ensures.told words _ doing.stands)
    (λ had is. c.open.ensures.told had is c.in-Whole.is)
    (c.open.ensures.faultless (λ e. let both : Whole ≡ NotWhole = sym c.in-Whole.is ∙ e in cc both))

pub returns-in-NotYet-clause-does : goal.returns-in-NotYet-clause-does
returns-in-NotYet-clause-does g c = λ words octets events tasks doing.
    try_early words _ octets _ tasks events c.args.self.now.machine c.tried-in-NotYet.new.self c.tried-in-NotYet.result
    (g.K.KeyPort.told c.args.key.now) (g.K.KeyPort.told c.open.new.self) doing
    (c.tried-in-NotYet.ensures.stands_for words _ doing.stands) (c.tried-in-NotYet.ensures.told words _ doing.stands)
    (c.open.ensures.unwritten (λ e. let both : NotYet ≡ Whole = sym c.in-NotYet.is ∙ e in cc both))
    (c.open.ensures.faultless (λ e. let both : NotYet ≡ NotWhole = sym c.in-NotYet.is ∙ e in cc both))

pub returns-in-Failed-clause-does : goal.returns-in-Failed-clause-does
returns-in-Failed-clause-does g c = λ words octets events tasks doing.
    after_unopened words _ octets _ events _ c.refuse.new.self.machine
    (g.K.KeyPort.told c.args.key.now) (g.K.KeyPort.told c.open.new.self) (g.K.KeyPort.told c.refuse.new.key)
    (c.open.ensures.unwritten (λ e. let both : NotWhole ≡ Whole = sym c.in-Failed.is ∙ e in cc both))
    (c.open.ensures.failed c.in-Failed.is)
    (c.refuse.ensures.does words octets _ (NotWritten ∷ events) []
    (unopened words tasks events c.args.self.now.machine doing))
