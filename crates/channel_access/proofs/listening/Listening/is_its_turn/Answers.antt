use Rattle.channel_access.proofs.Common.{◌&&◌, leb, ◌∙◌, ap, sym}
use Rattle.channel_access.specs.declared.listening.Listening.{Listening}
use Rattle.channel_access.specs.Turns.{quiet_before}
use Rattle.channel_access.proofs.TurnLemmas.{kept_slot}
use Rattle.channel_access.proofs.listening.Listening.is_its_turn.Goals as goal

pub returns-then-self : goal.returns-then-self
returns-then-self c = λ past is.
    ap (λ (l : Listening). leb c.args.slot_time l.before) is
    ∙ kept_slot c.args.slot_time (quiet_before past) c.ranges.slot_time.fits
    ∙ ap (λ b. b && leb c.args.slot_time (quiet_before past))
    (sym (sym (ap (λ (l : Listening). l.spoken_to) is) ∙ c.if-self.true))

pub returns-else-self : goal.returns-else-self
returns-else-self c = λ past is.
    c.if-self.false
    ∙ ap (λ b. b && leb c.args.slot_time (quiet_before past))
    (sym (sym (ap (λ (l : Listening). l.spoken_to) is) ∙ c.if-self.false))
