use Rattle.link_machine.proofs.Common.{◌≡◌, true, false, is_some, sym, ◌∙◌, ap, subst, cond-true, cond-false, Control, Turn}
use Rattle.link_machine.proofs.Common.{setting, nothing_due, is_asked_again, may_send_info, Shows}
use Rattle.link_machine.specs.declared.machine.Machine.{Machine as Held}
use Rattle.link_machine.proofs.Showing.{shows_setting, vr_as_sent}
use Rattle.link_machine.proofs.Giving.{AsksNone, gives_due}
use Rattle.link_machine.proofs.machine.Machine.send_frame.Goals as goal

pub returns-then-self-4-clause-shows : goal.returns-then-self-4-clause-shows
returns-then-self-4-clause-shows c = λ t h is.
    let held = c.args.self.now in
    let control = sym h.holds.stands.control in
    let asks : AsksNone t.now = record {
      owes = record {
        rej = ap (λ (x : Control). x.rej) control ∙ c.if-self.false;
        missing = sym (c.is_missing.ensures.stands_for t.now.incoming h.holds.stands.incoming) ∙ c.if-is_missing.false;
        answer = ap (λ (x : Control). x.answer) control ∙ c.if-self-2.false;
      };
      ask = ap (λ (x : Control). x.ask) control ∙ c.if-self-3.false;
    } in
    let again : is_asked_again t.now ≡ false =
    ap is_some (sym (c.first_again.ensures.stands_for t.now.outgoing h.holds.stands.outgoing) ∙ c.in_default.is) in
    let may : may_send_info t.now ≡ false = sym (c.may_send_info.ensures t.now h.holds) ∙ c.if-may_send_info.false in
    let due : t.now.control.due ≡ true = ap (λ (x : Control). x.due) control ∙ c.if-self-4.true in
    let nr = vr_as_sent held t.now c.vr.result h.holds
    (c.vr.ensures.stands_for t.now.incoming h.holds.stands.incoming) in
    let sent = c.send_super.ensures.shows (setting nothing_due t) t.now.incoming.vr
    (shows_setting nothing_due held c.args.room.now t h) nr in
    let after : Held = record held { control = nothing_due held.control } in
    let P : Turn → Type 0 = λ x. Shows after c.send_super.new.room x in
    subst P (sym (gives_due c.args.last c.args.full t asks again may ∙ cond-true t.now.control.due _ t due)) sent

pub returns-clause-shows : goal.returns-clause-shows
returns-clause-shows c = λ t h is.
    let control = sym h.holds.stands.control in
    let asks : AsksNone t.now = record {
      owes = record {
        rej = ap (λ (x : Control). x.rej) control ∙ c.if-self.false;
        missing = sym (c.is_missing.ensures.stands_for t.now.incoming h.holds.stands.incoming) ∙ c.if-is_missing.false;
        answer = ap (λ (x : Control). x.answer) control ∙ c.if-self-2.false;
      };
      ask = ap (λ (x : Control). x.ask) control ∙ c.if-self-3.false;
    } in
    let again : is_asked_again t.now ≡ false =
    ap is_some (sym (c.first_again.ensures.stands_for t.now.outgoing h.holds.stands.outgoing) ∙ c.in_default.is) in
    let may : may_send_info t.now ≡ false = sym (c.may_send_info.ensures t.now h.holds) ∙ c.if-may_send_info.false in
    let due : t.now.control.due ≡ false = ap (λ (x : Control). x.due) control ∙ c.if-self-4.false in
    let P : Turn → Type 0 = λ x. Shows c.args.self.now c.args.room.now x in
    subst P (sym (gives_due c.args.last c.args.full t asks again may ∙ cond-false t.now.control.due _ t due)) h
