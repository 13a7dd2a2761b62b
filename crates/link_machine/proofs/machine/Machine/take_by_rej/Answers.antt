use Rattle.link_machine.proofs.Common.{◌≡◌, Bool, true, false, [], ◌∷◌, sym, ◌∙◌, ap, subst, ahead_of_vr, Turn}
use Rattle.link_machine.proofs.Common.{setting, owing, with_rej, give, take_in_sequence, Shows, cond-true, cond-false}
use Rattle.link_machine.proofs.Common.{◌==◌, lies_ahead, out_of_sequence}
use Rattle.link_machine.proofs.Showing.{shows_setting, shows_control}
use Rattle.link_machine.proofs.Events.{vr_lies_ahead}
use Rattle.std.specs.Prelude.{if◌then◌else◌}
use Rattle.link_machine.proofs.machine.Machine.take_by_rej.Goals as goal

pub returns-then-receive_in_sequence-clause-shows : goal.returns-then-receive_in_sequence-clause-shows
returns-then-receive_in_sequence-clause-shows c = λ t h mode.
    let after = c.receive_in_sequence.new.self in
    let room = c.receive_in_sequence.new.room in
    let yes : (ahead_of_vr c.args.ns t.now == 0) ≡ true = sym (c.receive_in_sequence.ensures.next t h mode)
    ∙ c.if-receive_in_sequence.true in
    let given : Shows after room (give (c.args.packet ∷ []) t) =
    let P : Bool → Type 0 = λ b. Shows after room (if b then give (c.args.packet ∷ []) t else t) in
    subst P c.if-receive_in_sequence.true (c.receive_in_sequence.ensures.shows t h mode) in
    let calm = shows_setting (with_rej false) after room (give (c.args.packet ∷ []) t) given in
    let owed = shows_setting owing (record after { control = with_rej false after.control }) room
    (setting (with_rej false) (give (c.args.packet ∷ []) t)) calm in
    let P : Turn → Type 0 = λ x. Shows (record after { control = owing (with_rej false after.control) }) room x in
    subst P (sym (cond-true (ahead_of_vr c.args.ns t.now == 0) (take_in_sequence c.args.packet t)
    (setting (out_of_sequence (lies_ahead c.args.ns t.now)) t) yes)) owed

pub returns-else-receive_in_sequence-clause-shows : goal.returns-else-receive_in_sequence-clause-shows
returns-else-receive_in_sequence-clause-shows c = λ t h mode.
    let after = c.receive_in_sequence.new.self in
    let room = c.receive_in_sequence.new.room in
    let no : (ahead_of_vr c.args.ns t.now == 0) ≡ false = sym (c.receive_in_sequence.ensures.next t h mode)
    ∙ c.if-receive_in_sequence.false in
    let same : Shows after room t =
    let P : Bool → Type 0 = λ b. Shows after room (if b then give (c.args.packet ∷ []) t else t) in
    subst P c.if-receive_in_sequence.false (c.receive_in_sequence.ensures.shows t h mode) in
    let far : c.lies_ahead-lies_ahead.result ≡ lies_ahead c.args.ns t.now =
    c.lies_ahead-lies_ahead.ensures.ahead ∙ vr_lies_ahead c.args.self.now t.now c.args.ns h.holds in
    let told = shows_control (out_of_sequence (lies_ahead c.args.ns t.now)) after c.hear_out_of_sequence.new.self room t
    (c.hear_out_of_sequence.ensures ∙ ap (λ b. out_of_sequence b after.control) far) same in
    let P : Turn → Type 0 = λ x. Shows (record after { control = c.hear_out_of_sequence.new.self }) room x in
    subst P (sym (cond-false (ahead_of_vr c.args.ns t.now == 0) (take_in_sequence c.args.packet t)
    (setting (out_of_sequence (lies_ahead c.args.ns t.now)) t) no)) told
