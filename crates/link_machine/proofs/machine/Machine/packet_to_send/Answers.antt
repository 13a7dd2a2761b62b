use Rattle.link_machine.proofs.Common.{◌≡◌, ℕ, ◌+◌, ◌<◌, Bool, true, false, if◌then◌else◌, is_some, refl, sym, ◌∙◌, ap, subst}
use Rattle.link_machine.proofs.Common.{arith, false≢true, Option, Packet, Machine, Holds, back, left_with, carried, slice_get}
use Rattle.link_machine.proofs.Common.{is_asked_again, min}
use Rattle.std.specs.Option.{option_copied}
use Rattle.std.proofs.lemmas.Result.{IfOk-weaker}
use Rattle.link_machine.specs.Machine.{with_control}
use Rattle.link_machine.proofs.Giving.{AsksNone, carries_at}
use Rattle.link_machine.proofs.machine.Machine.packet_to_send.Goals.{then-goes_back, else-goes_back}
use Rattle.link_machine.proofs.machine.Machine.packet_to_send.Goals.{then-goes_back-2, else-goes_back-2}
use Rattle.link_machine.proofs.machine.Machine.packet_to_send.Goals as goal

pub returns-then-sent-window_with : goal.returns-then-sent-window_with
returns-then-sent-window_with c =
    let held = c.args.self.now in
    let sent = c.if-goes_back.sent in
    let at : Bool → Machine → Machine =
    λ b m. left_with (if b then back m.outgoing else m.outgoing) (with_control c.args.control.now m) in
    let asks : (b : Bool) (m : Machine) → Holds held m → AsksNone (at b m) = λ b m h. record {
      owes = record {
        rej = c.if-control.false;
        missing = sym (c.is_missing.ensures.stands_for m.incoming h.stands.incoming) ∙ c.if-is_missing.false;
        answer = c.if-control-2.false;
      };
      ask = c.if-control-3.false;
    } in
    let within : (m : Machine) → Holds held m → sent < min m.incoming.window c.args.control.now.most_sent = λ m h.
    let L : ℕ → Type 0 = λ k. sent < k in
    subst L (c.window_with.ensures m h) c.if-sent-window_with.true in
    let carries : (m : Machine) → Holds held m → carried (at c.args.goes_back m) ≡ slice_get m.outgoing.packets sent =
    λ m h.
    let P : Bool → Type 0 = λ b. carried (at b m) ≡ slice_get m.outgoing.packets sent in
    elim c.if-goes_back.branch [
      | then-goes_back w ↦
          let none : m.outgoing.va ≡ m.outgoing.va + sent = omega (arith, w.sent-is) in
          subst P (sym w.if-goes_back.true) (carries_at (at true m) sent (asks true m h) refl
          c.if-not-control.true c.if-not-control-2.true none (within m h))
      | else-goes_back w ↦
          let count : m.outgoing.vs ≡ m.outgoing.va + sent =
          omega (arith, w.sent-is, w.sent-sent.ensures.stands_for m.outgoing h.stands.outgoing) in
          let again : is_asked_again m ≡ false =
          elim c.if-goes_back-2.branch [
            | then-goes_back-2 v ↦ absurd (false≢true (sym w.if-goes_back.false ∙ v.if-goes_back-2.true))
            | else-goes_back-2 v ↦
                ap is_some (sym (v.first_again-again.ensures.stands_for m.outgoing h.stands.outgoing)
                ∙ sym v.again-is ∙ c.in_default.is)
          ] in
          subst P (sym w.if-goes_back.false) (carries_at (at false m) sent (asks false m h) again
          c.if-not-control.true c.if-not-control-2.true count (within m h))
    ] in
    let R : Option Packet → Type 0 = λ packet. packet ≡ option_copied c.packet-then-sent-window_with.result in
    IfOk-weaker c.copy_of-then-sent-window_with.result R _ (λ packet copied m h.
    copied ∙ c.packet-then-sent-window_with.ensures ∙ ap (slice_get held.outgoing.packets) c.from-then-sent-window_with.ensures
    ∙ ap (λ ps. slice_get ps sent) h.stands.outgoing.packets ∙ sym (carries m h)) c.copy_of-then-sent-window_with.ensures
