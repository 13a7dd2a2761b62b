-- An I frame as it goes out.
use Rattle.link_machine.proofs.Common.{◌≡◌, ℕ, ◌+◌, ◌++◌, ◌∙◌, Bool, map, sym, ap, subst, Option, Some, Packet, Outgoing, Turn}
use Rattle.link_machine.proofs.Common.{option_to_list, all_sent_in, InfoSent, info_sent, left_with, send_info_with, sending}
use Rattle.link_machine.proofs.Common.{setting, changing, slice_get, StandsForOutgoing}
use Rattle.link_machine.proofs.Common.{None, true, false, false≢true, not, ◌&&◌, Machine, may_send_info}
use Rattle.link_machine.proofs.Common.{List, SentIn, sending_window, arith, length, lt-ltb, ltb-true, min}
use Rattle.std.proofs.Common.{append-nil}
use Rattle.std.specs.Prelude.{drop, ◌||◌}
use Rattle.selective_reject.specs.Outgoing.{after_again, may_send}

pub info_gone :
    (poll : Bool) (place : ℕ) (left : Outgoing) (t : Turn) (packet : Packet)
    → slice_get t.now.outgoing.packets place ≡ Some packet
    → sending (InfoSent (t.now.outgoing.va + place) t.now.incoming.vr poll packet)
    (setting (info_sent poll) (changing (left_with left) t))
    ≡ send_info_with poll place left t
info_gone poll place left t packet e =
    let with : Option Packet → Turn = λ o. record {
      now = record t.now { control = info_sent poll t.now.control; outgoing = left };
      sent = t.sent
          ++ all_sent_in t.now.incoming.modulus (map (InfoSent (t.now.outgoing.va + place) t.now.incoming.vr poll)
          (option_to_list o));
      told = t.told;
    } in
    ap with (sym e)

pub info_lost :
    (poll : Bool) (place : ℕ) (left : Outgoing) (t : Turn) → slice_get t.now.outgoing.packets place ≡ None
    → setting (info_sent poll) (changing (left_with left) t) ≡ send_info_with poll place left t
info_lost poll place left t e =
    let with : List SentIn → Turn = λ sent. record {
      now = record t.now { control = info_sent poll t.now.control; outgoing = left };
      sent = sent;
      told = t.told;
    } in
    let frames : Option Packet → List SentIn =
    λ o. all_sent_in t.now.incoming.modulus (map (InfoSent (t.now.outgoing.va + place) t.now.incoming.vr poll)
    (option_to_list o)) in
    ap with (sym (append-nil t.sent)) ∙ ap (λ o. with (t.sent ++ frames o)) (sym e)

-- the lowest number that SREJ asked for has gone
pub stands_again : (held o following : Outgoing) → following ≡ after_again held → StandsForOutgoing held o
    → StandsForOutgoing following (after_again o)
stands_again held o following e h =
    let same : StandsForOutgoing (after_again held) (after_again o) =
    record { va = h.va; vs = h.vs; top = h.top; packets = h.packets; again = ap (drop 1) h.again } in
    let P : Outgoing → Type 0 = λ x. StandsForOutgoing x (after_again o) in
    subst P (sym e) same

-- V(S) as it goes out
abbrev pub number_of : Option ℕ → ℕ
number_of None = 0
number_of (Some number) = number

pub may_by_window : (m : Machine) → may_send_info m ≡ true → may_send m.incoming.window m.outgoing ≡ true
may_by_window m e =
    let o = m.outgoing in
    let less = ltb-true o.vs (o.va + min (sending_window m) (length o.packets))
    (second (not (m.control.busy || m.control.poll)) (may_send (sending_window m) o) e) in
    lt-ltb o.vs (o.va + min m.incoming.window (length o.packets)) (omega (arith, less))
  where
    second : (a b : Bool) → (a && b) ≡ true → b ≡ true
    second true b e = e
    second false b e = absurd (false≢true e)
