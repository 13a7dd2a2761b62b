-- Which frame a link gives, and which packet goes with it.
use Rattle.link_machine.proofs.Common.{◌≡◌, ℕ, ◌-◌, Bool, true, false, if◌then◌else◌, refl, sym, ◌∙◌, ap, Some}
use Rattle.link_machine.proofs.Common.{None, is_some, slice_get, false≢true, cond-true, cond-false, Machine, Turn}
use Rattle.link_machine.proofs.Common.{is_missing_some, is_asked_again, may_send_info, next_missing, polled_packet}
use Rattle.link_machine.proofs.Common.{send_frame, send_rej, send_srej, send_answer, send_poll, send_again, send_next}
use Rattle.link_machine.proofs.Common.{send_due, carried, sending_window}
use Rattle.link_machine.proofs.Common.{◌+◌, ◌<◌, ◌&&◌, not, nat_lt, min, length, arith, inl, inr, lt-ltb}
use Rattle.std.specs.Prelude.{◌||◌}
use Rattle.std.proofs.lemmas.Bool.{cases_lt, le-ltb}
use Rattle.std.proofs.lemmas.Option.{slice_get_past}
use Rattle.selective_reject.specs.Outgoing.{first_again}
use Rattle.link_machine.specs.Held.{packet_ahead}

-- no S frame goes first: no REJ, no SREJ, no answer to a poll
pub record OwesNone (m : Machine) : Type 0 where
  pub rej : m.control.rej ≡ false
  pub missing : is_missing_some m ≡ false
  pub answer : m.control.answer ≡ false

-- nor a poll
pub record AsksNone (m : Machine) : Type 0 where
  pub owes : OwesNone m
  pub ask : m.control.ask ≡ false

pub gives_rej : (last full : Bool) (t : Turn) → t.now.control.rej ≡ true → send_frame last full t ≡ send_rej t
gives_rej last full t e = cond-true _ _ _ e

pub gives_srej : (last full : Bool) (t : Turn) → t.now.control.rej ≡ false → is_missing_some t.now ≡ true
    → send_frame last full t ≡ send_srej (next_missing t.now.incoming) t
gives_srej last full t rej e = cond-false _ _ _ rej ∙ cond-true _ _ _ e

pub gives_answer : (last full : Bool) (t : Turn) → t.now.control.rej ≡ false → is_missing_some t.now ≡ false
    → t.now.control.answer ≡ true
    → send_frame last full t ≡ send_answer t
gives_answer last full t rej missing e =
    cond-false _ _ _ rej ∙ cond-false _ _ _ missing ∙ cond-true _ _ _ e

owes_none : (last full : Bool) (t : Turn) → OwesNone t.now → send_frame last full t ≡ (
    if t.now.control.ask then send_poll full t else
    if is_asked_again t.now then send_again last full (first_again t.now.outgoing) t else
    if may_send_info t.now then send_next last full t else send_due t)
owes_none last full t h = cond-false _ _ _ h.rej ∙ cond-false _ _ _ h.missing ∙ cond-false _ _ _ h.answer

pub gives_poll : (last full : Bool) (t : Turn) → OwesNone t.now → t.now.control.ask ≡ true
    → send_frame last full t ≡ send_poll full t
gives_poll last full t h e = owes_none last full t h ∙ cond-true _ _ _ e

pub gives_again : (last full : Bool) (t : Turn) → AsksNone t.now → is_asked_again t.now ≡ true
    → send_frame last full t ≡ send_again last full (first_again t.now.outgoing) t
gives_again last full t h e = owes_none last full t h.owes ∙ cond-false _ _ _ h.ask ∙ cond-true _ _ _ e

pub gives_next : (last full : Bool) (t : Turn) → AsksNone t.now → is_asked_again t.now ≡ false
    → may_send_info t.now ≡ true
    → send_frame last full t ≡ send_next last full t
gives_next last full t h again e =
    owes_none last full t h.owes ∙ cond-false _ _ _ h.ask ∙ cond-false _ _ _ again ∙ cond-true _ _ _ e

pub gives_due : (last full : Bool) (t : Turn) → AsksNone t.now → is_asked_again t.now ≡ false
    → may_send_info t.now ≡ false
    → send_frame last full t ≡ send_due t
gives_due last full t h again e =
    owes_none last full t h.owes ∙ cond-false _ _ _ h.ask ∙ cond-false _ _ _ again ∙ cond-false _ _ _ e

-- the packet that goes with it
none_of : (a b c : Bool) → a ≡ false → b ≡ false → c ≡ false → (a || b || c) ≡ false
none_of true b c e f g = absurd (false≢true (sym e))
none_of false true c e f g = absurd (false≢true (sym f))
none_of false false true e f g = absurd (false≢true (sym g))
none_of false false false e f g = refl

info_of : (m : Machine) → OwesNone m → carried m ≡ (
    if m.control.ask then polled_packet m else
    if is_asked_again m then packet_ahead (first_again m.outgoing) m else
    if may_send_info m then slice_get m.outgoing.packets (m.outgoing.vs - m.outgoing.va) else None)
info_of m h =
    cond-false _ _ _ (none_of m.control.rej (is_missing_some m) m.control.answer h.rej h.missing h.answer)

pub carries_none : (m : Machine) → (m.control.rej || is_missing_some m || m.control.answer) ≡ true → carried m ≡ None
carries_none m e = cond-true _ _ _ e

pub carries_poll : (m : Machine) → OwesNone m → m.control.ask ≡ true → carried m ≡ polled_packet m
carries_poll m h e = info_of m h ∙ cond-true _ _ _ e

pub carries_again : (m : Machine) (place : ℕ) → AsksNone m → first_again m.outgoing ≡ Some place
    → carried m ≡ slice_get m.outgoing.packets place
carries_again m place h e =
    info_of m h.owes ∙ cond-false _ _ _ h.ask ∙ cond-true _ _ _ (ap is_some e) ∙ ap (λ o. packet_ahead o m) e

pub carries_next : (m : Machine) → AsksNone m → is_asked_again m ≡ false → may_send_info m ≡ true
    → carried m ≡ slice_get m.outgoing.packets (m.outgoing.vs - m.outgoing.va)
carries_next m h again e = info_of m h.owes ∙ cond-false _ _ _ h.ask ∙ cond-false _ _ _ again ∙ cond-true _ _ _ e

pub carries_nothing : (m : Machine) → AsksNone m → is_asked_again m ≡ false → may_send_info m ≡ false
    → carried m ≡ None
carries_nothing m h again e = info_of m h.owes ∙ cond-false _ _ _ h.ask ∙ cond-false _ _ _ again ∙ cond-false _ _ _ e

-- the packet so far ahead of V(A), if nothing goes before it and the window allows it
pub carries_at :
    (m : Machine) (sent : ℕ) → AsksNone m → is_asked_again m ≡ false → m.control.busy ≡ false
    → m.control.poll ≡ false → m.outgoing.vs ≡ m.outgoing.va + sent → sent < sending_window m
    → carried m ≡ slice_get m.outgoing.packets sent
carries_at m sent asks again busy poll vs within =
    let o = m.outgoing in
    let reach : ℕ = o.va + min (sending_window m) (length o.packets) in
    let free : not (m.control.busy || m.control.poll) ≡ true =
    ap (λ b. not (b || m.control.poll)) busy ∙ ap not poll in
    let place : o.vs - o.va ≡ sent = omega (arith, vs) in
    elim (cases_lt sent (length o.packets)) [
      | inl there ↦
          let may : may_send_info m ≡ true =
          ap (λ b. b && nat_lt o.vs reach) free ∙ lt-ltb o.vs reach (omega (arith, vs, within, there)) in
          carries_next m asks again may ∙ ap (slice_get o.packets) place
      | inr past ↦
          let none : may_send_info m ≡ false =
          ap (λ b. b && nat_lt o.vs reach) free ∙ le-ltb o.vs reach (omega (arith, vs, past)) in
          carries_nothing m asks again none ∙ sym (slice_get_past o.packets sent past)
    ]
