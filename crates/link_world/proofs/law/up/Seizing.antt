-- The channel takes a frame of a link that is up.
use Rattle.link_world.proofs.Common.{◌≡◌, ℕ, ◌+◌, ◌-◌, ◌<◌, max, min, Bool, true, false, ◌&&◌, not, nat_lt, List, []}
use Rattle.link_world.proofs.Common.{◌∷◌, ◌++◌, length, map, slice_get, Option, Some, None, is_some, IfSome}
use Rattle.link_world.proofs.Common.{if◌then◌else◌, refl, sym, ap, ◌∙◌, subst, arith, append-nil, cond-true, ltb-true}
use Rattle.std.proofs.lemmas.Bool.{lt-ltb}
use Rattle.link_world.proofs.Common.{and_parts, Rr, Packet, Control, sent_in, all_sent_in, InfoSent, SuperSent, Turn}
use Rattle.link_world.proofs.Common.{nothing_due, seize_in}
use Rattle.std.proofs.Common.{◌||◌, nat_le}
use Rattle.std.specs.Option.{option_to_list}
use Rattle.ax25_frames.specs.declared.frame.S.TheVariants.{Rej as RejFrame, Srej as SrejFrame}
use Rattle.selective_reject.proofs.Copies.{none_next}
use Rattle.selective_reject.specs.Incoming.{asked_for, next_missing}
use Rattle.selective_reject.specs.Outgoing.{Outgoing, after_again, after_next, first_again, may_send, within}
use Rattle.link_machine.specs.Seizing.{answered, asking, info_sent, left_with, most_polled}
use Rattle.link_machine.specs.Seizing.{not_passed, notice_passed, poll_frame, polled_packet, polling, polls}
use Rattle.link_machine.specs.Seizing.{rejected, send_again, send_due, send_frame, send_info, send_next, send_poll}
use Rattle.link_machine.specs.Seizing.{send_srej, short_packet}
use Rattle.link_machine.specs.Turn.{sending}
use Rattle.link_machine.specs.Wants.{is_asked_again, is_missing_some, may_send_info, sending_window}
use Rattle.link_machine.specs.declared.state.LinkState.TheVariants.{Up}
use Rattle.link_world.proofs.law.Each.{each_append, each_pushed}
use Rattle.link_world.proofs.law.reduced.Core.{Tagged}
use Rattle.link_world.proofs.law.reduced.CoreMoves.{sending_from, sent_number}
use Rattle.link_world.proofs.law.reduced.CoreOf.{cores_sent, end_following, running_of}
use Rattle.link_world.proofs.law.invariant.Invariant.{Keeps}
use Rattle.link_world.proofs.law.invariant.Upward.{set_vs_keeps}
use Rattle.link_world.proofs.law.moves.UpSending.{UpInvariant, send_kept_keeps, send_srej_keeps}
use Rattle.link_world.proofs.law.showing.PlacesFit.{fit_with_asked, sound_same}
use Rattle.link_world.proofs.law.showing.PlacesStored.{IsBelowOne, missing_before, stored_with_asked}
use Rattle.link_world.proofs.law.up.Acts.{setting_keeps, sending_super_keeps, recover_with_keeps, choice_keeps}
use Rattle.link_world.proofs.law.up.Progress.{IsUp, Progress, sent_one}

-- ---- I frames

-- a packet that waits goes out in the window
kept_goes_out :
    {to_x : List Tagged} {g : Progress} {turn : Turn} (poll : Bool) (ahead : ℕ) (p : Packet)
    → slice_get turn.now.outgoing.packets ahead ≡ Some p → ahead < turn.now.incoming.window → IsUp to_x g turn
    → let m = turn.now in let r = running_of m g.open_now in
    UpInvariant (end_following m g.ended) g.partner (sent_number (r.va + ahead) r) to_x
    (g.before ++ cores_sent g.answers (length g.ended)
    (turn.sent ++ sent_in m.incoming.modulus (InfoSent (r.va + ahead) r.vr poll p) ∷ []))
kept_goes_out {to_x} {g} {turn} poll ahead p is below h =
    let m = turn.now in
    let x = end_following m g.ended in
    let r = running_of m g.open_now in
    let n : ℕ = r.va + ahead in
    let place : n - r.va ≡ ahead = omega arith in
    subst (λ t. UpInvariant x g.partner (sent_number n r) to_x t)
    (sent_one g.answers (length g.ended) g.before turn.sent (sent_in m.incoming.modulus (InfoSent n r.vr poll p)))
    (send_kept_keeps x n p (omega arith) (omega (arith, below)) (ap (slice_get r.kept) place ∙ is) h.holds)

-- the I frame of a packet so far ahead of V(A), if there is one
abbrev informed_with : Bool → ℕ → Option Packet → Outgoing → Turn → Turn
informed_with poll ahead o left turn = record turn {
  now = record turn.now { outgoing = left };
  sent = turn.sent ++ all_sent_in turn.now.incoming.modulus
      (map (InfoSent (turn.now.outgoing.va + ahead) turn.now.incoming.vr poll) (option_to_list o));
}

-- One that was sent before goes out again: only the numbers that SREJ asked for change.
repeat_goes_out :
    {to_x : List Tagged} {g : Progress} {turn : Turn} (poll : Bool) (ahead : ℕ) (again : List ℕ) (o : Option Packet)
    → slice_get turn.now.outgoing.packets ahead ≡ o → turn.now.outgoing.va + ahead < turn.now.outgoing.top
    → IsUp to_x g turn → IsUp to_x g (informed_with poll ahead o (record turn.now.outgoing { again = again }) turn)
repeat_goes_out {to_x} {g} {turn} poll ahead again None is high h = record {
  state = h.state;
  so_far = h.so_far;
  fits = each_append _ turn.sent [] h.fits tt;
  holds = subst (λ s. UpInvariant (end_following turn.now g.ended) g.partner (running_of turn.now g.open_now) to_x
      (g.before ++ cores_sent g.answers (length g.ended) s)) (sym (append-nil turn.sent)) h.holds;
}
repeat_goes_out {to_x} {g} {turn} poll ahead again (Some p) is high h =
    let m = turn.now in
    let x = end_following m g.ended in
    let r = running_of m g.open_now in
    let k : Keeps r x.window = h.holds.x_hears.keeps in
    let window = k.window in
    let n : ℕ = r.va + ahead in
    let same : max r.top (n + 1) ≡ r.top = omega (arith, high) in
    let frame = sent_in m.incoming.modulus (InfoSent n r.vr poll p) in
    record {
      state = h.state;
      so_far = h.so_far;
      fits = each_pushed _ turn.sent frame h.fits tt;
      holds = subst (λ t. UpInvariant x g.partner (sending_from r.va r.vs t r.kept r) to_x
          (g.before ++ cores_sent g.answers (length g.ended) (turn.sent ++ frame ∷ []))) same
          (kept_goes_out poll ahead p is (omega (arith, window, high)) h);
    }

-- number V(S) goes out, and V(S) rises
next_goes_out :
    {to_x : List Tagged} {g : Progress} {turn : Turn} (poll : Bool) (o : Option Packet) → let q = turn.now.outgoing in
    slice_get q.packets (q.vs - q.va) ≡ o → q.vs < q.va + min turn.now.incoming.window (length q.packets)
    → IsUp to_x g turn
    → IsUp to_x g (informed_with poll (q.vs - q.va) o (record q { vs = q.vs + 1; top = max q.top (q.vs + 1) }) turn)
next_goes_out {turn} poll None is low h =
    absurd (none_next turn.now.outgoing.packets (turn.now.outgoing.vs - turn.now.outgoing.va) (omega (arith, low)) is)
next_goes_out {to_x} {g} {turn} poll (Some p) is low h =
    let m = turn.now in
    let x = end_following m g.ended in
    let r = running_of m g.open_now in
    let k : Keeps r x.window = h.holds.x_hears.keeps in
    let order = k.order in
    let number : r.va + (r.vs - r.va) ≡ r.vs = omega (arith, order) in
    let frame = sent_in m.incoming.modulus (InfoSent (r.va + (r.vs - r.va)) r.vr poll p) in
    let under_way = g.before ++ cores_sent g.answers (length g.ended) (turn.sent ++ frame ∷ []) in
    record {
      state = h.state;
      so_far = h.so_far;
      fits = each_pushed _ turn.sent frame h.fits tt;
      holds = set_vs_keeps x (r.vs + 1) (omega (arith, order))
          (subst (λ n. UpInvariant x g.partner (sent_number n r) to_x under_way) number
          (kept_goes_out poll (r.vs - r.va) p is (omega (arith, low)) h));
    }

info_state : (poll : Bool) (c : Control) → (info_sent poll c).state ≡ c.state
info_state true c = refl
info_state false c = refl

-- the lowest number that SREJ asked for lies below the top
first_is_sent : (store : Outgoing) {ahead : ℕ} → first_again store ≡ Some ahead → store.va + ahead < store.top
first_is_sent store {ahead} is = go (slice_get store.again 0) is
  where
    go : (o : Option ℕ) → within (store.top - store.va) o ≡ Some ahead → store.va + ahead < store.top
    go None e = absurd (subst (λ o. IfSome o (λ n. ⊥)) e tt)
    go (Some k) e = by (nat_lt k (store.top - store.va)) refl e
      where
        by : (b : Bool) → nat_lt k (store.top - store.va) ≡ b → (if b then Some k else None) ≡ Some ahead
            → store.va + ahead < store.top
        by true less same =
            let below = ltb-true k (store.top - store.va) less in
            subst (λ o. IfSome o (λ n. store.va + n < store.top)) same (omega (arith, below))
        by false less same = absurd (subst (λ o. IfSome o (λ n. ⊥)) same tt)

-- so it may be sent again
again_goes_out :
    {to_x : List Tagged} {g : Progress} {turn : Turn} (last full : Bool) (o : Option ℕ)
    → first_again turn.now.outgoing ≡ o → IsUp to_x g turn → IsUp to_x g (send_again last full o turn)
again_goes_out last full None is h = h
again_goes_out {turn} last full (Some ahead) is h =
    let store = turn.now.outgoing in
    let poll = polls last full (left_with (after_again store) turn.now) in
    setting_keeps (info_sent poll) (info_state poll) (repeat_goes_out poll ahead (after_again store).again
    (slice_get store.packets ahead) refl (first_is_sent store is) h)

-- a packet that was not sent goes out, if it may
new_goes_out :
    {to_x : List Tagged} {g : Progress} {turn : Turn} (last full : Bool) → may_send_info turn.now ≡ true
    → IsUp to_x g turn → IsUp to_x g (send_next last full turn)
new_goes_out {to_x} {g} {turn} last full may h =
    let m = turn.now in
    let q = m.outgoing in
    let window = m.incoming.window in
    let parts = and_parts (not (m.control.busy || m.control.poll)) (may_send (sending_window m) q) may in
    let less = ltb-true q.vs (q.va + min (sending_window m) (length q.packets)) parts.1 in
    let low : q.vs < q.va + min window (length q.packets) = omega (arith, less) in
    let left : Outgoing = record q { vs = q.vs + 1; top = max q.top (q.vs + 1) } in
    let is : after_next window q ≡ left =
    cond-true (may_send window q) left q (lt-ltb q.vs (q.va + min window (length q.packets)) low) in
    let poll = polls last full (left_with left m) in
    subst (λ o. IsUp to_x g (send_info last full (q.vs - q.va) o turn)) (sym is)
    (setting_keeps (info_sent poll) (info_state poll)
    (next_goes_out poll (slice_get q.packets (q.vs - q.va)) refl low h))

-- ---- S frames

-- SREJ asks for a number that is missing
srej_goes_out :
    {to_x : List Tagged} {g : Progress} {turn : Turn} (ahead : ℕ) → next_missing turn.now.incoming ≡ Some ahead
    → IsUp to_x g turn
    → IsUp to_x g (sending (SuperSent SrejFrame false (turn.now.incoming.vr + ahead) false) turn)
srej_goes_out {to_x} {g} {turn} ahead is h =
    let m = turn.now in
    let i = m.incoming in
    let x = end_following m g.ended in
    let r = running_of m g.open_now in
    let low : IsBelowOne i.vr ahead i.places = missing_before i.vr i.places is in
    let frame = sent_in i.modulus (SuperSent SrejFrame false (i.vr + ahead) false) in
    record {
      state = h.state;
      so_far = h.so_far;
      fits = each_pushed _ turn.sent frame h.fits tt;
      holds = subst (λ t. UpInvariant x g.partner r to_x t)
          (sent_one g.answers (length g.ended) g.before turn.sent frame)
          (send_srej_keeps x (i.vr + ahead) low.before low.last [] low.stored (omega arith) low.below h.holds);
    }

-- which is asked for then
asked_keeps :
    {to_x : List Tagged} {g : Progress} {turn : Turn} (ahead : ℕ) → next_missing turn.now.incoming ≡ Some ahead
    → IsUp to_x g turn
    → IsUp to_x g (record turn { now = record turn.now { incoming = asked_for (Some ahead) turn.now.incoming } })
asked_keeps {to_x} {g} {turn} ahead is h =
    let m = turn.now in
    let i = m.incoming in
    record {
      state = h.state;
      so_far = record {
        told_is = h.so_far.told_is;
        params_are = h.so_far.params_are;
        sound = sound_same (fit_with_asked ahead is h.so_far.sound.fit) refl refl h.so_far.sound;
        modulus_is = h.so_far.modulus_is;
      };
      fits = h.fits;
      holds = subst (λ ss. UpInvariant (end_following m g.ended) g.partner
          (record (running_of m g.open_now) { stored = ss }) to_x
          (g.before ++ cores_sent g.answers (length g.ended) turn.sent))
          (sym (stored_with_asked i.vr ahead i.places)) h.holds;
    }

missing_goes_out :
    {to_x : List Tagged} {g : Progress} {turn : Turn} (o : Option ℕ) → next_missing turn.now.incoming ≡ o
    → IsUp to_x g turn → IsUp to_x g (send_srej o turn)
missing_goes_out None is h = h
missing_goes_out {to_x} {g} {turn} (Some ahead) is h =
    let out = sending (SuperSent SrejFrame false (turn.now.incoming.vr + ahead) false) turn in
    subst (λ o. IsUp to_x g (record out { now = record out.now { incoming = asked_for o out.now.incoming } })) (sym is)
    (asked_keeps ahead is (srej_goes_out ahead is h))

-- ---- polls

-- the I frame V(A), if it was sent: its packet is the first that waits
first_polled : (b : Bool) (o : Option Packet) {p : Packet} → (if b then short_packet o else None) ≡ Some p
    → (b ≡ true) × (o ≡ Some p)
first_polled true None is = absurd (subst (λ t. IfSome t (λ q. ⊥)) is tt)
first_polled true (Some q) {p} is = (refl, by (nat_le (length q.octets) most_polled) is)
  where
    by : (b : Bool) → (if b then Some q else None) ≡ Some p → Some q ≡ Some p
    by true same = same
    by false same = absurd (subst (λ t. IfSome t (λ r. ⊥)) same tt)
first_polled false o is = absurd (subst (λ t. IfSome t (λ q. ⊥)) is tt)

poll_goes_out :
    {to_x : List Tagged} {g : Progress} {turn : Turn} (o : Option Packet) → polled_packet turn.now ≡ o
    → IsUp to_x g turn → IsUp to_x g (sending (poll_frame turn.now o) turn)
poll_goes_out None is h = sending_super_keeps Rr true true (λ vr. refl) h
poll_goes_out {to_x} {g} {turn} (Some p) is h =
    let q = turn.now.outgoing in
    let both = first_polled (nat_lt q.va q.top && not turn.now.control.busy) (slice_get q.packets 0) is in
    let parts = and_parts (nat_lt q.va q.top) (not turn.now.control.busy) both.0 in
    let sent : q.va < q.top = ltb-true q.va q.top parts.0 in
    let first : q.va + 0 ≡ q.va = omega arith in
    subst (λ n. IsUp to_x g (sending (InfoSent n turn.now.incoming.vr true p) turn)) first
    (repeat_goes_out true 0 q.again (Some p) both.1 (omega (arith, sent)) h)

poll_keeps :
    {to_x : List Tagged} {g : Progress} {turn : Turn} (full : Bool) → IsUp to_x g turn → IsUp to_x g
    (send_poll full turn)
poll_keeps {turn} full h =
    setting_keeps (polling (is_some (polled_packet turn.now) && not full)) (λ c. refl)
    (poll_goes_out (polled_packet turn.now) refl h)

-- a poll that was not heard
passing_keeps :
    {to_x : List Tagged} {g : Progress} {turn : Turn} (full : Bool) → IsUp to_x g turn
    → IsUp to_x g (notice_passed full turn)
passing_keeps {to_x} {g} {turn} full h =
    let off = setting_keeps not_passed (λ c. refl) h in
    choice_keeps turn.now.control.passed (choice_keeps (turn.now.control.poll && not full)
    (choice_keeps turn.now.control.by_info (recover_with_keeps turn.now.control.rc off)
    (setting_keeps asking (λ c. refl) off)) off) h

-- ---- the first frame that applies

new_or_due :
    {to_x : List Tagged} {g : Progress} {turn : Turn} (last full may : Bool) → may_send_info turn.now ≡ may
    → IsUp to_x g turn → IsUp to_x g (if may then send_next last full turn else send_due turn)
new_or_due last full true is h = new_goes_out last full is h
new_or_due {turn} last full false is h = choice_keeps turn.now.control.due
    (setting_keeps nothing_due (λ c. refl) (sending_super_keeps Rr false false (λ vr. refl) h)) h

frame_keeps :
    {to_x : List Tagged} {g : Progress} {turn : Turn} (last full : Bool) → IsUp to_x g turn
    → IsUp to_x g (send_frame last full turn)
frame_keeps {turn} last full h =
    choice_keeps turn.now.control.rej (setting_keeps rejected (λ c. refl)
    (sending_super_keeps RejFrame false turn.now.control.answer (λ vr. refl) h))
    (choice_keeps (is_missing_some turn.now) (missing_goes_out (next_missing turn.now.incoming) refl h)
    (choice_keeps turn.now.control.answer (setting_keeps answered (λ c. refl)
    (sending_super_keeps Rr false true (λ vr. refl) h))
    (choice_keeps turn.now.control.ask (poll_keeps full h)
    (choice_keeps (is_asked_again turn.now) (again_goes_out last full (first_again turn.now.outgoing) refl h)
    (new_or_due last full (may_send_info turn.now) refl h)))))

pub seized_keeps :
    {to_x : List Tagged} {g : Progress} {turn : Turn} (last full : Bool) → IsUp to_x g turn
    → IsUp to_x g (seize_in Up last full turn)
seized_keeps last full h = frame_keeps last full (passing_keeps full h)
