-- What an event of a link that is up ends with: if it is time, the link is released.
use Rattle.link_world.proofs.Common.{◌≡◌, ℕ, ◌+◌, Bool, true, false, ◌&&◌, ◌==◌, if◌then◌else◌, List, [], ◌∷◌, ◌++◌}
use Rattle.link_world.proofs.Common.{length, map, inl, inr, refl, sym, ap, ◌∙◌, subst, arith, append_assoc, fold}
use Rattle.link_world.proofs.Common.{and_parts, eqb-true, map-append, LinkState, Machine, Sent, SentIn}
use Rattle.link_world.proofs.Common.{sent_in, sent_kind, InfoSent, SuperSent, SetupSent, Turn, close, SetUp, opened}
use Rattle.link_world.proofs.Common.{is_answer, set_up_of, RecordedEnd, tagged, waiting_in, Happening, told_of, mate_of}
use Rattle.link_world.proofs.Common.{opening, noting, hears_ask, Told, settled, settle_in, XidSent}
use Rattle.std.specs.List.{AllByRecursion as Each}
use Rattle.std.proofs.lemmas.Bool.{and_right}
use Rattle.std.proofs.lemmas.List.{nil_from_length}
use Rattle.ax25_frames.specs.declared.frame.U.TheVariants.{Disc as DiscFrame}
use Rattle.selective_reject.specs.Outgoing.{Outgoing}
use Rattle.link_machine.specs.declared.control.Control.{Control}
use Rattle.link_machine.specs.Acts.{release}
use Rattle.link_world.proofs.law.reduced.Core.{End, Tagged as CoreTagged, between}
use Rattle.link_world.proofs.law.reduced.Core.Kind.{Disc}
use Rattle.link_world.proofs.law.reduced.Core.Standing.{Releasing}
use Rattle.link_world.proofs.law.reduced.CoreMoves.{now, of_end, asks, answers, ask_of}
use Rattle.link_world.proofs.law.reduced.CoreOf.{core_sent, cores_sent, kind_of, end_following, up_end}
use Rattle.link_world.proofs.law.invariant.Exchanges.{asks_append}
use Rattle.link_world.proofs.law.moves.Standings.{leave_to_releasing_keeps}
use Rattle.link_world.proofs.law.moves.Kept.{release_keeps}
use Rattle.link_world.proofs.law.invariant.Invariant.{Invariant}
use Rattle.link_world.proofs.law.up.Progress.{IsUp, Progress, IsNumberedSent, SentFits}
use Rattle.link_world.proofs.law.showing.Shown.{core_set_up, core_set_ups, core_flight, IsWritten, AnswersAsSent}
use Rattle.link_world.proofs.law.showing.Shown.{kind_by}
use Rattle.link_world.proofs.law.showing.Shown.Shown.{ShownUp}
use Rattle.link_machine.specs.declared.state.LinkState.TheVariants.{Releasing as ReleasingState}
use Rattle.link_world.proofs.law.showing.Outcome.{Outcome, IsAlone, Keeps, IsSentAs, end_with, outcome_after}
use Rattle.link_world.proofs.law.showing.Outcome.{sent_after}
use Rattle.link_world.proofs.law.down.Ends.{EndsDown, down_end, down_keeps, setup_sent}

answers_by :
    (on_ask : Bool) (modulus : ℕ) (s : Sent) → IsNumberedSent s
    → AnswersAsSent (on_ask && is_answer (sent_kind modulus s)) s
answers_by on_ask modulus (InfoSent number nr poll packet) fits = and_right on_ask false refl
answers_by on_ask modulus (SuperSent which command nr flag) fits = and_right on_ask false refl
answers_by on_ask modulus (SetupSent which flag) fits = absurd fits
answers_by on_ask modulus (XidSent command flag own) fits = absurd fits

-- I and S frames are written as they are sent
pub numbered_written :
    (on_ask : Bool) (r : RecordedEnd) (sent : List SentIn) → Each (SentFits on_ask) sent
    → Each IsWritten (map (tagged on_ask r) sent)
numbered_written on_ask r [] fits = tt
numbered_written on_ask r (s ∷ sent) fits =
    let here : IsWritten (tagged on_ask r s) = record {
      kind = refl;
      answers = answers_by on_ask s.modulus s.frame fits.0;
    } in
    (here, numbered_written on_ask r sent fits.1)

numbered_tag :
    (modulus n : ℕ) (state : LinkState) (s : Sent) → IsNumberedSent s
    → set_up_of (sent_kind modulus s) state (n + 1) ≡ n
numbered_tag modulus n state (InfoSent number nr poll packet) fits = omega arith
numbered_tag modulus n state (SuperSent which command nr flag) fits = omega arith
numbered_tag modulus n state (SetupSent which flag) fits = absurd fits
numbered_tag modulus n state (XidSent command flag own) fits = absurd fits

-- they have the tag of the last set-up, whether it has ended or not
pub flight_of_numbered :
    (on_ask : Bool) (r : RecordedEnd) (n : ℕ) (sent : List SentIn) → length r.set_ups ≡ n + 1
    → Each (SentFits on_ask) sent → core_flight (map (tagged on_ask r) sent) ≡ cores_sent on_ask n sent
flight_of_numbered on_ask r n [] count fits = refl
flight_of_numbered on_ask r n (s ∷ sent) count fits =
    let state = r.machine.control.state in
    let tag =
    ap (set_up_of (sent_kind s.modulus s.frame) state) count ∙ numbered_tag s.modulus n state s.frame fits.0 in
    ap (λ t. record {
      tag = t;
      kind = kind_of (on_ask && is_answer (sent_kind s.modulus s.frame)) s.modulus s.frame;
    } ∷ core_flight (map (tagged on_ask r) sent)) tag
    ∙ ap (λ k. record { tag = n; kind = k } ∷ core_flight (map (tagged on_ask r) sent))
    (kind_by on_ask s.modulus s.frame)
    ∙ ap (λ t. core_sent on_ask n s ∷ t) (flight_of_numbered on_ask r n sent count fits.1)

numbered_ask : (on_ask : Bool) (modulus : ℕ) (s : Sent) → IsNumberedSent s → ask_of (kind_of on_ask modulus s) ≡ 0
numbered_ask on_ask modulus (InfoSent number nr poll packet) fits = refl
numbered_ask on_ask modulus (SuperSent which command nr flag) fits = refl
numbered_ask on_ask modulus (SetupSent which flag) fits = absurd fits
numbered_ask on_ask modulus (XidSent command flag own) fits = absurd fits

-- they ask nothing
pub numbered_asks :
    (on_ask : Bool) (n : ℕ) (sent : List SentIn) → Each (SentFits on_ask) sent → asks (cores_sent on_ask n sent) ≡ 0
numbered_asks on_ask n [] fits = refl
numbered_asks on_ask n (s ∷ sent) fits =
    let here = numbered_ask on_ask s.modulus s.frame fits.0 in
    let rest = numbered_asks on_ask n sent fits.1 in
    omega arith

pub length_of_last : (qs : List SetUp) (c : SetUp) → length (qs ++ c ∷ []) ≡ length (core_set_ups qs) + 1
length_of_last [] c = refl
length_of_last (q ∷ qs) c = let rest = length_of_last qs c in omega arith

-- so they are sent
pub numbered_sent :
    {on_ask : Bool} {r : RecordedEnd} (n : ℕ) {sent : List SentIn} → length r.set_ups ≡ n + 1
    → Each (SentFits on_ask) sent → IsSentAs on_ask r sent (cores_sent on_ask n sent)
numbered_sent {on_ask} {r} n {sent} count fits = record {
  flight = flight_of_numbered on_ask r n sent count fits;
  written = numbered_written on_ask r sent fits;
}

-- DISC, in the modulus that the link has
abbrev pub disc_in : Machine → SentIn
disc_in m = sent_in m.incoming.modulus (SetupSent DiscFrame true)

pub all_of_last : (qs : List SetUp) (c : SetUp) → core_set_ups (qs ++ c ∷ []) ≡ core_set_ups qs ++ core_set_up c ∷ []
all_of_last qs c = map-append core_set_up qs (c ∷ [])

-- the progress of an event of an end: what was told so far, and the modulus
abbrev pub progress_in :
    (r : RecordedEnd) (y : End) (to_y : List CoreTagged) (ended : List SetUp) (last : SetUp) → List Told → ℕ
    → Progress
progress_in r y to_y ended last told modulus = record {
  partner = y;
  before = to_y;
  ended = core_set_ups ended;
  open_now = core_set_up last;
  answers = false;
  told = told;
  params = r.machine.params;
  modulus = modulus;
}

-- An event that leaves an end up or releases it: it hears no SABM or DISC, and what was told makes these set-ups.
pub record EndsUp (h : Happening) (r : RecordedEnd) (ended : List SetUp) (last : SetUp) (told : List Told)
    (modulus : ℕ) : Type 0 where
  pub no_ask : hears_ask h ≡ false
  pub set_ups : fold (told_of (opened (mate_of h) modulus (noting h r).waiting)) (noting h r).set_ups told
      ≡ ended ++ last ∷ []

set_ups_after :
    {h : Happening} {r : RecordedEnd} {y : End} {to_x to_y : List CoreTagged} {ended : List SetUp} {last : SetUp}
    {told : List Told} {modulus : ℕ} {turn : Turn} → EndsUp h r ended last told modulus
    → IsUp to_x (progress_in r y to_y ended last told modulus) turn
    → fold (told_of (opening h (noting h r) turn)) (noting h r).set_ups turn.told ≡ ended ++ last ∷ []
set_ups_after {h} {r} {modulus} {turn} e up =
    let n = noting h r in
    ap (λ k. fold (told_of (opened (mate_of h) k n.waiting)) n.set_ups turn.told) up.so_far.modulus_is
    ∙ ap (fold (told_of (opened (mate_of h) modulus n.waiting)) n.set_ups) up.so_far.told_is ∙ e.set_ups

-- it stays up
pub stays_up :
    {h : Happening} {r : RecordedEnd} {y : End} {to_x to_y : List CoreTagged} {ended : List SetUp} {last : SetUp}
    {told : List Told} {modulus : ℕ} {turn : Turn} → EndsUp h r ended last told modulus
    → IsUp to_x (progress_in r y to_y ended last told modulus) turn → Keeps h r y to_x to_y turn
stays_up {h} {r} {y} {to_x} {to_y} {ended} {last} {turn} e up =
    let after = end_with turn.now (ended ++ last ∷ []) [] in
    let sent : IsSentAs false after turn.sent (cores_sent false (length (core_set_ups ended)) turn.sent) =
    numbered_sent (length (core_set_ups ended)) (length_of_last ended last) up.fits in
    let outcome : Outcome y to_x to_y false r.machine.params after turn.sent = record {
      end_is = up_end turn.now (core_set_ups ended) (core_set_up last);
      shown = ShownUp ended last refl up.state refl;
      params = up.so_far.params_are;
      sound = up.so_far.sound;
      holds = subst (λ fs. Invariant (between (up_end turn.now (core_set_ups ended) (core_set_up last)) y to_x
          (to_y ++ fs))) (sym sent.flight) up.holds;
      written = sent.written;
    } in
    record {
      outcome = λ alone. outcome_after h r turn (set_ups_after e up)
          (ap (λ s. waiting_in s (noting h r).waiting) up.state)
          (subst (λ b. Outcome y to_x to_y b r.machine.params after turn.sent) (sym e.no_ask) outcome);
    }

not_alone :
    (to_x to_y : List CoreTagged) (modulus : ℕ) (sent : List SentIn)
    → IsAlone to_x to_y (sent ++ sent_in modulus (SetupSent DiscFrame true) ∷ []) → asks to_y + answers to_x ≡ 0
not_alone to_x to_y modulus sent (inl none) = absurd (some (ap asks (map-append (core_sent false 0) sent (disc ∷ []))
    ∙ asks_append (cores_sent false 0 sent) (core_sent false 0 disc ∷ [])))
  where
    disc : SentIn
    disc = sent_in modulus (SetupSent DiscFrame true)

    some : asks (cores_sent false 0 (sent ++ disc ∷ [])) ≡ asks (cores_sent false 0 sent) + 1 → ⊥
    some e = omega arith
not_alone to_x to_y modulus sent (inr quiet) = quiet

-- what waits is no more, and the conditions may change
abbrev pub leaving : Control → Outgoing → Turn → Turn
leaving c o turn = record turn { now = record turn.now { control = c; outgoing = o } }

-- it is released, and no packet waits
pub releases :
    {h : Happening} {r : RecordedEnd} {y : End} {to_x to_y : List CoreTagged} {ended : List SetUp} {last : SetUp}
    {told : List Told} {modulus : ℕ} {turn : Turn} (c : Control) (o : Outgoing) → EndsUp h r ended last told modulus
    → o.packets ≡ [] → IsUp to_x (progress_in r y to_y ended last told modulus) turn
    → Keeps h r y to_x to_y (release (leaving c o turn))
releases {h} {r} {y} {to_x} {to_y} {ended} {last} {turn} c o e none up =
    let t = release (leaving c o turn) in
    let m = turn.now in
    let all : List SetUp = ended ++ last ∷ [] in
    let n : ℕ = length (core_set_ups ended) in
    let x = down_end ReleasingState t.now all in
    let after = end_with t.now all t.now.outgoing.packets in
    let frames = cores_sent false n turn.sent ++ of_end x Disc ∷ [] in
    let sent : IsSentAs false after t.sent frames = sent_after turn.sent (disc_in m ∷ [])
    (numbered_sent (length (core_set_ups ended)) (length_of_last ended last) up.fits)
    (setup_sent false after m.incoming.modulus DiscFrame true none refl) in
    let ends : EndsDown h r t ReleasingState all frames = record {
      state_is = refl;
      down = none;
      params = up.so_far.params_are;
      sound = up.so_far.sound;
      set_ups = set_ups_after e up;
      waiting = sym none;
      sent = subst (λ b. IsSentAs b after t.sent frames) (sym e.no_ask) sent;
    } in
    down_keeps ends (λ alone.
    let under_way = to_y ++ cores_sent false n turn.sent in
    let quiet = not_alone to_x to_y m.incoming.modulus turn.sent alone in
    let asked : asks under_way ≡ asks to_y = asks_append to_y (cores_sent false n turn.sent)
    ∙ ap (λ a. asks to_y + a) (numbered_asks false n turn.sent up.fits) ∙ omega arith in
    let left : Invariant (between x y to_x under_way) =
    subst (λ qs. Invariant (between (now Releasing (end_following m qs)) y to_x under_way))
    (sym (all_of_last ended last)) (leave_to_releasing_keeps up.holds) in
    subst (λ fs. Invariant (between x y to_x fs))
    (append_assoc to_y (cores_sent false n turn.sent) (of_end x Disc ∷ [])) (release_keeps (omega arith) left))

-- release, if it is time
close_keeps :
    {h : Happening} {r : RecordedEnd} {y : End} {to_x to_y : List CoreTagged} {ended : List SetUp} {last : SetUp}
    {told : List Told} {modulus : ℕ} {turn : Turn} → EndsUp h r ended last told modulus
    → IsUp to_x (progress_in r y to_y ended last told modulus) turn → Keeps h r y to_x to_y (close turn)
close_keeps {h} {r} {y} {to_x} {to_y} {turn} e up =
    go (turn.now.control.quit && (length turn.now.outgoing.packets == 0)) refl
  where
    go : (b : Bool) → (turn.now.control.quit && (length turn.now.outgoing.packets == 0)) ≡ b
        → Keeps h r y to_x to_y (if b then release turn else turn)
    go true is =
        let parts = and_parts turn.now.control.quit (length turn.now.outgoing.packets == 0) is in
        releases turn.now.control turn.now.outgoing e (nil_from_length turn.now.outgoing.packets
        (eqb-true (length turn.now.outgoing.packets) 0 parts.1)) up
    go false is = stays_up e up

-- an event of a link that is up ends so
pub up_ends :
    {h : Happening} {r : RecordedEnd} {y : End} {to_x to_y : List CoreTagged} {ended : List SetUp} {last : SetUp}
    {told : List Told} {modulus : ℕ} {turn : Turn} → EndsUp h r ended last told modulus
    → IsUp to_x (progress_in r y to_y ended last told modulus) turn → Keeps h r y to_x to_y (settled turn)
up_ends {h} {r} {y} {to_x} {to_y} {turn} e up =
    subst (Keeps h r y to_x to_y) (sym (ap (λ s. settle_in s turn) up.state)) (close_keeps e up)
