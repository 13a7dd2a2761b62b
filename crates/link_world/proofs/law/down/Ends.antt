-- An end that is not up: it is idle, calls, or releases the link. What is common to the events of the three.
use Rattle.link_world.proofs.Common.{◌≡◌, ℕ, Bool, true, false, ◌&&◌, List, [], ◌∷◌, ◌++◌, length, inl, refl, sym, ap}
use Rattle.link_world.proofs.Common.{◌∙◌, subst, append-nil, fold, ⊤, U, Packet, Control, LinkState, Machine, SentIn}
use Rattle.link_world.proofs.Common.{sent_in, sent_kind, SetupSent, Turn, begin, answer_dm, end_call, settled}
use Rattle.link_world.proofs.Common.{settle_in, SetUp, Tagged, is_answer, RecordedEnd, Happening, waiting_in, told_of}
use Rattle.link_world.proofs.Common.{opening, noting, hearing, hears_ask, Hears, LinkParameters, XidSent}
use Rattle.ax25_frames.specs.declared.frame.U.TheVariants.{Dm as DmFrame}
use Rattle.link_machine.specs.declared.state.LinkState.TheVariants.{Idle as IdleState, Calling as CallingState}
use Rattle.link_machine.specs.declared.state.LinkState.TheVariants.{Up as UpState, Releasing as ReleasingState}
use Rattle.link_machine.specs.declared.acts.Why.{Why}
use Rattle.link_world.specs.Flight.{set_up_now}
use Rattle.link_world.proofs.law.reduced.Core.{End, SetUp as CoreSetUp, Standing, Tagged as CoreTagged, Kind, between}
use Rattle.link_world.proofs.law.reduced.Core.{with_running}
use Rattle.link_world.proofs.law.reduced.Core.Kind.{Dm}
use Rattle.link_world.proofs.law.reduced.Core.Standing.{Idle, Calling, Releasing}
use Rattle.link_world.proofs.law.reduced.CoreMoves.{now, of_end, setup_to, ask_of}
use Rattle.link_world.proofs.law.reduced.CoreOf.{kind_of, setup_of, end_following}
use Rattle.link_world.proofs.law.invariant.Invariant.{Invariant}
use Rattle.link_world.proofs.law.moves.Losing.{lose_keeps}
use Rattle.link_world.proofs.law.moves.Kept.{send_dm_keeps}
use Rattle.link_world.proofs.law.moves.Standings.{leave_to_idle_keeps}
use Rattle.link_world.proofs.law.moves.Declining.{decline_by_dm_keeps}
use Rattle.link_world.proofs.law.showing.PlacesFit.{IsSound, sound_new}
use Rattle.link_world.proofs.law.showing.Shown.{core_set_ups, core_tagged, length_core, Shown, AnswersAsSent, kind_by}
use Rattle.link_world.proofs.law.showing.Shown.Shown.{ShownIdle, ShownCalling, ShownReleasing}
use Rattle.link_world.proofs.law.showing.Outcome.{IsAlone, Keeps, IsSentAs, end_with, none_sent, outcome_after}

abbrev pub standing_of : LinkState → List Packet → Standing
standing_of IdleState packets = Idle
standing_of CallingState packets = Calling packets
standing_of UpState packets = Idle
standing_of ReleasingState packets = Releasing

-- an end that is not up, which keeps packets only while it calls
abbrev pub IsDown : LinkState → List Packet → Type 0
IsDown IdleState packets = packets ≡ []
IsDown CallingState packets = ⊤
IsDown UpState packets = ⊥
IsDown ReleasingState packets = packets ≡ []

-- as the law reads it
abbrev pub down_end : LinkState → Machine → List SetUp → End
down_end state m qs = now (standing_of state m.outgoing.packets) (end_following m (core_set_ups qs))

-- such an end before an event, with its partner and what is under way to each
pub record DownEnd (state : LinkState) (r : RecordedEnd) (y : End) (to_x to_y : List CoreTagged) : Type 0 where
  pub state_is : r.machine.control.state ≡ state
  pub down : IsDown state r.machine.outgoing.packets
  pub waiting : r.waiting ≡ r.machine.outgoing.packets
  pub sound : IsSound r.machine.params r.machine.incoming
  pub holds : Invariant (between (down_end state r.machine r.set_ups) y to_x to_y)

down_tag : (state : LinkState) (packets : List Packet) (n : ℕ) → IsDown state packets → set_up_now state n ≡ n
down_tag IdleState packets n down = refl
down_tag CallingState packets n down = refl
down_tag UpState packets n down = absurd down
down_tag ReleasingState packets n down = refl

-- one frame without numbers
pub setup_sent :
    (on_ask : Bool) (r : RecordedEnd) (modulus : ℕ) (which : U) (flag : Bool)
    → IsDown r.machine.control.state r.machine.outgoing.packets
    → AnswersAsSent (on_ask && is_answer (sent_kind modulus (SetupSent which flag))) (SetupSent which flag)
    → IsSentAs on_ask r (sent_in modulus (SetupSent which flag) ∷ [])
    (record { tag = length (core_set_ups r.set_ups); kind = setup_of on_ask which } ∷ [])
setup_sent on_ask r modulus which flag down answers =
    let state = r.machine.control.state in
    let tag : set_up_now state (length r.set_ups) ≡ length (core_set_ups r.set_ups) =
    down_tag state r.machine.outgoing.packets (length r.set_ups) down ∙ sym (length_core r.set_ups) in
    record {
      flight = ap (λ t. record {
        tag = t;
        kind = kind_of (on_ask && is_answer (sent_kind modulus (SetupSent which flag))) modulus (SetupSent which flag);
      } ∷ []) tag
          ∙ ap (λ k. record { tag = length (core_set_ups r.set_ups); kind = k } ∷ [])
          (kind_by on_ask modulus (SetupSent which flag));
      written = (record { kind = refl; answers = answers }, tt);
    }

-- XID, which says nothing here
pub xid_sent :
    (r : RecordedEnd) (modulus : ℕ) (command flag : Bool) (own : LinkParameters)
    → IsDown r.machine.control.state r.machine.outgoing.packets
    → IsSentAs false r (sent_in modulus (XidSent command flag own) ∷ [])
    (record { tag = length (core_set_ups r.set_ups); kind = Dm false } ∷ [])
xid_sent r modulus command flag own down =
    let state = r.machine.control.state in
    let tag : set_up_now state (length r.set_ups) ≡ length (core_set_ups r.set_ups) =
    down_tag state r.machine.outgoing.packets (length r.set_ups) down ∙ sym (length_core r.set_ups) in
    record {
      flight = ap (λ t. record { tag = t; kind = Dm false } ∷ []) tag;
      written = (record { kind = refl; answers = refl }, tt);
    }

-- An event after which an end is not up: its state and set-ups then, and the frames that it sends.
pub record EndsDown (h : Happening) (r : RecordedEnd) (turn : Turn) (state : LinkState) (qs : List SetUp)
    (frames : List CoreTagged) : Type 0 where
  pub state_is : turn.now.control.state ≡ state
  pub down : IsDown state turn.now.outgoing.packets
  pub params : turn.now.params ≡ r.machine.params
  pub sound : IsSound r.machine.params turn.now.incoming
  pub set_ups : fold (told_of (opening h (noting h r) turn)) (noting h r).set_ups turn.told ≡ qs
  pub waiting : waiting_in state (noting h r).waiting ≡ turn.now.outgoing.packets
  pub sent : IsSentAs (hears_ask h) (end_with turn.now qs turn.now.outgoing.packets) turn.sent frames

down_shown :
    (state : LinkState) {m : Machine} {qs : List SetUp} → m.control.state ≡ state → IsDown state m.outgoing.packets
    → Shown (end_with m qs m.outgoing.packets) (down_end state m qs)
down_shown IdleState is down = ShownIdle is down down
down_shown CallingState is down = ShownCalling is refl
down_shown UpState is down = absurd down
down_shown ReleasingState is down = ShownReleasing is down down

-- what holds after such an event is enough
pub down_keeps :
    {h : Happening} {r : RecordedEnd} {turn : Turn} {state : LinkState} {qs : List SetUp} {frames : List CoreTagged}
    {y : End} {to_x to_y : List CoreTagged} → EndsDown h r turn state qs frames
    → (IsAlone to_x to_y turn.sent → Invariant (between (down_end state turn.now qs) y to_x (to_y ++ frames)))
    → Keeps h r y to_x to_y turn
down_keeps {h} {r} {turn} {state} {qs} {y} {to_x} {to_y} e inv = record {
  outcome = λ alone. outcome_after h r turn e.set_ups
      (ap (λ s. waiting_in s (noting h r).waiting) e.state_is ∙ e.waiting) (record {
        end_is = down_end state turn.now qs;
        shown = down_shown state e.state_is e.down;
        params = e.params;
        sound = e.sound;
        holds = subst (λ fs. Invariant (between (down_end state turn.now qs) y to_x (to_y ++ fs))) (sym e.sent.flight)
            (inv alone);
        written = e.sent.written;
      });
}

settle_down : (state : LinkState) (packets : List Packet) (turn : Turn) → IsDown state packets
    → settle_in state turn ≡ turn
settle_down IdleState packets turn down = refl
settle_down CallingState packets turn down = refl
settle_down UpState packets turn down = absurd down
settle_down ReleasingState packets turn down = refl

waits_down :
    (state : LinkState) {packets waiting : List Packet} → IsDown state packets → waiting ≡ packets
    → waiting_in state waiting ≡ packets
waits_down IdleState down is = sym down
waits_down CallingState down is = is
waits_down UpState down is = absurd down
waits_down ReleasingState down is = sym down

-- only the conditions, the retries and the timers change, and perhaps it sends
abbrev pub goes_on : Machine → Control → List SentIn → Turn
goes_on m c sent = record (begin m) { now = record m { control = c }; sent = sent }

stays_down :
    {h : Happening} {state : LinkState} {r : RecordedEnd} {y : End} {to_x to_y frames : List CoreTagged} {c : Control}
    {sent : List SentIn} → DownEnd state r y to_x to_y → c.state ≡ state → noting h r ≡ r
    → IsSentAs (hears_ask h) (end_with (record r.machine { control = c }) r.set_ups r.machine.outgoing.packets) sent
    frames → EndsDown h r (goes_on r.machine c sent) state r.set_ups frames
stays_down {state} d is noted sent_as = record {
  state_is = is;
  down = d.down;
  params = refl;
  sound = d.sound;
  set_ups = ap (λ (n : RecordedEnd). n.set_ups) noted;
  waiting = ap (λ (n : RecordedEnd). waiting_in state n.waiting) noted ∙ waits_down state d.down d.waiting;
  sent = sent_as;
}

-- it stays as it is, and may send
pub down_stays :
    {h : Happening} {state : LinkState} {r : RecordedEnd} {y : End} {was to_x to_y : List CoreTagged} (c : Control)
    (sent : List SentIn) {frames : List CoreTagged} → DownEnd state r y was to_y → c.state ≡ state → noting h r ≡ r
    → IsSentAs (hears_ask h) (end_with (record r.machine { control = c }) r.set_ups r.machine.outgoing.packets) sent
    frames → (IsAlone to_x to_y sent → Invariant (between (down_end state r.machine r.set_ups) y to_x (to_y ++ frames)))
    → Keeps h r y to_x to_y (settled (goes_on r.machine c sent))
down_stays {h} {state} {r} {y} {to_x} {to_y} c sent d is noted sent_as inv =
    let turn = goes_on r.machine c sent in
    subst (Keeps h r y to_x to_y)
    (sym (ap (λ s. settle_in s turn) is ∙ settle_down state r.machine.outgoing.packets turn d.down))
    (down_keeps (stays_down d is noted sent_as) inv)

-- nothing happens to it
pub down_refuses :
    {h : Happening} {state : LinkState} {r : RecordedEnd} {y : End} {to_x to_y : List CoreTagged}
    → DownEnd state r y to_x to_y → noting h r ≡ r → Keeps h r y to_x to_y (begin r.machine)
down_refuses {state} {r} {y} {to_x} {to_y} d noted = down_keeps (stays_down d d.state_is noted none_sent)
    (λ alone. subst (λ fs. Invariant (between (down_end state r.machine r.set_ups) y to_x fs)) (sym (append-nil to_y))
    d.holds)

-- it sends nothing
pub down_silent :
    {h : Happening} {state : LinkState} {r : RecordedEnd} {y : End} {was to_x to_y : List CoreTagged} (c : Control)
    → DownEnd state r y was to_y → c.state ≡ state → noting h r ≡ r
    → Invariant (between (down_end state r.machine r.set_ups) y to_x to_y)
    → Keeps h r y to_x to_y (settled (goes_on r.machine c []))
down_silent {state} {r} {y} {to_x} {to_y} c d is noted inv = down_stays c [] d is noted none_sent
    (λ alone. subst (λ fs. Invariant (between (down_end state r.machine r.set_ups) y to_x fs))
    (sym (append-nil to_y)) inv)

hearing_down : (state : LinkState) (packets : List Packet) (f : Tagged) (r : RecordedEnd) → IsDown state packets
    → hearing state f r ≡ r
hearing_down IdleState packets f r down = refl
hearing_down CallingState packets f r down = refl
hearing_down UpState packets f r down = absurd down
hearing_down ReleasingState packets f r down = refl

-- what it hears leaves its record as it is
pub down_noted :
    {state : LinkState} {r : RecordedEnd} {y : End} {to_x to_y : List CoreTagged} (f : Tagged)
    → DownEnd state r y to_x to_y → noting (Hears f) r ≡ r
down_noted {state} {r} f d = ap (λ s. hearing s f r) d.state_is
    ∙ hearing_down state r.machine.outgoing.packets f r d.down

-- a frame is passed over
pub down_passes :
    {state : LinkState} {r : RecordedEnd} {y : End} {f : Tagged} {rest to_y : List CoreTagged}
    → DownEnd state r y (core_tagged f ∷ rest) to_y → Keeps (Hears f) r y rest to_y (settled (begin r.machine))
down_passes {r} {f} {rest} d =
    down_silent r.machine.control d d.state_is (down_noted f d) (lose_keeps [] (core_tagged f) rest d.holds)

-- a UA or DM goes out on what is heard
pub down_answers :
    {state : LinkState} {r : RecordedEnd} {y : End} {f : Tagged} {was rest to_y : List CoreTagged} (which : U)
    (flag : Bool) {kind : Kind} → DownEnd state r y was to_y
    → AnswersAsSent (hears_ask (Hears f) && is_answer (sent_kind r.machine.incoming.modulus (SetupSent which flag)))
    (SetupSent which flag) → setup_of (hears_ask (Hears f)) which ≡ kind
    → Invariant (between (down_end state r.machine r.set_ups) y rest
    (to_y ++ of_end (down_end state r.machine r.set_ups) kind ∷ []))
    → Keeps (Hears f) r y rest to_y (settled (goes_on r.machine r.machine.control
    (sent_in r.machine.incoming.modulus (SetupSent which flag) ∷ [])))
down_answers {state} {r} {y} {f} {was} {rest} {to_y} which flag d answers is inv =
    let own = r.machine.incoming.modulus in
    let x = down_end state r.machine r.set_ups in
    let e = end_with r.machine r.set_ups r.machine.outgoing.packets in
    let down = subst (λ s. IsDown s r.machine.outgoing.packets) (sym d.state_is) d.down in
    down_stays r.machine.control (sent_in own (SetupSent which flag) ∷ []) d d.state_is (down_noted f d)
    (setup_sent (hears_ask (Hears f)) e own which flag down answers)
    (λ alone. subst (λ k. Invariant (between x y rest (to_y ++ of_end x k ∷ []))) (sym is) inv)

-- a frame is passed over, and a DM goes out that answers no SABM or DISC
pub down_dm :
    {state : LinkState} {r : RecordedEnd} {y : End} {f : Tagged} {rest to_y : List CoreTagged} (flag : Bool)
    → DownEnd state r y (core_tagged f ∷ rest) to_y → hears_ask (Hears f) ≡ false
    → Keeps (Hears f) r y rest to_y (settled (answer_dm flag (begin r.machine)))
down_dm {f} {rest} flag d no_ask =
    down_answers DmFrame flag d tt (ap Dm no_ask) (send_dm_keeps (lose_keeps [] (core_tagged f) rest d.holds))

-- a frame that asks nothing is passed over, and XID goes out
pub down_tells :
    {state : LinkState} {r : RecordedEnd} {y : End} {f : Tagged} {rest to_y : List CoreTagged} (command flag : Bool)
    (own : LinkParameters) → DownEnd state r y (core_tagged f ∷ rest) to_y → hears_ask (Hears f) ≡ false
    → Keeps (Hears f) r y rest to_y (settled (goes_on r.machine r.machine.control
    (sent_in r.machine.incoming.modulus (XidSent command flag own) ∷ [])))
down_tells {state} {r} {y} {f} {rest} {to_y} command flag own d no_ask =
    let modulus = r.machine.incoming.modulus in
    let x = down_end state r.machine r.set_ups in
    let e = end_with r.machine r.set_ups r.machine.outgoing.packets in
    let down = subst (λ s. IsDown s r.machine.outgoing.packets) (sym d.state_is) d.down in
    let sent = sent_in modulus (XidSent command flag own) ∷ [] in
    down_stays r.machine.control sent d d.state_is (down_noted f d)
    (subst (λ b. IsSentAs b e sent (of_end x (Dm false) ∷ [])) (sym no_ask) (xid_sent e modulus command flag own down))
    (λ alone. send_dm_keeps (lose_keeps [] (core_tagged f) rest d.holds))

-- a SABM, SABME or DISC is declined
pub down_declines :
    {state : LinkState} {r : RecordedEnd} {y : End} {f : Tagged} {kind : Kind} {rest to_y : List CoreTagged}
    (flag : Bool)
    → DownEnd state r y (setup_to f.set_up kind ∷ rest) to_y → hears_ask (Hears f) ≡ true → ask_of kind ≡ 1
    → Keeps (Hears f) r y rest to_y (settled (answer_dm flag (begin r.machine)))
down_declines flag d asks one = down_answers DmFrame flag d tt (ap Dm asks) (decline_by_dm_keeps one d.holds)

set_ups_down :
    (state : LinkState) (packets : List Packet) (qs : List CoreSetUp) → with_running (standing_of state packets) qs ≡ qs
set_ups_down IdleState packets qs = refl
set_ups_down CallingState packets qs = refl
set_ups_down UpState packets qs = refl
set_ups_down ReleasingState packets qs = refl

-- its call or its release ends, and its modulus is 8
pub down_ends :
    {h : Happening} {state : LinkState} {r : RecordedEnd} {y : End} {was to_x to_y : List CoreTagged} (c : Control)
    (why : Why) → DownEnd state r y was to_y → noting h r ≡ r
    → Invariant (between (down_end state r.machine r.set_ups) y to_x to_y)
    → Keeps h r y to_x to_y (settled (end_call why (goes_on r.machine c [])))
down_ends {h} {state} {r} {y} {to_x} {to_y} c why d noted inv =
    let turn = end_call why (goes_on r.machine c []) in
    let ends : EndsDown h r turn IdleState r.set_ups [] = record {
      state_is = refl;
      down = refl;
      params = refl;
      sound = sound_new 8 (inl refl) d.sound.room;
      set_ups = ap (λ (n : RecordedEnd). n.set_ups) noted;
      waiting = refl;
      sent = none_sent;
    } in
    down_keeps ends (λ alone. subst (λ fs. Invariant (between (down_end IdleState turn.now r.set_ups) y to_x fs))
    (sym (append-nil to_y)) (subst (λ qs. Invariant (between (now Idle (end_following turn.now qs)) y to_x to_y))
    (set_ups_down state r.machine.outgoing.packets (core_set_ups r.set_ups)) (leave_to_idle_keeps 8 inv)))
