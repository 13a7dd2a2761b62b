-- A tick of an end that is up.
use Rattle.link_world.proofs.Common.{◌≡◌, ℕ, Bool, true, false, if◌then◌else◌, List, [], ◌∷◌, ◌++◌, length, Option}
use Rattle.link_world.proofs.Common.{Some, None, inl, refl, sym, ap, ◌∙◌, subst, append_assoc, fold, cond-false}
use Rattle.link_world.proofs.Common.{LinkState, Ended, mode_in, window_in, empty_incoming, sent_in, SetupSent, Turn}
use Rattle.link_world.proofs.Common.{begin}
use Rattle.link_world.proofs.Common.{setting, runs_out, lowered, with_t1, with_t3, t1_out, t3_out, tick_t1_of}
use Rattle.link_world.proofs.Common.{tick_t3_of, tick, tick_in, is_spent, settled, SetUp, opened, RecordedEnd, told_of}
use Rattle.link_world.proofs.Common.{Ticks, ◌||◌, and_parts}
use Rattle.std.proofs.Common.{not}
use Rattle.link_machine.specs.Negotiation.{ask_xid, asked_once, asks_xid, has_done, is_due, own_parameters, tm201_ticked}
use Rattle.link_world.proofs.law.up.Exchanging.{up_exchanges}
use Rattle.ax25_frames.specs.declared.frame.U.TheVariants.{Dm as DmFrame}
use Rattle.link_machine.specs.declared.state.LinkState.TheVariants.{Idle as IdleState, Up as UpState}
use Rattle.link_machine.specs.Ticks.{poll_again, silent, tick_t1, to_poll}
use Rattle.link_machine.specs.Wants.{wants}
use Rattle.link_world.proofs.law.reduced.Core.{End, Tagged as CoreTagged, between}
use Rattle.link_world.proofs.law.reduced.Core.Kind.{Dm}
use Rattle.link_world.proofs.law.reduced.Core.Standing.{Idle}
use Rattle.link_world.proofs.law.reduced.CoreMoves.{now, of_end}
use Rattle.link_world.proofs.law.reduced.CoreOf.{cores_sent, end_following}
use Rattle.link_world.proofs.law.showing.PlacesFit.{IsSound, sound_new}
use Rattle.link_world.proofs.law.moves.Standings.{leave_to_idle_keeps}
use Rattle.link_world.proofs.law.moves.Kept.{send_dm_keeps}
use Rattle.link_world.proofs.law.up.Acts.{setting_keeps, choice_keeps}
use Rattle.link_world.proofs.law.up.Progress.{IsUp, Progress}
use Rattle.link_world.proofs.law.invariant.Invariant.{Invariant}
use Rattle.link_world.proofs.law.showing.Shown.{core_set_ups}
use Rattle.link_world.proofs.law.showing.Outcome.{Keeps, end_with, sent_after}
use Rattle.link_world.proofs.law.up.Settling.{all_of_last, length_of_last, numbered_sent}
use Rattle.link_world.proofs.law.up.Events.{UpEnd, progress_of, up_begins, up_goes_on}
use Rattle.link_world.proofs.law.down.Ends.{EndsDown, down_end, down_keeps, setup_sent}

-- an act by the state, of a link that is up
by_state :
    (act : LinkState → Turn → Turn) {to_x : List CoreTagged} {g : Progress} (turn : Turn) {state : LinkState}
    → state ≡ UpState → IsUp to_x g (act UpState turn) → IsUp to_x g (act state turn)
by_state act {to_x} {g} turn is h = subst (λ s. IsUp to_x g (act s turn)) (sym is) h

t3_keeps :
    (o : Option ℕ) {to_x : List CoreTagged} {g : Progress} {turn : Turn} → IsUp to_x g turn
    → IsUp to_x g (tick_t3_of o turn)
t3_keeps None h = h
t3_keeps (Some left) {turn} h =
    let out = setting_keeps (with_t3 None) (λ c. refl) h in
    choice_keeps (runs_out left) (by_state t3_out (setting (with_t3 None) turn) h.state
    (setting_keeps silent (λ c. refl) out)) (setting_keeps (with_t3 (lowered left)) (λ c. refl) h)

-- the retries are spent: DM goes out, and the end is idle
spent_outcome :
    {r : RecordedEnd} {ended : List SetUp} {last : SetUp} (waiting : Bool) {y : End} {was to_x to_y : List CoreTagged}
    {turn : Turn} → UpEnd r ended last y was to_y → IsUp to_x (progress_of r y to_y ended last) turn
    → is_spent turn.now.control ≡ true → Keeps (Ticks waiting) r y to_x to_y (settled (poll_again turn))
spent_outcome {r} {ended} {last} waiting {y} {was} {to_x} {to_y} {turn} u h spent =
    subst (λ t. Keeps (Ticks waiting) r y to_x to_y (settled t)) (sym (ap (λ b. if b then gone else stays) spent))
    (down_keeps ends (λ alone. subst (λ fs. Invariant (between idle y to_x fs))
    (append_assoc to_y (cores_sent false n turn.sent) (of_end idle (Dm false) ∷ [])) (send_dm_keeps left)))
  where
    own : ℕ
    own = turn.now.incoming.modulus

    gone : Turn
    gone = record {
      now = record turn.now {
        control = record turn.now.control {
          state = IdleState;
          rej = false;
          answer = false;
          ask = false;
          due = false;
          poll = false;
          by_info = false;
          passed = false;
          picked = false;
          busy = false;
          tm201 = None;
          quit = false;
          t1 = None;
          t3 = None;
        };
        outgoing = Rattle.selective_reject.specs.Outgoing.empty_outgoing;
        incoming = empty_incoming 8 (window_in 8 turn.now.params) (mode_in 8 turn.now.params);
      };
      sent = turn.sent ++ sent_in own (SetupSent DmFrame false) ∷ [];
      told = turn.told ++ Ended Rattle.link_machine.specs.declared.acts.Why.TheVariants.Failed ∷ [];
    }

    stays : Turn
    stays = setting to_poll turn

    all : List SetUp
    all = ended ++ last ∷ []

    n : ℕ
    n = length (core_set_ups ended)

    idle : End
    idle = down_end IdleState gone.now all

    after : RecordedEnd
    after = end_with gone.now all []

    left : Invariant (between idle y to_x (to_y ++ cores_sent false n turn.sent))
    left = subst (λ qs. Invariant (between (now Idle (end_following gone.now qs)) y to_x
        (to_y ++ cores_sent false n turn.sent))) (sym (all_of_last ended last)) (leave_to_idle_keeps 8 h.holds)

    ends : EndsDown (Ticks waiting) r gone IdleState all (cores_sent false n turn.sent ++ of_end idle (Dm false) ∷ [])
    ends = record {
      state_is = refl;
      down = refl;
      params = h.so_far.params_are;
      sound = subst (λ q. IsSound r.machine.params (empty_incoming 8 (window_in 8 q) (mode_in 8 q)))
          (sym h.so_far.params_are)
          (sound_new 8 (inl refl) u.sound.room);
      set_ups = ap (λ t. fold (told_of (opened 0 8 r.waiting)) r.set_ups
          (t ++ Ended Rattle.link_machine.specs.declared.acts.Why.TheVariants.Failed ∷ [])) h.so_far.told_is
          ∙ u.set_ups;
      waiting = refl;
      sent = sent_after turn.sent (sent_in own (SetupSent DmFrame false) ∷ [])
          (numbered_sent n (length_of_last ended last) h.fits) (setup_sent false after own DmFrame false refl tt);
    }

polls :
    {r : RecordedEnd} {ended : List SetUp} {last : SetUp} (waiting : Bool) {y : End} {was to_x to_y : List CoreTagged}
    {turn : Turn} → UpEnd r ended last y was to_y → IsUp to_x (progress_of r y to_y ended last) turn
    → Keeps (Ticks waiting) r y to_x to_y (settled (poll_again turn))
polls {r} waiting {y} {to_x} {to_y} {turn} u h = go (is_spent turn.now.control) refl
  where
    go : (b : Bool) → is_spent turn.now.control ≡ b → Keeps (Ticks waiting) r y to_x to_y (settled (poll_again turn))
    go true spent = spent_outcome waiting u h spent
    go false spent = subst (λ t. Keeps (Ticks waiting) r y to_x to_y (settled t))
        (sym (cond-false _ _ (setting to_poll turn) spent))
        (up_goes_on u refl refl (setting_keeps to_poll (λ c. refl) h))

t1_ends :
    (o : Option ℕ) (still : Bool) {r : RecordedEnd} {ended : List SetUp} {last : SetUp} (waiting : Bool) {y : End}
    {was to_x to_y : List CoreTagged} {turn : Turn} → UpEnd r ended last y was to_y
    → IsUp to_x (progress_of r y to_y ended last) turn
    → Keeps (Ticks waiting) r y to_x to_y (settled (tick_t1_of o still turn))
t1_ends None still waiting {turn} u h = up_goes_on u refl refl (t3_keeps turn.now.control.t3 h)
t1_ends (Some left) true waiting u h = up_goes_on u refl refl h
t1_ends (Some left) false {r} waiting {y} {to_x} {to_y} {turn} u h = go (runs_out left)
  where
    out : Turn
    out = setting (with_t1 None) turn

    go : (b : Bool) → Keeps (Ticks waiting) r y to_x to_y
        (settled (if b then t1_out turn.now.control.state out else setting (with_t1 (lowered left)) turn))
    go true = subst (λ s. Keeps (Ticks waiting) r y to_x to_y (settled (t1_out s out))) (sym h.state)
        (polls waiting u (setting_keeps (with_t1 None) (λ c. refl) h))
    go false = up_goes_on u refl refl (setting_keeps (with_t1 (lowered left)) (λ c. refl) h)

-- a tick of an end that is up
pub up_ticks :
    {r : RecordedEnd} {ended : List SetUp} {last : SetUp} (waiting : Bool) {y : End} {to_x to_y : List CoreTagged}
    → UpEnd r ended last y to_x to_y → Keeps (Ticks waiting) r y to_x to_y (settled (tick waiting (begin r.machine)))
up_ticks {r} waiting {y} {to_x} {to_y} u =
    subst (λ s. Keeps (Ticks waiting) r y to_x to_y (settled (tick_in s waiting (begin r.machine)))) (sym u.state)
    (go (asks_xid waiting r.machine) refl)
  where
    rests : (b : Bool) → not b ≡ true → b ≡ false
    rests true e = sym e
    rests false e = refl

    go : (b : Bool) → asks_xid waiting r.machine ≡ b
        → Keeps (Ticks waiting) r y to_x to_y (settled (if b then ask_xid (begin r.machine)
        else tick_t1 waiting (setting (tm201_ticked waiting) (begin r.machine))))
    go true asks =
        let parts = and_parts (is_due waiting r.machine.control) (not (has_done r.machine)) asks in
        up_exchanges (asked_once r.machine.control) true true
        (own_parameters r.machine) u refl refl u.state (rests (has_done r.machine) parts.1)
        u.holds
    go false silent =
        let ticked = setting (tm201_ticked waiting) (begin r.machine) in
        t1_ends r.machine.control.t1 (waiting || wants ticked.now) waiting u
        (setting_keeps (tm201_ticked waiting) (λ c. refl) (up_begins u))
