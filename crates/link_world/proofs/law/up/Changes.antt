-- An end that is up hears a frame without numbers.
use Rattle.link_world.proofs.Common.{◌≡◌, Bool, true, List, [], ◌∷◌, inl, refl, sym, ap, ◌∙◌, subst, append-nil}
use Rattle.link_world.proofs.Common.{is_heard_as_command, U, SetupSent, begin, hear_up, settled, SetUp, RecordedEnd, noting}
use Rattle.link_world.proofs.Common.{hearing, Hears}
use Rattle.ax25_frames.specs.declared.frame.U.TheVariants.{Disc as DiscFrame, Dm as DmFrame, Ua as UaFrame}
use Rattle.link_machine.specs.declared.state.LinkState.TheVariants.{Idle as IdleState}
use Rattle.link_machine.specs.Machine.{narrowed}
use Rattle.link_machine.specs.Frames.{end_by_disc, end_by_dm}
use Rattle.link_world.proofs.law.reduced.Core.{End, Tagged as CoreTagged, between}
use Rattle.link_world.proofs.law.reduced.Core.Kind.{Ua}
use Rattle.link_world.proofs.law.reduced.Core.Standing.{Idle}
use Rattle.link_world.proofs.law.reduced.CoreMoves.{now, of_end}
use Rattle.link_world.proofs.law.reduced.CoreOf.{end_following, up_end}
use Rattle.link_world.proofs.law.showing.PlacesFit.{sound_new}
use Rattle.link_world.proofs.law.moves.Losing.{lose_keeps}
use Rattle.link_world.proofs.law.moves.Standings.{leave_to_idle_keeps}
use Rattle.link_world.proofs.law.moves.Declining.{decline_idle_keeps}
use Rattle.link_world.proofs.law.up.Acts.{passed_over}
use Rattle.link_world.proofs.law.invariant.Invariant.{Invariant}
use Rattle.link_world.proofs.law.showing.Shown.{core_set_up, core_set_ups, core_tagged}
use Rattle.link_world.proofs.law.showing.Outcome.{Keeps, end_with, none_sent}
use Rattle.link_world.proofs.law.showing.Heard.{Arrival, heard_frame}
use Rattle.link_world.proofs.law.up.Settling.{all_of_last}
use Rattle.link_world.proofs.law.up.Events.{UpEnd, up_begins, up_goes_on}
use Rattle.link_world.proofs.law.down.Ends.{EndsDown, down_keeps, setup_sent}

-- such a frame leaves the record as it is
pub noted_nothing :
    {r : RecordedEnd} {ended : List SetUp} {last : SetUp} {y : End} {to_x to_y : List CoreTagged} (a : Arrival)
    (which : U) (flag : Bool) → UpEnd r ended last y to_x to_y
    → noting (Hears (heard_frame a (SetupSent which flag))) r ≡ r
noted_nothing {r} a which flag u = ap (λ s. hearing s (heard_frame a (SetupSent which flag)) r) u.state

-- a UA says nothing to an end that is up
pub up_hears_ua :
    {r : RecordedEnd} {ended : List SetUp} {last : SetUp} (a : Arrival) (flag : Bool) {y : End}
    {rest to_y : List CoreTagged} → let f = heard_frame a (SetupSent UaFrame flag) in
    UpEnd r ended last y (core_tagged f ∷ rest) to_y
    → Keeps (Hears f) r y rest to_y (settled (hear_up (is_heard_as_command a.path.role f.frame.kind) f.frame.kind
    (begin r.machine)))
up_hears_ua a flag u = up_goes_on u refl (ap (λ (e : RecordedEnd). e.set_ups) (noted_nothing a UaFrame flag u))
    (passed_over (up_begins u))

-- the end that has left: its modulus is 8
left_end :
    {r : RecordedEnd} {ended : List SetUp} {last : SetUp} {y : End} {was to_x to_y : List CoreTagged}
    → UpEnd r ended last y was to_y
    → Invariant (between (up_end r.machine (core_set_ups ended) (core_set_up last)) y to_x to_y)
    → Invariant (between (now Idle (end_following (narrowed r.machine) (core_set_ups r.set_ups))) y to_x to_y)
left_end {r} {ended} {last} {y} {to_x} {to_y} u h =
    subst (λ qs. Invariant (between (now Idle (end_following (narrowed r.machine) qs)) y to_x to_y))
    (sym (ap core_set_ups u.set_ups ∙ all_of_last ended last)) (leave_to_idle_keeps 8 h)

-- a DM ends the set-up
pub up_hears_dm :
    {r : RecordedEnd} {ended : List SetUp} {last : SetUp} (a : Arrival) (flag : Bool) {y : End}
    {rest to_y : List CoreTagged} → let f = heard_frame a (SetupSent DmFrame flag) in
    UpEnd r ended last y (core_tagged f ∷ rest) to_y
    → Keeps (Hears f) r y rest to_y (settled (hear_up (is_heard_as_command a.path.role f.frame.kind) f.frame.kind
    (begin r.machine)))
up_hears_dm {r} a flag {y} {rest} {to_y} u =
    let f = heard_frame a (SetupSent DmFrame flag) in
    let x = now Idle (end_following (narrowed r.machine) (core_set_ups r.set_ups)) in
    let ends : EndsDown (Hears f) r (settled (end_by_dm (begin r.machine))) IdleState r.set_ups [] = record {
      state_is = refl;
      down = refl;
      params = refl;
      sound = sound_new 8 (inl refl) u.sound.room;
      set_ups = ap (λ (e : RecordedEnd). e.set_ups) (noted_nothing a DmFrame flag u);
      waiting = refl;
      sent = none_sent;
    } in
    down_keeps ends (λ alone. subst (λ t. Invariant (between x y rest t)) (sym (append-nil to_y))
    (left_end u (lose_keeps [] (core_tagged f) rest u.holds)))

-- a DISC ends the set-up, and is answered
pub up_hears_disc :
    {r : RecordedEnd} {ended : List SetUp} {last : SetUp} (a : Arrival) (flag : Bool) {y : End}
    {rest to_y : List CoreTagged} → let f = heard_frame a (SetupSent DiscFrame flag) in
    UpEnd r ended last y (core_tagged f ∷ rest) to_y
    → Keeps (Hears f) r y rest to_y (settled (hear_up (is_heard_as_command a.path.role f.frame.kind) f.frame.kind
    (begin r.machine)))
up_hears_disc {r} a flag u =
    let f = heard_frame a (SetupSent DiscFrame flag) in
    let turn = settled (end_by_disc flag (begin r.machine)) in
    let x = end_following (narrowed r.machine) (core_set_ups r.set_ups) in
    let ends : EndsDown (Hears f) r turn IdleState r.set_ups (of_end x Ua ∷ []) = record {
      state_is = refl;
      down = refl;
      params = refl;
      sound = sound_new 8 (inl refl) u.sound.room;
      set_ups = ap (λ (e : RecordedEnd). e.set_ups) (noted_nothing a DiscFrame flag u);
      waiting = refl;
      sent = setup_sent true (end_with turn.now r.set_ups []) r.machine.incoming.modulus UaFrame flag refl refl;
    } in
    down_keeps ends (λ alone. decline_idle_keeps x (left_end u u.holds))
