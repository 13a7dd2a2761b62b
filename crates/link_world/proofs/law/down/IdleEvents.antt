-- Events of an end that is idle.
use Rattle.link_world.proofs.Common.{◌≡◌, ℕ, ◌+◌, Bool, true, false, List, [], ◌∷◌, inl, inr, refl, sym, ap, ◌∙◌, subst}
use Rattle.link_world.proofs.Common.{arith, false≢true, Info, Super, Setup, Ui, Other, U, called_modulus, Sent}
use Rattle.link_world.proofs.Common.{InfoSent, SuperSent, SetupSent, begin, connect, open_called, settled, Tagged}
use Rattle.link_world.proofs.Common.{is_numbered, is_sabm_frame, RecordedEnd, hears_ask, Connects, Hears}
use Rattle.link_world.proofs.Common.{LinkParameters, XidSent}
use Rattle.ax25_frames.specs.declared.frame.Kind.{Kind as FrameKind}
use Rattle.ax25_frames.specs.declared.frame.U.TheVariants.{Sabm as SabmFrame, Sabme as SabmeFrame, Disc as DiscFrame}
use Rattle.ax25_frames.specs.declared.frame.U.TheVariants.{Dm as DmFrame, Ua as UaFrame}
use Rattle.link_machine.specs.declared.state.LinkState.TheVariants.{Idle as IdleState, Calling as CallingState}
use Rattle.link_machine.specs.Frames.{hear_idle}
use Rattle.link_machine.specs.Negotiation.{widest_parameters}
use Rattle.link_world.proofs.law.reduced.Core.{End, Tagged as CoreTagged}
use Rattle.link_world.proofs.law.reduced.Core.Kind.{Sabm}
use Rattle.link_world.proofs.law.reduced.CoreMoves.{setup_to, in_modulus, of_end, asks, answers, sabms}
use Rattle.link_world.proofs.law.reduced.CoreOf.{end_following}
use Rattle.link_world.specs.Flight.{asks as asks_kind}
use Rattle.link_world.proofs.law.down.Calls.{call_sent, call_alone, own_modulus_is}
use Rattle.link_world.proofs.law.showing.Readings.{IsReadAs}
use Rattle.link_world.proofs.law.showing.PlacesFit.{IsModulus, sound_new}
use Rattle.link_world.proofs.law.moves.Standings.{begin_keeps}
use Rattle.link_world.proofs.law.moves.Kept.{call_keeps}
use Rattle.link_world.proofs.law.moves.Opening.{open_called_keeps}
use Rattle.link_world.proofs.law.showing.Shown.{core_set_ups, core_tagged}
use Rattle.link_world.proofs.law.down.Called.{open_called_outcome}
use Rattle.link_world.proofs.law.showing.Outcome.{Keeps, end_with}
use Rattle.link_world.proofs.law.showing.Heard.{Arrival, heard_as, heard_frame}
use Rattle.link_world.proofs.law.down.Ends.{DownEnd, EndsDown, down_keeps, down_passes, down_noted, down_dm}
use Rattle.link_world.proofs.law.down.Ends.{down_declines, down_tells}

-- it calls, in its own modulus
pub idle_connects :
    {r : RecordedEnd} {y : End} {to_x to_y : List CoreTagged} → DownEnd IdleState r y to_x to_y
    → Keeps Connects r y to_x to_y (settled (connect (begin r.machine)))
idle_connects {r} {y} {to_x} {to_y} d =
    let turn = connect (begin r.machine) in
    let modulus = called_modulus r.machine.params in
    let is = own_modulus_is r.machine.params in
    let x = in_modulus modulus (end_following r.machine (core_set_ups r.set_ups)) in
    let ends : EndsDown Connects r turn CallingState r.set_ups (of_end x (Sabm modulus) ∷ []) = record {
      state_is = refl;
      down = tt;
      params = refl;
      sound = sound_new modulus is d.sound.room;
      set_ups = refl;
      waiting = d.waiting;
      sent = call_sent (end_with turn.now r.set_ups r.machine.outgoing.packets) modulus is tt;
    } in
    down_keeps ends (λ alone.
    let quiet : asks to_y + answers to_x ≡ 0 = call_alone to_x to_y modulus alone in
    call_keeps x quiet (begin_keeps modulus r.machine.outgoing.packets (omega arith) (omega arith) d.holds))

-- an I or S frame, whatever it says
idle_hears_numbered :
    {r : RecordedEnd} {f : Tagged} (command : Bool) (kind : FrameKind) {y : End} {rest to_y : List CoreTagged}
    → DownEnd IdleState r y (core_tagged f ∷ rest) to_y → f.frame.kind ≡ kind → is_numbered kind ≡ true
    → Keeps (Hears f) r y rest to_y (settled (hear_idle command kind (begin r.machine)))
idle_hears_numbered command (Info ns nr true pid octets) d is numbered = down_dm true d (ap asks_kind is)
idle_hears_numbered command (Info ns nr false pid octets) d is numbered = down_passes d
idle_hears_numbered true (Super which nr true) d is numbered = down_dm true d (ap asks_kind is)
idle_hears_numbered true (Super which nr false) d is numbered = down_passes d
idle_hears_numbered false (Super which nr flag) d is numbered = down_passes d
idle_hears_numbered command (Setup which flag) d is numbered = absurd (false≢true numbered)
idle_hears_numbered command (Ui flag pid octets) d is numbered = absurd (false≢true numbered)
idle_hears_numbered command (Other which flag octets) d is numbered = absurd (false≢true numbered)

-- a SABM or SABME opens a set-up
idle_opens :
    {r : RecordedEnd} {f : Tagged} {y : End} {rest to_y : List CoreTagged} (modulus : ℕ) (flag : Bool)
    → DownEnd IdleState r y (setup_to f.set_up (Sabm modulus) ∷ rest) to_y → hears_ask (Hears f) ≡ true
    → IsModulus modulus → sabms to_y ≡ 0
    → Keeps (Hears f) r y rest to_y (settled (open_called modulus flag (begin r.machine)))
idle_opens {f} modulus flag d asks is quiet = open_called_outcome [] modulus flag asks (down_noted f d)
    (d.waiting ∙ d.down) d.sound is refl (open_called_keeps quiet d.holds)

-- a frame without numbers; a SABM or SABME only while none of its own is under way
idle_hears_setup :
    {r : RecordedEnd} (a : Arrival) (which : U) (flag command : Bool) {y : End} {rest to_y : List CoreTagged}
    → let f = heard_frame a (SetupSent which flag) in
    DownEnd IdleState r y (core_tagged f ∷ rest) to_y → (is_sabm_frame which ≡ true → sabms to_y ≡ 0)
    → Keeps (Hears f) r y rest to_y (settled (hear_idle command f.frame.kind (begin r.machine)))
idle_hears_setup a SabmFrame flag command d quiet = idle_opens 8 flag d refl (inl refl) (quiet refl)
idle_hears_setup a SabmeFrame flag command d quiet = idle_opens 128 flag d refl (inr refl) (quiet refl)
idle_hears_setup a DiscFrame flag command d quiet = down_declines flag d refl refl
idle_hears_setup a DmFrame flag command d quiet = down_passes d
idle_hears_setup a UaFrame flag command d quiet = down_passes d

-- XID: a command is answered
idle_hears_xid :
    {r : RecordedEnd} (a : Arrival) (command flag : Bool) (own : LinkParameters) (heard : Bool) {y : End}
    {rest to_y : List CoreTagged} → let f = heard_frame a (XidSent command flag own) in
    DownEnd IdleState r y (core_tagged f ∷ rest) to_y
    → Keeps (Hears f) r y rest to_y (settled (hear_idle heard f.frame.kind (begin r.machine)))
idle_hears_xid {r} a command flag own true d = down_tells false flag (widest_parameters r.machine) d refl
idle_hears_xid a command flag own false d = down_passes d

-- what it hears, as it is read
pub idle_hears :
    {r : RecordedEnd} (a : Arrival) (kind : FrameKind) (sent : Sent) (command : Bool) {y : End}
    {rest to_y : List CoreTagged} → let f = heard_as a kind sent in
    DownEnd IdleState r y (core_tagged f ∷ rest) to_y → IsReadAs sent kind
    → ((which : U) (flag : Bool) → sent ≡ SetupSent which flag → is_sabm_frame which ≡ true → sabms to_y ≡ 0)
    → Keeps (Hears f) r y rest to_y (settled (hear_idle command kind (begin r.machine)))
idle_hears a kind (InfoSent ns nr poll packet) command d read quiet = idle_hears_numbered command kind d refl read
idle_hears a kind (SuperSent which c nr flag) command d read quiet = idle_hears_numbered command kind d refl read
idle_hears {r} a kind (SetupSent which flag) command {y} {rest} {to_y} d read quiet =
    subst (λ k. Keeps (Hears (heard_as a k (SetupSent which flag))) r y rest to_y
    (settled (hear_idle command k (begin r.machine)))) (sym read)
    (idle_hears_setup a which flag command d (quiet which flag refl))
idle_hears {r} a kind (XidSent c flag own) command {y} {rest} {to_y} d read quiet =
    subst (λ k. Keeps (Hears (heard_as a k (XidSent c flag own))) r y rest to_y
    (settled (hear_idle command k (begin r.machine)))) (sym read) (idle_hears_xid a c flag own command d)
