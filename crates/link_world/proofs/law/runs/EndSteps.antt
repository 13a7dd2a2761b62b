-- Whatever happens to an end, what holds still holds.
use Rattle.ax25_frames.specs.declared.frame.Kind.TheVariants.{Other}
use Rattle.ax25_frames.specs.declared.frame.W.TheVariants.{Xid}
use Rattle.link_machine.specs.Sent.{xid_octets}
use Rattle.link_world.proofs.Common.{XidSent}
use Rattle.link_world.proofs.law.up.Exchanging.{up_hears_xid}
use Rattle.link_world.proofs.Common.{◌≡◌, ℕ, Bool, true, false, ◌||◌, if◌then◌else◌, nat_lt, List, [], ◌∷◌, length}
use Rattle.link_world.proofs.Common.{Option, Some, None, is_some, IfSome, inl, inr, refl, sym, ap, ◌∙◌, subst, ⊤}
use Rattle.link_world.proofs.Common.{cond-true, false≢true, Frame, Kind, U, is_heard_as_command, Packet, LinkState, LinkFault}
use Rattle.link_world.proofs.Common.{Machine, modulus_named, Sent, sent_kind, InfoSent, SuperSent, SetupSent, begin}
use Rattle.link_world.proofs.Common.{changing, connect, joined, tick, tick_in, hear_up, step}
use Rattle.link_world.proofs.Common.{settled, refusal_of, frame_read, read_in, is_sabm_frame, SetUp, Tagged}
use Rattle.link_world.proofs.Common.{RecordedEnd, Happening, noting, seen, hears_ask, Connects, Sends, Disconnects}
use Rattle.link_world.proofs.Common.{Ticks, Seizes, Hears, seize, seize_in}
use Rattle.std.proofs.Common.{nat_le}
use Rattle.ax25_frames.specs.declared.frame.U.TheVariants.{Sabm as SabmFrame, Sabme as SabmeFrame, Disc as DiscFrame}
use Rattle.ax25_frames.specs.declared.frame.U.TheVariants.{Dm as DmFrame, Ua as UaFrame}
use Rattle.link_machine.specs.declared.state.LinkState.TheVariants.{Idle as IdleState, Calling as CallingState}
use Rattle.link_machine.specs.declared.state.LinkState.TheVariants.{Releasing as ReleasingState}
use Rattle.link_machine.specs.declared.fault.LinkFault.TheVariants.{WrongState, Full, TooLong}
use Rattle.link_machine.specs.Machine.{most_packets, most_octets}
use Rattle.link_machine.specs.Event.Event.{Connect, Send, Disconnect, Hear}
use Rattle.link_machine.specs.Requests.{disconnect, disconnect_in, has_link, takes_none}
use Rattle.link_machine.specs.Frames.{hear, hear_in}
use Rattle.link_world.proofs.law.reduced.Core.{End, Tagged as CoreTagged, between}
use Rattle.link_world.proofs.law.reduced.CoreMoves.{sabms}
use Rattle.link_world.proofs.law.reduced.CoreOf.{end_following, up_end}
use Rattle.link_world.proofs.law.invariant.Upward.{front_modulus}
use Rattle.link_world.proofs.law.showing.Readings.{IsReadAs, kind_same, read_as}
use Rattle.link_world.proofs.law.showing.PlacesFit.{IsSound}
use Rattle.link_world.proofs.law.invariant.Invariant.{Invariant}
use Rattle.link_world.proofs.law.up.Info.{WindowsOf}
use Rattle.link_world.proofs.law.showing.Shown.{core_set_up, core_set_ups, core_tagged, Shown, IsWritten}
use Rattle.link_world.proofs.law.showing.Shown.Shown.{ShownIdle, ShownCalling, ShownUp, ShownReleasing}
use Rattle.link_world.proofs.law.showing.Outcome.{Keeps}
use Rattle.link_world.proofs.law.showing.Heard.{Arrival, arrival_of, heard_as, heard_frame}
use Rattle.link_world.proofs.law.up.Settling.{EndsUp, stays_up}
use Rattle.link_world.proofs.law.up.Events.{UpEnd, up_begins, up_sends, up_quits, up_seizes, up_hears_super}
use Rattle.link_world.proofs.law.up.Events.{up_hears_info}
use Rattle.link_world.proofs.law.up.Changes.{noted_nothing, up_hears_ua, up_hears_dm, up_hears_disc}
use Rattle.link_world.proofs.law.up.Ticks.{up_ticks}
use Rattle.link_world.proofs.law.down.Ends.{DownEnd, down_silent, down_refuses}
use Rattle.link_world.proofs.law.down.Called.{up_hears_call}
use Rattle.link_world.proofs.law.down.IdleEvents.{idle_connects, idle_hears}
use Rattle.link_world.proofs.law.down.CallingEvents.{calling_sends, calling_withdraws, calling_ticks, calling_hears}
use Rattle.link_world.proofs.law.down.ReleasingEvents.{releasing_ticks, releasing_hears}

-- an end before an event, by its state
pub data Stands (r : RecordedEnd) (y : End) (to_x to_y : List CoreTagged) : Type 0 where
  StandsIdle : DownEnd IdleState r y to_x to_y → Stands r y to_x to_y
  StandsCalling : DownEnd CallingState r y to_x to_y → Stands r y to_x to_y
  StandsUp : (ended : List SetUp) (last : SetUp) → UpEnd r ended last y to_x to_y → Stands r y to_x to_y
  StandsReleasing : DownEnd ReleasingState r y to_x to_y → Stands r y to_x to_y

pub stands :
    {r : RecordedEnd} {x y : End} {to_x to_y : List CoreTagged} → Shown r x
    → IsSound r.machine.params r.machine.incoming → Invariant (between x y to_x to_y) → Stands r y to_x to_y
stands (ShownIdle state packets waiting) sound inv = StandsIdle
    (record { state_is = state; down = packets; waiting = waiting ∙ sym packets; sound = sound; holds = inv })
stands (ShownCalling state waiting) sound inv =
    StandsCalling (record { state_is = state; down = tt; waiting = waiting; sound = sound; holds = inv })
stands (ShownUp ended last is state waiting) sound inv = StandsUp ended last
    (record { set_ups = is; state = state; waiting = waiting; sound = sound; holds = inv })
stands (ShownReleasing state packets waiting) sound inv = StandsReleasing
    (record { state_is = state; down = packets; waiting = waiting ∙ sym packets; sound = sound; holds = inv })

-- a request that is refused
refused :
    {h : Happening} {r : RecordedEnd} {y : End} {to_x to_y : List CoreTagged} → Stands r y to_x to_y
    → hears_ask h ≡ false → noting h r ≡ r → Keeps h r y to_x to_y (begin r.machine)
refused (StandsIdle d) no_ask noted = down_refuses d noted
refused (StandsCalling d) no_ask noted = down_refuses d noted
refused {h} {r} (StandsUp ended last u) no_ask noted =
    let ends : EndsUp h r ended last [] r.machine.incoming.modulus = record {
      no_ask = no_ask;
      set_ups = ap (λ (n : RecordedEnd). n.set_ups) noted ∙ u.set_ups;
    } in
    stays_up ends (up_begins u)
refused (StandsReleasing d) no_ask noted = down_refuses d noted

-- refused if the link's state allows no such request
connect_refused :
    (m : Machine) {state : LinkState} → m.control.state ≡ state → has_link state ≡ true
    → is_some (refusal_of m Connect) ≡ true
connect_refused m {state} is link =
    ap (λ s. is_some (if has_link s then Some (WrongState s m.control.quit) else None)) is
    ∙ ap (λ b. is_some (if b then Some (WrongState state m.control.quit) else None)) link

quit_refused :
    (m : Machine) {state : LinkState} → m.control.state ≡ state → takes_none state ≡ true
    → is_some (refusal_of m Disconnect) ≡ true
quit_refused m {state} is none =
    ap (λ s. is_some (if takes_none s then Some (WrongState s m.control.quit) else None)) is
    ∙ ap (λ b. is_some (if b then Some (WrongState state m.control.quit) else None)) none

send_refused :
    (m : Machine) (packet : Packet) {state : LinkState} → m.control.state ≡ state → takes_none state ≡ true
    → is_some (refusal_of m (Send packet)) ≡ true
send_refused m packet {state} is none =
    let rest : Option LinkFault = if nat_le most_packets (length m.outgoing.packets) then Some Full else
    if nat_lt most_octets (length packet.octets) then Some (TooLong (length packet.octets)) else None in
    ap (λ s. is_some (if takes_none s || m.control.quit then Some (WrongState s m.control.quit) else rest)) is
    ∙ ap (λ b. is_some (if b || m.control.quit then Some (WrongState state m.control.quit) else rest)) none

connect_keeps :
    {r : RecordedEnd} {y : End} {to_x to_y : List CoreTagged} (b : Bool) → is_some (refusal_of r.machine Connect) ≡ b
    → Stands r y to_x to_y
    → Keeps Connects r y to_x to_y (if b then begin r.machine else settled (connect (begin r.machine)))
connect_keeps true is s = refused s refl refl
connect_keeps false is (StandsIdle d) = idle_connects d
connect_keeps {r} false is (StandsCalling d) = absurd (false≢true (sym is ∙ connect_refused r.machine d.state_is refl))
connect_keeps {r} false is (StandsUp ended last u) =
    absurd (false≢true (sym is ∙ connect_refused r.machine u.state refl))
connect_keeps {r} false is (StandsReleasing d) = absurd
    (false≢true (sym is ∙ connect_refused r.machine d.state_is refl))

send_keeps :
    {r : RecordedEnd} (packet : Packet) {y : End} {to_x to_y : List CoreTagged} (b : Bool)
    → is_some (refusal_of r.machine (Send packet)) ≡ b → Stands r y to_x to_y
    → Keeps (Sends packet) r y to_x to_y (if b then begin r.machine else settled
    (changing (joined packet) (begin r.machine)))
send_keeps {r} packet true is s = refused s refl (cond-true (is_some (refusal_of r.machine (Send packet))) r _ is)
send_keeps {r} packet false is (StandsIdle d) =
    absurd (false≢true (sym is ∙ send_refused r.machine packet d.state_is refl))
send_keeps packet false is (StandsCalling d) = calling_sends packet d is
send_keeps packet false is (StandsUp ended last u) = up_sends packet u is
send_keeps {r} packet false is (StandsReleasing d) =
    absurd (false≢true (sym is ∙ send_refused r.machine packet d.state_is refl))

quit_keeps :
    {r : RecordedEnd} {y : End} {to_x to_y : List CoreTagged} (b : Bool)
    → is_some (refusal_of r.machine Disconnect) ≡ b → Stands r y to_x to_y
    → Keeps Disconnects r y to_x to_y (if b then begin r.machine else settled (disconnect (begin r.machine)))
quit_keeps true is s = refused s refl refl
quit_keeps {r} false is (StandsIdle d) = absurd (false≢true (sym is ∙ quit_refused r.machine d.state_is refl))
quit_keeps {r} {y} {to_x} {to_y} false is (StandsCalling d) =
    subst (λ s. Keeps Disconnects r y to_x to_y (settled (disconnect_in s (begin r.machine)))) (sym d.state_is)
    (calling_withdraws d)
quit_keeps {r} {y} {to_x} {to_y} false is (StandsUp ended last u) =
    subst (λ s. Keeps Disconnects r y to_x to_y (settled (disconnect_in s (begin r.machine)))) (sym u.state)
    (up_quits u)
quit_keeps {r} false is (StandsReleasing d) = absurd (false≢true (sym is ∙ quit_refused r.machine d.state_is refl))

tick_keeps :
    {r : RecordedEnd} (still : Bool) {y : End} {to_x to_y : List CoreTagged} → Stands r y to_x to_y
    → Keeps (Ticks still) r y to_x to_y (settled (tick still (begin r.machine)))
tick_keeps {r} still {y} {to_x} {to_y} (StandsIdle d) =
    subst (λ s. Keeps (Ticks still) r y to_x to_y (settled (tick_in s still (begin r.machine)))) (sym d.state_is)
    (down_silent r.machine.control d d.state_is refl d.holds)
tick_keeps still (StandsCalling d) = calling_ticks still d
tick_keeps still (StandsUp ended last u) = up_ticks still u
tick_keeps still (StandsReleasing d) = releasing_ticks still d

seize_keeps :
    {r : RecordedEnd} (last full : Bool) {y : End} {to_x to_y : List CoreTagged} → Stands r y to_x to_y
    → Keeps (Seizes last full) r y to_x to_y (settled (seize last full (begin r.machine)))
seize_keeps {r} last full {y} {to_x} {to_y} (StandsIdle d) =
    subst (λ s. Keeps (Seizes last full) r y to_x to_y (settled (seize_in s last full (begin r.machine))))
    (sym d.state_is) (down_silent r.machine.control d d.state_is refl d.holds)
seize_keeps {r} last full {y} {to_x} {to_y} (StandsCalling d) =
    subst (λ s. Keeps (Seizes last full) r y to_x to_y (settled (seize_in s last full (begin r.machine))))
    (sym d.state_is) (down_silent r.machine.control d d.state_is refl d.holds)
seize_keeps last full (StandsUp ended last_set_up u) = up_seizes last full u
seize_keeps {r} last full {y} {to_x} {to_y} (StandsReleasing d) =
    subst (λ s. Keeps (Seizes last full) r y to_x to_y (settled (seize_in s last full (begin r.machine))))
    (sym d.state_is) (down_silent r.machine.control d d.state_is refl d.holds)

up_hears :
    {r : RecordedEnd} {ended : List SetUp} {last : SetUp} (a : Arrival) (sent : Sent) {y : End}
    {rest to_y : List CoreTagged} → WindowsOf r.machine.incoming y → let e = heard_frame a sent in
    UpEnd r ended last y (core_tagged e ∷ rest) to_y
    → Keeps (Hears e) r y rest to_y (settled (hear_up (is_heard_as_command a.path.role e.frame.kind) e.frame.kind
    (begin r.machine)))
up_hears {r} {ended} a (InfoSent ns nr poll packet) windows u =
    up_hears_info a ns nr poll packet (front_modulus (end_following r.machine (core_set_ups ended)) u.holds) windows u
up_hears {r} {ended} a (SuperSent which command nr flag) windows u =
    up_hears_super a which command nr flag (front_modulus (end_following r.machine (core_set_ups ended)) u.holds)
    windows.own u
up_hears a (SetupSent SabmFrame flag) windows u = up_hears_call flag u refl (noted_nothing a SabmFrame flag u)
    (inl refl)
up_hears a (SetupSent SabmeFrame flag) windows u =
    up_hears_call flag u refl (noted_nothing a SabmeFrame flag u) (inr refl)
up_hears a (SetupSent DiscFrame flag) windows u = up_hears_disc a flag u
up_hears a (SetupSent DmFrame flag) windows u = up_hears_dm a flag u
up_hears a (SetupSent UaFrame flag) windows u = up_hears_ua a flag u
up_hears a (XidSent command flag own) windows u =
    up_hears_xid a command flag own (is_heard_as_command a.path.role (Other Xid flag (xid_octets own))) u

-- an end that is up reads a frame as it was written
pub kind_of_up :
    (m : Machine) (ended : List SetUp) (last : SetUp) (kind : Kind) (a : Arrival) (sent : Sent) {y : End}
    {rest to_y : List CoreTagged} → IsReadAs sent kind
    → (a.modulus ≡ m.incoming.modulus → kind ≡ sent_kind a.modulus sent)
    → Invariant (between (up_end m (core_set_ups ended) (core_set_up last)) y
    (core_tagged (heard_as a kind sent) ∷ rest) to_y) → kind ≡ sent_kind a.modulus sent
kind_of_up m ended last kind a (InfoSent ns nr poll packet) read same inv =
    same (front_modulus (end_following m (core_set_ups ended)) inv)
kind_of_up m ended last kind a (SuperSent which command nr flag) read same inv =
    same (front_modulus (end_following m (core_set_ups ended)) inv)
kind_of_up m ended last kind a (SetupSent which flag) read same inv = read
kind_of_up m ended last kind a (XidSent command flag own) read same inv = read

-- an idle end hears a SABM or SABME only while none of its own is under way
abbrev pub CalledAlone : RecordedEnd → Sent → List CoreTagged → Type 0
CalledAlone r sent to_y = r.machine.control.state ≡ IdleState → (which : U) (flag : Bool) → sent ≡ SetupSent which flag
    → is_sabm_frame which ≡ true → sabms to_y ≡ 0

-- a frame as it is read: if the modulus is the end's own, as it was written
hear_read :
    {r : RecordedEnd} (a : Arrival) (kind : Kind) (sent : Sent) {y : End} {rest to_y : List CoreTagged}
    → let e = heard_as a kind sent in
    Stands r y (core_tagged e ∷ rest) to_y → WindowsOf r.machine.incoming y → IsReadAs sent kind
    → (a.modulus ≡ r.machine.incoming.modulus → kind ≡ sent_kind a.modulus sent) → CalledAlone r sent to_y
    → Keeps (Hears e) r y rest to_y (settled (hear (is_heard_as_command a.path.role kind) kind (begin r.machine)))
hear_read {r} a kind sent {y} {rest} {to_y} s windows read same quiet = by_state s
  where
    command : Bool
    command = is_heard_as_command a.path.role kind

    P : LinkState → Type 0
    P state = Keeps (Hears (heard_as a kind sent)) r y rest to_y
        (settled (hear_in state command kind (begin r.machine)))

    by_state : Stands r y (core_tagged (heard_as a kind sent) ∷ rest) to_y → P r.machine.control.state
    by_state (StandsIdle d) = subst P (sym d.state_is) (idle_hears a kind sent command d read (quiet d.state_is))
    by_state (StandsCalling d) = subst P (sym d.state_is) (calling_hears a kind sent d read)
    by_state (StandsUp ended last u) = subst P (sym u.state)
        (subst (λ k. Keeps (Hears (heard_as a k sent)) r y rest to_y
        (settled (hear_up (is_heard_as_command a.path.role k) k (begin r.machine))))
        (sym (kind_of_up r.machine ended last kind a sent read same u.holds)) (up_hears a sent windows u))
    by_state (StandsReleasing d) = subst P (sym d.state_is) (releasing_hears a kind sent command d read)

-- what a frame that was sent is read as
pub read_frame_as :
    (own : ℕ) {f : Tagged} (frame : Frame) → IsWritten f → read_in own f ≡ Some frame → IsReadAs f.sent frame.kind
read_frame_as own {f} frame written is = subst (λ o. IfSome o (λ g. IsReadAs f.sent g.kind)) is
    (read_as (modulus_named f.modulus) (modulus_named own) f.frame f.modulus f.sent written.kind)

-- if it was written in the modulus in which it is read, as it was sent
pub read_frame_same :
    {own : ℕ} {f : Tagged} (frame : Frame) → IsWritten f → read_in own f ≡ Some frame → f.modulus ≡ own
    → frame.kind ≡ sent_kind f.modulus f.sent
read_frame_same {own} {f} frame written is same = kind_same (modulus_named own) f.frame frame
    (subst (λ m. frame_read (modulus_named m) (modulus_named own) f.frame ≡ Some frame) same is) ∙ written.kind

-- what an end hears
pub hears_keeps :
    {r : RecordedEnd} {f : Tagged} (frame : Frame) {y : End} {rest to_y : List CoreTagged}
    → Stands r y (core_tagged f ∷ rest) to_y → WindowsOf r.machine.incoming y → IsWritten f
    → read_in r.machine.incoming.modulus f ≡ Some frame → CalledAlone r f.sent to_y
    → Keeps (Hears (record f { frame = frame })) r y rest to_y (step r.machine (Hear frame))
unfolding step
hears_keeps {r} {f} frame s windows written is quiet = hear_read (arrival_of frame f) frame.kind f.sent s windows
    (read_frame_as r.machine.incoming.modulus frame written is) (read_frame_same frame written is) quiet

-- what happens is no frame that is heard
abbrev pub HearsNothing : Happening → Type 0
HearsNothing Connects = ⊤
HearsNothing (Sends packet) = ⊤
HearsNothing Disconnects = ⊤
HearsNothing (Ticks still) = ⊤
HearsNothing (Seizes last full) = ⊤
HearsNothing (Hears f) = ⊥

-- what else happens to it
pub asks_keep :
    (h : Happening) {r : RecordedEnd} {y : End} {to_x to_y : List CoreTagged} → HearsNothing h → Stands r y to_x to_y
    → Keeps h r y to_x to_y (step r.machine (seen h))
unfolding step
asks_keep Connects {r} silent s = connect_keeps (is_some (refusal_of r.machine Connect)) refl s
asks_keep (Sends packet) {r} silent s = send_keeps packet (is_some (refusal_of r.machine (Send packet))) refl s
asks_keep Disconnects {r} silent s = quit_keeps (is_some (refusal_of r.machine Disconnect)) refl s
asks_keep (Ticks still) silent s = tick_keeps still s
asks_keep (Seizes last full) silent s = seize_keeps last full s
asks_keep (Hears f) silent s = absurd silent
