-- Events of an end that is calling.
use Rattle.link_world.proofs.Common.{◌≡◌, ℕ, Bool, true, false, ◌==◌, if◌then◌else◌, List, [], ◌∷◌, ◌++◌, is_some, refl}
use Rattle.link_world.proofs.Common.{sym, ap, ◌∙◌, subst, append-nil, ◌&&◌, fold, cond-false, false≢true, Info, Super}
use Rattle.link_world.proofs.Common.{Setup, Ui, Other, U, Packet, Control, Opened, Failed, Refused, Sent, InfoSent}
use Rattle.link_world.proofs.Common.{SuperSent, SetupSent, begin, changing, setting, joined, tick, tick_in}
use Rattle.link_world.proofs.Common.{is_spent, retried, end_call, settled, settle_in, refusal_of, SetUp, Tagged}
use Rattle.link_world.proofs.Common.{is_numbered, RecordedEnd, noting, taking, hears_ask, told_of, Sends, Disconnects}
use Rattle.link_world.proofs.Common.{Ticks, Hears, Happening, inl, length, arith, XidSent}
use Rattle.ax25_frames.specs.declared.frame.Kind.{Kind as FrameKind}
use Rattle.ax25_frames.specs.declared.frame.U.TheVariants.{Sabm as SabmFrame, Sabme as SabmeFrame, Disc as DiscFrame}
use Rattle.ax25_frames.specs.declared.frame.U.TheVariants.{Dm as DmFrame, Ua as UaFrame}
use Rattle.link_machine.specs.declared.state.LinkState.TheVariants.{Calling as CallingState, Idle as IdleState}
use Rattle.link_machine.specs.Event.Event.{Send}
use Rattle.link_machine.specs.Machine.{falls_back, narrowed}
use Rattle.link_machine.specs.Requests.{withdraw}
use Rattle.link_machine.specs.Ticks.{call_again, fall_back}
use Rattle.link_machine.specs.Turn.{sending}
use Rattle.link_machine.specs.Frames.{hear_calling, hear_calling_in, answer_ua, open_answered, unretried_call}
use Rattle.link_world.proofs.law.reduced.Core.{End, Tagged as CoreTagged, between}
use Rattle.link_world.proofs.law.reduced.Core.Kind.{Dm, Sabm, Ua}
use Rattle.link_world.proofs.law.reduced.Core.Standing.{Calling, Up}
use Rattle.link_world.proofs.law.reduced.CoreMoves.{now, of_end, setup_to, opened}
use Rattle.link_world.proofs.law.reduced.CoreOf.{end_following}
use Rattle.link_world.specs.SetUps.{opened as opened_set_up}
use Rattle.link_world.proofs.law.down.Calls.{call_in, call_alone, wide_is, narrow_is, call_sent}
use Rattle.link_world.proofs.law.showing.Readings.{IsReadAs}
use Rattle.link_world.proofs.law.showing.PlacesFit.{sound_anew, sound_new}
use Rattle.link_world.proofs.law.showing.PlacesStored.{stored_empty}
use Rattle.link_world.proofs.law.moves.Losing.{lose_keeps}
use Rattle.link_world.proofs.law.moves.Standings.{begin_keeps, give_calling_keeps, leave_to_idle_keeps}
use Rattle.link_world.proofs.law.moves.Kept.{call_keeps, send_dm_keeps}
use Rattle.link_world.proofs.law.moves.Opening.{agree_keeps, open_answered_keeps}
use Rattle.link_world.proofs.law.invariant.Invariant.{Invariant}
use Rattle.link_world.proofs.law.showing.Shown.{core_set_ups, core_tagged}
use Rattle.link_world.proofs.law.down.Ticks.{ticks_down}
use Rattle.link_world.proofs.law.showing.Outcome.{IsSentAs, Keeps, end_with, none_sent}
use Rattle.link_world.proofs.law.showing.Heard.{Arrival, heard_as, heard_frame}
use Rattle.link_world.proofs.law.up.Progress.{IsUp}
use Rattle.link_world.proofs.law.up.Settling.{EndsUp, progress_in, up_ends}
use Rattle.link_world.proofs.law.down.Ends.{DownEnd, EndsDown, IsDown, down_end, goes_on, down_keeps, down_stays}
use Rattle.link_world.proofs.law.down.Ends.{down_silent, down_passes, down_noted, down_answers, down_declines}
use Rattle.link_world.proofs.law.down.Ends.{down_ends, setup_sent}

-- a packet is given
pub calling_sends :
    {r : RecordedEnd} (packet : Packet) {y : End} {to_x to_y : List CoreTagged} → DownEnd CallingState r y to_x to_y
    → is_some (refusal_of r.machine (Send packet)) ≡ false
    → Keeps (Sends packet) r y to_x to_y (settled (changing (joined packet) (begin r.machine)))
calling_sends {r} packet {y} {to_x} {to_y} d taken =
    let turn = changing (joined packet) (begin r.machine) in
    let more = r.machine.outgoing.packets ++ packet ∷ [] in
    let x = end_following r.machine (core_set_ups r.set_ups) in
    let noted : noting (Sends packet) r ≡ record r { waiting = r.waiting ++ packet ∷ [] } =
    cond-false (is_some (refusal_of r.machine (Send packet))) r _ taken ∙ ap (λ s. taking s packet r) d.state_is in
    let ends : EndsDown (Sends packet) r turn CallingState r.set_ups [] = record {
      state_is = d.state_is;
      down = tt;
      params = refl;
      sound = d.sound;
      set_ups = ap (λ (n : RecordedEnd). n.set_ups) noted;
      waiting = ap (λ (n : RecordedEnd). n.waiting) noted ∙ ap (λ w. w ++ packet ∷ []) d.waiting;
      sent = none_sent;
    } in
    subst (λ s. Keeps (Sends packet) r y to_x to_y (settle_in s turn)) (sym d.state_is) (down_keeps ends
    (λ alone. subst (λ fs. Invariant (between (now (Calling more) x) y to_x fs)) (sym (append-nil to_y))
    (give_calling_keeps x d.holds)))

-- a disconnect is asked for: the call is taken back, and a DM goes out that answers no SABM or DISC
pub calling_withdraws :
    {r : RecordedEnd} {y : End} {to_x to_y : List CoreTagged} → DownEnd CallingState r y to_x to_y
    → Keeps Disconnects r y to_x to_y (settled (withdraw (begin r.machine)))
calling_withdraws {r} {y} {to_x} {to_y} d =
    let turn = withdraw (begin r.machine) in
    let x = down_end IdleState turn.now r.set_ups in
    let ends : EndsDown Disconnects r turn IdleState r.set_ups (of_end x (Dm false) ∷ []) = record {
      state_is = refl;
      down = refl;
      params = refl;
      sound = sound_new 8 (inl refl) d.sound.room;
      set_ups = refl;
      waiting = refl;
      sent = setup_sent false (end_with turn.now r.set_ups []) r.machine.incoming.modulus DmFrame false refl tt;
    } in
    down_keeps ends (λ alone. send_dm_keeps (leave_to_idle_keeps 8 d.holds))

-- The call goes on in modulus 8: SABM goes out. The channel is quiet then, so no SABME of the end is under way, and no
-- UA to it.
goes_on_narrow :
    {h : Happening} {r : RecordedEnd} {y : End} {was to_x to_y : List CoreTagged} (c : Control)
    → DownEnd CallingState r y was to_y → c.state ≡ CallingState → noting h r ≡ r → hears_ask h ≡ false
    → Invariant (between (down_end CallingState r.machine r.set_ups) y to_x to_y)
    → Keeps h r y to_x to_y
    (settled (sending (SetupSent SabmFrame true) (changing narrowed (goes_on r.machine c []))))
goes_on_narrow {h} {r} {y} {to_x} {to_y} c d state noted no_ask holds =
    let turn = sending (SetupSent SabmFrame true) (changing narrowed (goes_on r.machine c [])) in
    let packets = r.machine.outgoing.packets in
    let x = end_following turn.now (core_set_ups r.set_ups) in
    let frames : List CoreTagged = record { tag = length (core_set_ups r.set_ups); kind = Sabm 8 } ∷ [] in
    let down : IsDown turn.now.control.state packets = subst (λ s. IsDown s packets) (sym state) tt in
    let ends : EndsDown h r turn CallingState r.set_ups frames = record {
      state_is = state;
      down = tt;
      params = refl;
      sound = sound_new 8 (inl refl) d.sound.room;
      set_ups = ap (λ (n : RecordedEnd). n.set_ups) noted;
      waiting = ap (λ (n : RecordedEnd). n.waiting) noted ∙ d.waiting;
      sent = subst (λ b. IsSentAs b (end_with turn.now r.set_ups packets) turn.sent frames) (sym no_ask)
          (call_sent (end_with turn.now r.set_ups packets) 8 (inl refl) down);
    } in
    subst (λ s. Keeps h r y to_x to_y (settle_in s turn)) (sym state) (down_keeps ends
    (λ alone. let quiet = call_alone to_x to_y 8 alone in
    call_keeps x quiet (begin_keeps 8 packets (omega arith) (omega arith) holds)))

-- SABM or SABME goes out once more, or the call has failed
calls_again :
    {r : RecordedEnd} (c : Control) (waiting : Bool) {y : End} {to_x to_y : List CoreTagged}
    → DownEnd CallingState r y to_x to_y → c.state ≡ CallingState
    → Keeps (Ticks waiting) r y to_x to_y (settled (call_again (goes_on r.machine c [])))
calls_again {r} c waiting {y} {to_x} {to_y} d state = go (is_spent c)
  where
    own : ℕ
    own = r.machine.incoming.modulus

    e : RecordedEnd
    e = end_with (record r.machine { control = retried c }) r.set_ups r.machine.outgoing.packets

    narrow_or_not : (b : Bool) → Keeps (Ticks waiting) r y to_x to_y
        (settled (if b then fall_back (goes_on r.machine c []) else goes_on r.machine (retried c) (call_in own ∷ [])))
    narrow_or_not true = goes_on_narrow (retried c) d state refl refl d.holds
    narrow_or_not false = down_stays (retried c) (call_in own ∷ []) d state refl
        (call_sent e own d.sound.modulus (subst (λ s. IsDown s r.machine.outgoing.packets) (sym state) tt))
        (λ alone. call_keeps (end_following r.machine (core_set_ups r.set_ups)) (call_alone to_x to_y own alone) d.holds)

    go : (b : Bool) → Keeps (Ticks waiting) r y to_x to_y
        (settled (if b then end_call Failed (goes_on r.machine c [])
        else if falls_back (record r.machine { control = c }) then fall_back (goes_on r.machine c [])
        else goes_on r.machine (retried c) (call_in own ∷ [])))
    go true = down_ends c Failed d refl d.holds
    go false = narrow_or_not (falls_back (record r.machine { control = c }))

pub calling_ticks :
    {r : RecordedEnd} (waiting : Bool) {y : End} {to_x to_y : List CoreTagged} → DownEnd CallingState r y to_x to_y
    → Keeps (Ticks waiting) r y to_x to_y (settled (tick waiting (begin r.machine)))
calling_ticks {r} waiting {y} {to_x} {to_y} d =
    subst (λ s. Keeps (Ticks waiting) r y to_x to_y (settled (tick_in s waiting (begin r.machine)))) (sym d.state_is)
    (ticks_down (λ t. Keeps (Ticks waiting) r y to_x to_y (settled t)) r.machine CallingState d.down
    (λ c is. down_silent c d is refl d.holds) (λ c is. calls_again c waiting d is) waiting d.state_is)

-- the UA to its call: the set-up opens in its modulus
calling_opens :
    {r : RecordedEnd} {f : Tagged} {y : End} {rest to_y : List CoreTagged}
    → DownEnd CallingState r y (record { tag = f.set_up; kind = Ua } ∷ rest) to_y → hears_ask (Hears f) ≡ false
    → Keeps (Hears f) r y rest to_y (settled (open_answered (begin r.machine)))
calling_opens {r} {f} {y} {rest} {to_y} d no_ask =
    let m = r.machine in
    let i = m.incoming in
    let turn = open_answered (begin m) in
    let given = m.outgoing.packets in
    let new : List Packet → SetUp = opened_set_up f.set_up i.modulus in
    let x = end_following m (core_set_ups r.set_ups) in
    let noted = down_noted f d in
    let up : IsUp rest (progress_in r y to_y r.set_ups (new given) (Opened true ∷ []) i.modulus) turn = record {
      state = refl;
      so_far = record { told_is = refl; params_are = refl; sound = sound_anew d.sound; modulus_is = refl };
      fits = tt;
      holds = subst (λ ss. Invariant (between (now (Up (record (opened f.set_up i.modulus given) { stored = ss })) x) y
          rest (to_y ++ []))) (sym (stored_empty 0 i.window))
          (subst (λ fs. Invariant (between (now (Up (opened f.set_up i.modulus given)) x) y rest fs))
          (sym (append-nil to_y)) (open_answered_keeps x d.holds));
    } in
    let ends : EndsUp (Hears f) r r.set_ups (new given) (Opened true ∷ []) i.modulus = record {
      no_ask = no_ask;
      set_ups = ap (λ (n : RecordedEnd). fold (told_of (new n.waiting)) n.set_ups (Opened true ∷ [])) noted
          ∙ ap (λ w. r.set_ups ++ new w ∷ []) d.waiting;
    } in
    up_ends ends up

-- an I or S frame, whatever it says, is passed over
calling_hears_numbered :
    {r : RecordedEnd} {f : Tagged} (wide : Bool) (kind : FrameKind) {y : End} {rest to_y : List CoreTagged}
    → DownEnd CallingState r y (core_tagged f ∷ rest) to_y → is_numbered kind ≡ true
    → Keeps (Hears f) r y rest to_y (settled (hear_calling_in wide kind (begin r.machine)))
calling_hears_numbered wide (Info ns nr flag pid octets) d numbered = down_passes d
calling_hears_numbered wide (Super which nr flag) d numbered = down_passes d
calling_hears_numbered wide (Setup which flag) d numbered = absurd (false≢true numbered)
calling_hears_numbered wide (Ui flag pid octets) d numbered = absurd (false≢true numbered)
calling_hears_numbered wide (Other which flag octets) d numbered = absurd (false≢true numbered)

-- a call in its own modulus is agreed to
calling_agrees :
    {r : RecordedEnd} {f : Tagged} (flag : Bool) {modulus : ℕ} {y : End} {rest to_y : List CoreTagged}
    → DownEnd CallingState r y (setup_to f.set_up (Sabm modulus) ∷ rest) to_y → hears_ask (Hears f) ≡ true
    → r.machine.incoming.modulus ≡ modulus → Keeps (Hears f) r y rest to_y (settled (answer_ua flag (begin r.machine)))
calling_agrees {r} {f} flag {y} {rest} {to_y} d asks own =
    let x = end_following r.machine (core_set_ups r.set_ups) in
    let inv = subst (λ k. Invariant (between (down_end CallingState r.machine r.set_ups) y
    (setup_to f.set_up (Sabm k) ∷ rest) to_y)) (sym own) d.holds in
    down_answers UaFrame flag d (ap (λ b. b && true) asks) refl (agree_keeps x inv)

-- a frame without numbers
calling_hears_setup :
    {r : RecordedEnd} (a : Arrival) (which : U) (flag wide : Bool) {y : End} {rest to_y : List CoreTagged}
    → let f = heard_frame a (SetupSent which flag) in
    DownEnd CallingState r y (core_tagged f ∷ rest) to_y → (r.machine.incoming.modulus == 128) ≡ wide
    → Keeps (Hears f) r y rest to_y (settled (hear_calling_in wide f.frame.kind (begin r.machine)))
calling_hears_setup a SabmFrame flag true d is = down_passes d
calling_hears_setup {r} a SabmFrame flag false d is =
    calling_agrees flag d refl (narrow_is r.machine.incoming.modulus d.sound.modulus is)
calling_hears_setup {r} a SabmeFrame flag true d is =
    calling_agrees flag d refl (wide_is r.machine.incoming.modulus d.sound.modulus is)
calling_hears_setup a SabmeFrame flag false d is = down_declines flag d refl refl
calling_hears_setup a DiscFrame flag wide d is = down_declines flag d refl refl
calling_hears_setup {r} a DmFrame true true {rest} d is =
    let f = heard_frame a (SetupSent DmFrame true) in
    goes_on_narrow (unretried_call r.machine.control) d d.state_is (down_noted f d) refl
    (lose_keeps [] (core_tagged f) rest d.holds)
calling_hears_setup {r} a DmFrame true false {rest} d is =
    let f = heard_frame a (SetupSent DmFrame true) in
    down_ends r.machine.control Refused d (down_noted f d) (lose_keeps [] (core_tagged f) rest d.holds)
calling_hears_setup a DmFrame false wide d is = down_passes d
calling_hears_setup a UaFrame true wide d is = calling_opens d refl
calling_hears_setup a UaFrame false wide d is = down_passes d

-- what it hears, as it is read
pub calling_hears :
    {r : RecordedEnd} (a : Arrival) (kind : FrameKind) (sent : Sent) {y : End} {rest to_y : List CoreTagged}
    → let f = heard_as a kind sent in
    DownEnd CallingState r y (core_tagged f ∷ rest) to_y → IsReadAs sent kind
    → Keeps (Hears f) r y rest to_y (settled (hear_calling kind (begin r.machine)))
calling_hears {r} a kind (InfoSent ns nr poll packet) d read =
    calling_hears_numbered (r.machine.incoming.modulus == 128) kind d read
calling_hears {r} a kind (SuperSent which c nr flag) d read =
    calling_hears_numbered (r.machine.incoming.modulus == 128) kind d read
calling_hears {r} a kind (SetupSent which flag) {y} {rest} {to_y} d read =
    subst (λ k. Keeps (Hears (heard_as a k (SetupSent which flag))) r y rest to_y
    (settled (hear_calling k (begin r.machine)))) (sym read)
    (calling_hears_setup a which flag (r.machine.incoming.modulus == 128) d refl)
calling_hears {r} a kind (XidSent c flag own) {y} {rest} {to_y} d read =
    subst (λ k. Keeps (Hears (heard_as a k (XidSent c flag own))) r y rest to_y
    (settled (hear_calling k (begin r.machine)))) (sym read) (down_passes d)
