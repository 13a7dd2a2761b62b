-- Why an event of two sides is refused, if it is, known before it happens.
use Rattle.link_world.proofs.Common.{◌≡◌, ℕ, ◌+◌, ◌<◌, Bool, true, false, not, ◌&&◌, if◌then◌else◌, length, drop, refl}
use Rattle.link_world.proofs.Common.{sym, ◌∙◌, ap, subst, arith, Some, None, Result, IfSome, slice_index_or, lt-ltb}
use Rattle.link_world.proofs.Common.{length-map, nat_lt, LinkFault, Control, modulus_named, refusal_of, Frame, Event, End}
use Rattle.link_world.proofs.Common.{Connect, Send, Disconnect, Tick, Seize, Hear, Lose, WorldFault, NothingThere}
use Rattle.link_world.proofs.Common.{InFlight, frame_read, is_alone, asks_in, answers_in, EndTurn, Hears, World}
use Rattle.link_world.proofs.Common.{sends_alone, is_there, refused_by, near_cause, in_flight, all_in_flight, event_of}
use Rattle.link_world.proofs.Common.{seen_of, StandForBoth, IsAnswered, hearing_asks, is_quiet_between, asking, answering, List, ◌==◌, IfErr}
use Rattle.link_world.proofs.Common.{err_from_is_err_and}
use Rattle.std.specs.Prelude.{Option, nat_le, IsErrAnd}
use Rattle.link_machine.specs.Asks.{asks}
use Rattle.link_machine.specs.Machine.{most_packets, most_octets}
use Rattle.link_machine.specs.Event.{Event as LinkEvent}
use Rattle.link_machine.specs.Event.Event.{Connect as LinkConnect, Send as LinkSend, Disconnect as LinkDisconnect}
use Rattle.link_machine.specs.Event.Event.{Seize as LinkSeize, Tick as LinkTick, Hear as LinkHear}
use Rattle.link_machine.specs.Requests.{refusal, has_link, takes_none, is_closed}
use Rattle.link_machine.specs.declared.fault.LinkFault.TheVariants.{WrongState, Full, TooLong}
use Rattle.link_world.specs.declared.request.Request.{Request}
use Rattle.link_world.specs.declared.fault.WorldFault.TheVariants.{Link, Memory}
use Rattle.link_world.specs.declared.side.Side.{Side as HeldSide}
use Rattle.link_world.specs.Faults.{cause_by}
use Rattle.link_world.specs.Held.{happening_of, world_fault_of}
use Rattle.link_world.proofs.Happens.{cause_is}
use Rattle.link_world.proofs.Quieting.{cause_before}
use Rattle.link_world.proofs.Sides.{is_asked, same_refusal, same_seen, is_heard, passed_turn, ReadsFront}

-- what a link refuses has that cause
pub refused_cause :
    (event : Event) (number : ℕ) (w : World) (fault : LinkFault) → refused_by event w.a.end.machine ≡ Some fault
    → near_cause number event w ≡ Some (Link fault)
refused_cause (Connect end) number w fault e =
    cause_is number (Connect end) w (Some fault) (sends_alone w (Connect end)) refl e refl
refused_cause (Send end packet) number w fault e =
    cause_is number (Send end packet) w (Some fault) (sends_alone w (Send end packet)) refl e refl
refused_cause (Disconnect end) number w fault e =
    cause_is number (Disconnect end) w (Some fault) (sends_alone w (Disconnect end)) refl e refl
refused_cause (Tick end waiting) number w fault e = absurd (let n : None ≡ Some fault = e in cc)
refused_cause (Seize end last full) number w fault e = absurd (let n : None ≡ Some fault = e in cc)
refused_cause (Hear end) number w fault e = absurd (let n : None ≡ Some fault = e in cc)
refused_cause (Lose end index) number w fault e = absurd (let n : None ≡ Some fault = e in cc)

-- a link never refuses for want of memory
abbrev IsOfLink : Option LinkFault → Type 0
IsOfLink found = IfSome found (λ fault. world_fault_of fault ≡ Link fault)

refusal_of_link : (c : Control) (count : ℕ) (event : LinkEvent) → IsOfLink (refusal c count event)
refusal_of_link c count LinkConnect = go (has_link c.state)
  where
    go : (b : Bool) → IsOfLink (if b then Some (WrongState c.state c.quit) else None)
    go true = refl
    go false = tt
refusal_of_link c count (LinkSend packet) =
    go (is_closed c) (nat_le most_packets count) (nat_lt most_octets (length packet.octets))
  where
    go : (closed full long : Bool) → IsOfLink (if closed then Some (WrongState c.state c.quit) else
        if full then Some Full else if long then Some (TooLong (length packet.octets)) else None)
    go true full long = refl
    go false true long = refl
    go false false true = refl
    go false false false = tt
refusal_of_link c count LinkDisconnect = go (takes_none c.state)
  where
    go : (b : Bool) → IsOfLink (if b then Some (WrongState c.state c.quit) else None)
    go true = refl
    go false = tt
refusal_of_link c count (LinkHear frame) = tt
refusal_of_link c count (LinkTick still) = tt
refusal_of_link c count (LinkSeize last full) = tt

-- a request that the link refuses has that cause
pub refused_asked :
    (request : Request) (end : End) (number : ℕ) (w : World) (fault : LinkFault)
    → refusal_of w.a.end.machine (seen_of request) ≡ Some fault
    → near_cause number (event_of request end) w ≡ Some (world_fault_of fault)
refused_asked request end number w fault e =
    let m = w.a.end.machine in
    let of_link = subst IsOfLink e (refusal_of_link m.control (length m.outgoing.packets) (seen_of request)) in
    refused_cause (event_of request end) number w fault (same_refusal request end m ∙ e) ∙ ap Some (sym of_link)

-- the channel by what was counted
counted :
    (makes noisy : Bool) (earlier coming : ℕ) (ahead back : List InFlight) → earlier ≡ asking ahead
    → coming ≡ answering back → noisy ≡ (makes && not (earlier + coming == 0))
    → noisy ≡ (makes && not (is_quiet_between ahead back))
counted makes noisy earlier coming ahead back is_ahead is_back known =
    known ∙ ap (λ n. makes && not (n + coming == 0)) is_ahead
    ∙ ap (λ n. makes && not (asking ahead + n == 0)) is_back

-- a request that the link does not refuse is refused exactly if its link asks, and the channel is not quiet
pub asked_cause :
    (request : Request) (end : End) (number : ℕ) (w : World) (near far : HeldSide) (makes noisy : Bool)
    (earlier coming : ℕ)
    → StandForBoth near far w → refusal_of w.a.end.machine (seen_of request) ≡ None
    → makes ≡ asks w.a.end.machine (seen_of request) → earlier ≡ asking far.towards.items
    → coming ≡ answering near.towards.items → noisy ≡ (makes && not (earlier + coming == 0))
    → near_cause number (event_of request end) w ≡ cause_by None (not noisy) number
asked_cause request end number w near far makes noisy earlier coming both free told ahead back known =
    let m = w.a.end.machine in
    let quiet = not (is_quiet_between far.towards.items near.towards.items) in
    cause_before (event_of request end) (happening_of request) number w far.towards.items near.towards.items noisy
    (is_asked request end w near.towards.items both.of_near.towards) (same_refusal request end m ∙ free) both.of_far.towards
    (counted makes noisy earlier coming far.towards.items near.towards.items ahead back known ∙ ap (λ b. b && quiet) told
    ∙ ap (λ e. asks m e && quiet) (same_seen request))

-- the frames in flight are as many as in the world
count_of : (near : HeldSide) (w : World) → near.towards.items ≡ all_in_flight w.a.towards → length near.towards.items
    ≡ length w.a.towards
count_of near w e = ap length e ∙ length-map w.a.towards in_flight

-- the cause of what is heard, if the link reads it so
cause_by_reading :
    (end : End) (number : ℕ) (w : World) (near far : HeldSide) (heard : InFlight) (read : Option Frame) (noisy : Bool)
    → StandForBoth near far w → ReadsFront near heard read
    → noisy ≡ (hearing_asks w.a.end.machine read
    && not (is_quiet_between far.towards.items (drop 1 near.towards.items)))
    → near_cause number (Hear end) w ≡ cause_by None (not noisy) number
cause_by_reading end number w near far heard None noisy both front known =
    let turn = passed_turn end w near far heard both front in
    let some = front.some in
    let count = count_of near w both.of_near.towards in
    cause_is number (Hear end) w None true (lt-ltb 0 (length w.a.towards) (omega (arith, some, count))) refl
    (ap (λ (t : EndTurn). is_alone (asks_in t.sent) (asks_in w.b.towards + answers_in (drop 1 w.a.towards))) turn)
    ∙ ap (λ b. cause_by None (not b) number) (sym known)
cause_by_reading end number w near far heard (Some frame) noisy both front known =
    let is = is_heard end w near far heard frame both front in
    cause_before (Hear end) (Hears (record is.tagged { frame = frame })) number w far.towards.items
    (drop 1 near.towards.items) noisy is.asked refl both.of_far.towards known

-- what is heard is refused exactly if the link asks on it, and the channel is not quiet
pub heard_cause :
    (end : End) (number : ℕ) (w : World) (near far : HeldSide) (heard : InFlight) (makes noisy : Bool)
    (earlier coming : ℕ)
    → StandForBoth near far w → 0 < length near.towards.items → heard ≡ slice_index_or near.towards.items 0 heard
    → makes ≡ hearing_asks w.a.end.machine (frame_read heard.sent.modulus (modulus_named near.link.incoming.modulus)
    heard.sent.frame)
    → earlier ≡ asking far.towards.items → coming ≡ answering (drop 1 near.towards.items)
    → noisy ≡ (makes && not (earlier + coming == 0))
    → near_cause number (Hear end) w ≡ cause_by None (not noisy) number
heard_cause end number w near far heard makes noisy earlier coming both some first told ahead back known =
    let quiet = not (is_quiet_between far.towards.items (drop 1 near.towards.items)) in
    cause_by_reading end number w near far heard
    (frame_read heard.sent.modulus (modulus_named near.link.incoming.modulus) heard.sent.frame) noisy both
    (record { some = some; first = first; read = refl })
    (counted makes noisy earlier coming far.towards.items (drop 1 near.towards.items) ahead back known
    ∙ ap (λ b. b && quiet) told)

-- an event that speaks of a frame that is not there has that cause
pub missing_cause :
    (event : Event) (number : ℕ) (w : World) → is_there event (length w.a.towards) ≡ false
    → near_cause number event w ≡ Some NothingThere
missing_cause event number w none =
    ap (λ b. if b then cause_by (refused_by event w.a.end.machine) (sends_alone w event) number else Some NothingThere)
    none

-- the same by what a side keeps
pub missing_from :
    (event : Event) (number : ℕ) (w : World) (near far : HeldSide)
    → StandForBoth near far w → is_there event (length near.towards.items) ≡ false
    → near_cause number event w ≡ Some NothingThere
missing_from event number w near far both none =
    missing_cause event number w (ap (is_there event) (sym (count_of near w both.of_near.towards)) ∙ none)

-- the loss of one that is there has none
pub lost_cause :
    (end : End) (index number : ℕ) (w : World) (near far : HeldSide)
    → StandForBoth near far w → index < length near.towards.items → near_cause number (Lose end index) w ≡ None
lost_cause end index number w near far both there =
    let count = count_of near w both.of_near.towards in
    cause_is number (Lose end index) w None true (lt-ltb index (length w.a.towards) (omega arith)) refl refl

-- a cause is answered, and if there is none at most want of memory
pub answered_by :
    {T : Type 0} (result : Result T WorldFault) (cause is : Option WorldFault) → cause ≡ is → IsAnswered is result
    → IsAnswered cause result
answered_by result cause is e h = subst (λ c. IsAnswered c result) (sym e) h

-- without a cause, want of memory is an answer
pub memory_answered :
    {T : Type 0} (result : Result T WorldFault) (cause : Option WorldFault) → cause ≡ None
    → IsErrAnd result (λ fault. fault ≡ Memory) → IsAnswered cause result
memory_answered result cause none is =
    let err = err_from_is_err_and result is in
    answered_by result cause None none (subst (λ r. IfErr r (λ fault. fault ≡ Memory)) (sym err.1) err.2)
