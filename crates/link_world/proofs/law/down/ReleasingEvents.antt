-- Events of an end that releases the link.
use Rattle.link_world.proofs.Common.{XidSent}
use Rattle.link_world.proofs.Common.{◌≡◌, ◌+◌, Bool, true, false, ◌&&◌, if◌then◌else◌, List, [], ◌∷◌, inl, inr, refl}
use Rattle.link_world.proofs.Common.{sym, ap, subst, arith, false≢true, Info, Super, Setup, Ui, Other, U, Control}
use Rattle.link_world.proofs.Common.{Failed, Sent, InfoSent, SuperSent, SetupSent, begin, tick, tick_in, is_spent}
use Rattle.link_world.proofs.Common.{retried, end_call, answer_dm, settled, Tagged, is_numbered, RecordedEnd, hears_ask}
use Rattle.link_world.proofs.Common.{Ticks, Hears}
use Rattle.ax25_frames.specs.declared.frame.Kind.{Kind as FrameKind}
use Rattle.ax25_frames.specs.declared.frame.U.TheVariants.{Sabm as SabmFrame, Sabme as SabmeFrame, Disc as DiscFrame}
use Rattle.ax25_frames.specs.declared.frame.U.TheVariants.{Dm as DmFrame, Ua as UaFrame}
use Rattle.link_machine.specs.declared.state.LinkState.TheVariants.{Releasing as ReleasingState}
use Rattle.link_machine.specs.declared.acts.Why.TheVariants.{Asked}
use Rattle.link_machine.specs.Turn.{nothing}
use Rattle.link_machine.specs.Ticks.{release_again}
use Rattle.link_machine.specs.Frames.{hear_releasing}
use Rattle.link_world.proofs.law.reduced.Core.{End, Tagged as CoreTagged}
use Rattle.link_world.proofs.law.reduced.CoreMoves.{asks, answers}
use Rattle.link_world.proofs.law.reduced.CoreOf.{end_following}
use Rattle.link_world.specs.Flight.{asks as asks_kind}
use Rattle.link_world.proofs.law.showing.Readings.{IsReadAs}
use Rattle.link_world.proofs.law.moves.Losing.{lose_keeps}
use Rattle.link_world.proofs.law.moves.Kept.{release_keeps}
use Rattle.link_world.proofs.law.moves.Declining.{decline_releasing_keeps}
use Rattle.link_world.proofs.law.showing.Shown.{core_set_ups, core_tagged}
use Rattle.link_world.proofs.law.down.Ticks.{ticks_down}
use Rattle.link_world.proofs.law.up.Settling.{disc_in}
use Rattle.link_world.proofs.law.showing.Outcome.{Keeps, IsAlone, end_with}
use Rattle.link_world.proofs.law.showing.Heard.{Arrival, heard_as, heard_frame}
use Rattle.link_world.proofs.law.down.Ends.{DownEnd, IsDown, goes_on, setup_sent, down_stays, down_silent, down_passes}
use Rattle.link_world.proofs.law.down.Ends.{down_noted, down_answers, down_dm, down_declines, down_ends}

-- DISC goes out once more, or the release has failed
releases_again :
    {r : RecordedEnd} (c : Control) (waiting : Bool) {y : End} {to_x to_y : List CoreTagged}
    → DownEnd ReleasingState r y to_x to_y → c.state ≡ ReleasingState
    → Keeps (Ticks waiting) r y to_x to_y (settled (release_again (goes_on r.machine c [])))
releases_again {r} c waiting {y} {to_x} {to_y} d state = go (is_spent c)
  where
    e : RecordedEnd
    e = end_with (record r.machine { control = retried c }) r.set_ups r.machine.outgoing.packets

    by_alone : IsAlone to_x to_y (disc_in r.machine ∷ []) → asks to_y + answers to_x ≡ 0
    by_alone (inl none) = absurd (omega arith)
    by_alone (inr quiet) = quiet

    go : (b : Bool) → Keeps (Ticks waiting) r y to_x to_y
        (settled (if b then end_call Failed (goes_on r.machine c []) else goes_on r.machine (retried c)
        (disc_in r.machine ∷ [])))
    go true = down_ends c Failed d refl d.holds
    go false = down_stays (retried c) (disc_in r.machine ∷ []) d state refl
        (setup_sent false e r.machine.incoming.modulus DiscFrame true
        (subst (λ s. IsDown s r.machine.outgoing.packets) (sym state) d.down) refl)
        (λ alone. release_keeps (by_alone alone) d.holds)

pub releasing_ticks :
    {r : RecordedEnd} (waiting : Bool) {y : End} {to_x to_y : List CoreTagged} → DownEnd ReleasingState r y to_x to_y
    → Keeps (Ticks waiting) r y to_x to_y (settled (tick waiting (begin r.machine)))
releasing_ticks {r} waiting {y} {to_x} {to_y} d =
    subst (λ s. Keeps (Ticks waiting) r y to_x to_y (settled (tick_in s waiting (begin r.machine)))) (sym d.state_is)
    (ticks_down (λ t. Keeps (Ticks waiting) r y to_x to_y (settled t)) r.machine ReleasingState d.down
    (λ c is. down_silent c d is refl d.holds) (λ c is. releases_again c waiting d is) waiting d.state_is)

-- an I or S frame, whatever it says: a DM goes out, or nothing
releasing_by :
    {r : RecordedEnd} {f : Tagged} (b : Bool) {y : End} {rest to_y : List CoreTagged}
    → DownEnd ReleasingState r y (core_tagged f ∷ rest) to_y → hears_ask (Hears f) ≡ false
    → Keeps (Hears f) r y rest to_y (settled ((if b then answer_dm true else nothing) (begin r.machine)))
releasing_by true d no_ask = down_dm true d no_ask
releasing_by false d no_ask = down_passes d

releasing_hears_numbered :
    {r : RecordedEnd} {f : Tagged} (command : Bool) (kind : FrameKind) {y : End} {rest to_y : List CoreTagged}
    → DownEnd ReleasingState r y (core_tagged f ∷ rest) to_y → f.frame.kind ≡ kind → is_numbered kind ≡ true
    → Keeps (Hears f) r y rest to_y (settled (hear_releasing command kind (begin r.machine)))
releasing_hears_numbered command (Info ns nr flag pid octets) d is numbered = releasing_by flag d (ap asks_kind is)
releasing_hears_numbered command (Super which nr flag) d is numbered =
    releasing_by (command && flag) d (ap asks_kind is)
releasing_hears_numbered command (Setup which flag) d is numbered = absurd (false≢true numbered)
releasing_hears_numbered command (Ui flag pid octets) d is numbered = absurd (false≢true numbered)
releasing_hears_numbered command (Other which flag octets) d is numbered = absurd (false≢true numbered)

-- the UA or DM that ends the release
releasing_ends :
    {r : RecordedEnd} {f : Tagged} {y : End} {rest to_y : List CoreTagged}
    → DownEnd ReleasingState r y (core_tagged f ∷ rest) to_y
    → Keeps (Hears f) r y rest to_y (settled (end_call Asked (begin r.machine)))
releasing_ends {r} {f} {rest} d =
    down_ends r.machine.control Asked d (down_noted f d) (lose_keeps [] (core_tagged f) rest d.holds)

-- a frame without numbers
releasing_hears_setup :
    {r : RecordedEnd} (a : Arrival) (which : U) (flag command : Bool) {y : End} {rest to_y : List CoreTagged}
    → let f = heard_frame a (SetupSent which flag) in
    DownEnd ReleasingState r y (core_tagged f ∷ rest) to_y
    → Keeps (Hears f) r y rest to_y (settled (hear_releasing command f.frame.kind (begin r.machine)))
releasing_hears_setup a SabmFrame flag command d = down_declines flag d refl refl
releasing_hears_setup a SabmeFrame flag command d = down_declines flag d refl refl
releasing_hears_setup {r} a DiscFrame flag command d = down_answers UaFrame flag d refl refl
    (decline_releasing_keeps (end_following r.machine (core_set_ups r.set_ups)) d.holds)
releasing_hears_setup a DmFrame true command d = releasing_ends d
releasing_hears_setup a DmFrame false command d = down_passes d
releasing_hears_setup a UaFrame true command d = releasing_ends d
releasing_hears_setup a UaFrame false command d = down_passes d

-- what it hears, as it is read
pub releasing_hears :
    {r : RecordedEnd} (a : Arrival) (kind : FrameKind) (sent : Sent) (command : Bool) {y : End}
    {rest to_y : List CoreTagged} → let f = heard_as a kind sent in
    DownEnd ReleasingState r y (core_tagged f ∷ rest) to_y → IsReadAs sent kind
    → Keeps (Hears f) r y rest to_y (settled (hear_releasing command kind (begin r.machine)))
releasing_hears a kind (InfoSent ns nr poll packet) command d read = releasing_hears_numbered command kind d refl read
releasing_hears a kind (SuperSent which c nr flag) command d read = releasing_hears_numbered command kind d refl read
releasing_hears {r} a kind (SetupSent which flag) command {y} {rest} {to_y} d read =
    subst (λ k. Keeps (Hears (heard_as a k (SetupSent which flag))) r y rest to_y
    (settled (hear_releasing command k (begin r.machine)))) (sym read) (releasing_hears_setup a which flag command d)
releasing_hears {r} a kind (XidSent c flag own) command {y} {rest} {to_y} d read =
    subst (λ k. Keeps (Hears (heard_as a k (XidSent c flag own))) r y rest to_y
    (settled (hear_releasing command k (begin r.machine)))) (sym read) (down_passes d)
