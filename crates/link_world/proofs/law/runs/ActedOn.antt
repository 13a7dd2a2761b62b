-- All I and S frames that a set-up acted on are of its mate.
use Rattle.link_world.proofs.Common.{◌≡◌, ℕ, Bool, true, false, if◌then◌else◌, List, [], ◌∷◌, ◌++◌, Some, is_some, refl}
use Rattle.link_world.proofs.Common.{sym, ap, ◌∙◌, subst, fold, All-from_recursion, Frame, Packet, LinkState, Told}
use Rattle.link_world.proofs.Common.{Opened, Given, Ended, Sent, sent_kind, InfoSent, SuperSent, SetupSent, refusal_of}
use Rattle.link_world.proofs.Common.{Turn, SetUp, change_last, last_changed, giving, getting, acting, Tagged}
use Rattle.link_world.proofs.Common.{is_numbered, RecordedEnd, Happening, told_of, opening, taking, hearing, noting}
use Rattle.link_world.proofs.Common.{accepts, following, Sends, Hears, read_in, XidSent}
use Rattle.std.proofs.Common.{All}
use Rattle.std.specs.List.{AllByRecursion as Each}
use Rattle.link_machine.specs.declared.state.LinkState.TheVariants.{Idle as IdleState, Calling as CallingState}
use Rattle.link_machine.specs.declared.state.LinkState.TheVariants.{Up as UpState, Releasing as ReleasingState}
use Rattle.link_machine.specs.Event.Event.{Send}
use Rattle.link_world.proofs.law.reduced.Core.{End, Tagged as CoreTagged, between}
use Rattle.link_world.proofs.law.reduced.CoreOf.{end_following, up_end}
use Rattle.link_world.specs.Origin.{ActedOnOne}
use Rattle.link_world.proofs.law.Each.{each_weaker, each_pushed, each_before, each_last}
use Rattle.link_world.proofs.law.invariant.Upward.{front_of_mate}
use Rattle.link_world.proofs.law.invariant.Invariant.{Invariant}
use Rattle.link_world.proofs.law.showing.Shown.{core_set_up, core_set_ups, core_tagged, change_last-push, Shown}
use Rattle.link_world.proofs.law.showing.Shown.{IsWritten}
use Rattle.link_world.proofs.law.showing.Heard.{arrival_of}
use Rattle.link_world.proofs.law.runs.EndSteps.{kind_of_up, read_frame_as, read_frame_same}
use Rattle.link_world.proofs.law.showing.Shown.Shown.{ShownIdle, ShownCalling, ShownUp, ShownReleasing}

abbrev pub ActedOnMate : SetUp → Type 0
ActedOnMate q = Each (λ n. n ≡ q.mate) q.acted_on

-- the last set-up changes, and its mate and what it acted on stay
last_changed_keeps :
    (P : SetUp → Type 0) (f : SetUp → SetUp) → ((q : SetUp) → P q → P (f q)) → (q : SetUp) (qs : List SetUp) → P q
    → Each P qs → Each P (last_changed f q qs)
last_changed_keeps P f keeps q [] here rest = (keeps q here, tt)
last_changed_keeps P f keeps q (p ∷ qs) here rest = (here, last_changed_keeps P f keeps p qs rest.0 rest.1)

change_last_keeps :
    (P : SetUp → Type 0) (f : SetUp → SetUp) → ((q : SetUp) → P q → P (f q)) → (qs : List SetUp) → Each P qs
    → Each P (change_last f qs)
change_last_keeps P f keeps [] h = tt
change_last_keeps P f keeps (q ∷ qs) h = last_changed_keeps P f keeps q qs h.0 h.1

told_keeps :
    (next : SetUp) (qs : List SetUp) (told : List Told) → ActedOnMate next → Each ActedOnMate qs
    → Each ActedOnMate (fold (told_of next) qs told)
told_keeps next qs [] none h = h
told_keeps next qs (Opened ours ∷ told) none h =
    told_keeps next (qs ++ next ∷ []) told none (each_pushed ActedOnMate qs next h none)
told_keeps next qs (Given packet ∷ told) none h = told_keeps next (change_last (getting packet) qs) told none
    (change_last_keeps ActedOnMate (getting packet) (λ q a. a) qs h)
told_keeps next qs (Ended why ∷ told) none h = told_keeps next qs told none h

-- what is told changes nothing of it
pub acted_after :
    (h : Happening) (r : RecordedEnd) (turn : Turn) → Each ActedOnMate (noting h r).set_ups
    → Each ActedOnMate (following h r turn).set_ups
acted_after h r turn acted = told_keeps (opening h (noting h r) turn) (noting h r).set_ups turn.told tt acted

taking_keeps :
    (state : LinkState) (packet : Packet) (r : RecordedEnd) → Each ActedOnMate r.set_ups
    → Each ActedOnMate (taking state packet r).set_ups
taking_keeps IdleState packet r h = h
taking_keeps CallingState packet r h = h
taking_keeps UpState packet r h = change_last_keeps ActedOnMate (giving packet) (λ q a. a) r.set_ups h
taking_keeps ReleasingState packet r h = h

pub acted_sends :
    (packet : Packet) (r : RecordedEnd) → Each ActedOnMate r.set_ups
    → Each ActedOnMate (noting (Sends packet) r).set_ups
acted_sends packet r h = go (is_some (refusal_of r.machine (Send packet)))
  where
    go : (b : Bool) → Each ActedOnMate (if b then r else taking r.machine.control.state packet r).set_ups
    go true = h
    go false = taking_keeps r.machine.control.state packet r h

-- the last one acts on a frame of its mate
acting_keeps :
    (qs ended : List SetUp) (last : SetUp) {number : ℕ} (takes : Bool) → qs ≡ ended ++ last ∷ [] → number ≡ last.mate
    → Each ActedOnMate qs → Each ActedOnMate (change_last (acting number takes) qs)
acting_keeps qs ended last {number} takes is mate h =
    let all = subst (λ t. Each ActedOnMate t) is h in
    subst (λ t. Each ActedOnMate t) (sym (ap (change_last (acting number takes)) is
    ∙ change_last-push (acting number takes) ended last))
    (each_pushed ActedOnMate ended (acting number takes last) (each_before ActedOnMate ended last all)
    (each_pushed _ last.acted_on number (each_last ActedOnMate ended last all) mate))

-- the mate of the last set-up, of a frame that is acted on
mate_of_front :
    (r : RecordedEnd) (ended : List SetUp) (last : SetUp) (f : Tagged) (sent : Sent) {y : End}
    {rest to_y : List CoreTagged} → is_numbered (sent_kind f.modulus sent) ≡ true
    → Invariant (between (up_end r.machine (core_set_ups ended) (core_set_up last)) y
    (core_tagged (record f { sent = sent }) ∷ rest) to_y) → f.set_up ≡ last.mate
mate_of_front r ended last f (InfoSent ns nr poll packet) is inv =
    front_of_mate (end_following r.machine (core_set_ups ended)) inv
mate_of_front r ended last f (SuperSent which command nr flag) is inv =
    front_of_mate (end_following r.machine (core_set_ups ended)) inv
mate_of_front r ended last f (SetupSent which flag) is inv = absurd (Rattle.std.proofs.lemmas.Bool.false≢true is)
mate_of_front r ended last f (XidSent command flag own) is inv =
    absurd (Rattle.std.proofs.lemmas.Bool.false≢true is)

pub acted_hears :
    {r : RecordedEnd} {x y : End} {f : Tagged} (frame : Frame) {rest to_y : List CoreTagged} → Shown r x → IsWritten f
    → read_in r.machine.incoming.modulus f ≡ Some frame
    → Invariant (between x y (core_tagged f ∷ rest) to_y) → Each ActedOnMate r.set_ups
    → Each ActedOnMate (noting (Hears (record f { frame = frame })) r).set_ups
acted_hears {r} {x} {y} {f} frame {rest} {to_y} shown written is inv h = by_state x shown inv
  where
    g : Tagged
    g = record f { frame = frame }

    by_state : (x : End) → Shown r x → Invariant (between x y (core_tagged f ∷ rest) to_y)
        → Each ActedOnMate (hearing r.machine.control.state g r).set_ups
    by_state x (ShownIdle state packets waiting) inv = subst (λ s. Each ActedOnMate (hearing s g r).set_ups)
        (sym state) h
    by_state x (ShownCalling state waiting) inv = subst (λ s. Each ActedOnMate (hearing s g r).set_ups) (sym state) h
    by_state x (ShownUp ended last qs state waiting) inv =
        subst (λ s. Each ActedOnMate (hearing s g r).set_ups) (sym state) (go (is_numbered frame.kind) refl)
      where
        kind : frame.kind ≡ sent_kind f.modulus f.sent
        kind = kind_of_up r.machine ended last frame.kind (arrival_of frame f) f.sent
            (read_frame_as r.machine.incoming.modulus frame written is) (read_frame_same frame written is) inv

        go : (b : Bool) → is_numbered frame.kind ≡ b → Each ActedOnMate (if b then record r
            { set_ups = change_last (acting f.set_up (accepts r.machine frame.kind)) r.set_ups } else r).set_ups
        go true e = acting_keeps r.set_ups ended last (accepts r.machine frame.kind) qs
            (mate_of_front r ended last f f.sent (sym (ap is_numbered kind) ∙ e) inv) h
        go false e = h
    by_state x (ShownReleasing state packets waiting) inv =
        subst (λ s. Each ActedOnMate (hearing s g r).set_ups) (sym state) h

-- so they come from one set-up of the other end
pub one_source_holds : (qs : List SetUp) → Each ActedOnMate qs → All ActedOnOne qs
one_source_holds qs h = All-from_recursion ActedOnOne qs
    (each_weaker ActedOnMate ActedOnOne (λ q a. (q.mate, All-from_recursion (λ n. n ≡ q.mate) q.acted_on a)) qs h)
