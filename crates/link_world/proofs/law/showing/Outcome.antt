-- What an event leaves after.
use Rattle.link_world.proofs.Common.{refl, [], ◌≡◌, ◌+◌, Bool, false, List, ◌++◌, map, ◌⊎◌, ap, ◌∙◌, sym, subst}
use Rattle.link_world.proofs.Common.{map-append, fold, Packet, Params, Machine, SentIn, Turn, SetUp, RecordedEnd}
use Rattle.link_world.proofs.Common.{Happening, tagged, waiting_in, told_of, opening, noting, following, hears_ask}
use Rattle.link_world.proofs.law.Each.{each_append}
use Rattle.std.specs.List.{AllByRecursion as Each}
use Rattle.link_world.proofs.law.reduced.Core.{End, Tagged as CoreTagged, between}
use Rattle.link_world.proofs.law.reduced.CoreMoves.{asks, answers}
use Rattle.link_world.proofs.law.reduced.CoreOf.{cores_sent}
use Rattle.link_world.proofs.law.invariant.Invariant.{Invariant}
use Rattle.link_world.proofs.law.showing.PlacesFit.{IsSound}
use Rattle.link_world.proofs.law.showing.Shown.{core_flight, core_tagged, Shown, IsWritten}

-- What an end is after an event that sent these frames: what holds with what was under way still holds.
pub record Outcome (y : End) (to_x to_y : List CoreTagged) (on_ask : Bool) (p : Params) (r : RecordedEnd)
    (sent : List SentIn) : Type 0 where
  pub end_is : End
  pub shown : Shown r end_is
  pub params : r.machine.params ≡ p
  pub sound : IsSound p r.machine.incoming
  pub holds : Invariant (between end_is y to_x (to_y ++ core_flight (map (tagged on_ask r) sent)))
  pub written : Each IsWritten (map (tagged on_ask r) sent)

-- if a SABM, SABME or DISC is sent, no earlier one and no answer is under way
abbrev pub IsAlone : List CoreTagged → List CoreTagged → List SentIn → Type 0
IsAlone to_x to_y sent = (asks (cores_sent false 0 sent) ≡ 0) ⊎ (asks to_y + answers to_x ≡ 0)

-- What is to be shown of an event: if no SABM, SABME or DISC goes out but alone, what holds still holds.
pub record Keeps (h : Happening) (r : RecordedEnd) (y : End) (to_x to_y : List CoreTagged) (turn : Turn) : Type 0 where
  pub outcome : IsAlone to_x to_y turn.sent
      → Outcome y to_x to_y (hears_ask h) r.machine.params (following h r turn) turn.sent

-- an end with its set-ups
abbrev pub end_with : Machine → List SetUp → List Packet → RecordedEnd
end_with m set_ups waiting = record { machine = m; set_ups = set_ups; waiting = waiting }

-- the record after an event
pub outcome_after :
    (h : Happening) (r : RecordedEnd) {y : End} {to_x to_y : List CoreTagged} {on_ask : Bool} {p : Params}
    (turn : Turn) {qs : List SetUp} {waiting : List Packet}
    → fold (told_of (opening h (noting h r) turn)) (noting h r).set_ups turn.told ≡ qs
    → waiting_in turn.now.control.state (noting h r).waiting ≡ waiting
    → Outcome y to_x to_y on_ask p (end_with turn.now qs waiting) turn.sent
    → Outcome y to_x to_y on_ask p (following h r turn) turn.sent
outcome_after h r {y} {to_x} {to_y} {on_ask} {p} turn {qs} {waiting} told waits o =
    subst (λ e. Outcome y to_x to_y on_ask p e turn.sent) (sym is) o
  where
    is : following h r turn ≡ end_with turn.now qs waiting
    is = ap (λ t. end_with turn.now t (waiting_in turn.now.control.state (noting h r).waiting)) told
        ∙ ap (end_with turn.now qs) waits

-- frames as an end sends them, and as the law reads them
pub record IsSentAs (on_ask : Bool) (r : RecordedEnd) (sent : List SentIn) (frames : List CoreTagged) : Type 0 where
  pub flight : core_flight (map (tagged on_ask r) sent) ≡ frames
  pub written : Each IsWritten (map (tagged on_ask r) sent)

pub none_sent : {on_ask : Bool} {r : RecordedEnd} → IsSentAs on_ask r [] []
none_sent = record { flight = refl; written = tt }

-- frames go out, and then others
pub sent_after :
    {on_ask : Bool} {r : RecordedEnd} (sent more : List SentIn) {frames others : List CoreTagged}
    → IsSentAs on_ask r sent frames → IsSentAs on_ask r more others
    → IsSentAs on_ask r (sent ++ more) (frames ++ others)
sent_after {on_ask} {r} sent more {frames} one other =
    let both = map-append (tagged on_ask r) sent more in
    record {
      flight = ap core_flight both ∙ map-append core_tagged (map (tagged on_ask r) sent) (map (tagged on_ask r) more)
          ∙ ap (λ t. t ++ core_flight (map (tagged on_ask r) more)) one.flight ∙ ap (λ t. frames ++ t) other.flight;
      written = subst (Each IsWritten) (sym both) (each_append IsWritten _ _ one.written other.written);
    }
