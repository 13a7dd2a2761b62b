-- XID and an end that is up: it sends XID alone, and goes on.
use Rattle.link_world.proofs.Common.{◌≡◌, ℕ, ◌+◌, ◌-◌, ◌==◌, Bool, true, false, ◌&&◌, if◌then◌else◌, List, [], ◌∷◌}
use Rattle.link_world.proofs.Common.{◌++◌, length, map, refl, sym, ap, ◌∙◌, subst, arith, Control, LinkParameters}
use Rattle.link_world.proofs.Common.{sent_in, XidSent, begin, setting, settled, settle_in, hear_up, SetUp, RecordedEnd}
use Rattle.link_world.proofs.Common.{Happening, tagged, waiting_in, noting, hearing, hears_ask, Hears, Turn}
use Rattle.link_machine.specs.declared.state.LinkState.TheVariants.{Up as UpState}
use Rattle.link_machine.specs.Acts.{release}
use Rattle.link_machine.specs.Negotiation.{agree, agreed, awaits_xid, concluding, has_done, using}
use Rattle.link_machine.specs.Sent.{xid_octets}
use Rattle.link_world.specs.Flight.{set_up_now}
use Rattle.link_world.proofs.law.reduced.Core.{End, Tagged as CoreTagged, between}
use Rattle.link_world.proofs.law.reduced.Core.Kind.{Dm}
use Rattle.link_world.proofs.law.reduced.CoreMoves.{of_end}
use Rattle.link_world.proofs.law.reduced.CoreOf.{up_end}
use Rattle.link_world.proofs.law.invariant.Invariant.{Invariant}
use Rattle.link_world.proofs.law.moves.Losing.{lose_keeps}
use Rattle.link_world.proofs.law.moves.Kept.{send_dm_keeps}
use Rattle.link_world.proofs.law.showing.Shown.{core_flight, core_set_up, core_set_ups, core_tagged}
use Rattle.link_world.proofs.law.showing.Shown.Shown.{ShownUp}
use Rattle.link_world.proofs.law.showing.Outcome.{Keeps, Outcome, end_with, outcome_after}
use Rattle.link_world.proofs.law.showing.Heard.{Arrival, heard_frame}
use Rattle.link_world.proofs.law.down.Ends.{goes_on}
use Rattle.link_world.proofs.law.up.Acts.{choice_keeps, passed_over, setting_keeps}
use Rattle.link_world.proofs.law.up.Events.{UpEnd, up_begins, up_goes_on}
use Rattle.link_world.proofs.law.up.Settling.{length_of_last}

-- XID goes out, and what waits keeps the link up
pub up_exchanges :
    {h : Happening} {r : RecordedEnd} {ended : List SetUp} {last : SetUp} {y : End} {was to_x to_y : List CoreTagged}
    (c : Control) (command flag : Bool) (own : LinkParameters) → UpEnd r ended last y was to_y → hears_ask h ≡ false
    → noting h r ≡ r → c.state ≡ UpState → (c.quit && length r.machine.outgoing.packets == 0) ≡ false
    → Invariant (between (up_end r.machine (core_set_ups ended) (core_set_up last)) y to_x to_y)
    → Keeps h r y to_x to_y (settled (goes_on r.machine c
    (sent_in r.machine.incoming.modulus (XidSent command flag own) ∷ [])))
up_exchanges {h} {r} {ended} {last} {y} {was} {to_x} {to_y} c command flag own u no_ask noted state stays inv =
    subst (Keeps h r y to_x to_y) (sym rests) kept
  where
    turn : Turn
    turn = goes_on r.machine c (sent_in r.machine.incoming.modulus (XidSent command flag own) ∷ [])

    rests : settled turn ≡ turn
    rests = ap (λ s. settle_in s turn) state ∙ ap (λ b. if b then release turn else turn) stays

    all : List SetUp
    all = ended ++ last ∷ []

    after : RecordedEnd
    after = end_with turn.now all []

    x : End
    x = up_end r.machine (core_set_ups ended) (core_set_up last)

    less_one : (n : ℕ) → n + 1 - 1 ≡ n
    less_one n = omega arith

    tag : set_up_now c.state (length all) ≡ length (core_set_ups ended)
    tag = ap (λ s. set_up_now s (length all)) state ∙ ap (λ n. n - 1) (length_of_last ended last)
        ∙ less_one (length (core_set_ups ended))

    flight : core_flight (map (tagged false after) turn.sent) ≡ of_end x (Dm false) ∷ []
    flight = ap (λ t. record { tag = t; kind = Dm false } ∷ []) tag

    outcome : Outcome y to_x to_y false r.machine.params after turn.sent
    outcome = record {
      end_is = x;
      shown = ShownUp ended last refl state refl;
      params = refl;
      sound = u.sound;
      holds = subst (λ fs. Invariant (between x y to_x (to_y ++ fs))) (sym flight) (send_dm_keeps inv);
      written = (record { kind = refl; answers = refl }, tt);
    }

    kept : Keeps h r y to_x to_y turn
    kept = record {
      outcome = λ alone. outcome_after h r turn (ap (λ (e : RecordedEnd). e.set_ups) noted ∙ u.set_ups)
          (ap (λ s. waiting_in s (noting h r).waiting) state)
          (subst (λ b. Outcome y to_x to_y b r.machine.params after turn.sent) (sym no_ask) outcome);
    }

-- XID leaves the record as it is
noted_xid :
    {r : RecordedEnd} {ended : List SetUp} {last : SetUp} {y : End} {to_x to_y : List CoreTagged} (a : Arrival)
    (command flag : Bool) (own : LinkParameters) → UpEnd r ended last y to_x to_y
    → noting (Hears (heard_frame a (XidSent command flag own))) r ≡ r
noted_xid {r} a command flag own u = ap (λ s. hearing s (heard_frame a (XidSent command flag own)) r) u.state

-- XID is heard: a command is answered, and the answer to a command is taken
pub up_hears_xid :
    {r : RecordedEnd} {ended : List SetUp} {last : SetUp} (a : Arrival) (command flag : Bool) (own : LinkParameters)
    (heard : Bool) {y : End} {rest to_y : List CoreTagged} → let f = heard_frame a (XidSent command flag own) in
    UpEnd r ended last y (core_tagged f ∷ rest) to_y
    → Keeps (Hears f) r y rest to_y (settled (hear_up heard f.frame.kind (begin r.machine)))
up_hears_xid {r} {ended} {last} a command flag own true {y} {rest} {to_y} u = go (has_done r.machine) refl
  where
    go : (b : Bool) → has_done r.machine ≡ b
        → Keeps (Hears (heard_frame a (XidSent command flag own))) r y rest to_y
        (settled (if b then begin r.machine else agree flag (xid_octets own) (begin r.machine)))
    go true done = up_goes_on u refl (ap (λ (e : RecordedEnd). e.set_ups) (noted_xid a command flag own u))
        (passed_over (up_begins u))
    go false stays =
        let agreed_now = agreed (xid_octets own) r.machine in
        up_exchanges (using agreed_now r.machine.control) false flag agreed_now u refl (noted_xid a command flag own u) u.state stays
        (lose_keeps [] (core_tagged (heard_frame a (XidSent command flag own))) rest u.holds)
up_hears_xid {r} a command flag own false u =
    let up = passed_over (up_begins u) in
    up_goes_on u refl (ap (λ (e : RecordedEnd). e.set_ups) (noted_xid a command flag own u))
    (choice_keeps (flag && awaits_xid r.machine.control)
    (setting_keeps (concluding (agreed (xid_octets own) r.machine)) (λ c. refl) up) up)
