-- Who matches the heard frames of all links, and finds the channel quiet for all of them, does so for each link.
use Rattle.station_laws.proofs.Common.{◌≡◌, ℕ, Bool, true, false, not, ◌||◌, ◌&&◌, List, [], ◌∷◌, Option, Some, None, refl}
use Rattle.station_laws.proofs.Common.{ap, ◌∙◌, inl, inr, list_any, or_cases, or_left, or_right, or_parts}
use Rattle.station_laws.proofs.Common.{Callsign, End, other, Moment, Steps, Passes, LinkFrame, OneWay, BothWays}
use Rattle.station_laws.proofs.Common.{AreMatched, AreMatchedFor, AreQuietAt, AreQuietAtFor, AreQuietFor}
use Rattle.station_laws.proofs.Common.{AreQuietThrough, IsMatched, IsMatchedFor, IsOffAir, Input, Step}
use Rattle.station_laws.proofs.Common.{FromHost, OffAir, OfClock, after_moment, answers, hears_ask, hearing_at, in_flight}
use Rattle.station_laws.proofs.Common.{is_ask, is_from_to, queueing_at, sent_by, Calls, call_at_end, and_right}
use Rattle.std.proofs.lemmas.Bool.{not_from_false, not-true}
use Rattle.station_laws.specs.InFlight.{asks, is_quiet_for}
use Rattle.station_laws.specs.LinkInFlight.{answers_from_to, asks_from_to, is_quiet_for_link}

-- ---- matched

matched_one :
    (l r : Callsign) (step : Step) (matched : Option ℕ) (way : OneWay) → IsMatched step.input matched way
    → IsMatchedFor l r step matched way
matched_one l r step None way is = λ octets hears. by_input step.input is octets hears.link.input
  where
    by_input : (input : Input) → IsMatched input None way → (octets : List ℕ) → IsOffAir input octets → ⊥
    by_input (FromHost event) h octets off = off
    by_input (OffAir heard) h octets off = h
    by_input (OfClock busy) h octets off = off
matched_one l r step (Some number) way is = is

pub matched_for_each :
    (calls : Calls) (moments : List Moment) (ways : BothWays) → AreMatched moments ways
    → AreMatchedFor calls moments ways
matched_for_each calls [] ways h = tt
matched_for_each calls (Steps step found ∷ moments) ways h = (
  matched_one (call_at_end calls step.station) (call_at_end calls (other step.station)) step found
      (sent_by (other step.station) ways) h.0,
  matched_for_each calls moments (after_moment (Steps step found) ways) h.1,
)
matched_for_each calls (Passes sender below ∷ moments) ways h =
    (h.0, matched_for_each calls moments (after_moment (Passes sender below) ways) h.1)

-- ---- quiet

none_between :
    (source dest : Callsign) (of : LinkFrame → Bool) (frames : List LinkFrame) → list_any of frames ≡ false
    → list_any (λ (f : LinkFrame). is_from_to source dest f.octets && of f) frames ≡ false
none_between source dest of [] none = refl
none_between source dest of (f ∷ frames) none =
    let parts = or_parts (of f) (list_any of frames) none in
    ap (λ b. b || list_any (λ (g : LinkFrame). is_from_to source dest g.octets && of g) frames)
    (and_right (is_from_to source dest f.octets) (of f) parts.0)
    ∙ none_between source dest of frames parts.1

quiet_one_for :
    (l r : Callsign) (octets : List ℕ) (own back : OneWay) → is_quiet_for octets own back ≡ true
    → is_quiet_for_link l r octets own back ≡ true
quiet_one_for l r octets own back quiet =
    let flying = list_any asks (in_flight own) || list_any answers (in_flight back) in
    let own_asks = list_any (asks_from_to l r) (in_flight own) in
    let own_answers = list_any (answers_from_to r l) (in_flight back) in
    let asking = is_from_to l r octets && is_ask octets in
    elim (or_cases (not (is_ask octets)) (not flying) quiet) [
      | inl calm ↦
          or_left (not asking) (not (own_asks || own_answers))
          (not_from_false asking (and_right (is_from_to l r octets) (is_ask octets) (not-true (is_ask octets) calm)))
      | inr calm ↦
          let parts = or_parts (list_any asks (in_flight own)) (list_any answers (in_flight back))
          (not-true flying calm) in
          let none : (own_asks || own_answers) ≡ false =
          ap (λ b. b || own_answers) (none_between l r asks (in_flight own) parts.0)
          ∙ none_between r l answers (in_flight back) parts.1 in
          or_right (not asking) (not (own_asks || own_answers)) (not_from_false (own_asks || own_answers) none)
    ]

quiet_at_for :
    (calls : Calls) (e : End) (on : Bool) (queue : List (List ℕ)) (ways : BothWays) → AreQuietAt e on queue ways
    → AreQuietAtFor calls e on queue ways
quiet_at_for calls e on [] ways h = tt
quiet_at_for calls e on (octets ∷ queue) ways h = (
  quiet_one_for (call_at_end calls e) (call_at_end calls (other e)) octets (sent_by e ways) (sent_by (other e) ways)
      h.0,
  quiet_at_for calls e on queue (queueing_at e on octets ways) h.1,
)

pub quiet_for_each :
    (calls : Calls) (moments : List Moment) (ways : BothWays) → AreQuietThrough moments ways
    → AreQuietFor calls moments ways
quiet_for_each calls [] ways h = tt
quiet_for_each calls (Steps step found ∷ moments) ways h = (
  quiet_at_for calls step.station (hears_ask step.input) step.after.out.queued (hearing_at step.station found ways) h.0,
  quiet_for_each calls moments (after_moment (Steps step found) ways) h.1,
)
quiet_for_each calls (Passes sender below ∷ moments) ways h =
    (tt, quiet_for_each calls moments (after_moment (Passes sender below) ways) h.1)
