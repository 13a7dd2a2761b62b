-- The frames of a step, if each SABM, SABME and DISC of the link among them finds a quiet channel: at most one is such
-- a frame, and then nothing of the kind is in flight.
use Rattle.station_laws.proofs.Common.{◌≡◌, ℕ, ◌+◌, ◌≤◌, Bool, true, false, not, ◌||◌, List, [], ◌∷◌, length, ◌⊎◌, refl}
use Rattle.station_laws.proofs.Common.{ap, ◌∙◌, arith, inl, inr, ⊤, count_by, list_any, or_cases, or_parts}
use Rattle.station_laws.proofs.Common.{length-append, End, A, B, other, LinkFrame, OneWay, BothWays, sent_by}
use Rattle.station_laws.proofs.Common.{with_queued, in_flight, is_ask, queueing_at, AreQuietAtFor, Callsign, Calls, ◌&&◌}
use Rattle.station_laws.proofs.Common.{call_at_end, is_from_to}
use Rattle.std.proofs.lemmas.Bool.{not-true, both_ways}
use Rattle.std.proofs.lemmas.List.{drop-append-le}
use Rattle.station_laws.specs.LinkInFlight.{answers_from_to, asks_from_to, is_quiet_for_link}
use Rattle.station_laws.proofs.Counts.{one, count_cons, count_append, count_none}
use Rattle.station_laws.proofs.Framed.{one_framed, framed}

-- the two directions as their station sees them
abbrev pub AreQuietOne : (l r : Callsign) → Bool → List (List ℕ) → OneWay → OneWay → Type 0
AreQuietOne l r on [] own back = ⊤
AreQuietOne l r on (octets ∷ rest) own back =
    (is_quiet_for_link l r octets own back ≡ true)
    × AreQuietOne l r on rest (with_queued (one_framed on octets) own) back

pub quiet_one :
    (calls : Calls) (e : End) (on : Bool) (queue : List (List ℕ)) (ways : BothWays)
    → AreQuietAtFor calls e on queue ways
    → AreQuietOne (call_at_end calls e) (call_at_end calls (other e)) on queue (sent_by e ways)
    (sent_by (other e) ways)
quiet_one calls A on [] ways h = tt
quiet_one calls B on [] ways h = tt
quiet_one calls A on (octets ∷ queue) ways h =
    (h.0, quiet_one calls A on queue (queueing_at A on octets ways) h.1)
quiet_one calls B on (octets ∷ queue) ways h =
    (h.0, quiet_one calls B on queue (queueing_at B on octets ways) h.1)

module _ (l r : Callsign) where
  -- nothing asks, or one does if nothing of the kind is in flight
  abbrev pub AsksAlone : ℕ → OneWay → OneWay → Type 0
  AsksAlone asked own back =
      (asked ≡ 0)
      ⊎ ((asked + count_by (asks_from_to l r) (in_flight own) ≤ 1)
      × (count_by (answers_from_to r l) (in_flight back) ≡ 0))

  -- one frame more is in flight
  more_flying :
      (f : LinkFrame) (way : OneWay) → way.front ≤ length way.queued
      → count_by (asks_from_to l r) (in_flight (with_queued f way))
      ≡ count_by (asks_from_to l r) (in_flight way) + one (asks_from_to l r f)
  more_flying f way low =
      ap (λ xs. count_by (asks_from_to l r) xs) (drop-append-le way.front way.queued (f ∷ []) low)
      ∙ count_append (asks_from_to l r) (in_flight way) (f ∷ [])
      ∙ ap (λ n. count_by (asks_from_to l r) (in_flight way) + n)
      (count_cons (asks_from_to l r) f [] ∙ plus_zero (one (asks_from_to l r f)))
    where
      plus_zero : (n : ℕ) → n + 0 ≡ n
      plus_zero n = omega arith

  by_test :
      (a : Bool) (octets : List ℕ) (rest asked : ℕ) (own next back : OneWay)
      → (is_from_to l r octets && is_ask octets) ≡ a → is_quiet_for_link l r octets own back ≡ true
      → asked ≡ one a + rest
      → count_by (asks_from_to l r) (in_flight next) ≡ count_by (asks_from_to l r) (in_flight own) + one a
      → AsksAlone rest next back → AsksAlone asked own back
  by_test false octets rest asked own next back is quiet sum more (inl none) = inl (omega arith)
  by_test false octets rest asked own next back is quiet sum more (inr few) = let a = few.0 in inr (omega arith, few.1)
  by_test true octets rest asked own next back is quiet sum more later =
      let asking = is_from_to l r octets && is_ask octets in
      let flying = list_any (asks_from_to l r) (in_flight own) || list_any (answers_from_to r l) (in_flight back) in
      let none : flying ≡ false = elim (or_cases (not asking) (not flying) quiet) [
        | inl other ↦ absurd (both_ways asking (not-true asking other) is)
        | inr other ↦ not-true flying other
      ] in
      let parts = or_parts (list_any (asks_from_to l r) (in_flight own))
      (list_any (answers_from_to r l) (in_flight back)) none in
      let a = count_none (asks_from_to l r) (in_flight own) parts.0 in
      let b = count_none (answers_from_to r l) (in_flight back) parts.1 in
      elim later [
        | inl zero ↦ inr (omega arith, b)
        | inr few ↦ let c = few.0 in inr (omega arith, b)
      ]

  pub bench_quiet :
      (on : Bool) (queue : List (List ℕ)) (own back : OneWay) → own.front ≤ length own.queued
      → AreQuietOne l r on queue own back → AsksAlone (count_by (asks_from_to l r) (framed on queue)) own back
  bench_quiet on [] own back low quiet = inl refl
  bench_quiet on (octets ∷ queue) own back low quiet =
      let f = one_framed on octets in
      let next = with_queued f own in
      let size = length-append own.queued (f ∷ []) in
      by_test (is_from_to l r octets && is_ask octets) octets (count_by (asks_from_to l r) (framed on queue))
      (count_by (asks_from_to l r) (framed on (octets ∷ queue))) own next back refl quiet.0
      (count_cons (asks_from_to l r) f (framed on queue)) (more_flying f own low)
      (bench_quiet on queue next back (omega arith) quiet.1)
