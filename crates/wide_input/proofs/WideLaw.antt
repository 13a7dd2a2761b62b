-- The law of a signal near in one stream: each candidate of the forty lanes lies near the end of a frame that was sent.
use Rattle.wide_input.proofs.Common.{◌≡◌, ℕ, ◌+◌, ◌*◌, ◌/◌, ◌<◌, ℤ, List, [], ◌∷◌, get_or, map, refl, ◌∙◌, arith, inl}
use Rattle.wide_input.proofs.Common.{inr, nat_lt, All, ltb-true, Candidate, stream, in_stream, AreWideCandidates}
use Rattle.std.proofs.Common.{true}
use Rattle.std.specs.Prelude.{◌&&◌}
use Rattle.std.specs.List.{AllByRecursion}
use Rattle.std.specs.Str.{bytes_eq}
use Rattle.std.proofs.lemmas.Bool.{or_cases, and_parts}
use Rattle.std.proofs.lemmas.List.Elements.{recursion_from_All}
use Rattle.std.proofs.lemmas.Slice.Eq.{bytes_eq-Decides}
use Rattle.slicer_bank.specs.Heard.{candidate_at}
use Rattle.afsk_modulator.specs.Signal.{Transmission}
use Rattle.clean_signal.specs.declared.true_end.TrueEnd.{TrueEnd}
use Rattle.clean_signal.specs.GoodTransmission.{IsTransmission, frames_of}
use Rattle.clean_signal.specs.TrueEnds.{true_ends}
use Rattle.clean_signal.specs.Carried.{CarriesAll}
use Rattle.clean_signal.specs.NearSignal.{Received, IsReceived, IsNearAll, transmissions_of}
use Rattle.clean_signal.proofs.Clusters.{Cluster, IsIn, IsInOne, HasOne, merge_keeps}
use Rattle.clean_signal.proofs.CarriedFrames.{IsFound, all_found}
use Rattle.clean_signal.proofs.EndLemmas.{spaced, octets-true_ends_from}
use Rattle.clean_signal.proofs.NearLemmas.{near_carries}
use Rattle.clean_signal.proofs.Law.{cluster_of, apart, all_known, has_one, rising, octets-clusters, all_transmissions}
use Rattle.wide_input.specs.Stray.{wide_place, wide_end, is_of_wide, is_sent_wide, NoWideStray, WideMergesTo}
use Rattle.wide_input.proofs.WideLemmas.{lane_small}

-- ---- each candidate is in a cluster

-- less than 36 samples apart at 48,000 a second are at most seven apart in the samples of the streams
is_in_wide : (number : ℕ) (item : Candidate) (e : TrueEnd) → number < 5 → item.offset < 40
    → is_of_wide number item e ≡ true → IsIn (cluster_of e) item
is_in_wide number item e small lane is =
    let soon_test = nat_lt (wide_end item) (wide_place number e.end + 36) in
    let late_test = nat_lt (wide_place number e.end) (wide_end item + 36) in
    let parts = and_parts (bytes_eq item.octets e.octets) (soon_test && late_test) is in
    let near = and_parts soon_test late_test parts.1 in
    let soon : 5 * item.end + item.offset / 8 < 5 * e.end + number + 36 =
    ltb-true (wide_end item) (wide_place number e.end + 36) near.0 in
    let late : 5 * e.end + number < 5 * item.end + item.offset / 8 + 36 =
    ltb-true (wide_place number e.end) (wide_end item + 36) near.1 in
    record { octets = (bytes_eq-Decides item.octets e.octets).0 parts.0; low = omega arith; high = omega arith }

in_one_wide : (number : ℕ) (item : Candidate) (ends : List TrueEnd) → number < 5 → item.offset < 40
    → is_sent_wide number ends item ≡ true → IsInOne (map cluster_of ends) item
in_one_wide number item [] small lane is = cc
in_one_wide number item (e ∷ ends) small lane is =
    elim (or_cases (is_of_wide number item e) (is_sent_wide number ends item) is) [
      | inl here ↦ inl (is_in_wide number item e small lane here)
      | inr later ↦ inr (in_one_wide number item ends small lane later)
    ]

-- ---- each cluster has a candidate

all_have_one_wide : (number : ℕ) (x : List ℤ) (items : List Candidate) (ends : List TrueEnd) → number < 5
    → AreWideCandidates x items
    → AllByRecursion (IsFound (stream number x)) ends → AllByRecursion (HasOne items) (map cluster_of ends)
all_have_one_wide number x items [] small are found = tt
all_have_one_wide number x items (e ∷ ends) small are ((offset, is), others) =
    let heard : Candidate = candidate_at e.end offset e.octets in
    let item : Candidate = in_stream number heard in (
      has_one items (cluster_of e) item (record { octets = refl; low = omega arith; high = omega arith })
          (are.whole item (record { number = number; within = small; heard = heard; candidate = is; is = refl })),
      all_have_one_wide number x items ends small are others,
    )

-- ---- the law

pub near_stream_law : (number : ℕ) (received : List Received) (x : List ℤ) → number < 5 → All IsReceived received
    → IsNearAll received (stream number x)
    → NoWideStray number (transmissions_of received) x → WideMergesTo (frames_of (transmissions_of received)) x
near_stream_law number received x small good near no_stray items are =
    let fits : AllByRecursion IsReceived received = recursion_from_All IsReceived received good in
    let sent : List Transmission = transmissions_of received in
    let whole : AllByRecursion IsTransmission sent = recursion_from_All IsTransmission sent
    (all_transmissions received fits) in
    let carries : CarriesAll sent (stream number x) = near_carries received (stream number x) fits near in
    let ends : List TrueEnd = true_ends sent in
    let cs : List Cluster = map cluster_of ends in
    let forty : All (λ item. item.offset < 40) items = λ k d l. lane_small x (get_or items k d) (are.each k d l) in
    let known : All (λ item. IsInOne cs item) items
    = λ k d l. in_one_wide number (get_or items k d) ends small (forty k d l)
    (no_stray (get_or items k d) (are.each k d l)) in
    merge_keeps items [] 7 0 cs tt (rising items are.order (λ k d l. let lane = forty k d l in omega arith))
    (all_known items 7 cs known)
    (apart ends 0 (spaced sent 0 0 (omega arith) whole))
    (all_have_one_wide number x items ends small are (all_found sent [] (stream number x) 0 whole carries refl))
    ∙ octets-clusters ends ∙ octets-true_ends_from sent 0
