-- The law of signals near a clean one: from the candidates of the samples to clusters of them, and from there to the
-- frames.
use Rattle.std.proofs.Common.{◌≡◌, ℕ, zero, suc, ◌+◌, ◌-◌, ◌/◌, ◌<◌, ℤ, true, List, [], ◌∷◌, get_or, map, refl}
use Rattle.std.proofs.Common.{subst, ◌∙◌, arith, inl, inr}
use Rattle.std.specs.Prelude.{nat_lt, ◌&&◌}
use Rattle.std.specs.List.{All, AllByRecursion}
use Rattle.std.specs.Str.{bytes_eq}
use Rattle.std.proofs.lemmas.Bool.{or_cases, and_parts, ltb-true}
use Rattle.std.proofs.lemmas.List.Elements.{recursion_from_All}
use Rattle.std.proofs.lemmas.Simd.{map-map}
use Rattle.std.proofs.lemmas.Slice.Eq.{bytes_eq-Decides}
use Rattle.frame_merge.specs.declared.candidate.Candidate.{Candidate}
use Rattle.hf_modem.specs.Candidates.{AreCandidates, candidate_at, end_sample}
use Rattle.hf_modem.proofs.CandidateLemmas.{end_sample-is}
use Rattle.afsk_modulator.specs.Modulation.{IsLevel}
use Rattle.afsk_modulator.specs.Signal.{Transmission}
use Rattle.clean_signal.specs.declared.true_end.TrueEnd.{TrueEnd}
use Rattle.clean_signal.specs.GoodTransmission.{IsTransmission, frames_of}
use Rattle.hf_signal.specs.TrueEnds.{true_ends}
use Rattle.hf_signal.specs.Stray.{is_of, is_sent, NoStray}
use Rattle.hf_signal.specs.Carried.{CarriesAll}
use Rattle.clean_signal.specs.NearSignal.{Received, transmissions_of, sent_at}
use Rattle.clean_signal.proofs.NearLemmas.{transmissions_of-sent_at}
use Rattle.hf_modem.specs.Signal.{hf_signal}
use Rattle.hf_signal.specs.NearSignal.{IsReceived, IsNearAll}
use Rattle.hf_signal.specs.MergedFrames.{MergesTo}
use Rattle.clean_signal.proofs.Clusters.{Cluster, IsIn, AreApart, IsInOne, HasOne, merge_keeps}
use Rattle.hf_signal.proofs.CarriedFrames.{IsFound, all_found}
use Rattle.clean_signal.proofs.EndsBySize.{Spaced}
use Rattle.clean_signal.proofs.Law.{all_known, has_one, rising}
use Rattle.hf_signal.proofs.EndLemmas.{spaced, octets-true_ends_from}
use Rattle.hf_signal.proofs.NearLemmas.{near_carries, signal_near, sent_at-good}

-- the candidates of a frame that was sent
abbrev cluster_of : TrueEnd → Cluster
cluster_of e = record { low = (e.end - 29) / 4; high = (e.end + 29) / 4; octets = e.octets }

apart : (ends : List TrueEnd) (place : ℕ) → Spaced 32 place ends → AreApart ((place + 29) / 4) (map cluster_of ends)
apart [] place spaces = tt
apart (e ∷ ends) place spaces =
    let far = spaces.0 in
    (record { far = omega arith; rising = omega arith; narrow = omega arith }, apart ends e.end spaces.1)

-- ---- each candidate is in a cluster

is_in : (item : Candidate) (e : TrueEnd) → is_of item e ≡ true → IsIn (cluster_of e) item
is_in item e is =
    let parts = and_parts (bytes_eq item.octets e.octets)
    (nat_lt (end_sample item) (e.end + 30) && nat_lt e.end (end_sample item + 30)) is in
    let near = and_parts (nat_lt (end_sample item) (e.end + 30)) (nat_lt e.end (end_sample item + 30)) parts.1 in
    let soon : end_sample item < e.end + 30 = ltb-true (end_sample item) (e.end + 30) near.0 in
    let late : e.end < end_sample item + 30 = ltb-true e.end (end_sample item + 30) near.1 in
    record { octets = (bytes_eq-Decides item.octets e.octets).0 parts.0; low = omega arith; high = omega arith }

in_one : (item : Candidate) (ends : List TrueEnd) → is_sent ends item ≡ true → IsInOne (map cluster_of ends) item
in_one item [] is = cc
in_one item (e ∷ ends) is =
    elim (or_cases (is_of item e) (is_sent ends item) is)
    [ inl here ↦ inl (is_in item e here) | inr later ↦ inr (in_one item ends later) ]

-- ---- each cluster has a candidate

all_have_one : (x : List ℤ) (items : List Candidate) (ends : List TrueEnd) → AreCandidates x items
    → AllByRecursion (IsFound x) ends
    → AllByRecursion (HasOne items) (map cluster_of ends)
all_have_one x items [] are found = tt
all_have_one x items (e ∷ ends) are ((offset, is), others) =
    let item : Candidate = candidate_at e.end offset e.octets in
    let positive : 0 < end_sample item = omega (arith, end_sample-is x item is.index is.ends) in (
      has_one items (cluster_of e) item (record { octets = refl; low = omega arith; high = omega arith })
          (are.whole item is positive),
      all_have_one x items ends are others,
    )

-- ---- the law

pub all_transmissions : (received : List Received) → AllByRecursion IsReceived received
    → All IsTransmission (transmissions_of received)
all_transmissions [] good k d l = absurd (omega arith)
all_transmissions (r ∷ received) good zero d l = good.0.transmission
all_transmissions (r ∷ received) good (suc k) d l = all_transmissions received good.1 k d (omega arith)

-- carried transmissions without a stray give their frames
pub carried_law : (sent : List Transmission) (x : List ℤ) → All IsTransmission sent → CarriesAll sent x → NoStray sent x
    → MergesTo (frames_of sent) x
carried_law sent x good carries no_stray items are =
    let fits : AllByRecursion IsTransmission sent = recursion_from_All IsTransmission sent good in
    let cs : List Cluster = map cluster_of (true_ends sent) in
    let known : All (λ item. IsInOne cs item) items = λ k d l. in_one (get_or items k d) (true_ends sent)
    (no_stray (get_or items k d) (are.each k d l).0) in
    let small : All (λ item. item.offset < 256) items = λ k d l. let lane = (are.each k d l).0.offset in omega arith in
    merge_keeps items [] 7 0 cs tt (rising items are.order small) (all_known items 7 cs known)
    (apart (true_ends sent) 0 (spaced sent 0 0 (omega arith) fits))
    (all_have_one x items (true_ends sent) are (all_found sent [] x 0 fits carries refl))
    ∙ map-map (λ c. c.octets) cluster_of (true_ends sent) ∙ octets-true_ends_from sent 0

-- so do samples near them
pub near_law : (received : List Received) (x : List ℤ) → All IsReceived received → IsNearAll received x
    → NoStray (transmissions_of received) x
    → MergesTo (frames_of (transmissions_of received)) x
near_law received x good near no_stray =
    let fits : AllByRecursion IsReceived received = recursion_from_All IsReceived received good in
    carried_law (transmissions_of received) x (all_transmissions received fits) (near_carries received x fits near)
    no_stray

-- so does what is sent at a level
pub level_law : (level : ℕ) (sent : List Transmission) → IsLevel level → All IsTransmission sent
    → NoStray sent (hf_signal level sent)
    → MergesTo (frames_of sent) (hf_signal level sent)
level_law level sent fits good no_stray =
    let received : List Received = sent_at level sent in
    let each : AllByRecursion IsReceived received = sent_at-good level sent fits
    (recursion_from_All IsTransmission sent good) in
    let carries : CarriesAll (transmissions_of received) (hf_signal level sent) =
    near_carries received (hf_signal level sent) each (signal_near level sent fits.least) in
    carried_law sent (hf_signal level sent) good (subst (λ ts. CarriesAll ts (hf_signal level sent))
    (transmissions_of-sent_at level sent) carries) no_stray

-- what holds of each of all candidates holds of every candidate
pub no_stray_of : (sent : List Transmission) (x : List ℤ) (items : List Candidate) → AreCandidates x items
    → All (λ item. is_sent (true_ends sent) item ≡ true) items → NoStray sent x
no_stray_of sent x items are all item is =
    let positive : 0 < end_sample item = omega (arith, end_sample-is x item is.index is.ends) in
    let there = are.whole item is positive in
    subst (λ i. is_sent (true_ends sent) i ≡ true) there.2 (all there.0 item there.1)
