-- The law of signals near a clean one: from the candidates of the samples to clusters of them, and from there to the
-- frames.
use Rattle.clean_signal.proofs.Common.{◌≡◌, ℕ, zero, suc, ◌+◌, ◌-◌, ◌<◌, ℤ, true, List, [], ◌∷◌, get_or, map, refl, ap}
use Rattle.clean_signal.proofs.Common.{sym, subst, ◌∙◌, arith, inl, inr, ◌&&◌, All, AllByRecursion, bytes_eq}
use Rattle.clean_signal.proofs.Common.{recursion_from_All, bytes_eq-Decides, Candidate, candidate_at, IsLevel}
use Rattle.clean_signal.proofs.Common.{Transmission, signal, signal_at, TrueEnd, IsTransmission, frames_of, true_ends}
use Rattle.clean_signal.proofs.Common.{is_sent, CarriesAll, Received, IsReceived, IsNearAll, transmissions_of}
use Rattle.std.specs.Prelude.{nat_lt}
use Rattle.std.specs.List.{AllPairs, Contains}
use Rattle.std.proofs.lemmas.Bool.{or_cases, and_parts, ltb-true}
use Rattle.std.proofs.lemmas.List.Elements.{All-head, All-tail}
use Rattle.frame_merge.specs.Order.{standing}
use Rattle.slicer_bank.specs.Candidates.{AreCandidates}
use Rattle.clean_signal.specs.Stray.{is_of, NoStray}
use Rattle.clean_signal.specs.MergedFrames.{MergesTo}
use Rattle.clean_signal.proofs.Clusters.{Cluster, IsIn, AreApart, IsInOne, HasOne, Rising, Known, merge_keeps}
use Rattle.clean_signal.proofs.CarriedFrames.{IsFound, all_found}
use Rattle.clean_signal.proofs.EndsBySize.{Spaced}
use Rattle.clean_signal.proofs.EndLemmas.{spaced, octets-true_ends_from}
use Rattle.clean_signal.proofs.NearLemmas.{near_carries, signal_at-carries, signal_at-full}

-- the candidates of a frame that was sent
abbrev pub cluster_of : TrueEnd → Cluster
cluster_of e = record { low = e.end - 7; high = e.end + 7; octets = e.octets }

-- clusters of frames that were sent are apart
pub apart : (ends : List TrueEnd) (place : ℕ) → Spaced 8 place ends → AreApart (place + 7) (map cluster_of ends)
apart [] place spaces = tt
apart (e ∷ ends) place spaces =
    let far = spaces.0 in
    (record { far = omega arith; rising = omega arith; narrow = omega arith }, apart ends e.end spaces.1)

-- ---- each candidate is in a cluster

is_in : (item : Candidate) (e : TrueEnd) → is_of item e ≡ true → IsIn (cluster_of e) item
is_in item e is =
    let parts = and_parts (bytes_eq item.octets e.octets) (nat_lt item.end (e.end + 8) && nat_lt e.end (item.end + 8))
    is in
    let near = and_parts (nat_lt item.end (e.end + 8)) (nat_lt e.end (item.end + 8)) parts.1 in
    let soon : item.end < e.end + 8 = ltb-true item.end (e.end + 8) near.0 in
    let late : e.end < item.end + 8 = ltb-true e.end (item.end + 8) near.1 in
    record { octets = (bytes_eq-Decides item.octets e.octets).0 parts.0; low = omega arith; high = omega arith }

in_one : (item : Candidate) (ends : List TrueEnd) → is_sent ends item ≡ true → IsInOne (map cluster_of ends) item
in_one item [] is = cc
in_one item (e ∷ ends) is =
    elim (or_cases (is_of item e) (is_sent ends item) is)
    [ inl here ↦ inl (is_in item e here) | inr later ↦ inr (in_one item ends later) ]

-- if each item is in a cluster, all are known
pub all_known : (items : List Candidate) (place : ℕ) (cs : List Cluster) → All (λ item. IsInOne cs item) items
    → Known [] place cs items
all_known [] place cs all = tt
all_known (item ∷ items) place cs all = (
  inr (All-head (λ i. IsInOne cs i) item items all),
  all_known items place cs (All-tail (λ i. IsInOne cs i) item items all),
)

-- ---- each cluster has a candidate

-- a candidate of a cluster among the items
pub has_one : (items : List Candidate) (c : Cluster) (item : Candidate) → IsIn c item → Contains items item
    → HasOne items c
has_one [] c item is (k, within, there) = absurd (omega arith)
has_one (first ∷ items) c item is (zero, within, there) = inl (subst (IsIn c) (sym there) is)
has_one (first ∷ items) c item is (suc k, within, there) = inr (has_one items c item is (k, omega arith, there))

all_have_one : (x : List ℤ) (items : List Candidate) (ends : List TrueEnd) → AreCandidates x items
    → AllByRecursion (IsFound x) ends
    → AllByRecursion (HasOne items) (map cluster_of ends)
all_have_one x items [] are found = tt
all_have_one x items (e ∷ ends) are ((offset, is), others) =
    let item : Candidate = candidate_at e.end offset e.octets in
    let positive : 0 < item.end = omega (arith, is.ends.end_of) in (
      has_one items (cluster_of e) item (record { octets = refl; low = omega arith; high = omega arith })
          (are.whole item is positive),
      all_have_one x items ends are others,
    )

-- ---- candidates in order rise

rising_following : (item : Candidate) (items : List Candidate) → AllPairs (λ a b. standing a < standing b) (item ∷ items)
    → All (λ a. a.offset < 256) (item ∷ items) → Rising item.end items
rising_following item [] order small = tt
rising_following item (next ∷ items) order small =
    let less = order 0 1 item (omega arith) (omega arith) in
    let low = small 1 item (omega arith) in (
      omega arith,
      rising_following next items (λ i j d ij jl. order (suc i) (suc j) d (omega arith) (omega arith))
          (All-tail (λ a. a.offset < 256) item (next ∷ items) small),
    )

pub rising : (items : List Candidate) → AllPairs (λ a b. standing a < standing b) items
    → All (λ a. a.offset < 256) items → Rising 0 items
rising [] order small = tt
rising (item ∷ items) order small = (omega arith, rising_following item items order small)

-- ---- the law

-- the octets of clusters are those of their frames
pub octets-clusters : (ends : List TrueEnd) → map (λ c. c.octets) (map cluster_of ends) ≡ map (λ e. e.octets) ends
octets-clusters [] = refl
octets-clusters (e ∷ ends) = ap (λ os. e.octets ∷ os) (octets-clusters ends)

pub all_transmissions : (received : List Received) → AllByRecursion IsReceived received
    → All IsTransmission (transmissions_of received)
all_transmissions [] good k d l = absurd (omega arith)
all_transmissions (r ∷ received) good zero d l = good.0.transmission
all_transmissions (r ∷ received) good (suc k) d l = all_transmissions received good.1 k d (omega arith)

-- carried transmissions without a stray give their frames
pub carried_law : (sent : List Transmission) (x : List ℤ) → All IsTransmission sent → CarriesAll sent x → NoStray sent x
    → MergesTo (frames_of sent) x
carried_law sent x good carries no_stray items are =
    let fits : AllByRecursion IsTransmission sent = recursion_from_All IsTransmission sent good in
    let cs : List Cluster = map cluster_of (true_ends sent) in
    let known : All (λ item. IsInOne cs item) items = λ k d l. in_one (get_or items k d) (true_ends sent)
    (no_stray (get_or items k d) (are.each k d l).0) in
    let small : All (λ item. item.offset < 256) items = λ k d l. let eight = (are.each k d l).0.offset in omega arith in
    merge_keeps items [] 7 0 cs tt (rising items are.order small) (all_known items 7 cs known)
    (apart (true_ends sent) 0 (spaced sent 0 0 (omega arith) fits))
    (all_have_one x items (true_ends sent) are (all_found sent [] x 0 fits carries refl))
    ∙ octets-clusters (true_ends sent) ∙ octets-true_ends_from sent 0

-- so do samples near them
pub near_law : (received : List Received) (x : List ℤ) → All IsReceived received → IsNearAll received x
    → NoStray (transmissions_of received) x
    → MergesTo (frames_of (transmissions_of received)) x
near_law received x good near no_stray =
    let fits : AllByRecursion IsReceived received = recursion_from_All IsReceived received good in
    carried_law (transmissions_of received) x (all_transmissions received fits) (near_carries received x fits near)
    no_stray

-- so does the signal at a level
pub level_law : (level : ℕ) (sent : List Transmission) → IsLevel level → All IsTransmission sent
    → NoStray sent (signal_at level sent)
    → MergesTo (frames_of sent) (signal_at level sent)
level_law level sent fits good no_stray = carried_law sent (signal_at level sent) good
    (signal_at-carries level sent fits good) no_stray

-- and the clean signal
pub clean_law : (sent : List Transmission) → All IsTransmission sent → NoStray sent (signal sent)
    → MergesTo (frames_of sent) (signal sent)
clean_law sent good =
    subst (λ (x : List ℤ). NoStray sent x → MergesTo (frames_of sent) x) (signal_at-full sent)
    (level_law 10000 sent (record { least = omega arith; most = omega arith }) good)

-- what holds of each of all candidates holds of every candidate
pub no_stray_of : (sent : List Transmission) (x : List ℤ) (items : List Candidate) → AreCandidates x items
    → All (λ item. is_sent (true_ends sent) item ≡ true) items → NoStray sent x
no_stray_of sent x items are all item is =
    let positive : 0 < item.end = omega (arith, is.ends.end_of) in
    let there = are.whole item is positive in
    subst (λ i. is_sent (true_ends sent) i ≡ true) there.2 (all there.0 item there.1)
