-- The law of signals near a clean one, over all lanes. The eight lanes alone hear each frame; what the added lanes hear
-- is in a cluster of some frame, since it is not stray.
use Rattle.sensitive_receiver.proofs.Common.{◌≡◌, ℕ, ◌+◌, ◌<◌, ℤ, true, List, [], ◌∷◌, get_or, map, refl, subst, ◌∙◌}
use Rattle.sensitive_receiver.proofs.Common.{arith, inl, inr, nat_lt, ◌&&◌, All, and_parts, ltb-true, Candidate}
use Rattle.sensitive_receiver.proofs.Common.{AreHeard}
use Rattle.std.specs.List.{AllByRecursion}
use Rattle.std.specs.Str.{bytes_eq}
use Rattle.std.proofs.lemmas.Bool.{or_cases}
use Rattle.std.proofs.lemmas.List.Elements.{recursion_from_All}
use Rattle.std.proofs.lemmas.Slice.Eq.{bytes_eq-Decides}
use Rattle.slicer_bank.specs.Heard.{candidate_at}
use Rattle.afsk_modulator.specs.Modulation.{IsLevel}
use Rattle.afsk_modulator.specs.Signal.{Transmission, signal_at}
use Rattle.clean_signal.specs.declared.true_end.TrueEnd.{TrueEnd}
use Rattle.clean_signal.specs.GoodTransmission.{IsTransmission, frames_of}
use Rattle.clean_signal.specs.TrueEnds.{true_ends}
use Rattle.clean_signal.specs.Stray.{is_of, is_sent}
use Rattle.clean_signal.specs.Carried.{CarriesAll}
use Rattle.clean_signal.specs.NearSignal.{Received, IsReceived, IsNearAll, transmissions_of}
use Rattle.clean_signal.proofs.Clusters.{Cluster, IsIn, IsInOne, HasOne, merge_keeps}
use Rattle.clean_signal.proofs.CarriedFrames.{IsFound, all_found}
use Rattle.clean_signal.proofs.EndLemmas.{spaced, octets-true_ends_from}
use Rattle.clean_signal.proofs.NearLemmas.{near_carries, signal_at-carries}
use Rattle.clean_signal.proofs.Law.{cluster_of, apart, all_known, has_one, rising, octets-clusters, all_transmissions}
use Rattle.sensitive_receiver.specs.Stray.{NoneStray, MergesTo}
use Rattle.sensitive_receiver.proofs.FewKept.{lane_below}

-- what is heard of a frame is in its cluster
is_in : (item : Candidate) (e : TrueEnd) → is_of item e ≡ true → IsIn (cluster_of e) item
is_in item e is =
    let parts = and_parts (bytes_eq item.octets e.octets)
    (nat_lt item.end (e.end + 8) && nat_lt e.end (item.end + 8)) is in
    let near = and_parts (nat_lt item.end (e.end + 8)) (nat_lt e.end (item.end + 8)) parts.1 in
    let soon = ltb-true item.end (e.end + 8) near.0 in
    let late = ltb-true e.end (item.end + 8) near.1 in
    record { octets = (bytes_eq-Decides item.octets e.octets).0 parts.0; low = omega arith; high = omega arith }

in_one : (item : Candidate) (ends : List TrueEnd) → is_sent ends item ≡ true → IsInOne (map cluster_of ends) item
in_one item [] is = cc
in_one item (e ∷ ends) is =
    elim (or_cases (is_of item e) (is_sent ends item) is) [
      | inl here ↦ inl (is_in item e here)
      | inr later ↦ inr
          (in_one item ends later)
    ]

-- the eight lanes hear each frame
all_have_one : (x : List ℤ) (items : List Candidate) (ends : List TrueEnd) → AreHeard x items
    → AllByRecursion (IsFound x) ends
    → AllByRecursion (HasOne items) (map cluster_of ends)
all_have_one x items [] are found = tt
all_have_one x items (e ∷ ends) are ((offset, is), others) =
    let item : Candidate = candidate_at e.end offset e.octets in (
      has_one items (cluster_of e) item (record { octets = refl; low = omega arith; high = omega arith })
          (are.whole item (inl is)),
      all_have_one x items ends are others,
    )

-- carried transmissions without a stray give their frames
pub carried_law : (sent : List Transmission) (x : List ℤ) → All IsTransmission sent → CarriesAll sent x
    → NoneStray sent x → MergesTo (frames_of sent) x
carried_law sent x good carries none_stray items are =
    let fits : AllByRecursion IsTransmission sent = recursion_from_All IsTransmission sent good in
    let cs : List Cluster = map cluster_of (true_ends sent) in
    let known : All (λ item. IsInOne cs item) items = λ k d l. in_one (get_or items k d) (true_ends sent)
    (none_stray (get_or items k d) (are.each k d l)) in
    let small : All (λ item. item.offset < 256) items = λ k d l. let lane = lane_below x (get_or items k d)
    (are.each k d l) in omega arith in
    merge_keeps items [] 7 0 cs tt (rising items are.order small) (all_known items 7 cs known)
    (apart (true_ends sent) 0 (spaced sent 0 0 (omega arith) fits))
    (all_have_one x items (true_ends sent) are (all_found sent [] x 0 fits carries refl))
    ∙ octets-clusters (true_ends sent) ∙ octets-true_ends_from sent 0

-- so do samples near them
pub near_law : (received : List Received) (x : List ℤ) → All IsReceived received → IsNearAll received x
    → NoneStray (transmissions_of received) x
    → MergesTo (frames_of (transmissions_of received)) x
near_law received x good near none_stray =
    let fits : AllByRecursion IsReceived received = recursion_from_All IsReceived received good in
    carried_law (transmissions_of received) x (all_transmissions received fits)
    (near_carries received x fits near) none_stray

-- so does the signal at a level
pub level_law : (level : ℕ) (sent : List Transmission) → IsLevel level → All IsTransmission sent
    → NoneStray sent (signal_at level sent)
    → MergesTo (frames_of sent) (signal_at level sent)
level_law level sent fits good none_stray = carried_law sent (signal_at level sent) good
    (signal_at-carries level sent fits good) none_stray

-- what holds of each of all candidates holds of every candidate
pub none_stray_of : (sent : List Transmission) (x : List ℤ) (items : List Candidate) → AreHeard x items
    → All (λ item. is_sent (true_ends sent) item ≡ true) items → NoneStray sent x
none_stray_of sent x items are all item is =
    let there = are.whole item is in
    subst (λ i. is_sent (true_ends sent) i ≡ true) there.2 (all there.0 item there.1)
