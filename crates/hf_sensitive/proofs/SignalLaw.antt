-- The law of signals near a clean one, over all lanes of short wave. The 32 lanes alone hear each frame; what the added
-- lanes hear is in a cluster of some frame, since it is not stray.
use Rattle.hf_sensitive.proofs.Common.{◌≡◌, ℕ, ◌+◌, ◌-◌, ◌*◌, ◌/◌, ◌%◌, ◌<◌, ℤ, Bool, true, false, List, [], ◌∷◌, get_or, map}
use Rattle.hf_sensitive.proofs.Common.{refl, ap, subst, ◌∙◌, arith, inl, inr, nat_lt, ◌&&◌, All, and_parts, ltb-true, Candidate}
use Rattle.hf_sensitive.proofs.Common.{AreHeard, end_sample, if◌then◌else◌}
use Rattle.std.specs.List.{AllByRecursion}
use Rattle.std.specs.Str.{bytes_eq}
use Rattle.std.proofs.lemmas.Bool.{or_cases}
use Rattle.std.proofs.lemmas.List.Elements.{recursion_from_All}
use Rattle.std.proofs.lemmas.Simd.{map-map}
use Rattle.std.proofs.lemmas.Slice.Eq.{bytes_eq-Decides}
use Rattle.hf_modem.specs.Candidates.{candidate_at}
use Rattle.afsk_modulator.specs.Signal.{Transmission}
use Rattle.clean_signal.specs.declared.true_end.TrueEnd.{TrueEnd}
use Rattle.clean_signal.specs.GoodTransmission.{IsTransmission, frames_of}
use Rattle.clean_signal.specs.NearSignal.{Received, transmissions_of}
use Rattle.clean_signal.proofs.Clusters.{Cluster, IsIn, AreApart, IsInOne, HasOne, merge_keeps}
use Rattle.clean_signal.proofs.EndsBySize.{Spaced}
use Rattle.clean_signal.proofs.Law.{all_known, has_one, rising}
use Rattle.hf_signal.specs.TrueEnds.{true_ends}
use Rattle.hf_signal.specs.Carried.{CarriesAll}
use Rattle.hf_signal.specs.NearSignal.{IsReceived, IsNearAll}
use Rattle.hf_signal.proofs.CarriedFrames.{IsFound, all_found}
use Rattle.hf_signal.proofs.EndLemmas.{spaced, octets-true_ends_from}
use Rattle.hf_signal.proofs.NearLemmas.{near_carries}
use Rattle.hf_signal.proofs.Law.{all_transmissions}
use Rattle.hf_sensitive.specs.Stray.{is_of, is_sent, last_sample, NoneStray, MergesTo}
use Rattle.hf_sensitive.proofs.HeardLemmas.{lane_below}

-- the candidates of a frame that was sent
abbrev cluster_of : TrueEnd → Cluster
cluster_of e = record { low = (e.end - 29) / 4; high = (e.end + 29) / 4; octets = e.octets }

apart : (ends : List TrueEnd) (place : ℕ) → Spaced 32 place ends → AreApart ((place + 29) / 4) (map cluster_of ends)
apart [] place spaces = tt
apart (e ∷ ends) place spaces =
    let far = spaces.0 in
    (record { far = omega arith; rising = omega arith; narrow = omega arith }, apart ends e.end spaces.1)

-- a quarter of the last sample of an item is its end
quarter_of : (item : Candidate) (b : Bool) → (if b then end_sample item else 4 * item.end) / 4 ≡ item.end
quarter_of item true = omega arith
quarter_of item false = omega arith

-- what is heard of a frame is in its cluster
is_in : (item : Candidate) (e : TrueEnd) → is_of item e ≡ true → IsIn (cluster_of e) item
is_in item e is =
    let parts = and_parts (bytes_eq item.octets e.octets)
    (nat_lt (last_sample item) (e.end + 30) && nat_lt e.end (last_sample item + 30)) is in
    let near = and_parts (nat_lt (last_sample item) (e.end + 30)) (nat_lt e.end (last_sample item + 30)) parts.1 in
    let last : ℕ = last_sample item in
    let soon : last < e.end + 30 = ltb-true (last_sample item) (e.end + 30) near.0 in
    let late : e.end < last + 30 = ltb-true e.end (last_sample item + 30) near.1 in
    let quarter : last / 4 ≡ item.end = quarter_of item (nat_lt item.offset 32) in
    record { octets = (bytes_eq-Decides item.octets e.octets).0 parts.0; low = omega arith; high = omega arith }

in_one : (item : Candidate) (ends : List TrueEnd) → is_sent ends item ≡ true → IsInOne (map cluster_of ends) item
in_one item [] is = cc
in_one item (e ∷ ends) is =
    elim (or_cases (is_of item e) (is_sent ends item) is)
    [ inl here ↦ inl (is_in item e here) | inr later ↦ inr (in_one item ends later) ]

-- the 32 lanes hear each frame
all_have_one : (x : List ℤ) (items : List Candidate) (ends : List TrueEnd) → AreHeard x items
    → AllByRecursion (IsFound x) ends
    → AllByRecursion (HasOne items) (map cluster_of ends)
all_have_one x items [] are found = tt
all_have_one x items (e ∷ ends) are ((offset, is), others) =
    let item : Candidate = candidate_at e.end offset e.octets in (
      has_one items (cluster_of e) item (record { octets = refl; low = omega arith; high = omega arith })
          (are.whole item (inl is)),
      all_have_one x items ends are others,
    )

-- carried transmissions without a stray give their frames
pub carried_law : (sent : List Transmission) (x : List ℤ) → All IsTransmission sent → CarriesAll sent x
    → NoneStray sent x → MergesTo (frames_of sent) x
carried_law sent x good carries none_stray items are =
    let fits : AllByRecursion IsTransmission sent = recursion_from_All IsTransmission sent good in
    let cs : List Cluster = map cluster_of (true_ends sent) in
    let known : All (λ item. IsInOne cs item) items = λ k d l. in_one (get_or items k d) (true_ends sent)
    (none_stray (get_or items k d) (are.each k d l)) in
    let small : All (λ item. item.offset < 256) items = λ k d l. let lane = lane_below x (get_or items k d)
    (are.each k d l) in omega arith in
    merge_keeps items [] 7 0 cs tt (rising items are.order small) (all_known items 7 cs known)
    (apart (true_ends sent) 0 (spaced sent 0 0 (omega arith) fits))
    (all_have_one x items (true_ends sent) are (all_found sent [] x 0 fits carries refl))
    ∙ map-map (λ c. c.octets) cluster_of (true_ends sent) ∙ octets-true_ends_from sent 0

-- so do samples near them
pub near_law : (received : List Received) (x : List ℤ) → All IsReceived received → IsNearAll received x
    → NoneStray (transmissions_of received) x
    → MergesTo (frames_of (transmissions_of received)) x
near_law received x good near none_stray =
    let fits : AllByRecursion IsReceived received = recursion_from_All IsReceived received good in
    carried_law (transmissions_of received) x (all_transmissions received fits) (near_carries received x fits near)
    none_stray
