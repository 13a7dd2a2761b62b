-- The law of units that come in samples: from what is heard to clusters of it, and from there to the frames.
use Rattle.fx25_signal.proofs.Common.{◌≡◌, ℕ, zero, suc, ◌+◌, ◌-◌, ◌<◌, ◌≤◌, ℤ, List, [], ◌∷◌, get_or, map}
use Rattle.fx25_signal.proofs.Common.{refl, ap, sym, ◌∙◌, subst, arith, inl, inr, All, AllByRecursion, AllPairs, Contains}
use Rattle.fx25_signal.proofs.Common.{All-head, All-tail, recursion_from_All, Heard, AreHeard, IsHeard, standing}
use Rattle.fx25_signal.proofs.Common.{AreApart, Comes, SentUnit, bits_in_unit, bits_to_frame, frame_end, unit_end}
use Rattle.fx25_signal.proofs.Common.{IsOf, IsOfOne, MergesTo, NoneStray}
use Rattle.fx25_blocks.specs.Blocks.{bits_needed}
use Rattle.fx25_blocks.proofs.TagFacts.{most_octets}
use Rattle.fx25_receiver.proofs.HeardLemmas.{tag_below}
use Rattle.fx25_receiver.specs.Certainty.{certainties}
use Rattle.fx25_receiver.proofs.TakenLemmas.{unsure_block_bounds}
use Rattle.offset_slicers.specs.Windows.{bits}
use Rattle.std.proofs.Common.{take}
use Rattle.fx25_signal.proofs.Clusters.{AreAfter, Cluster, HasOne, IsIn, IsInOne, Known, Rising, merge_keeps}
use Rattle.fx25_signal.proofs.FoundUnits.{block_in_unit, block_to_frame, found}

-- what can be heard of a unit
abbrev cluster_of : SentUnit → Cluster
cluster_of unit = record {
  low = frame_end unit - 7;
  high = frame_end unit + 7;
  last = unit_end unit + 7;
  octets = unit.octets;
}

-- ---- units are apart

-- where the frame of a unit ends within it
record HasLengths (unit : SentUnit) : Type 0 where
  least : 16 ≤ bits_to_frame unit.tag unit.octets
  within : bits_to_frame unit.tag unit.octets ≤ bits_in_unit unit.tag unit.octets
  most : bits_in_unit unit.tag unit.octets ≤ bits_to_frame unit.tag unit.octets + 2040

lengths_of : (x : List ℤ) (unit : SentUnit) → Comes x unit → HasLengths unit
lengths_of x unit comes = elim comes.comes [
  | inl plain ↦
      let frame : bits_to_frame unit.tag unit.octets ≡ bits_needed unit.octets =
      ap (λ t. bits_to_frame t unit.octets) plain.0 in
      let all : bits_in_unit unit.tag unit.octets ≡ bits_needed unit.octets =
      ap (λ t. bits_in_unit t unit.octets) plain.0 in
      record { least = omega arith; within = omega arith; most = omega arith }
  | inr block ↦
      let frame = block_to_frame unit.tag unit.octets block.is_tag in
      let all = block_in_unit unit.tag unit.octets block.is_tag in
      let fits = block.block_of.fits in
      let most = most_octets unit.tag block.is_tag in
      record { least = omega arith; within = omega arith; most = omega arith }
]

apart_of : (x : List ℤ) (units : List SentUnit) (place : ℕ) → AreApart place units → AllByRecursion (Comes x) units
    → AreAfter (place + 7) (map cluster_of units)
apart_of x [] place apart come = tt
apart_of x (unit ∷ units) place apart come =
    let far = apart.0 in
    let lengths = lengths_of x unit come.0 in
    let least = lengths.least in
    let within = lengths.within in
    let most = lengths.most in (
      record { far = omega arith; rising = omega arith; narrow = omega arith; short = omega arith },
      apart_of x units (unit_end unit) apart.1 come.1,
    )

-- ---- each item is of a unit

-- a frame would have ended plainly no later than its block does
at_waits : (x : List ℤ) (item : Heard) → IsHeard x item → item.at ≤ item.end
at_waits x item h = elim h.ends.ends [
  | inl plain ↦ let same = plain.1 in omega arith
  | inr block ↦
      let bounds = unsure_block_bounds (take (h.index + 1) (bits item.lane x))
      (take (h.index + 1) (certainties item.lane x)) item.tag item.octets block.0 block.1 in
      let within = bounds.1 in
      let placed = block.2 in
      omega arith
]

is_in : (x : List ℤ) (unit : SentUnit) (item : Heard) → IsHeard x item → IsOf unit item → IsIn (cluster_of unit) item
is_in x unit item h of =
    let late = of.late in
    let soon = of.soon in
    let ended = of.ended in
    record {
      octets = of.octets;
      low = omega arith;
      high = omega arith;
      waits = at_waits x item h;
      last = omega arith;
    }

in_one : (x : List ℤ) (units : List SentUnit) (item : Heard) → IsHeard x item → IsOfOne units item
    → IsInOne (map cluster_of units) item
in_one x [] item h of = of
in_one x (unit ∷ units) item h (inl here) = inl (is_in x unit item h here)
in_one x (unit ∷ units) item h (inr later) = inr (in_one x units item h later)

all_known : (items : List Heard) (place : ℕ) (cs : List Cluster) → All (IsInOne cs) items → Known [] place cs items
all_known [] place cs all = tt
all_known (item ∷ items) place cs all = (
  inr (All-head (IsInOne cs) item items all),
  all_known items place cs (All-tail (IsInOne cs) item items all),
)

-- ---- of each unit an item is heard

has_one : (items : List Heard) (c : Cluster) (item : Heard) → IsIn c item → Contains items item → HasOne items c
has_one [] c item is (k, within, there) = absurd (omega arith)
has_one (first ∷ items) c item is (zero, within, there) = inl (subst (IsIn c) (sym there) is)
has_one (first ∷ items) c item is (suc k, within, there) = inr (has_one items c item is (k, omega arith, there))

all_have_one : (x : List ℤ) (heard : List Heard) (units : List SentUnit) → AreHeard x heard
    → AllByRecursion (Comes x) units → AllByRecursion (HasOne heard) (map cluster_of units)
all_have_one x heard [] are come = tt
all_have_one x heard (unit ∷ units) are come =
    let one = found x unit come.0 in
    let at = one.at in
    let end = one.end in (
      has_one heard (cluster_of unit) one.item (record {
        octets = one.octets;
        low = omega arith;
        high = omega arith;
        waits = at_waits x one.item one.heard;
        last = omega arith;
      }) (are.whole one.item one.heard),
      all_have_one x heard units are come.1,
    )

-- ---- what is heard rises

-- a lane and a tag are small, so that ends do not fall
abbrev IsSmall : Heard → Type 0
IsSmall item = (item.lane < 8) × (item.tag < 12)

rising_following : (item : Heard) (items : List Heard) → AllPairs (λ a b. standing a < standing b) (item ∷ items)
    → All IsSmall (item ∷ items) → Rising item.end items
rising_following item [] order small = tt
rising_following item (next ∷ items) order small =
    let less = order 0 1 item (omega arith) (omega arith) in
    let here = small 1 item (omega arith) in
    let lane = here.0 in
    let tag = here.1 in (
      omega arith,
      rising_following next items (λ i j d ij jl. order (suc i) (suc j) d (omega arith) (omega arith))
          (All-tail IsSmall item (next ∷ items) small),
    )

rising : (items : List Heard) → AllPairs (λ a b. standing a < standing b) items → All IsSmall items → Rising 0 items
rising [] order small = tt
rising (item ∷ items) order small = (omega arith, rising_following item items order small)

-- ---- the law

octets-clusters : (units : List SentUnit)
    → map (λ c. c.octets) (map cluster_of units) ≡ map (λ unit. unit.octets) units
octets-clusters [] = refl
octets-clusters (unit ∷ units) = ap (λ os. unit.octets ∷ os) (octets-clusters units)

pub unit_law : (units : List SentUnit) (x : List ℤ) → AreApart 0 units → All (Comes x) units → NoneStray units x
    → MergesTo (map (λ unit. unit.octets) units) x
unit_law units x apart come none items merged =
    let cs : List Cluster = map cluster_of units in
    let heard : List Heard = merged.heard in
    let each = merged.are.each in
    let all : AllByRecursion (Comes x) units = recursion_from_All (Comes x) units come in
    let known : All (IsInOne cs) heard = λ k d l.
    in_one x units (get_or heard k d) (each k d l) (none (get_or heard k d) (each k d l)) in
    let small : All IsSmall heard = λ k d l. ((each k d l).lane, tag_below x (get_or heard k d) (each k d l)) in
    ap (map (λ item. item.octets)) merged.is
    ∙ merge_keeps heard [] 7 0 cs tt (rising heard merged.are.order small) (all_known heard 7 cs known)
    (apart_of x units 0 apart all) (all_have_one x heard units merged.are all)
    ∙ octets-clusters units
