-- Units of which each block lost a stretch of samples come all the same.
use Rattle.fx25_signal.proofs.Common.{◌≡◌, ℕ, zero, suc, ◌+◌, ◌-◌, ◌*◌, ◌/◌, ◌%◌, ◌<◌, ◌≤◌, ◌⊎◌, Bool, ℤ, List, [], ◌∷◌}
use Rattle.fx25_signal.proofs.Common.{◌++◌, length, take, drop, get_or, ap, sym, ◌∙◌, subst, arith, inl, inr}
use Rattle.fx25_signal.proofs.Common.{length-append, All, AllByRecursion}
use Rattle.fx25_signal.proofs.Common.{AreApart, Comes, SentUnit, bits_at, bits_in_unit, unit_end}
use Rattle.std.proofs.Common.{pos, get_or-append-add}
use Rattle.std.proofs.lemmas.Bool.{cases_lt}
use Rattle.std.proofs.lemmas.List.{drop-take, drop_at, ext_get_or, get_or-drop, get_or-take, get_or_append_left}
use Rattle.std.proofs.lemmas.List.{length-drop, length-take, length-take-le}
use Rattle.std.proofs.Math.Seq.{take-add}
use Rattle.hdlc_framer.specs.BitOrder.{sent_bits}
use Rattle.offset_slicers.specs.Windows.{bits}
use Rattle.offset_slicers.proofs.WindowLemmas.{length-bits}
use Rattle.fx25_blocks.specs.Tags.{block_length, tag_bits}
use Rattle.fx25_blocks.proofs.TagDistance.{length-tag_bits}
use Rattle.fx25_receiver.specs.Damage.{DifferInStretch}
use Rattle.fx25_receiver.proofs.DamageLemmas.{bits_are, few_wrong, word}
use Rattle.fx25_signal.specs.Damage.{AreLost, CanBeLost, ComesRight, DifferInStretches, IsOutside, IsSentBlock, Stretch}
use Rattle.fx25_signal.specs.Units.{ComesInBlock, ComesPlainly}
use Rattle.fx25_signal.proofs.FoundUnits.{block_in_unit}
use Rattle.fx25_signal.proofs.SameWindows.{same_bits_at}
use Rattle.fx25_signal.proofs.UnitBits.{length-sent, right_comes, same_differ}

-- ---- one list with a part of another

-- a list of samples, with those of another from one place to below a second
abbrev mixed : ℕ → ℕ → List ℤ → List ℤ → List ℤ
mixed low high x sent = take low sent ++ (take (high - low) (drop low x) ++ drop high sent)

module _ (low high : ℕ) (x sent : List ℤ) (size : length x ≡ length sent) (rises : low ≤ high)
    (within : high ≤ length sent) where
  front : length (take low sent) ≡ low
  front = length-take-le low sent (omega arith)

  middle : length (take (high - low) (drop low x)) ≡ high - low
  middle = length-take-le (high - low) (drop low x) (omega (arith, length-drop low x))

  length-mixed : length (mixed low high x sent) ≡ length sent
  length-mixed =
      omega (
        arith,
        length-append (take low sent) (take (high - low) (drop low x) ++ drop high sent),
        length-append (take (high - low) (drop low x)) (drop high sent),
        length-drop high sent,
        front,
        middle,
      )

  mixed_before : (i : ℕ) (d : ℤ) → i < low → get_or (mixed low high x sent) i d ≡ get_or sent i d
  mixed_before i d below =
      get_or_append_left (take low sent) (take (high - low) (drop low x) ++ drop high sent) d i
      (omega (arith, front))
      ∙ get_or-take low sent i d below

  mixed_from : (i j : ℕ) (d : ℤ) → i ≡ low + j
      → get_or (mixed low high x sent) i d ≡ get_or (take (high - low) (drop low x) ++ drop high sent) j d
  mixed_from i j d at =
      ap (λ k. get_or (mixed low high x sent) k d)
      (let e : i ≡ length (take low sent) + j = omega (arith, front) in e)
      ∙ get_or-append-add (take low sent) (take (high - low) (drop low x) ++ drop high sent) j d

  mixed_within : (i : ℕ) (d : ℤ) → low ≤ i → i < high → get_or (mixed low high x sent) i d ≡ get_or x i d
  mixed_within i d least most =
      let j : ℕ = i - low in
      let at : i ≡ low + j = omega arith in
      mixed_from i j d at
      ∙ get_or_append_left (take (high - low) (drop low x)) (drop high sent) d j (omega (arith, middle))
      ∙ get_or-take (high - low) (drop low x) j d (omega arith) ∙ get_or-drop low x j d
      ∙ ap (λ k. get_or x k d) (sym at)

  mixed_after : (i : ℕ) (d : ℤ) → high ≤ i → get_or (mixed low high x sent) i d ≡ get_or sent i d
  mixed_after i d least =
      let j : ℕ = i - high in
      let at : i ≡ low + ((high - low) + j) = omega arith in
      let there : high + j ≡ i = omega arith in
      mixed_from i ((high - low) + j) d at
      ∙ ap (λ n. get_or (take (high - low) (drop low x) ++ drop high sent) (n + j) d) (sym middle)
      ∙ get_or-append-add (take (high - low) (drop low x)) (drop high sent) j d ∙ get_or-drop high sent j d
      ∙ ap (λ k. get_or sent k d) there

  -- a part of it that lies within the other's
  part_of_mixed : (from count : ℕ) → low ≤ from → from + count ≤ high
      → take count (drop from (mixed low high x sent)) ≡ take count (drop from x)
  part_of_mixed from count least most =
      let y : List ℤ = mixed low high x sent in
      let size_y = length-mixed in
      let here : length (take count (drop from y)) ≡ count =
      length-take-le count (drop from y) (omega (arith, length-drop from y)) in
      let there : length (take count (drop from x)) ≡ count =
      length-take-le count (drop from x) (omega (arith, length-drop from x)) in
      ext_get_or (pos 0) (take count (drop from y)) (take count (drop from x)) (here ∙ sym there)
      (λ i below.
      let small : i < count = omega (arith, here) in
      get_or-take count (drop from y) i (pos 0) small ∙ get_or-drop from y i (pos 0)
      ∙ mixed_within (from + i) (pos 0) (omega arith) (omega arith)
      ∙ sym (get_or-take count (drop from x) i (pos 0) small ∙ get_or-drop from x i (pos 0)))

-- ---- a block that lost a stretch

-- as many bits as a unit has came
right_size : (x : List ℤ) (unit : SentUnit) → ComesRight x unit
    → length (bits_at x unit) ≡ bits_in_unit unit.tag unit.octets
right_size x unit right = length-sent unit.tag unit.octets (bits_at x unit) right.comes

block_comes : (unit : SentUnit) (stretch : Stretch) (y sent : List ℤ) → ComesRight sent unit
    → IsSentBlock unit.tag unit.octets (bits_at sent unit) → CanBeLost unit stretch
    → DifferInStretch stretch.start stretch.count y sent → Comes y unit
block_comes unit stretch y sent right block lost differ =
    let lane : ℕ = unit.begin % 8 in
    let q : ℕ = unit.begin / 8 in
    let n : ℕ = bits_in_unit unit.tag unit.octets in
    let all : List Bool = bits lane sent in
    let before : List Bool = take q all in
    let heard : List Bool = tag_bits unit.tag in
    let n_is : n ≡ 64 + 8 * block_length unit.tag = block_in_unit unit.tag unit.octets block.is_tag in
    let size = right_size sent unit right in
    let few = length-take n (drop q all) in
    let left = length-drop q all in
    let within : q + n ≤ length all = omega arith in
    let index : ℕ = q + n - 1 in
    let next : q + n ≡ index + 1 = omega arith in
    let count : length before ≡ q = length-take-le q all (omega arith) in
    let is : take (index + 1) all ≡ before ++ (heard ++ sent_bits block.block) =
    ap (λ m. take m all) (sym next) ∙ take-add q n all ∙ ap (λ b. before ++ b) block.bits_are in
    let inside : index < length all = omega arith in
    let tag_size = length-tag_bits unit.tag in
    let octets = block.block_of.octets in
    let start = lost.after_tag in
    let following : lane + 8 * (length before + 64) ≤ stretch.start = omega arith in
    let found = word stretch.start stretch.count y sent differ lane index unit.tag before heard block.block block.is_tag inside
    is tag_size block.block_of.size octets following lost.short in
    let bits_y : take (index + 1) (bits lane y) ≡ before ++ (heard ++ sent_bits found.0) =
    bits_are stretch.start stretch.count y sent differ lane index unit.tag before heard block.block block.is_tag inside
    is tag_size block.block_of.size octets following lost.short in
    let came : bits_at y unit ≡ heard ++ sent_bits found.0 =
    sym (drop-take q n (bits lane y)) ∙ ap (λ m. drop q (take m (bits lane y))) next ∙ ap (drop q) bits_y
    ∙ drop_at before (heard ++ sent_bits found.0) q count in
    let none_wrong = same_differ heard in
    record {
      is_frame = right.is_frame;
      comes =
          inr (record {
            is_tag = block.is_tag;
            heard = heard;
            word = found.0;
            block = block.block;
            bits_are = came;
            near_tag = record { size = tag_size; near = omega arith };
            octets = found.2;
            block_of = block.block_of;
            size = found.1;
            few_wrong = few_wrong stretch.start stretch.count y sent differ lane index unit.tag before heard block.block
                block.is_tag inside is tag_size block.block_of.size octets following lost.short;
          });
    }

-- ---- one unit of several

some_bits : (tag : ℕ) (octets : List ℕ) → 0 < bits_in_unit tag octets
some_bits zero octets = omega arith
some_bits (suc tag) octets = omega arith

-- a place lies outside of no samples
outside_none : (i : ℕ) (stretch : Stretch) → stretch.count ≡ 0 → IsOutside i stretch
outside_none i stretch none = elim (cases_lt i stretch.start) [
  | inl before ↦ inl before
  | inr after ↦ inr (omega arith)
]

same_list : (y sent : List ℤ) (stretch : Stretch) → length y ≡ length sent → stretch.count ≡ 0
    → DifferInStretch stretch.start stretch.count y sent → y ≡ sent
same_list y sent stretch size none differ =
    ext_get_or (pos 0) y sent size (λ i below. differ.same i (pos 0) (outside_none i stretch none))

-- Samples differ from those that were sent in a stretch of this unit, and from the last bit before the unit to its end
-- nowhere else.
abbrev IsAlone : SentUnit → Stretch → List ℤ → List ℤ → Type 0
IsAlone unit stretch x sent =
    (i : ℕ) (d : ℤ) → unit.begin - 8 ≤ i → i < unit_end unit → IsOutside i stretch → get_or x i d ≡ get_or sent i d

unit_comes : (unit : SentUnit) (stretch : Stretch) (x sent : List ℤ) → length x ≡ length sent → ComesRight sent unit
    → (stretch.count ≡ 0) ⊎ CanBeLost unit stretch → IsAlone unit stretch x sent → Comes x unit
unit_comes unit stretch x sent size right lost alone =
    let n : ℕ = bits_in_unit unit.tag unit.octets in
    let low : ℕ = unit.begin - 8 in
    let high : ℕ = unit_end unit in
    let y : List ℤ = mixed low high x sent in
    let came = right_size sent unit right in
    let rises : low ≤ high = omega arith in
    let few = length-take n (drop (unit.begin / 8) (bits (unit.begin % 8) sent)) in
    let left = length-drop (unit.begin / 8) (bits (unit.begin % 8) sent) in
    let windows = length-bits (unit.begin % 8) sent in
    let some = some_bits unit.tag unit.octets in
    let within : high ≤ length sent = omega arith in
    let size_y = length-mixed low high x sent size rises within in
    let differ : DifferInStretch stretch.start stretch.count y sent = record {
      size = size_y;
      same = λ i d outside. elim (cases_lt i low) [
        | inl before ↦ mixed_before low high x sent size rises within i d before
        | inr after ↦ elim (cases_lt i high) [
          | inl inside ↦ mixed_within low high x sent size rises within i d after inside
              ∙ alone i d after inside outside
          | inr following ↦ mixed_after low high x sent size rises within i d following
        ]
      ];
    } in
    let same : bits_at y unit ≡ bits_at x unit =
    same_bits_at unit.begin n y x (omega arith) (omega arith)
    (part_of_mixed low high x sent size rises within low (unit.begin - low) (omega arith) (omega arith))
    (part_of_mixed low high x sent size rises within unit.begin (8 * n) (omega arith) (omega arith)) in
    let there : Comes y unit = elim lost [
      | inl none ↦ subst (λ z. Comes z unit) (sym (same_list y sent stretch size_y none differ)) (right_comes sent unit right)
      | inr can ↦ elim right.comes [
        | inl plainly ↦ let least = can.is_tag.0 in let no_tag = plainly.0 in absurd (omega arith)
        | inr block ↦ block_comes unit stretch y sent right block can differ
      ]
    ] in
    record {
      is_frame = right.is_frame;
      comes = subst (λ b. ComesPlainly unit b ⊎ ComesInBlock unit b) same there.comes;
    }

-- ---- all of them

pub all_from : {X : Type 0} (P : X → Type 0) (xs : List X) → AllByRecursion P xs → All P xs
all_from P [] h k d l = absurd (omega arith)
all_from P (x ∷ xs) h zero d l = h.0
all_from P (x ∷ xs) h (suc k) d l = all_from P xs h.1 k d (omega arith)

-- a sample before some units is in none of their stretches
later_outside : (units : List SentUnit) (stretches : List Stretch) (place i : ℕ) → AreApart place units
    → AreLost units stretches → i < place → AllByRecursion (IsOutside i) stretches
later_outside [] [] place i apart lost before = tt
later_outside [] (stretch ∷ stretches) place i apart lost before = absurd lost
later_outside (unit ∷ units) [] place i apart lost before = absurd lost
later_outside (unit ∷ units) (stretch ∷ stretches) place i apart lost before =
    let begin = apart.0 in (
      elim lost.0 [
        | inl none ↦ outside_none i stretch none
        | inr can ↦ let start = can.after_tag in inl (omega arith)
      ],
      later_outside units stretches (unit_end unit) i apart.1 lost.1 (omega arith),
    )

-- a stretch of a unit before a place, which does not touch the last bit before that
abbrev IsPast : ℕ → Stretch → Type 0
IsPast place stretch = (stretch.count ≡ 0) ⊎ (stretch.start + stretch.count + 8 ≤ place)

past_more : (earlier : List Stretch) (place more : ℕ) → place ≤ more → AllByRecursion (IsPast place) earlier
    → AllByRecursion (IsPast more) earlier
past_more [] place more le past = tt
past_more (stretch ∷ earlier) place more le past = (
  elim past.0 [
    | inl none ↦ inl none
    | inr before ↦ inr (omega arith)
  ],
  past_more earlier place more le past.1,
)

-- a sample of a unit, or of the bit before it, is in no stretch of those before
past_outside : (earlier : List Stretch) (place i : ℕ) → place - 8 ≤ i → AllByRecursion (IsPast place) earlier
    → AllByRecursion (IsOutside i) earlier
past_outside [] place i least past = tt
past_outside (stretch ∷ earlier) place i least past = (
  elim past.0 [
    | inl none ↦ outside_none i stretch none
    | inr before ↦ inr (omega arith)
  ],
  past_outside earlier place i least past.1,
)

module _ (x sent : List ℤ) (size : length x ≡ length sent) where
  come_on : (units : List SentUnit) (stretches earlier : List Stretch) (place : ℕ) → AreApart place units
      → AllByRecursion (ComesRight sent) units → AreLost units stretches → AllByRecursion (IsPast place) earlier
      → ((i : ℕ) (d : ℤ) → AllByRecursion (IsOutside i) earlier → AllByRecursion (IsOutside i) stretches
      → get_or x i d ≡ get_or sent i d)
      → AllByRecursion (Comes x) units
  come_on [] stretches earlier place apart right lost past same = tt
  come_on (unit ∷ units) [] earlier place apart right lost past same = absurd lost
  come_on (unit ∷ units) (stretch ∷ stretches) earlier place apart right lost past same =
      let begin = apart.0 in
      let end : ℕ = unit_end unit in
      let here : IsPast end stretch = elim lost.0 [
        | inl none ↦ inl none
        | inr can ↦ inr can.before
      ] in (
        unit_comes unit stretch x sent size right.0 lost.0
            (λ i d least most outside. same i d (past_outside earlier place i (omega arith) past)
            (outside, later_outside units stretches end i apart.1 lost.1 most)),
        come_on units stretches (stretch ∷ earlier) end apart.1 right.1 lost.1
            (here, past_more earlier place end (omega arith) past)
            (λ i d before after. same i d before.1 (before.0, after)),
      )

pub still_come : (units : List SentUnit) (stretches : List Stretch) (x sent : List ℤ) → AreApart 0 units
    → AllByRecursion (ComesRight sent) units → AreLost units stretches → DifferInStretches stretches x sent
    → AllByRecursion (Comes x) units
still_come units stretches x sent apart right lost differ =
    come_on x sent differ.size units stretches [] 0 apart right lost tt
    (λ i d none outside. differ.same i d (all_from (IsOutside i) stretches outside))
