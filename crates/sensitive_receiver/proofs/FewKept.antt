-- Of the last places each lane has one candidate at most, so a merger keeps at most 26.
use Rattle.sensitive_receiver.proofs.Common.{◌≡◌, ℕ, zero, suc, ◌+◌, ◌-◌, ◌<◌, ◌≤◌, ℤ, Bool, true, false, List, [], ◌∷◌}
use Rattle.sensitive_receiver.proofs.Common.{◌++◌, length, get_or, take, drop, map, refl, ap, sym, subst, ◌∙◌, arith}
use Rattle.sensitive_receiver.proofs.Common.{append_assoc, length-append, inl, inr, nat_le, All, AllPairs, cases_lt}
use Rattle.sensitive_receiver.proofs.Common.{leb-true, eqb-true, take-take, get_or-map, length-map, length-take-le}
use Rattle.sensitive_receiver.proofs.Common.{All-filter, filter_passes, AllPairs-filter, bits_of, EndsFrame, Candidate}
use Rattle.sensitive_receiver.proofs.Common.{standing, not_below, IsCandidate, end_within, delay_of, is_read_at}
use Rattle.sensitive_receiver.proofs.Common.{tone_read, lane_tones, lane_bits, EndsAtPlace, IsHeard, AreHeard, settled}
use Rattle.std.proofs.Common.{append-nil}
use Rattle.std.proofs.Math.Dec.{eqb}
use Rattle.std.specs.List.{IsDistinct}
use Rattle.std.proofs.lemmas.Bool.Decides.{Decides-eqb}
use Rattle.std.proofs.lemmas.List.{take_more, take-append-drop}
use Rattle.std.proofs.lemmas.List.Elements.{All-map, All-contains}
use Rattle.std.proofs.lemmas.Map.Made.{IsDistinct-from_AllPairs}
use Rattle.std.proofs.lemmas.Map.Views.{Contains-from_any}
use Rattle.std.proofs.lemmas.Map.Steps.{length-le_from_distinct_below}
use Rattle.nrzi_bits.specs.Line.{bits_from, last_from, same_tone}
use Rattle.tone_table.specs.declared.tone.Tone.TheVariants.{Mark}
use Rattle.nrzi_bits.proofs.LineLemmas.{bits_from-append}
use Rattle.offset_slicers.specs.Windows.{bits}
use Rattle.sensitive_receiver.specs.AddedCandidates.{IsAdded}
use Rattle.sensitive_receiver.proofs.FarFrames.{frames_far}
use Rattle.sensitive_receiver.proofs.LaneLemmas.{lane_tones-read, lane_tones-not}
use Rattle.sensitive_receiver.proofs.FoundLemmas.{delay_small}

-- ---- the eight lanes

-- the first of more bits
first_of : (all : List Bool) (i j : ℕ) → i ≤ j → j ≤ length all → (more : List Bool) × (take j all ≡ take i all ++ more)
    × (length more ≡ j - i)
first_of all i j le within =
    let whole = length-take-le j all within in
    let part = length-take-le i all (omega arith) in
    let more : List Bool = drop i (take j all) in
    let same : take j all ≡ take i all ++ more = sym (take-append-drop i (take j all))
    ∙ ap (λ t. t ++ more) (take-take i j all le) in
    let size : length (take j all) ≡ length (take i all) + length more = ap length same
    ∙ length-append (take i all) more in
    (more, same, omega arith)

-- two candidates of one lane that end close to one another end together
one_of_lane : (x : List ℤ) (item later : Candidate) → IsCandidate x item → IsCandidate x later
    → item.offset ≡ later.offset
    → item.end ≤ later.end → later.end ≤ item.end + 47 → item.end ≡ later.end
one_of_lane x item later a b same le near =
    let e = a.ends.end_of in
    let f = b.ends.end_of in
    elim (cases_lt a.index b.index) [
      | inr ge ↦ omega arith
      | inl lt ↦
          let all : List Bool = bits later.offset x in
          let within = b.ends.within in
          let here : EndsFrame (take (a.index + 1) all) item.octets = subst
          (λ o. EndsFrame (take (a.index + 1) (bits o x)) item.octets) same a.ends.frame in
          let more = first_of all (a.index + 1) b.index (omega arith) (omega arith) in
          let longer : take (b.index + 1) all ≡ (take (a.index + 1) all ++ more.0) ++ get_or all b.index false ∷ []
          = take_more all b.index false within ∙ ap (λ t. t ++ get_or all b.index false ∷ []) more.1 in
          let size = more.2 in
          absurd (frames_far (take (a.index + 1) all) more.0 (get_or all b.index false) item.octets later.octets here
          (subst (λ t. EndsFrame t later.octets) longer b.ends.frame) (omega arith))
    ]

-- ---- the added lanes

-- a place more adds one bit at most
bits_next : (x : List ℤ) (lane place : ℕ) (b : Bool) → is_read_at x lane place ≡ b
    → (more : List Bool) × (lane_bits x lane (place + 1) ≡ lane_bits x lane place ++ more) × (length more ≤ 1)
bits_next x lane place true reads =
    let tones = lane_tones x lane place in
    let tone = tone_read x lane place in (
      bits_from (last_from Mark tones) (tone ∷ []),
      ap bits_of (lane_tones-read x lane place reads) ∙ bits_from-append Mark tones (tone ∷ []),
      omega arith,
    )
bits_next x lane place false reads = (
  [],
  ap bits_of (lane_tones-not x lane place reads) ∙ sym (append-nil (lane_bits x lane place)),
  omega arith,
)

bits_later : (x : List ℤ) (lane place n : ℕ)
    → (more : List Bool) × (lane_bits x lane (place + n) ≡ lane_bits x lane place ++ more) × (length more ≤ n)
bits_later x lane place zero = (
  [],
  ap (lane_bits x lane) (let e : place + zero ≡ place = omega arith in e) ∙ sym (append-nil (lane_bits x lane place)),
  omega arith,
)
bits_later x lane place (suc n) =
    let before = bits_later x lane place n in
    let one = bits_next x lane (place + n) (is_read_at x lane (place + n)) refl in
    let size = length-append before.0 one.0 in
    let a = before.2 in
    let b = one.2 in (
      before.0 ++ one.0,
      ap (lane_bits x lane) (let e : place + suc n ≡ place + n + 1 = omega arith in e) ∙ one.1
          ∙ ap (λ t. t ++ one.0) before.1 ∙ append_assoc (lane_bits x lane place) before.0 one.0,
      omega arith,
    )

-- the bits of a lane at a place where it reads
bits_read : (x : List ℤ) (lane place : ℕ) → is_read_at x lane place ≡ true
    → (bit : Bool) × (lane_bits x lane (place + 1) ≡ lane_bits x lane place ++ bit ∷ [])
bits_read x lane place reads =
    let tones = lane_tones x lane place in
    let tone = tone_read x lane place in (
      same_tone (last_from Mark tones) tone,
      ap bits_of (lane_tones-read x lane place reads)
          ∙ bits_from-append Mark tones (tone ∷ []),
    )

one_of_added : (x : List ℤ) (item later : Candidate) (p q : ℕ) → EndsAtPlace x item p → EndsAtPlace x later q
    → item.offset ≡ later.offset
    → p < q → q ≤ p + 47 → ⊥
one_of_added x item later p q a b same lt near =
    let lane : ℕ = later.offset in
    let here : EndsFrame (lane_bits x lane (p + 1)) item.octets = subst
    (λ l. EndsFrame (lane_bits x l (p + 1)) item.octets) same a.frame in
    let more = bits_later x lane (p + 1) (q - p - 1) in
    let at : p + 1 + (q - p - 1) ≡ q = omega arith in
    let last = bits_read x lane q b.reads in
    let longer : lane_bits x lane (q + 1) ≡ (lane_bits x lane (p + 1) ++ more.0) ++ last.0 ∷ []
    = last.1 ∙ ap (λ t. t ++ last.0 ∷ []) (ap (lane_bits x lane) (sym at) ∙ more.1) in
    let few = more.2 in
    frames_far (lane_bits x lane (p + 1)) more.0 last.0 item.octets later.octets here
    (subst (λ t. EndsFrame t later.octets) longer b.frame) (omega arith)

one_added : (x : List ℤ) (item later : Candidate) → IsAdded x item → IsAdded x later → item.offset ≡ later.offset
    → item.end ≤ later.end → later.end ≤ item.end + 47 → item.end ≡ later.end
one_added x item later a b same le near =
    let e = a.ends.end_of in
    let f = b.ends.end_of in
    let d : delay_of item.offset ≡ delay_of later.offset = ap delay_of same in
    let small = delay_small item.offset a.ends.most in
    elim (cases_lt a.place b.place) [
      | inl lt ↦ absurd (one_of_added x item later a.place b.place a.ends b.ends same lt (omega arith))
      | inr ge ↦ omega arith
    ]

-- ---- all lanes

one_of : (x : List ℤ) (item later : Candidate) → IsHeard x item → IsHeard x later → item.offset ≡ later.offset
    → item.end ≤ later.end → later.end ≤ item.end + 47 → item.end ≡ later.end
one_of x item later (inl a) (inl b) same le near = one_of_lane x item later a b same le near
one_of x item later (inl a) (inr b) same le near = let small = a.offset in let least = b.ends.least in
    absurd (omega arith)
one_of x item later (inr a) (inl b) same le near = let small = b.offset in let least = a.ends.least in
    absurd (omega arith)
one_of x item later (inr a) (inr b) same le near = one_added x item later a b same le near

pub heard_within : (x : List ℤ) (item : Candidate) → IsHeard x item → item.end ≤ length x
heard_within x item (inl h) = end_within x item h
heard_within x item (inr h) = let inside = h.decided in let end = h.ends.end_of in omega arith

pub lane_below : (x : List ℤ) (item : Candidate) → IsHeard x item → item.offset < 26
lane_below x item (inl h) = let small = h.offset in omega arith
lane_below x item (inr h) = h.ends.most

-- what ends in the last 48 places is at most one candidate of each lane
pub few_kept : (x : List ℤ) (items : List Candidate) → AreHeard x items
    → length (not_below (settled (length x) - 15) items) ≤ 26
few_kept x items are =
    let p : Candidate → Bool = λ item. nat_le (settled (length x) - 15) item.end in
    let kept : List Candidate = not_below (settled (length x) - 15) items in
    let each : All (IsHeard x) kept = All-filter p (IsHeard x) items are.each in
    let late : All (λ item. p item ≡ true) kept = filter_passes p items in
    let rises : AllPairs (λ item later. standing item < standing later) kept = AllPairs-filter
    (λ item later. standing item < standing later) p items are.order in
    let offsets : List ℕ = map (λ item. item.offset) kept in
    let some : Candidate = record { end = 0; offset = 0; octets = [] } in
    let count : length offsets ≡ length kept = length-map kept (λ item. item.offset) in
    let distinct : IsDistinct eqb offsets = IsDistinct-from_AllPairs Decides-eqb offsets (λ i j d ij jl same.
    let first = each i some (omega arith) in
    let second = each j some (omega arith) in
    let stands = rises i j some ij (omega arith) in
    let at_i : get_or offsets i d ≡ (get_or kept i some).offset = get_or-map (λ item. item.offset) kept i some d
    (omega arith) in
    let at_j : get_or offsets j d ≡ (get_or kept j some).offset = get_or-map (λ item. item.offset) kept j some d
    (omega arith) in
    let lane : (get_or kept i some).offset ≡ (get_or kept j some).offset = sym at_i ∙ same ∙ at_j in
    let passes = leb-true (settled (length x) - 15) (get_or kept i some).end (late i some (omega arith)) in
    let within = heard_within x (get_or kept j some) second in
    let place = one_of x (get_or kept i some) (get_or kept j some) first second lane (omega arith) (omega arith) in
    omega arith) in
    let small : All (λ offset. offset < 26) offsets = All-map (λ offset. offset < 26) (λ item. item.offset) kept
    (λ k d l. lane_below x (get_or kept k d) (each k d l)) in
    let few : length offsets ≤ 26 = length-le_from_distinct_below offsets 26 distinct
    (λ q found. All-contains (λ offset. offset < 26) offsets q small (Contains-from_any eqb-true q offsets found))
    in
    omega arith
