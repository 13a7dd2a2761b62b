-- What the lanes of short wave hear in a stretch that grows, and in one after another.
use Rattle.live_receiver.proofs.Common.{◌≡◌, ◌≢◌, ℕ, zero, suc, ◌+◌, ◌*◌, ◌/◌, ◌%◌, ◌<◌, ◌≤◌, ◌⊎◌, ⊎_elim, inl, inr}
use Rattle.live_receiver.proofs.Common.{Bool, true, false, ℤ, List, [], ◌∷◌, ◌++◌, length, map, get_or, refl, ap, sym}
use Rattle.live_receiver.proofs.Common.{subst, ◌∙◌, arith, All, Contains, cases_lt, length-map}
use Rattle.live_receiver.proofs.Common.{get_or-map, All-nil, All-map, All-append, AllPairs-append, Contains-append_left}
use Rattle.live_receiver.proofs.Common.{Contains-append_right, Got, Candidate, standing, Stretch, stretch_at, with_samples}
use Rattle.live_receiver.proofs.Common.{stretches, end_of, IsCandidate, end_sample, IsHeardByOne, IsAddedInOne}
use Rattle.live_receiver.proofs.Common.{IsHeardInOne, IsHeardIn, moved, moved_added, placed, AreHeard, AreAddedAmong}
use Rattle.live_receiver.proofs.Common.{places_in, AreCandidatesAfter, Option, Some, None, option_map, option_to_list, IfSome}
use Rattle.live_receiver.proofs.Common.{AreAllIn, AreApart}
use Rattle.hf_modem.proofs.CandidateLemmas.{candidate_less, candidate_more, end_sample-is, end_within}
use Rattle.stretch_reader.proofs.EachHeardLemmas.{all_more, none_in}
use Rattle.live_receiver.proofs.AddedLemmas.{IsAddedWith, added_grow, added_shrink, added_now, added_none, added_lane}
use Rattle.live_receiver.proofs.AddedLemmas.{added_apart, added_later, added_each, added_whole, added_pairs}

-- ---- places

place_of_placed : (place : ℕ) (heard : Candidate) → end_sample (placed place heard) ≡ place
place_of_placed place heard = omega arith

-- what ends with a sample, by its place in the stretch
pub placed_is : (begin at : ℕ) (heard : Option Candidate)
    → IfSome heard (λ item. (end_sample item ≡ at) × (item.offset ≡ at % 32))
    → option_to_list (option_map (placed (begin + at)) heard) ≡ map (moved begin) (option_to_list heard)
placed_is begin at None told = refl
placed_is begin at (Some item) told = ap (λ p. placed (begin + p) item ∷ []) (sym told.0)

standing_at : ℕ → ℕ
standing_at place = 256 * (place / 4) + place % 32

standing_rises : (p q : ℕ) → p < q → standing_at p < standing_at q
unfolding standing_at
standing_rises p q less = elim (cases_lt (p / 4) (q / 4)) [
  | inl lt ↦ omega arith
  | inr ge ↦
      let same : p / 4 ≡ q / 4 = omega arith in
      let here : p % 32 ≡ 4 * ((p / 4) % 8) + p % 4 = omega arith in
      let there : q % 32 ≡ 4 * ((q / 4) % 8) + q % 4 = omega arith in
      let eighth : (p / 4) % 8 ≡ (q / 4) % 8 = ap (λ n. n % 8) same in
      omega arith
]

-- so one place has one standing
one_place_at : (p q : ℕ) → standing_at p ≡ standing_at q → p ≡ q
one_place_at p q same = elim (cases_lt p q) [
  | inl lt ↦ absurd (let r = standing_rises p q lt in omega arith)
  | inr ge ↦ elim (cases_lt q p) [
    | inl gt ↦ absurd (let r = standing_rises q p gt in omega arith)
    | inr le ↦ omega arith
  ]
]

module _ (s : Stretch) (item : Candidate) (h : IsHeardByOne s item) where
  place_of : end_sample item ≡ s.begin + end_sample h.heard
  place_of = ap end_sample h.item_is ∙ place_of_placed (s.begin + end_sample h.heard) h.heard

  standing_of : standing item ≡ standing_at (end_sample item)
  unfolding standing_at
  standing_of = ap standing h.item_is ∙ sym (ap (λ p. 256 * (p / 4) + p % 32) place_of)

  pub one_lane : item.offset < 32
  one_lane = let same : item.offset ≡ (s.begin + end_sample h.heard) % 32 = ap (λ c. c.offset) h.item_is in omega arith

  one_within : end_sample item ≤ end_of s
  one_within =
      let place = place_of in
      let inside = end_within s.samples h.heard h.candidate in
      omega arith

  one_past : s.begin < end_sample item
  one_past =
      let place = place_of in
      let e = end_sample-is s.samples h.heard h.candidate.index h.candidate.ends in
      omega arith

-- what ends at another place stands elsewhere
places_apart : (t s : Stretch) (item other : Candidate) → IsHeardByOne t item → IsHeardByOne s other
    → end_sample item < end_sample other → standing item ≢ standing other
places_apart t s item other h k less same =
    let one = one_place_at (end_sample item) (end_sample other)
    (sym (standing_of t item h) ∙ same ∙ standing_of s other k) in
    omega arith

-- ---- one item of the 32 lanes in one stretch

-- the item is new of the stretch with more samples
record IsHeardWith (item : Candidate) (s : Stretch) (xs : List ℤ) : Type 0 where
  heard : Candidate
  candidate : IsCandidate (s.samples ++ xs) heard
  late : length s.samples < end_sample heard
  item_is : item ≡ moved s.begin heard

one_grow : (item : Candidate) (s : Stretch) (xs : List ℤ) → IsHeardByOne s item → IsHeardByOne (with_samples s xs) item
one_grow item s xs h = record {
  heard = h.heard;
  candidate = candidate_more s.samples xs h.heard h.candidate;
  item_is = h.item_is;
}

one_shrink : (item : Candidate) (s : Stretch) (xs : List ℤ) → IsHeardByOne (with_samples s xs) item
    → IsHeardByOne s item ⊎ IsHeardWith item s xs
one_shrink item s xs h = elim (cases_lt (length s.samples) (end_sample h.heard)) [
  | inl lt ↦ inr (record { heard = h.heard; candidate = h.candidate; late = lt; item_is = h.item_is })
  | inr ge ↦ inl (record {
    heard = h.heard;
    candidate = candidate_less s.samples xs h.heard h.candidate ge;
    item_is = h.item_is;
  })
]

one_now : (item : Candidate) (s : Stretch) (xs : List ℤ) → IsHeardWith item s xs → IsHeardByOne (with_samples s xs) item
one_now item s xs n = record { heard = n.heard; candidate = n.candidate; item_is = n.item_is }

one_none : (item : Candidate) (s : Stretch) → length s.samples ≡ 0 → IsHeardByOne s item → ⊥
one_none item s none h =
    let inside = end_within s.samples h.heard h.candidate in
    let e = end_sample-is s.samples h.heard h.candidate.index h.candidate.ends in
    omega arith

-- a new item ends past the end of the stretch
one_apart : (old item : Candidate) (s : Stretch) (xs : List ℤ) → IsHeardByOne s old → IsHeardWith item s xs
    → standing old ≢ standing item
one_apart old item s xs h n =
    let now = one_now item s xs n in
    let place : end_sample item ≡ s.begin + end_sample n.heard
    = ap end_sample n.item_is ∙ place_of_placed (s.begin + end_sample n.heard) n.heard in
    let late = n.late in
    let within = one_within s old h in
    places_apart s (with_samples s xs) old item h now (omega arith)

-- ---- all that is new of the 32 lanes

contains_moved : (begin : ℕ) (heard : List Candidate) (item : Candidate) → Contains heard item
    → Contains (map (moved begin) heard) (moved begin item)
contains_moved begin heard item c =
    let n = length-map heard (moved begin) in
    let l = c.1 in (
      c.0,
      (let k : c.0 < length (map (moved begin) heard) = omega arith in k),
      get_or-map (moved begin) heard c.0 item (moved begin item) c.1 ∙ ap (moved begin) c.2,
    )

module _ (s : Stretch) (xs : List ℤ) (heard : List Candidate)
    (are : AreCandidatesAfter (length s.samples) (s.samples ++ xs) heard) where
  one_each : All (λ item. IsHeardWith item s xs) (map (moved s.begin) heard)
  one_each = All-map (λ item. IsHeardWith item s xs) (moved s.begin) heard
      (λ k d l. let e = are.each k d l in
      record { heard = get_or heard k d; candidate = e.0; late = e.1; item_is = refl })

  one_whole : (item : Candidate) → IsHeardWith item s xs → Contains (map (moved s.begin) heard) item
  one_whole item n =
      subst (Contains (map (moved s.begin) heard)) (sym n.item_is)
      (contains_moved s.begin heard n.heard (are.whole n.heard n.candidate n.late))

  -- two candidates that end with one sample are of one lane
  one_end : (i j : ℕ) (d : Candidate) → i < j → j < length heard
      → end_sample (get_or heard i d) ≡ end_sample (get_or heard j d) → ⊥
  one_end i j d ij jl same =
      let a = (are.each i d (omega arith)).0 in
      let b = (are.each j d jl).0 in
      let first = end_sample-is (s.samples ++ xs) (get_or heard i d) a.index a.ends in
      let second = end_sample-is (s.samples ++ xs) (get_or heard j d) b.index b.ends in
      let small = a.offset in
      let low = b.offset in
      let lane : (get_or heard i d).offset ≡ (get_or heard j d).offset = omega arith in
      let rest : (get_or heard i d).offset % 4 ≡ (get_or heard j d).offset % 4 = ap (λ o. o % 4) lane in
      let end : (get_or heard i d).end ≡ (get_or heard j d).end = omega arith in
      let order = are.order i j d ij jl in
      omega arith

  one_pairs : AreApart (map (moved s.begin) heard)
  unfolding standing_at
  one_pairs i j d ij jl same =
      let n = length-map heard (moved s.begin) in
      let first = get_or-map (moved s.begin) heard i d d (omega arith) in
      let second = get_or-map (moved s.begin) heard j d d (omega arith) in
      let p : ℕ = s.begin + end_sample (get_or heard i d) in
      let q : ℕ = s.begin + end_sample (get_or heard j d) in
      let alike : standing_at p ≡ standing_at q = sym (ap standing first) ∙ same ∙ ap standing second in
      let one : p ≡ q = one_place_at p q alike in
      one_end i j d ij (omega arith) (omega arith)

-- ---- one item of any lane in one stretch

-- the item is new of the stretch with more samples
abbrev IsNewWith : Bool → Stretch → List ℤ → Candidate → Type 0
IsNewWith false s xs item = IsHeardWith item s xs
IsNewWith true s xs item = IsHeardWith item s xs ⊎ IsAddedWith item s xs

grow : (sensitive : Bool) (s : Stretch) (xs : List ℤ) (item : Candidate) → IsHeardInOne sensitive s item
    → IsHeardInOne sensitive (with_samples s xs) item
grow false s xs item h = one_grow item s xs h
grow true s xs item (inl h) = inl (one_grow item s xs h)
grow true s xs item (inr h) = inr (added_grow item s xs h)

shrink : (sensitive : Bool) (s : Stretch) (xs : List ℤ) (item : Candidate)
    → IsHeardInOne sensitive (with_samples s xs) item
    → IsHeardInOne sensitive s item ⊎ IsNewWith sensitive s xs item
shrink false s xs item h = one_shrink item s xs h
shrink true s xs item (inl h) =
    ⊎_elim (λ (was : IsHeardByOne s item). inl (inl was)) (λ (new : IsHeardWith item s xs). inr (inl new))
    (one_shrink item s xs h)
shrink true s xs item (inr h) =
    ⊎_elim (λ (was : IsAddedInOne s item). inl (inr was)) (λ (new : IsAddedWith item s xs). inr (inr new))
    (added_shrink item s xs h)

nothing_in : (sensitive : Bool) (s : Stretch) → length s.samples ≡ 0 → (item : Candidate)
    → IsHeardInOne sensitive s item → ⊥
nothing_in false s none item h = one_none item s none h
nothing_in true s none item (inl h) = one_none item s none h
nothing_in true s none item (inr h) = added_none item s none h

pub none_yet : (sensitive : Bool) (begin : ℕ) → AreAllIn (IsHeardInOne sensitive) (stretch_at begin) []
none_yet sensitive begin =
    none_in (IsHeardInOne sensitive) (stretch_at begin) (nothing_in sensitive (stretch_at begin) refl)

now_with : (sensitive : Bool) (s : Stretch) (xs : List ℤ) (item : Candidate) → IsNewWith sensitive s xs item
    → IsHeardInOne sensitive (with_samples s xs) item
now_with false s xs item n = one_now item s xs n
now_with true s xs item (inl n) = inl (one_now item s xs n)
now_with true s xs item (inr n) = inr (added_now item s xs n)

-- an item of the 32 lanes and one of the others do not stand alike
other_lane : (item other : Candidate) → item.offset < 32 → (32 ≤ other.offset) × (other.offset < 59)
    → standing item ≢ standing other
other_lane item other low high same = let least = high.0 in let most = high.1 in omega arith

-- what is heard in a stretch, and what is new of it with more samples
apart_here : (sensitive : Bool) (s : Stretch) (xs : List ℤ) (old item : Candidate) → IsHeardInOne sensitive s old
    → IsNewWith sensitive s xs item → standing old ≢ standing item
apart_here false s xs old item h n same = one_apart old item s xs h n same
apart_here true s xs old item (inl h) (inl n) same = one_apart old item s xs h n same
apart_here true s xs old item (inl h) (inr n) same = other_lane old item (one_lane s old h)
    (added_lane item (with_samples s xs) (added_now item s xs n)) same
apart_here true s xs old item (inr h) (inl n) same = other_lane item old
    (one_lane (with_samples s xs) item (one_now item s xs n)) (added_lane old s h) (sym same)
apart_here true s xs old item (inr h) (inr n) same = added_apart old item s xs h n same

one_later : (t s : Stretch) (old item : Candidate) → end_of t ≤ s.begin → IsHeardByOne t old → IsHeardByOne s item
    → standing old ≢ standing item
one_later t s old item before h k =
    let within = one_within t old h in
    let past = one_past s item k in
    places_apart t s old item h k (omega arith)

-- what is heard in a stretch and in one after it
pub apart_later : (sensitive : Bool) (t s : Stretch) (old item : Candidate) → end_of t ≤ s.begin
    → IsHeardInOne sensitive t old → IsHeardInOne sensitive s item → standing old ≢ standing item
apart_later false t s old item before h k same = one_later t s old item before h k same
apart_later true t s old item before (inl h) (inl k) same = one_later t s old item before h k same
apart_later true t s old item before (inl h) (inr k) same =
    other_lane old item (one_lane t old h) (added_lane item s k) same
apart_later true t s old item before (inr h) (inl k) same =
    other_lane item old (one_lane s item k) (added_lane old t h) (sym same)
apart_later true t s old item before (inr h) (inr k) same = added_later old item t s before h k same

lane_in : (sensitive : Bool) (item : Candidate) (s : Stretch) → IsHeardInOne sensitive s item → item.offset < 256
lane_in false item s h = let small = one_lane s item h in omega arith
lane_in true item s (inl h) = let small = one_lane s item h in omega arith
lane_in true item s (inr h) = let most = (added_lane item s h).1 in omega arith

pub lane_below : (sensitive : Bool) (answers : List Got) (item : Candidate) → IsHeardIn sensitive answers item
    → item.offset < 256
lane_below sensitive answers item h = lane_in sensitive item h.stretch h.heard

-- ---- all that is heard in one stretch

module _ (s : Stretch) (xs : List ℤ) (own heard : List Candidate)
    (are : AreCandidatesAfter (length s.samples) (s.samples ++ xs) heard) where
  -- by the 32 lanes alone
  pub more_by_one : AreAllIn (IsHeardInOne false) s own
      → AreAllIn (IsHeardInOne false) (with_samples s xs) (own ++ map (moved s.begin) heard)
  more_by_one h =
      all_more (IsHeardInOne false) s (with_samples s xs) (IsNewWith false s xs) (grow false s xs) (now_with false s xs)
      (shrink false s xs) (apart_here false s xs) own (map (moved s.begin) heard) h (one_each s xs heard are)
      (one_whole s xs heard are) (one_pairs s xs heard are)

  module _ (added : List Candidate)
      (others : AreAddedAmong (places_in (length s.samples)) (places_in (length (s.samples ++ xs))) 32 59
      (s.samples ++ xs) added) where
    abbrev first : List Candidate
    first = map (moved s.begin) heard

    abbrev second : List Candidate
    second = map (moved_added s.begin) added

    each_of : All (IsNewWith true s xs) (first ++ second)
    each_of = All-append (IsNewWith true s xs) first second (λ k d l. inl (one_each s xs heard are k d l))
        (λ k d l. inr (added_each s xs added others k d l))

    whole_of : (item : Candidate) → IsNewWith true s xs item → Contains (first ++ second) item
    whole_of item (inl n) = Contains-append_left first second item (one_whole s xs heard are item n)
    whole_of item (inr n) = Contains-append_right first second item (added_whole s xs added others item n)

    pairs_of : AreApart (first ++ second)
    pairs_of = AllPairs-append (λ item later. standing item ≢ standing later) first second
        (one_pairs s xs heard are) (added_pairs s xs added others)
        (λ i j d il jl.
        let n = one_each s xs heard are i d il in
        let m = added_each s xs added others j d jl in
        let item : Candidate = get_or first i d in
        let other : Candidate = get_or second j d in
        other_lane item other (one_lane (with_samples s xs) item (one_now item s xs n))
        (added_lane other (with_samples s xs) (added_now other s xs m)))

    -- and with the added ones
    pub more_by_all : AreAllIn (IsHeardInOne true) s own
        → AreAllIn (IsHeardInOne true) (with_samples s xs) (own ++ (first ++ second))
    more_by_all h =
        all_more (IsHeardInOne true) s (with_samples s xs) (IsNewWith true s xs) (grow true s xs) (now_with true s xs)
        (shrink true s xs) (apart_here true s xs) own (first ++ second) h each_of whole_of pairs_of

-- ---- all that is heard

-- nothing is heard in no answers
none_heard : (sensitive : Bool) (item : Candidate) → IsHeardIn sensitive [] item → ⊥
none_heard sensitive item h = nothing_in sensitive h.stretch (empty h.is) item h.heard where
  empty : Contains (stretches []) h.stretch → length h.stretch.samples ≡ 0
  empty (zero, l, e) = sym (ap (λ (s : Stretch). length s.samples) e)
  empty (suc k, l, e) = absurd (omega arith)

pub heard_nothing : (sensitive : Bool) → AreHeard sensitive [] []
heard_nothing sensitive = record {
  each = All-nil (IsHeardIn sensitive []);
  whole = λ item h. absurd (none_heard sensitive item h);
  order = λ i j d ij jl. absurd (omega arith);
}
