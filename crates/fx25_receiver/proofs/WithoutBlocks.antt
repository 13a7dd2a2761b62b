-- Samples in which no block ends are heard as by lanes that read no blocks, and merged as those merge.
use Rattle.fx25_receiver.proofs.Common.{◌≡◌, ℕ, ◌+◌, ◌<◌, ◌≤◌, Bool, true, false, ◌&&◌, ℤ, List, [], ◌∷◌, ◌++◌}
use Rattle.fx25_receiver.proofs.Common.{length, map, get_or, refl, ap, ◌∙◌, arith, inl, inr, All, All-append}
use Rattle.fx25_receiver.proofs.Common.{All-cons, All-head, All-nil, All-tail, All-weaker, AreHeard, AreMerged, Heard, IsHeard}
use Rattle.fx25_receiver.proofs.Common.{list_any, nat_le, ◌||◌, if◌then◌else◌, merged_after, repeats, le-leb}
use Rattle.std.specs.Str.{bytes_eq}
use Rattle.std.specs.List.Sorted.{IsNonDecreasingBy}
use Rattle.std.proofs.lemmas.Bool.{leb-true}
use Rattle.std.proofs.lemmas.List.{get_or-map, length-map, map-append}
use Rattle.std.proofs.lemmas.List.Elements.{All-map}
use Rattle.frame_merge.proofs.Ordering.{rising_head, rising_tail}
use Rattle.frame_merge.specs.declared.candidate.Candidate.{Candidate}
use Rattle.frame_merge.specs.Merged.{merged as merged_plainly, merged_after as merged_plainly_after}
use Rattle.frame_merge.specs.Merged.{repeats as repeats_plainly}
use Rattle.slicer_bank.specs.Candidates.{AreCandidates, IsCandidate}
use Rattle.slicer_bank.proofs.OneList.{one_list}
use Rattle.fx25_receiver.specs.WithoutBlocks.{HasNoBlock, candidate_of}
use Rattle.fx25_receiver.proofs.MergedLists.{heard_rises}

-- ---- what is heard

plain_item : Candidate → Heard
plain_item item = record { end = item.end; lane = item.offset; tag = 0; octets = item.octets; at = item.end }

is_candidate : (x : List ℤ) (item : Heard) → IsHeard x item → item.tag ≡ 0
    → IsCandidate x (candidate_of item) × (item.at ≡ item.end)
is_candidate x item h none = elim h.ends.ends [
  | inl plain ↦ (
    record {
      offset = h.lane;
      index = h.index;
      ends = record { within = h.ends.within; end_of = h.ends.end_of; frame = plain.2 };
    },
    plain.1,
  )
  | inr block ↦ let least = block.1.is_tag.0 in absurd (omega arith)
]

is_heard : (x : List ℤ) (item : Candidate) → IsCandidate x item → IsHeard x (plain_item item)
unfolding plain_item
is_heard x item h = record {
  lane = h.offset;
  index = h.index;
  ends = record { within = h.ends.within; end_of = h.ends.end_of; ends = inl (refl, refl, h.ends.frame) };
}

module _ (x : List ℤ) (none : HasNoBlock x) (heard : List Heard) (are : AreHeard x heard) where
  size : length (map candidate_of heard) ≡ length heard
  size = length-map heard candidate_of

  candidates_are : AreCandidates x (map candidate_of heard)
  unfolding plain_item size
  candidates_are = record {
    each = All-map (λ item. IsCandidate x item × (0 < item.end)) candidate_of heard (λ k d l.
        let item = get_or heard k d in
        let h = are.each k d l in
        let end = h.ends.end_of in
        ((is_candidate x item h (none item h)).0, omega arith));
    whole = λ item h some.
        let found = are.whole (plain_item item) (is_heard x item h) in
        let within = found.1 in (
          found.0,
          omega (arith, size),
          get_or-map candidate_of heard found.0 (plain_item item) item within
              ∙ ap candidate_of found.2,
        );
    order = λ i j d before within.
        let e = plain_item d in
        let inside : j < length heard = omega (arith, size) in
        let earlier : i < length heard = omega arith in
        let order = are.order i j e before inside in
        let first = get_or-map candidate_of heard i e d earlier in
        let second = get_or-map candidate_of heard j e d inside in
        let tag_i = none (get_or heard i e) (are.each i e earlier) in
        let tag_j = none (get_or heard j e) (are.each j e inside) in
        let end_i : (get_or (map candidate_of heard) i d).end ≡ (get_or heard i e).end = ap (λ c. c.end) first in
        let end_j : (get_or (map candidate_of heard) j d).end ≡ (get_or heard j e).end = ap (λ c. c.end) second in
        let lane_i : (get_or (map candidate_of heard) i d).offset ≡ (get_or heard i e).lane =
        ap (λ c. c.offset) first in
        let lane_j : (get_or (map candidate_of heard) j d).offset ≡ (get_or heard j e).lane =
        ap (λ c. c.offset) second in
        omega arith;
  }

-- ---- merging

-- a plain item, which ends no earlier than those before it
abbrev pub IsPlain : Heard → Type 0
IsPlain item = item.at ≡ item.end

both_told : (b p q r : Bool) → (p ≡ true → q ≡ true) → (p ≡ true → r ≡ true) → (((b && p) && q) && r) ≡ (b && p)
both_told false p q r near far = refl
both_told true false q r near far = refl
both_told true true q r near far = ap (λ t. t && r) (near refl) ∙ far refl

same_repeats : (item earlier : Heard) → IsPlain item → IsPlain earlier → earlier.end ≤ item.end
    → repeats item earlier ≡ repeats_plainly (candidate_of item) (candidate_of earlier)
same_repeats item earlier here there before =
    let alike : Bool = bytes_eq earlier.octets item.octets in
    let last : Bool = nat_le item.end (earlier.end + 20000) in
    ap (λ a. ((alike && nat_le a (earlier.at + 15)) && nat_le earlier.at (a + 15)) && last) here
    ∙ ap (λ a. ((alike && nat_le item.end (a + 15)) && nat_le a (item.end + 15)) && last) there
    ∙ both_told alike (nat_le item.end (earlier.end + 15)) (nat_le earlier.end (item.end + 15)) last
    (λ near. le-leb earlier.end (item.end + 15) (omega arith))
    (λ near. let close = leb-true item.end (earlier.end + 15) near in
    le-leb item.end (earlier.end + 20000) (omega arith))

same_any : (item : Heard) (earlier : List Heard) → IsPlain item → All IsPlain earlier
    → All (λ e. e.end ≤ item.end) earlier
    → list_any (repeats item) earlier ≡ list_any (repeats_plainly (candidate_of item)) (map candidate_of earlier)
same_any item [] here plain before = refl
same_any item (e ∷ earlier) here plain before =
    ap (λ b. b || list_any (repeats item) earlier)
    (same_repeats item e here (All-head IsPlain e earlier plain) (All-head (λ e. e.end ≤ item.end) e earlier before))
    ∙ ap (λ b. repeats_plainly (candidate_of item) (candidate_of e) || b)
    (same_any item earlier here (All-tail IsPlain e earlier plain) (All-tail (λ e. e.end ≤ item.end) e earlier before))

pub same_merged : (last : ℕ) (earlier xs : List Heard) → All IsPlain earlier → All (λ e. e.end ≤ last) earlier
    → All IsPlain xs → All (λ item. last ≤ item.end) xs → IsNonDecreasingBy (λ item. item.end) xs
    → map candidate_of (merged_after earlier xs)
    ≡ merged_plainly_after (map candidate_of earlier) (map candidate_of xs)
same_merged last earlier [] plain before also after rises = refl
same_merged last earlier (item ∷ xs) plain before also after rises =
    let here = All-head IsPlain item xs also in
    let least = All-head (λ item. last ≤ item.end) item xs after in
    let before_item : All (λ e. e.end ≤ item.end) earlier =
    All-weaker (λ e. e.end ≤ last) (λ e. e.end ≤ item.end) (λ e l. omega arith) earlier before in
    let more : List Heard = earlier ++ item ∷ [] in
    let rest = same_merged item.end more xs
    (All-append IsPlain earlier (item ∷ []) plain (All-cons IsPlain item [] here (All-nil IsPlain)))
    (All-append (λ e. e.end ≤ item.end) earlier (item ∷ []) before_item
    (All-cons (λ e. e.end ≤ item.end) item [] (omega arith) (All-nil (λ e. e.end ≤ item.end))))
    (All-tail IsPlain item xs also) (rising_head (λ i. i.end) item xs rises) (rising_tail (λ i. i.end) item xs rises)
    ∙ ap (λ e. merged_plainly_after e (map candidate_of xs)) (map-append candidate_of earlier (item ∷ [])) in
    let front = map candidate_of earlier in
    let now = candidate_of item in
    (elim (list_any (repeats item) earlier)
    as (λ t. map candidate_of (if t then merged_after more xs else item ∷ merged_after more xs)
    ≡ (if t then merged_plainly_after (front ++ now ∷ []) (map candidate_of xs)
    else now ∷ merged_plainly_after (front ++ now ∷ []) (map candidate_of xs)))
    [ true ↦ rest | false ↦ ap (λ ys. now ∷ ys) rest ])
    ∙ ap (λ t. if t then merged_plainly_after (front ++ now ∷ []) (map candidate_of xs)
    else now ∷ merged_plainly_after (front ++ now ∷ []) (map candidate_of xs))
    (same_any item earlier here plain before_item)

pub merged_plain : (x : List ℤ) (items : List Heard) (candidates : List Candidate) → HasNoBlock x
    → AreMerged x items → AreCandidates x candidates → map candidate_of items ≡ merged_plainly candidates
merged_plain x items candidates none h are =
    let all : All IsPlain h.heard =
    All-weaker (IsHeard x) IsPlain (λ item i. (is_candidate x item i (none item i)).1) h.heard h.are.each in
    ap (map candidate_of) h.is
    ∙ same_merged 0 [] h.heard (All-nil IsPlain) (All-nil (λ e. e.end ≤ 0)) all (λ k d l. omega arith)
    (heard_rises x h.heard h.are)
    ∙ ap merged_plainly (one_list x (map candidate_of h.heard) candidates (candidates_are x none h.heard h.are) are)
