-- The candidates of forty lanes: those of samples, and those that more samples bring.
use Rattle.wide_input.proofs.Common.{◌≡◌, ℕ, suc, ◌+◌, ◌*◌, ◌<◌, ◌≤◌, ℤ, List, [], ◌∷◌, ◌++◌, length, get_or, map}
use Rattle.wide_input.proofs.Common.{append_assoc, refl, ap, sym, subst, ◌∙◌, arith, inl, inr, fold, All, cases_lt}
use Rattle.wide_input.proofs.Common.{get_or-map, length-map, All-nil, All-append, Candidate, standing, place, merged}
use Rattle.wide_input.proofs.Common.{below, IsCandidate, AreCandidatesAfter, end_within, below_more, stream}
use Rattle.wide_input.proofs.Common.{least_count, in_stream, IsWideCandidate, AreWideCandidates, brought, next_skipped}
use Rattle.std.proofs.Common.{◌≢◌}
use Rattle.std.specs.List.{AllPairs, Contains}
use Rattle.std.proofs.lemmas.List.Elements.{Contains-append_left, Contains-append_right}
use Rattle.frame_merge.specs.Order.{IsInOrder}
use Rattle.slicer_bank.proofs.CandidateLemmas.{candidate_more, candidate_less, AllPairs-append}
use Rattle.slicer_bank.proofs.MergingLemmas.{rising_strictly}
use Rattle.slicer_bank.proofs.OrderingLemmas.{strictly_more, contains_more, all_more}
use Rattle.wide_input.proofs.StreamLemmas.{stream-append, stream-least}

-- ---- one candidate

-- a wide candidate is of one of forty lanes
pub lane_small : (x : List ℤ) (item : Candidate) → IsWideCandidate x item → item.offset < 40
lane_small x item h = let small = h.candidate.offset in let within = h.within in
    let lane : item.offset ≡ 8 * h.number + h.heard.offset = ap (λ (t : Candidate). t.offset) h.is in omega arith

-- it ends as it is heard, and its lane tells the stream
pub end_heard : (x : List ℤ) (item : Candidate) (h : IsWideCandidate x item) → item.end ≡ h.heard.end
end_heard x item h = ap (λ (t : Candidate). t.end) h.is

-- a wide candidate of the first samples is one of them all
pub wide_more : (x y : List ℤ) (item : Candidate) → IsWideCandidate x item → IsWideCandidate (x ++ y) item
wide_more x y item h = record {
  number = h.number;
  within = h.within;
  heard = h.heard;
  candidate = subst (λ s. IsCandidate s h.heard) (sym (stream-append h.number x y))
      (candidate_more (stream h.number x) (stream (next_skipped h.number x) y) h.heard h.candidate);
  is = h.is;
}

-- one that its stream heard within the first samples is one of them
wide_less : (x y : List ℤ) (item : Candidate) (h : IsWideCandidate (x ++ y) item)
    → h.heard.end ≤ length (stream h.number x) → IsWideCandidate x item
wide_less x y item h within = record {
  number = h.number;
  within = h.within;
  heard = h.heard;
  candidate = candidate_less (stream h.number x) (stream (next_skipped h.number x) y) h.heard
      (subst (λ s. IsCandidate s h.heard) (stream-append h.number x y) h.candidate) within;
  is = h.is;
}

-- ---- what more samples bring

-- the item is what a stream hears after its part of the first samples
pub record IsBrought (x y : List ℤ) (item : Candidate) : Type 0 where
  pub wide : IsWideCandidate (x ++ y) item
  pub past : length (stream wide.number x) < wide.heard.end

-- the items are all that the streams hear, in any order
pub record AreBrought (x y : List ℤ) (items : List Candidate) : Type 0 where
  pub each : All (IsBrought x y) items
  pub whole : (item : Candidate) → IsBrought x y item → Contains items item
  pub apart : AllPairs (λ item later. standing item ≢ standing later) items

-- an item that is brought stands like none before it
apart_old : (x y : List ℤ) (old new : Candidate) → IsWideCandidate x old → IsBrought x y new
    → standing old ≢ standing new
apart_old x y old new h b same =
    let w = b.wide in
    let small = h.candidate.offset in
    let small' = w.candidate.offset in
    let lane : old.offset ≡ 8 * h.number + h.heard.offset = ap (λ (t : Candidate). t.offset) h.is in
    let lane' : new.offset ≡ 8 * w.number + w.heard.offset = ap (λ (t : Candidate). t.offset) w.is in
    let end : old.end ≡ h.heard.end = end_heard x old h in
    let end' : new.end ≡ w.heard.end = end_heard (x ++ y) new w in
    let one : h.number < 5 = h.within in
    let two : w.number < 5 = w.within in
    let number : h.number ≡ w.number = omega arith in
    let within : h.heard.end ≤ length (stream h.number x) = end_within (stream h.number x) h.heard h.candidate in
    let size : length (stream h.number x) ≡ length (stream w.number x) = ap (λ n. length (stream n x)) number in
    let past = b.past in
    omega arith

abbrev pub placed : List Candidate → List Candidate → List Candidate
placed candidates items = fold (λ ordered item. place item ordered) candidates items

-- the candidates with those that are brought in their places
pub candidates_with : (x y : List ℤ) (candidates items : List Candidate) → AreWideCandidates x candidates
    → AreBrought x y items
    → AreWideCandidates (x ++ y) (placed candidates items)
candidates_with x y candidates items are brought = record {
  each = all_more (IsWideCandidate (x ++ y)) candidates items
      (λ k d l. wide_more x y (get_or candidates k d) (are.each k d l)) (λ k d l. (brought.each k d l).wide);
  whole = λ item h. contains_more candidates items item (elim (cases_lt (length (stream h.number x)) h.heard.end) [
    | inl past ↦ Contains-append_right candidates items item (brought.whole item (record { wide = h; past = past }))
    | inr within ↦ Contains-append_left candidates items item (are.whole item (wide_less x y item h within))
  ]);
  order = strictly_more candidates items are.order brought.apart
      (λ i d il j c jl. apart_old x y (get_or candidates j c) (get_or items i d) (are.each j c jl)
      (brought.each i d il));
}

-- what is brought ends from the least count on
pub brought_late : (x y : List ℤ) (items : List Candidate) → AreBrought x y items
    → All (λ item. least_count x ≤ item.end) items
brought_late x y items brought k d l =
    let b = brought.each k d l in
    let end = end_heard (x ++ y) (get_or items k d) b.wide in
    let least = stream-least b.wide.number x b.wide.within in
    let past = b.past in
    let low = least.0 in
    omega arith

pub wide_in_order : (x : List ℤ) (candidates : List Candidate) → AreWideCandidates x candidates → IsInOrder candidates
wide_in_order x candidates are = record {
  rising = rising_strictly candidates are.order;
  offsets = λ k d l. let small = lane_small x (get_or candidates k d) (are.each k d l) in omega arith;
}

-- so it changes nothing of what is merged below that
pub below_stays : (x y : List ℤ) (candidates items : List Candidate) → AreWideCandidates x candidates
    → AreBrought x y items
    → below (least_count x) (merged (placed candidates items)) ≡ below (least_count x) (merged candidates)
below_stays x y candidates items are brought =
    below_more (least_count x) candidates items (wide_in_order x candidates are)
    (λ k d l. let small = lane_small (x ++ y) (get_or items k d) (brought.each k d l).wide in omega arith)
    (brought_late x y items brought)

-- ---- the lists of several streams as one

pub brought-append : (number : ℕ) (founds more : List (List Candidate))
    → brought number (founds ++ more) ≡ brought number founds ++ brought (number + length founds) more
brought-append number [] more = ap (λ n. brought n more) (let e : number ≡ number + 0 = omega arith in e)
brought-append number (found ∷ founds) more =
    ap (λ t. map (in_stream number) found ++ t)
    (brought-append (suc number) founds more ∙ ap (λ n. brought (suc number) founds ++ brought n more)
    (let e : suc number + length founds ≡ number + suc (length founds) = omega arith in e))
    ∙ sym (append_assoc (map (in_stream number) found) (brought (suc number) founds)
    (brought (number + suc (length founds)) more))

-- each stream from a number on found what its part of more samples brings
abbrev pub HaveFound : List ℤ → List ℤ → ℕ → List (List Candidate) → Type 0
HaveFound x y number founds = (k : ℕ) (d : List Candidate) → k < length founds
    → AreCandidatesAfter (length (stream (number + k) x)) (stream (number + k) (x ++ y)) (get_or founds k d)

module _ (x y : List ℤ) where
  next_found : (number : ℕ) (found : List Candidate) (founds : List (List Candidate))
      → HaveFound x y number (found ∷ founds) → HaveFound x y (suc number) founds
  next_found number found founds h k d l =
      let e : number + suc k ≡ suc number + k = omega arith in
      subst (λ n. AreCandidatesAfter (length (stream n x)) (stream n (x ++ y)) (get_or founds k d)) e
      (h (suc k) d (omega arith))

  first_found : (number : ℕ) (found : List Candidate) (founds : List (List Candidate))
      → HaveFound x y number (found ∷ founds)
      → AreCandidatesAfter (length (stream number x)) (stream number (x ++ y)) found
  first_found number found founds h =
      let e : number + 0 ≡ number = omega arith in
      subst (λ n. AreCandidatesAfter (length (stream n x)) (stream n (x ++ y)) found) e (h 0 found (omega arith))

  -- what is brought by streams from a number on is of their lanes
  abbrev IsOfLanes : ℕ → Candidate → Type 0
  IsOfLanes number item = IsBrought x y item × (8 * number ≤ item.offset)

  each_brought : (number : ℕ) (founds : List (List Candidate)) → number + length founds ≤ 5
      → HaveFound x y number founds → All (IsOfLanes number) (brought number founds)
  each_brought number [] few h = All-nil (IsOfLanes number)
  each_brought number (found ∷ founds) few h =
      let first = first_found number found founds h in
      All-append (IsOfLanes number) (map (in_stream number) found) (brought (suc number) founds)
      (λ k d l.
      let n = length-map found (in_stream number) in
      let within : k < length found = omega arith in
      let at : get_or (map (in_stream number) found) k d ≡ in_stream number (get_or found k d) =
      get_or-map (in_stream number) found k d d within in
      let c = first.each k d within in
      subst (IsOfLanes number) (sym at) (
        record {
          wide = record {
            number = number;
            within = omega arith;
            heard = get_or found k d;
            candidate = c.0;
            is = refl;
          };
          past = c.1;
        },
        omega arith,
      ))
      (λ k d l. let r = each_brought (suc number) founds (omega arith) (next_found number found founds h) k d l in
      let le = r.1 in (r.0, omega arith))

  contains_map : (number : ℕ) (items : List Candidate) (item : Candidate) → Contains items item
      → Contains (map (in_stream number) items) (in_stream number item)
  contains_map number items item (k, l, e) =
      let n = length-map items (in_stream number) in
      (k, omega arith, get_or-map (in_stream number) items k item (in_stream number item) l ∙ ap (in_stream number) e)

  whole_brought : (number : ℕ) (founds : List (List Candidate)) (item : Candidate) (b : IsBrought x y item)
      → number ≤ b.wide.number → b.wide.number < number + length founds
      → HaveFound x y number founds → Contains (brought number founds) item
  whole_brought number [] item b low high h = absurd (omega arith)
  whole_brought number (found ∷ founds) item b low high h =
      elim (cases_lt number b.wide.number) [
        | inl later ↦ Contains-append_right (map (in_stream number) found) (brought (suc number) founds) item
            (whole_brought (suc number) founds item b later (omega arith) (next_found number found founds h))
        | inr here ↦ Contains-append_left (map (in_stream number) found) (brought (suc number) founds) item
            (of_first (omega arith))
      ]
    where
      of_first : b.wide.number ≡ number → Contains (map (in_stream number) found) item
      of_first same =
          let there : Contains found b.wide.heard = (first_found number found founds h).whole b.wide.heard
          (subst (λ n. IsCandidate (stream n (x ++ y)) b.wide.heard) same b.wide.candidate)
          (subst (λ n. length (stream n x) < b.wide.heard.end) same b.past) in
          subst (Contains (map (in_stream number) found)) (ap (λ n. in_stream n b.wide.heard) (sym same)
          ∙ sym b.wide.is) (contains_map number found b.wide.heard there)

  apart_first : (number : ℕ) (items : List Candidate) → AllPairs (λ item later. standing item < standing later) items
      → AllPairs (λ item later. standing item ≢ standing later) (map (in_stream number) items)
  apart_first number items order i j d ij jl e =
      let n = length-map items (in_stream number) in
      let at_i : get_or (map (in_stream number) items) i d ≡ in_stream number (get_or items i d) =
      get_or-map (in_stream number) items i d d (omega arith) in
      let at_j : get_or (map (in_stream number) items) j d ≡ in_stream number (get_or items j d) =
      get_or-map (in_stream number) items j d d (omega arith) in
      let less = order i j d ij (omega arith) in
      let same : standing (in_stream number (get_or items i d)) ≡ standing (in_stream number (get_or items j d)) =
      sym (ap standing at_i) ∙ e ∙ ap standing at_j in
      omega arith

  apart_brought : (number : ℕ) (founds : List (List Candidate)) → number + length founds ≤ 5
      → HaveFound x y number founds
      → AllPairs (λ item later. standing item ≢ standing later) (brought number founds)
  apart_brought number [] few h = λ i j d ij jl. absurd (omega arith)
  apart_brought number (found ∷ founds) few h =
      let first = first_found number found founds h in
      AllPairs-append (λ item later. standing item ≢ standing later) (map (in_stream number) found)
      (brought (suc number) founds)
      (apart_first number found first.order)
      (apart_brought (suc number) founds (omega arith) (next_found number found founds h))
      (λ i j d il jl e.
      let n = length-map found (in_stream number) in
      let at : get_or (map (in_stream number) found) i d ≡ in_stream number (get_or found i d) =
      get_or-map (in_stream number) found i d d (omega arith) in
      let lane : (get_or (map (in_stream number) found) i d).offset ≡ 8 * number + (get_or found i d).offset =
      ap (λ (t : Candidate). t.offset) at in
      let small = (first.each i d (omega arith)).0.offset in
      let later = each_brought (suc number) founds (omega arith) (next_found number found founds h) j d jl in
      let small' = lane_small (x ++ y) (get_or (brought (suc number) founds) j d) later.0.wide in
      let past = later.1 in
      omega arith)

  -- what five streams found is brought
  pub all_brought : (founds : List (List Candidate)) → length founds ≡ 5 → HaveFound x y 0 founds
      → AreBrought x y (brought 0 founds)
  all_brought founds five h = record {
    each = λ k d l. (each_brought 0 founds (omega arith) h k d l).0;
    whole = λ item b. let within = b.wide.within in whole_brought 0 founds item b (omega arith) (omega arith) h;
    apart = apart_brought 0 founds (omega arith) h;
  }
