-- What an added lane of short wave hears in one stretch, with more samples.
use Rattle.live_receiver.proofs.Common.{◌≡◌, ◌≢◌, ℕ, ◌+◌, ◌*◌, ◌/◌, ◌<◌, ◌≤◌, ◌⊎◌, inl, inr, ℤ, List, ◌++◌}
use Rattle.live_receiver.proofs.Common.{length, map, get_or, refl, ap, sym, subst, ◌∙◌, arith, All, AllPairs, Contains}
use Rattle.live_receiver.proofs.Common.{cases_lt, length-append, length-map, get_or-map, All-map, Candidate, standing}
use Rattle.live_receiver.proofs.Common.{Stretch, with_samples, end_of, IsAddedInOne, moved_added, places_in, IsAmong}
use Rattle.live_receiver.proofs.Common.{AreAddedAmong, EndsAtPlace}
use Rattle.hf_sensitive.proofs.FoundLemmas.{delay_small, one_place}
use Rattle.hf_sensitive.proofs.PrefixLanes.{ends-append, ends-take}

-- the item is new of the stretch with more samples
pub record IsAddedWith (item : Candidate) (s : Stretch) (xs : List ℤ) : Type 0 where
  pub heard : Candidate
  pub place : ℕ
  pub among : IsAmong (places_in (length s.samples)) (places_in (length (s.samples ++ xs))) 32 59 place heard.offset
  pub ends : EndsAtPlace (s.samples ++ xs) heard place
  pub item_is : item ≡ moved_added s.begin heard

pub added_grow : (item : Candidate) (s : Stretch) (xs : List ℤ) → IsAddedInOne s item → IsAddedInOne (with_samples s xs) item
added_grow item s xs h =
    let n = length-append s.samples xs in
    let inside = h.added.decided in
    record {
      heard = h.heard;
      added = record {
        place = h.added.place;
        decided = omega arith;
        ends = ends-append s.samples xs h.heard h.added.place h.added.decided h.added.ends;
      };
      item_is = h.item_is;
    }

pub added_shrink : (item : Candidate) (s : Stretch) (xs : List ℤ) → IsAddedInOne (with_samples s xs) item
    → IsAddedInOne s item ⊎ IsAddedWith item s xs
added_shrink item s xs h = elim (cases_lt h.added.place (places_in (length s.samples))) [
  | inl lt ↦ inl (record {
    heard = h.heard;
    added = record {
      place = h.added.place;
      decided = lt;
      ends = ends-take s.samples xs h.heard h.added.place lt h.added.ends;
    };
    item_is = h.item_is;
  })
  | inr ge ↦ inr (record {
    heard = h.heard;
    place = h.added.place;
    among = record {
      from_place = ge;
      to_place = h.added.decided;
      from_lane = h.added.ends.least;
      to_lane = h.added.ends.most;
    };
    ends = h.added.ends;
    item_is = h.item_is;
  })
]

pub added_now : (item : Candidate) (s : Stretch) (xs : List ℤ) → IsAddedWith item s xs → IsAddedInOne (with_samples s xs) item
added_now item s xs n = record {
  heard = n.heard;
  added = record { place = n.place; decided = n.among.to_place; ends = n.ends };
  item_is = n.item_is;
}

-- an empty stretch has no place
pub added_none : (item : Candidate) (s : Stretch) → length s.samples ≡ 0 → IsAddedInOne s item → ⊥
added_none item s none h = let inside = h.added.decided in omega arith

-- ---- where it stands

pub added_lane : (item : Candidate) (s : Stretch) → IsAddedInOne s item → (32 ≤ item.offset) × (item.offset < 59)
added_lane item s h =
    let same : item.offset ≡ h.heard.offset = ap (λ c. c.offset) h.item_is in
    let least = h.added.ends.least in
    let most = h.added.ends.most in
    (omega arith, omega arith)

-- what is heard in one stretch, and what is new of it, do not stand alike
pub added_apart : (old item : Candidate) (s : Stretch) (xs : List ℤ) → IsAddedInOne s old → IsAddedWith item s xs
    → standing old ≢ standing item
added_apart old item s xs h n same =
    let old_end : old.end ≡ (s.begin + 4 * h.heard.end) / 4 = ap (λ c. c.end) h.item_is in
    let old_lane : old.offset ≡ h.heard.offset = ap (λ c. c.offset) h.item_is in
    let new_end : item.end ≡ (s.begin + 4 * n.heard.end) / 4 = ap (λ c. c.end) n.item_is in
    let new_lane : item.offset ≡ n.heard.offset = ap (λ c. c.offset) n.item_is in
    let most = h.added.ends.most in
    let most_new = n.ends.most in
    let alike : standing h.heard ≡ standing n.heard = omega arith in
    let one = one_place (s.samples ++ xs) h.heard n.heard h.added.place n.place
    (ends-append s.samples xs h.heard h.added.place h.added.decided h.added.ends) n.ends alike in
    let p = one.0 in
    let inside = h.added.decided in
    let from = n.among.from_place in
    omega arith

-- nor do what is heard in a stretch and in one after it
pub added_later : (old item : Candidate) (t s : Stretch) → end_of t ≤ s.begin → IsAddedInOne t old → IsAddedInOne s item
    → standing old ≢ standing item
added_later old item t s before h n same =
    let old_end : old.end ≡ (t.begin + 4 * h.heard.end) / 4 = ap (λ c. c.end) h.item_is in
    let new_end : item.end ≡ (s.begin + 4 * n.heard.end) / 4 = ap (λ c. c.end) n.item_is in
    let old_lane : old.offset ≡ h.heard.offset = ap (λ c. c.offset) h.item_is in
    let new_lane : item.offset ≡ n.heard.offset = ap (λ c. c.offset) n.item_is in
    let end = h.added.ends.end_of in
    let most = h.added.ends.most in
    let inside = h.added.decided in
    let later = n.added.ends.end_of in
    let most_later = n.added.ends.most in
    let delay = delay_small n.heard.offset in
    omega arith

-- ---- all that is new

pub contains_added : (begin : ℕ) (heard : List Candidate) (item : Candidate) → Contains heard item
    → Contains (map (moved_added begin) heard) (moved_added begin item)
contains_added begin heard item c =
    let n = length-map heard (moved_added begin) in
    let l = c.1 in (
      c.0,
      (let k : c.0 < length (map (moved_added begin) heard) = omega arith in k),
      get_or-map (moved_added begin) heard c.0 item (moved_added begin item) c.1 ∙ ap (moved_added begin) c.2,
    )

module _ (s : Stretch) (xs : List ℤ) (heard : List Candidate)
    (are : AreAddedAmong (places_in (length s.samples)) (places_in (length (s.samples ++ xs))) 32 59
    (s.samples ++ xs) heard) where
  abbrev pub added : List Candidate
  added = map (moved_added s.begin) heard

  pub added_each : All (λ item. IsAddedWith item s xs) added
  added_each = All-map (λ item. IsAddedWith item s xs) (moved_added s.begin) heard
      (λ k d l. let e = are.each k d l in
      record { heard = get_or heard k d; place = e.0; among = e.1; ends = e.2; item_is = refl })

  pub added_whole : (item : Candidate) → IsAddedWith item s xs → Contains added item
  added_whole item n =
      subst (Contains added) (sym n.item_is)
      (contains_added s.begin heard n.heard (are.whole n.heard n.place n.among n.ends))

  pub added_pairs : AllPairs (λ item later. standing item ≢ standing later) added
  added_pairs i j d ij jl same =
      let n = length-map heard (moved_added s.begin) in
      let first : get_or added i d ≡ moved_added s.begin (get_or heard i d)
      = get_or-map (moved_added s.begin) heard i d d (omega arith) in
      let second : get_or added j d ≡ moved_added s.begin (get_or heard j d)
      = get_or-map (moved_added s.begin) heard j d d (omega arith) in
      let one = are.each i d (omega arith) in
      let other = are.each j d (omega arith) in
      let most = one.2.most in
      let most_later = other.2.most in
      let alike : standing (moved_added s.begin (get_or heard i d)) ≡ standing (moved_added s.begin (get_or heard j d))
      = sym (ap standing first) ∙ same ∙ ap standing second in
      are.apart i j d ij (omega arith) (omega arith)
