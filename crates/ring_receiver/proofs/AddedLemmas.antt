-- What added lanes hear in a stretch that grows, and turn by turn.
use Rattle.ring_receiver.proofs.Common.{◌≡◌, ◌≢◌, ℕ, ◌+◌, ◌-◌, ◌<◌, ◌≤◌, ◌⊎◌, ⊎_elim, inl, inr, ℤ, List, [], ◌++◌}
use Rattle.ring_receiver.proofs.Common.{length, map, get_or, refl, ap, sym, subst, ◌∙◌, arith, All, Contains}
use Rattle.ring_receiver.proofs.Common.{cases_lt, length-append, length-map, All-map, Got, Candidate, standing, Leads}
use Rattle.ring_receiver.proofs.Common.{Stretch, stretch_at, end_of, position_of, answers_of}
use Rattle.ring_receiver.proofs.Common.{leads_position, leads_up, IsAddedIn, IsAddedInOne, moved, AreAddedSince, AddedRing}
use Rattle.ring_receiver.proofs.Common.{AddedListens, HoldStretch, MadeAddedTurn, CanBePutFrom, Turn}
use Rattle.ring_receiver.proofs.Common.{AreAllIn, AreApart, AreMore, IsIn, with_samples, HaveHeard, map-append, answer}
use Rattle.ring_receiver.proofs.Common.{reads_of, leads_join}
use Rattle.std.proofs.lemmas.List.{get_or-map}
use Rattle.sample_ring.specs.Ends.{IsNew}
use Rattle.sensitive_receiver.specs.Lanes.{added_places}
use Rattle.sensitive_receiver.specs.AddedCandidates.{EndsAtPlace}
use Rattle.sensitive_receiver.specs.Found.{AreAddedBetween}
use Rattle.sensitive_receiver.proofs.FoundLemmas.{one_place, delay_small}
use Rattle.sensitive_receiver.proofs.PrefixLanes.{ends-append, ends-take}
use Rattle.stretch_reader.proofs.EachHeardLemmas.{all_more, gave_all, more_of, none_in}

-- ---- one item in one stretch

-- the item is new of the stretch with more samples
record IsNewWith (s : Stretch) (xs : List ℤ) (item : Candidate) : Type 0 where
  heard : Candidate
  place : ℕ
  from_place : added_places (length s.samples) ≤ place
  to_place : place < added_places (length (s.samples ++ xs))
  ends : EndsAtPlace (s.samples ++ xs) heard place
  item_is : item ≡ moved s.begin heard

grow : (s : Stretch) (xs : List ℤ) (item : Candidate) → IsAddedInOne s item → IsAddedInOne (with_samples s xs) item
grow s xs item h =
    let n = length-append s.samples xs in
    let inside = h.added.decided in
    record {
      heard = h.heard;
      added = record {
        place = h.added.place;
        decided = omega arith;
        ends = ends-append s.samples xs h.heard h.added.place h.added.decided h.added.ends;
      };
      item_is = h.item_is;
    }

shrink : (s : Stretch) (xs : List ℤ) (item : Candidate) → IsAddedInOne (with_samples s xs) item
    → IsAddedInOne s item ⊎ IsNewWith s xs item
shrink s xs item h = elim (cases_lt h.added.place (added_places (length s.samples))) [
  | inl lt ↦ inl (record {
    heard = h.heard;
    added = record {
      place = h.added.place;
      decided = lt;
      ends = ends-take s.samples xs h.heard h.added.place lt h.added.ends;
    };
    item_is = h.item_is;
  })
  | inr ge ↦ inr (record {
    heard = h.heard;
    place = h.added.place;
    from_place = ge;
    to_place = h.added.decided;
    ends = h.added.ends;
    item_is = h.item_is;
  })
]

now_with : (s : Stretch) (xs : List ℤ) (item : Candidate) → IsNewWith s xs item → IsAddedInOne (with_samples s xs) item
now_with s xs item n = record {
  heard = n.heard;
  added = record { place = n.place; decided = n.to_place; ends = n.ends };
  item_is = n.item_is;
}

-- an empty stretch has no place
pub none_yet : (begin : ℕ) → AreAllIn IsAddedInOne (stretch_at begin) []
none_yet begin = none_in IsAddedInOne (stretch_at begin) (λ item h. let inside = h.added.decided in omega arith)

-- what is heard in one stretch, and what is new of it, do not stand alike
apart_here : (s : Stretch) (xs : List ℤ) (old item : Candidate) → IsAddedInOne s old → IsNewWith s xs item
    → standing old ≢ standing item
apart_here s xs old item h n same =
    let old_end : old.end ≡ s.begin + h.heard.end = ap (λ c. c.end) h.item_is in
    let old_lane : old.offset ≡ h.heard.offset = ap (λ c. c.offset) h.item_is in
    let new_end : item.end ≡ s.begin + n.heard.end = ap (λ c. c.end) n.item_is in
    let new_lane : item.offset ≡ n.heard.offset = ap (λ c. c.offset) n.item_is in
    let alike : standing h.heard ≡ standing n.heard = omega arith in
    let one = one_place (s.samples ++ xs) h.heard n.heard h.added.place n.place
    (ends-append s.samples xs h.heard h.added.place h.added.decided h.added.ends) n.ends alike in
    let p = one.0 in
    let inside = h.added.decided in
    let from = n.from_place in
    omega arith

-- nor do what is heard in a stretch and in one after it
apart_later : (t s : Stretch) (old item : Candidate) → end_of t ≤ s.begin → IsAddedInOne t old → IsAddedInOne s item
    → standing old ≢ standing item
apart_later t s old item before h n same =
    let old_end : old.end ≡ t.begin + h.heard.end = ap (λ c. c.end) h.item_is in
    let new_end : item.end ≡ s.begin + n.heard.end = ap (λ c. c.end) n.item_is in
    let old_lane : old.offset ≡ h.heard.offset = ap (λ c. c.offset) h.item_is in
    let new_lane : item.offset ≡ n.heard.offset = ap (λ c. c.offset) n.item_is in
    let end = h.added.ends.end_of in
    let most = h.added.ends.most in
    let inside = h.added.decided in
    let later = n.added.ends.end_of in
    let most_later = n.added.ends.most in
    let delay = delay_small n.heard.offset n.added.ends.most in
    omega arith

-- ---- all that is new

contains_moved : (begin : ℕ) (heard : List Candidate) (item : Candidate) → Contains heard item
    → Contains (map (moved begin) heard) (moved begin item)
contains_moved begin heard item c =
    let n = length-map heard (moved begin) in
    let l = c.1 in (
      c.0,
      (let k : c.0 < length (map (moved begin) heard) = omega arith in k),
      get_or-map (moved begin) heard c.0 item (moved begin item) c.1 ∙ ap (moved begin) c.2,
    )

module _ (s : Stretch) (xs : List ℤ) (own heard : List Candidate)
    (are : AreAddedBetween (added_places (length s.samples)) (added_places (length (s.samples ++ xs))) (s.samples ++ xs)
    heard) where
  abbrev new : List Candidate
  new = map (moved s.begin) heard

  each : All (IsNewWith s xs) new
  each = All-map (IsNewWith s xs) (moved s.begin) heard
      (λ k d l. let e = are.each k d l in
      record {
        heard = get_or heard k d;
        place = e.0;
        from_place = e.1.0;
        to_place = e.1.1;
        ends = e.2;
        item_is = refl;
      })

  whole : (item : Candidate) → IsNewWith s xs item → Contains new item
  whole item n =
      subst (Contains new) (sym n.item_is)
      (contains_moved s.begin heard n.heard (are.whole n.heard n.place (n.from_place, n.to_place) n.ends))

  pairs : AreApart new
  pairs i j d ij jl same =
      let n = length-map heard (moved s.begin) in
      let first = get_or-map (moved s.begin) heard i d d (omega arith) in
      let second = get_or-map (moved s.begin) heard j d d (omega arith) in
      let alike : standing (moved s.begin (get_or heard i d)) ≡ standing (moved s.begin (get_or heard j d))
      = sym (ap standing first) ∙ same ∙ ap standing second in
      are.apart i j d ij (omega arith) (omega arith)

  -- all that is heard of the stretch with more samples
  pub heard_more : AreAllIn IsAddedInOne s own → AreAllIn IsAddedInOne (with_samples s xs) (own ++ new)
  heard_more h =
      all_more IsAddedInOne s (with_samples s xs) (IsNewWith s xs) (grow s xs) (now_with s xs) (shrink s xs)
      (apart_here s xs) own new h each whole pairs

-- ---- all that is heard since

pub none_listened : (len : ℕ) (added : AddedRing) → IsNew added.reader → HoldStretch added.lanes (stretch_at 0) []
    → AddedListens len added
none_listened len added new hold =
    let none : answers_of len added.reader ≡ [] = ap (map (answer len)) new.nothing_read in
    record {
      lead = subst (λ a. Leads 0 a (position_of added.reader)) (sym none) (sym new.at_start);
      given = [];
      heard = subst (λ a. HaveHeard (AreAllIn IsAddedInOne) (HoldStretch added.lanes) a []) (sym none)
          (record { earlier = []; own = []; ended = refl; holds = hold; given_is = refl });
    }

is_added : (a : List Got) (item : Candidate) → IsIn IsAddedInOne a item → IsAddedIn a item
is_added a item h = record {
  stretch = h.stretch;
  is = h.is;
  heard = h.heard.heard;
  added = h.heard.added;
  item_is = h.heard.item_is;
}

added_is : (a : List Got) (item : Candidate) → IsAddedIn a item → IsIn IsAddedInOne a item
added_is a item h = record {
  stretch = h.stretch;
  is = h.is;
  heard = record { heard = h.heard; added = h.added; item_is = h.item_is };
}

-- the added lanes have read more
module _ (len : ℕ) (added added' : AddedRing) (turn : Turn) (made : MadeAddedTurn len added added' turn) where
  abbrev b : List Got
  b = answers_of len added.reader

  abbrev n : List Got
  n = answers_of len added'.reader

  pub answers_more : n ≡ b ++ made.answers
  answers_more =
      ap (map (answer len)) made.on.read ∙ map-append (answer len) (reads_of added.reader) made.on.entries
      ∙ ap (λ t. b ++ t) (sym made.on.are)

  pub goes_forward : position_of added.reader ≤ position_of added'.reader
  goes_forward = leads_up (position_of added.reader) made.answers (position_of added'.reader) made.on.forward

  module _ (h : AddedListens len added) where
    pub listens_more : AddedListens len added'
    listens_more = record {
      lead = subst (λ a. Leads 0 a (position_of added'.reader)) (sym answers_more)
          (leads_join 0 b made.answers (position_of added.reader) (position_of added'.reader) h.lead made.on.forward);
      given = h.given ++ turn.items.items;
      heard = made.on.heard h.given h.heard;
    }

    more : AreMore IsAddedInOne b n turn.items.items
    more = more_of IsAddedInOne apart_later b n (position_of added'.reader) h.given turn.items.items listens_more.lead
        (gave_all IsAddedInOne (HoldStretch added.lanes) (λ s own k. k.are) b h.given h.heard)
        (gave_all IsAddedInOne (HoldStretch added'.lanes) (λ s own k. k.are) n (h.given ++ turn.items.items)
        (made.on.heard h.given h.heard))

    pub since : All (CanBePutFrom (position_of added.reader - 32)) turn.items.items
        → AreAddedSince b n turn.items.items
    since come =
        let first = leads_position b (position_of added.reader) h.lead in
        let last = leads_position n (position_of added'.reader) listens_more.lead in
        let up = goes_forward in
        record {
          each = λ k d l. is_added n (get_or turn.items.items k d) (more.each k d l);
          still = λ item old. is_added n item (more.still item (added_is b item old));
          whole = λ item is.
              ⊎_elim (λ (was : IsIn IsAddedInOne b item). inl (is_added b item was))
              (λ (new : Contains turn.items.items item). inr new) (more.whole item (added_is n item is));
          late = λ k d l. let c = (come k d l).from.end in omega (arith, c, first);
          lanes = λ k d l. ((come k d l).from.lane, (come k d l).can.lane);
          apart = more.apart;
          other = λ k d l old was. more.other k d l old (added_is b old was);
          forward = omega arith;
        }
