-- A lane with one answer more, and after a turn of answers.
use Rattle.slicer_bank.proofs.Common.{◌≡◌, ℕ, ◌+◌, ◌<◌, ◌≤◌, List, [], ◌∷◌, ◌++◌, ⊎_elim, inl, inr, true, false, refl}
use Rattle.slicer_bank.proofs.Common.{ap, sym, ◌∙◌, arith, subst, length, get_or, map, append_assoc, zero, suc, All}
use Rattle.slicer_bank.proofs.Common.{Contains, true≢false, append-nil, length_push, map-append, length-map, All-nil}
use Rattle.slicer_bank.proofs.Common.{All-map, All-append, All-push, Contains-append_left, Contains-append_right}
use Rattle.slicer_bank.proofs.Common.{Contains-append_cases, Got, Item, Gap, Empty, End, GoesForward, position_of}
use Rattle.slicer_bank.proofs.Common.{reads_of, answer, next, Candidate, RingLane, candidate_at, IsHeardIn, EndsWithGot}
use Rattle.slicer_bank.proofs.Common.{AreHeardPast, MadeTurn, answers_of, LaneListens, MeetsEnd, gaps_of, Leads}
use Rattle.slicer_bank.proofs.Common.{stretch_after, last_stretch, end_of, position_after, StretchStandsFor}
use Rattle.sample_ring.specs.declared.view.Entry.{Entry}
use Rattle.slicer_bank.specs.declared.detection.Detection.{Detection}
use Rattle.slicer_bank.specs.Detection.{listens_for_tones}
use Rattle.slicer_bank.specs.StretchLanes.{ListensAs}
use Rattle.slicer_bank.specs.RingJobs.{is_end, is_sample, StaysLane, TookAnswer, ArePlaced, WentOn}
use Rattle.slicer_bank.specs.RingTurns.{reads_on, most_reads}
use Rattle.slicer_bank.proofs.CandidateLemmas.{AllPairs-append}
use Rattle.slicer_bank.proofs.StretchLemmas.{last-more, EndsNow, heard_more, heard_less, heard_new, heard_within}
use Rattle.slicer_bank.proofs.StretchLemmas.{leads_up, leads_more, leads_position, next_is}

pub stays_more : (a b c : RingLane) → StaysLane a b → StaysLane b c → StaysLane a c
stays_more a b c h k = record {
  ring = k.ring ∙ h.ring;
  offset = k.offset ∙ h.offset;
  flags = k.flags ∙ h.flags;
  tones = k.tones ∙ h.tones;
}

-- a lane goes on to listen as it is asked to
listens_on : (detection : Detection) (a b : RingLane) → StaysLane a b → ListensAs detection a.lane
    → ListensAs detection b.lane
listens_on detection a b h asked = record {
  flags = h.flags ∙ asked.flags;
  tones = h.tones ∙ asked.tones ∙ ap (listens_for_tones detection) (sym h.offset);
}

pub gaps_of-append : (lane : ℕ) (a b : List Got) → gaps_of lane (a ++ b) ≡ gaps_of lane a ++ gaps_of lane b
gaps_of-append lane [] b = refl
gaps_of-append lane (Item at x ∷ a) b = gaps_of-append lane a b
gaps_of-append lane (Gap from to ∷ a) b = ap (λ l. record { lane = lane; from = from; to = to } ∷ l)
    (gaps_of-append lane a b)
gaps_of-append lane (Empty at ∷ a) b = gaps_of-append lane a b
gaps_of-append lane (End total ∷ a) b = gaps_of-append lane a b

-- a lane that has not gone on
pub went_on_none : (len : ℕ) (lane : RingLane) → lane.found.items ≡ [] → lane.gaps.items ≡ [] → WentOn len lane lane []
went_on_none len lane none no_gaps =
    let from : ℕ = position_of lane.reader in
    let P : Candidate → Type 0 = λ item. (item.offset ≡ lane.lane.offset) × (from < item.end) × (item.end ≤ from) in
    record {
      entries = [];
      are = refl;
      read = sym (append-nil (reads_of lane.reader));
      forward = refl;
      gaps = no_gaps;
      places = subst (ArePlaced lane.lane.offset from from) (sym none) record {
        each = All-nil P;
        rising = λ i j d ij jl. absurd (omega arith);
      };
      heard = λ detection h. (
        h,
        subst (AreHeardPast lane.lane.offset from (answers_of len lane.reader)) (sym none)
            record {
              each = All-nil (IsHeardIn (answers_of len lane.reader));
              whole = λ item o heard lt. let le = heard_within (answers_of len lane.reader) from item h.lead heard in
                  absurd (omega arith);
            },
      );
    }

module _ (len : ℕ) (before now after : RingLane) (answers : List Got) (got : Got) (on : WentOn len before now answers)
    (so : StaysLane before now) (stays : StaysLane now after) (t : TookAnswer len now after got) where
  a : List Got
  a = answers_of len now.reader

  new : List Candidate
  new = map (candidate_at (next got) now.lane.offset) t.octets

  longer : answers_of len after.reader ≡ a ++ got ∷ []
  unfolding a
  longer = ap (map (answer len)) t.read ∙ map-append (answer len) (reads_of now.reader) (t.entry ∷ [])
      ∙ ap (λ g. a ++ g ∷ []) (sym t.is)

  abbrev IsNext : Candidate → Type 0
  IsNext item = (item.offset ≡ before.lane.offset) × (position_of now.reader < item.end)
      × (item.end ≤ position_of after.reader)

  new_placed : (g : Got) → g ≡ got → All IsNext new
  unfolding new
  new_placed (Item at x) e =
      let f : GoesForward (position_of now.reader) (Item at x) =
      subst (GoesForward (position_of now.reader)) (sym e) t.forward in
      let here = f.0 in
      let n : at + 1 ≡ next got = ap next e in
      let p = t.position in
      All-map IsNext (candidate_at (next got) now.lane.offset) t.octets (λ k d l. (so.offset, omega arith, omega arith))
  new_placed (Gap from to) e = subst (λ o. All IsNext (map (candidate_at (next got) now.lane.offset) o))
      (sym (t.only (ap (λ g. is_sample g) (sym e)))) (All-nil IsNext)
  new_placed (Empty at) e = subst (λ o. All IsNext (map (candidate_at (next got) now.lane.offset) o))
      (sym (t.only (ap (λ g. is_sample g) (sym e)))) (All-nil IsNext)
  new_placed (End total) e = subst (λ o. All IsNext (map (candidate_at (next got) now.lane.offset) o))
      (sym (t.only (ap (λ g. is_sample g) (sym e)))) (All-nil IsNext)

  placed : ArePlaced before.lane.offset (position_of before.reader) (position_of after.reader) after.found.items
  unfolding new
  placed =
      let from : ℕ = position_of before.reader in
      let up : from ≤ position_of now.reader = leads_up from answers (position_of now.reader) on.forward in
      let up' : position_of now.reader ≤ next got = leads_up (position_of now.reader) (got ∷ []) (next got)
      (t.forward, refl) in
      let p = t.position in
      let fresh : All IsNext new = new_placed got refl in
      let P : Candidate → Type 0 = λ item. (item.offset ≡ before.lane.offset) × (from < item.end)
      × (item.end ≤ position_of after.reader) in
      let R : Candidate → Candidate → Type 0 = λ item later. item.end < later.end in
      let few : length new ≡ length t.octets = length-map t.octets (candidate_at (next got) now.lane.offset) in
      let one = t.one in
      subst (ArePlaced before.lane.offset from (position_of after.reader)) (sym t.found)
      record {
        each = All-append P now.found.items new
            (λ k d l. let e = on.places.each k d l in let up_to = e.2 in (e.0, e.1, omega arith))
            (λ k d l. let e = fresh k d l in let past = e.1 in (e.0, omega arith, e.2));
        rising = AllPairs-append R now.found.items new on.places.rising (λ i j d ij jl. absurd (omega arith))
            (λ i j d il jl. let e = on.places.each i d il in let up_to = e.2 in let f = fresh j d jl in let past =
            f.1 in omega arith);
      }

  -- what the lane stands for, and what it heard
  module _ (detection : Detection) (h : LaneListens len detection before.lane.offset before) where
    was : LaneListens len detection before.lane.offset now
    was = (on.heard detection h).0

    at : position_after a ≡ position_of now.reader
    unfolding a
    at = leads_position a (position_of now.reader) was.lead

    ends : next got ≡ end_of (stretch_after (last_stretch a) got)
    ends = next_is (last_stretch a) got (subst (λ p. GoesForward p got) (sym at) t.forward)

    listens : LaneListens len detection before.lane.offset after
    unfolding a
    listens = record {
      place = stays.offset ∙ was.place;
      asked = listens_on detection now after stays was.asked;
      lead = subst (λ l. Leads 0 l (position_of after.reader)) (sym longer)
          (subst (Leads 0 (a ++ got ∷ [])) (sym t.position)
          (leads_more 0 a (position_of now.reader) got was.lead t.forward));
      stands = subst (λ l. StretchStandsFor after.lane (last_stretch l)) (sym longer)
          (subst (StretchStandsFor after.lane) (sym (last-more a got)) (t.stands (last_stretch a) was.stands));
    }

    heard : AreHeardPast before.lane.offset (position_of before.reader) (answers_of len after.reader) after.found.items
    unfolding a new
    heard =
        let old = (on.heard detection h).1 in
        let all : List Got = a ++ got ∷ [] in
        subst (λ l. AreHeardPast before.lane.offset (position_of before.reader) l after.found.items) (sym longer)
        (subst (AreHeardPast before.lane.offset (position_of before.reader) all) (sym t.found)
        record {
          each = All-append (IsHeardIn all) now.found.items new
              (λ k d l. heard_more a got (get_or now.found.items k d) (old.each k d l))
              (All-map (IsHeardIn all) (candidate_at (next got) now.lane.offset) t.octets
              (λ k d l. heard_new a got (candidate_at (next got) now.lane.offset (get_or t.octets k d))
              (t.each (last_stretch a) was.stands k d l, ends)));
          whole = λ item o is lt. ⊎_elim (λ (i : IsHeardIn a item). Contains-append_left now.found.items new item
              (old.whole item o i lt))
              (λ (e : EndsNow (last_stretch a) got item).
              let w : t.octets ≡ item.octets ∷ [] = t.whole (last_stretch a) item.octets was.stands
              (subst (λ k. EndsWithGot k (last_stretch a) got item.octets) (o ∙ sym so.offset) e.0) in
              let same : candidate_at (next got) now.lane.offset item.octets ≡ item
              = ap (λ k. candidate_at k now.lane.offset item.octets) (ends ∙ sym e.1)
              ∙ ap (λ k. candidate_at item.end k item.octets) (so.offset ∙ sym o) in
              let f : List ℕ → Candidate = candidate_at (next got) now.lane.offset in
              Contains-append_right now.found.items new item (subst (λ os. Contains (map f os) item) (sym w)
              (0, (let l : 0 < length (f item.octets ∷ []) = omega arith in l), same)))
              (heard_less a got item is);
        })

  pub went_on_more : WentOn len before after (answers ++ got ∷ [])
  went_on_more = record {
    entries = on.entries ++ t.entry ∷ [];
    are = ap (λ l. l ++ got ∷ []) on.are ∙ ap (λ g. map (answer len) on.entries ++ g ∷ []) t.is
        ∙ sym (map-append (answer len) on.entries (t.entry ∷ []));
    read = t.read ∙ ap (λ l. l ++ t.entry ∷ []) on.read
        ∙ append_assoc (reads_of before.reader) on.entries (t.entry ∷ []);
    forward = subst (Leads (position_of before.reader) (answers ++ got ∷ [])) (sym t.position)
        (leads_more (position_of before.reader) answers (position_of now.reader) got on.forward t.forward);
    gaps = t.gaps ∙ ap (λ g. g ++ gaps_of now.lane.offset (got ∷ [])) on.gaps
        ∙ ap (λ o. gaps_of before.lane.offset answers ++ gaps_of o (got ∷ [])) so.offset
        ∙ sym (gaps_of-append before.lane.offset answers (got ∷ []));
    places = placed;
    heard = λ detection h. (listens detection h, heard detection h);
  }

-- ---- a turn

-- in a turn of reading: so many answers so far, after each of which the lane reads on
pub record ReadsOn (len : ℕ) (before now : RingLane) (count : ℕ) : Type 0 where
  pub stays : StaysLane before now
  pub spent : now.spent ≡ before.spent
  pub answers : List Got
  pub on : WentOn len before now answers
  pub each : All (λ got. reads_on got ≡ true) answers
  pub counted : length answers ≡ count
  pub quiet : 0 < count → now.ended ≡ false

pub reads_none : (len : ℕ) (lane : RingLane) → lane.found.items ≡ [] → lane.gaps.items ≡ [] → ReadsOn len lane lane 0
reads_none len lane none no_gaps = record {
  stays = record { ring = refl; offset = refl; flags = refl; tones = refl };
  spent = refl;
  answers = [];
  on = went_on_none len lane none no_gaps;
  each = All-nil (λ got. reads_on got ≡ true);
  counted = refl;
  quiet = λ l. absurd (omega arith);
}

pub goes_on : (got : Got) → reads_on got ≡ true → is_end got ≡ false
goes_on (Item p x) e = refl
goes_on (Gap from to) e = refl
goes_on (Empty p) e = absurd (true≢false (sym e))
goes_on (End total) e = absurd (true≢false (sym e))

pub reads_more : (len : ℕ) (before now after : RingLane) (count : ℕ) (got : Got) → ReadsOn len before now count
    → StaysLane now after → after.spent ≡ now.spent
    → true ≡ reads_on got → TookAnswer len now after got → ReadsOn len before after (count + 1)
reads_more len before now after count got r stays spent more t = record {
  stays = stays_more before now after r.stays stays;
  spent = spent ∙ r.spent;
  answers = r.answers ++ got ∷ [];
  on = went_on_more len before now after r.answers got r.on r.stays stays t;
  each = All-push (λ g. reads_on g ≡ true) r.answers got r.each (sym more);
  counted = (let c = r.counted in let n = length_push r.answers got in omega arith);
  quiet = λ l. t.ended ∙ goes_on got (sym more);
}

pub meets_none : (answers : List Got) → All (λ got. reads_on got ≡ true) answers → MeetsEnd answers → ⊥
meets_none answers each (total, (k, l, e)) = true≢false (sym (each k (End total) l) ∙ ap reads_on e)

pub meets_last : (answers : List Got) (got : Got) → All (λ g. reads_on g ≡ true) answers
    → MeetsEnd (answers ++ got ∷ [])
    → is_end got ≡ true
meets_last answers got each (total, c) =
    ⊎_elim (λ (b : Contains answers (End total)). absurd (meets_none answers each (total, b)))
    (λ (b : Contains (got ∷ []) (End total)). here b) (Contains-append_cases answers (got ∷ []) (End total) c)
  where
    here : Contains (got ∷ []) (End total) → is_end got ≡ true
    here (zero, l, e) = ap is_end e
    here (suc k, l, e) = absurd (omega arith)

pub last_meets : (answers : List Got) (got : Got) → is_end got ≡ true → MeetsEnd (answers ++ got ∷ [])
last_meets answers (Item at x) e = absurd (true≢false (sym e))
last_meets answers (Gap from to) e = absurd (true≢false (sym e))
last_meets answers (Empty at) e = absurd (true≢false (sym e))
last_meets answers (End total) e = (
  total,
  Contains-append_right answers (End total ∷ []) (End total)
      (0, (let l : 0 < length (End total ∷ []) = omega arith in l), refl),
)

-- the lane has met an answer after which it does not read on
-- with one read more the record has more entries
pub reads_grown : (len : ℕ) (before now after : RingLane) (count : ℕ) → ReadsOn len before now count
    → (entry : Entry) × (reads_of after.reader ≡ reads_of now.reader ++ entry ∷ [])
    → (entries : List Entry) × (reads_of after.reader ≡ reads_of before.reader ++ entries)
reads_grown len before now after count r (entry, more) = (
  r.on.entries ++ entry ∷ [],
  more ∙ ap (λ (t : List Entry). t ++ entry ∷ []) r.on.read
      ∙ append_assoc (reads_of before.reader) r.on.entries (entry ∷ []),
)

pub turn_over : (len : ℕ) (before now after : RingLane) (count : ℕ) (got : Got) → ReadsOn len before now count
    → count < most_reads → StaysLane now after
    → false ≡ reads_on got → TookAnswer len now after got → MadeTurn len before after
turn_over len before now after count got r few stays stop t = record {
  answers = r.answers ++ got ∷ [];
  on = went_on_more len before now after r.answers got r.on r.stays stays t;
  reading = record {
    on = r.answers;
    rest = got ∷ [];
    are = refl;
    each = r.each;
    over = inr (got, refl, sym stop, (let c = r.counted in omega arith));
  };
  met = (λ e. last_meets r.answers got (sym t.ended ∙ e), λ m. t.ended ∙ meets_last r.answers got r.each m);
}

-- or it has read as often as a lane reads
pub turn_full : (len : ℕ) (before now : RingLane) (count : ℕ) → ReadsOn len before now count → count ≡ most_reads
    → MadeTurn len before now
turn_full len before now count r full = record {
  answers = r.answers;
  on = r.on;
  reading = record {
    on = r.answers;
    rest = [];
    are = sym (append-nil r.answers);
    each = r.each;
    over = inl (refl, r.counted ∙ full);
  };
  met = (λ e. absurd (true≢false (sym e ∙ r.quiet (omega arith))), λ m. absurd (meets_none r.answers r.each m));
}

pub grown_more : (len : ℕ) (before now after : RingLane) (count : ℕ) (entry : Entry) → ReadsOn len before now count
    → reads_of after.reader ≡ reads_of now.reader ++ entry ∷ []
    → (entries : List Entry) × (reads_of after.reader ≡ reads_of before.reader ++ entries)
grown_more len before now after count entry r more = (
  r.on.entries ++ entry ∷ [],
  more ∙ ap (λ l. l ++ entry ∷ []) r.on.read
      ∙ append_assoc (reads_of before.reader) r.on.entries (entry ∷ []),
)
