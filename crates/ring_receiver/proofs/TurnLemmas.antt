-- One turn of nine readers: that of the first eight and that of the last.
use Rattle.ring_receiver.proofs.Common.{◌≡◌, ℕ, ◌+◌, ◌-◌, ◌<◌, Bool, true, false, ◌&&◌, ◌↔◌, List, [], ◌∷◌, ◌++◌}
use Rattle.ring_receiver.proofs.Common.{length, get_or, take, map, refl, ap, sym, subst, ◌∙◌, arith, append_assoc, inl}
use Rattle.ring_receiver.proofs.Common.{inr, fold, min, All, cases_lt, append-nil, length_push, map-append}
use Rattle.ring_receiver.proofs.Common.{get_or_append_left, All-push, fold-append, get_or-append_seam, Got, Entry}
use Rattle.ring_receiver.proofs.Common.{Track, Candidate, LaneGap, lane_of, least_position, gaps_of, AreGrown, IsTurn}
use Rattle.ring_receiver.proofs.Common.{BringsOnRing, position_after, AreAddedSince, BringsByAll, AreGrownBy, IsTurnOf}
use Rattle.std.specs.Prelude.{◌^◌}
use Rattle.std.proofs.lemmas.Bool.{false≢true}
use Rattle.std.proofs.Math.Seq.{take-append_seam}
use Rattle.slicer_bank.specs.RingTurns.{IsReading, MeetsEnd, gaps_from}

-- ---- lists of nine

at_first : {X : Type 0} (xs : List X) (x d : X) (k : ℕ) → k < length xs → get_or (xs ++ x ∷ []) k d ≡ get_or xs k d
at_first xs x d k l = get_or_append_left xs (x ∷ []) d k l

at_last : {X : Type 0} (xs : List X) (x d : X) (n : ℕ) → length xs ≡ n → get_or (xs ++ x ∷ []) n d ≡ x
at_last xs x d n e = ap (λ i. get_or (xs ++ x ∷ []) i d) (sym e) ∙ get_or-append_seam xs x [] d

pub first_eight : {X : Type 0} (xs : List X) (x : X) → length xs ≡ 8 → take 8 (xs ++ x ∷ []) ≡ xs
first_eight xs x e = ap (λ n. take n (xs ++ x ∷ [])) (sym e) ∙ take-append_seam xs (x ∷ [])

each_of_nine : (P : ℕ → Type 0) → ((k : ℕ) → k < 8 → P k) → P 8 → (k : ℕ) → k < 9 → P k
each_of_nine P first last k l = elim (cases_lt k 8) [
  | inl lt ↦ first k lt
  | inr ge ↦ subst P (let e : 8 ≡ k = omega arith in e) last
]

-- ---- the records

pub grown_nine : (before now : List Track) (a b : Track) (entries : List Entry) → length before ≡ 8 → length now ≡ 8
    → AreGrown before now → b.reads ≡ a.reads ++ entries → AreGrownBy 9 (before ++ a ∷ []) (now ++ b ∷ [])
grown_nine before now a b entries many_before many_now h more k d l =
    each_of_nine (λ i. (reads : List Entry)
    × ((get_or (now ++ b ∷ []) i d).reads ≡ (get_or (before ++ a ∷ []) i d).reads ++ reads))
    (λ i lt.
    let g = h i d lt in (
      g.0,
      ap (λ (t : Track). t.reads) (at_first now b d i (omega arith)) ∙ g.1
          ∙ ap (λ (t : Track). t.reads ++ g.0) (sym (at_first before a d i (omega arith))),
    )) (
      entries,
      ap (λ (t : Track). t.reads) (at_last now b d 8 many_now) ∙ more
          ∙ ap (λ (t : Track). t.reads ++ entries) (sym (at_last before a d 8 many_before)),
    )
    k l

-- ---- what the readers are answered

gaps_from-push : (first : ℕ) (lanes : List (List Got)) (answers : List Got) (n : ℕ) → first + length lanes ≡ n
    → gaps_from first (lanes ++ answers ∷ []) ≡ gaps_from first lanes ++ gaps_of n answers
gaps_from-push first [] answers n e =
    append-nil (gaps_of first answers) ∙ ap (λ i. gaps_of i answers) (let z : first ≡ n = omega arith in z)
gaps_from-push first (lane ∷ lanes) answers n e =
    ap (λ g. gaps_of first lane ++ g) (gaps_from-push (first + 1) lanes answers n (omega arith))
    ∙ sym (append_assoc (gaps_of first lane) (gaps_from (first + 1) lanes) (gaps_of n answers))

left : (a b : Bool) → (a && b) ≡ true → a ≡ true
left true b e = refl
left false b e = absurd (false≢true e)

right : (a b : Bool) → (a && b) ≡ true → b ≡ true
right true b e = e
right false b e = absurd (false≢true e)

all_met : (first last : Bool) (reads : List (List Got)) (read : List Got) → (first ≡ true) ↔ All MeetsEnd reads
    → (last ≡ true) ↔ MeetsEnd read → ((first && last) ≡ true) ↔ All MeetsEnd (reads ++ read ∷ [])
all_met first last reads read all one = (
  λ e. All-push MeetsEnd reads read (all.0 (left first last e)) (one.0 (right first last e)),
  λ h.
      let n = length_push reads read in
      ap (λ b. b && last) (all.1 (λ k d l. subst MeetsEnd (at_first reads read d k l) (h k d (omega arith))))
      ∙ one.1 (subst MeetsEnd (at_last reads read read (length reads) refl) (h (length reads) read (omega arith))),
)

pub turn_nine : (before now : List (List Got)) (a b read : List Got) (gaps told : List LaneGap) (first last : Bool)
    → IsTurn before now gaps first → b ≡ a ++ read → IsReading read → told ≡ gaps_of 8 read
    → (last ≡ true) ↔ MeetsEnd read
    → IsTurnOf 9 (before ++ a ∷ []) (now ++ b ∷ []) (gaps ++ told) (first && last)
turn_nine before now a b read gaps told first last h more reading is met =
    let many_before = h.longer.eight_before in
    let many_reads = h.longer.eight_reads in
    let many_now = h.longer.eight_now in
    let one = length_push before a in
    let two = length_push h.reads read in
    let three = length_push now b in
    record {
      reads = h.reads ++ read ∷ [];
      longer = record {
        count_before = omega arith;
        count_reads = omega arith;
        count_now = omega arith;
        each = each_of_nine
            (λ k. lane_of (now ++ b ∷ []) k ≡ lane_of (before ++ a ∷ []) k ++ lane_of (h.reads ++ read ∷ []) k)
            (λ k l. at_first now b [] k (omega arith) ∙ h.longer.each k l
            ∙ ap (λ xs. xs ++ lane_of h.reads k) (sym (at_first before a [] k (omega arith)))
            ∙ ap (λ xs. lane_of (before ++ a ∷ []) k ++ xs) (sym (at_first h.reads read [] k (omega arith))))
            (at_last now b [] 8 many_now ∙ more
            ∙ ap (λ xs. xs ++ read) (sym (at_last before a [] 8 many_before))
            ∙ ap (λ xs. lane_of (before ++ a ∷ []) 8 ++ xs) (sym (at_last h.reads read [] 8 many_reads)));
      };
      readings = All-push IsReading h.reads read h.readings reading;
      told = ap (λ g. g ++ told) h.told ∙ ap (λ t. gaps_from 0 h.reads ++ t) is
          ∙ sym (gaps_from-push 0 h.reads read 8 (omega arith));
      over = all_met first last h.reads read h.over met;
    }

-- the turn of eight readers is one of so many
pub turn_eight : (before now : List (List Got)) (gaps : List LaneGap) (ended : Bool) → IsTurn before now gaps ended
    → IsTurnOf 8 before now gaps ended
turn_eight before now gaps ended h = record {
  reads = h.reads;
  longer = record {
    count_before = h.longer.eight_before;
    count_reads = h.longer.eight_reads;
    count_now = h.longer.eight_now;
    each = h.longer.each;
  };
  readings = h.readings;
  told = h.told;
  over = h.over;
}

-- ---- what they bring

pub brings_nine : (before now : List (List Got)) (a b : List Got) (positions : List ℕ) (position : ℕ)
    (eight added : List Candidate) → length before ≡ 8 → length now ≡ 8 → BringsOnRing before now positions eight
    → AreAddedSince a b added → position ≡ position_after b
    → BringsByAll (before ++ a ∷ []) (now ++ b ∷ []) positions position eight added
brings_nine before now a b positions position eight added many_before many_now h since stand = record {
  first = subst (λ t. BringsOnRing t (take 8 (now ++ b ∷ [])) positions eight) (sym (first_eight before a many_before))
      (subst (λ t. BringsOnRing before t positions eight) (sym (first_eight now b many_now)) h);
  others = subst (λ t. AreAddedSince t (lane_of (now ++ b ∷ []) 8) added) (sym (at_last before a [] 8 many_before))
      (subst (λ t. AreAddedSince a t added) (sym (at_last now b [] 8 many_now)) since);
  stand = stand ∙ ap position_after (sym (at_last now b [] 8 many_now));
}

pub least_nine : (lanes : List (List Got)) (answers : List Got)
    → least_position (lanes ++ answers ∷ []) ≡ min (least_position lanes) (position_after answers)
least_nine lanes answers =
    ap (fold min (2 ^ 64 - 1)) (map-append position_after lanes (answers ∷ []))
    ∙ fold-append min (2 ^ 64 - 1) (map position_after lanes) (position_after answers ∷ [])
