-- A bank with one sample more, and with a block more.
use Rattle.hf_sensitive.proofs.Common.{◌≡◌, ℕ, zero, suc, ◌+◌, ◌-◌, ◌*◌, ◌/◌, ◌%◌, ◌<◌, ◌≤◌, Bool, ℤ, pos, List, [], ◌++◌}
use Rattle.hf_sensitive.proofs.Common.{length, get_or, ap, sym, subst, ◌∙◌, arith, refl, length-append, Tone, Candidate}
use Rattle.hf_sensitive.proofs.Common.{Pull, Slow, Fast, clock_after, reads, heard, places_in, tone_before, HeldTones}
use Rattle.hf_sensitive.proofs.Common.{TonesHaveTaken, HeldBank, HeldLane, HasTaken, HaveRead, StandsFor, IsLastPlace}
use Rattle.hf_sensitive.proofs.Common.{LaneStandsFor, bank_of, rhythm_of, first_lane, is_read_in, is_read_at, lane_tones}
use Rattle.hf_sensitive.proofs.Common.{tones, AddsAmong, ◌==◌}
use Rattle.std.proofs.Common.{get_or-append-add}
use Rattle.tone_tracking.specs.Clock.{Clock}
use Rattle.tone_tracking.proofs.TrackerLemmas.{tone_before-last}
use Rattle.hf_sensitive.proofs.FoundLemmas.{adds_at_no_place, adds_lanes, adds_places}
use Rattle.hf_sensitive.proofs.LaneLemmas.{tones_of_none}
use Rattle.hf_sensitive.proofs.PrefixLanes.{bank_taken-append}

abbrev pub bank_with : HeldTones → Pull × Clock → Pull × Clock → HeldLane → HeldLane → HeldLane → HeldBank
bank_with tones slow_clock fast_clock fixed slow fast = record {
  tones = tones;
  slow_clock = slow_clock;
  fast_clock = fast_clock;
  fixed = fixed;
  slow = slow;
  fast = fast;
}

-- ---- the lanes of a bank

pub bank_is : (bank rhythm : ℕ) → rhythm < 3 → bank_of (first_lane bank + rhythm) ≡ bank
bank_is bank rhythm small = omega arith

pub rhythm_is : (bank rhythm : ℕ) → rhythm < 3 → rhythm_of (first_lane bank + rhythm) ≡ rhythm
rhythm_is bank rhythm small = omega arith

-- when a lane of a bank reads
pub read_is : (bank rhythm : ℕ) (x : List ℤ) (place : ℕ) → rhythm < 3
    → is_read_in rhythm (heard bank x) place ≡ is_read_at x (first_lane bank + rhythm) place
unfolding is_read_at
read_is bank rhythm x place small =
    let a = bank_is bank rhythm small in
    let b = rhythm_is bank rhythm small in
    λ i. is_read_in (sym b i) (heard (sym a i) x) place

-- the tone at the place that was decided last
pub last_tone_is : (bank : ℕ) (x : List ℤ) (count place : ℕ) (tone : Tone)
    → tone ≡ tone_before (heard bank x) count 0 → count ≡ place + 1 → tone ≡ heard bank x place
last_tone_is bank x count place tone is last =
    is ∙ ap (λ n. tone_before (heard bank x) n 0) last ∙ tone_before-last (heard bank x) place

-- a clock one place on, its pull being known
pub stepped : (pull : Pull) (tones : ℕ → Tone) (place : ℕ) (old new : Pull × Clock) (tone : Tone) → old.0 ≡ pull
    → old.1 ≡ clock_after pull tones place → tone ≡ tones place
    → ((t : ℕ → Tone) (k : ℕ) → old.1 ≡ clock_after old.0 t k → tone ≡ t k → new.1 ≡ clock_after old.0 t (k + 1))
    → new.1 ≡ clock_after pull tones (place + 1)
stepped pull tones place old new tone pull_is is tone_is step =
    step tones place (is ∙ ap (λ w. clock_after w tones place) (sym pull_is)) tone_is
    ∙ ap (λ w. clock_after w tones (place + 1)) pull_is

-- what a clock says of a place
pub clock_reads : (pull : Pull) (tones : ℕ → Tone) (place : ℕ) (old : Pull × Clock) (told : Bool)
    → old.1 ≡ clock_after pull tones place → told ≡ reads old.1 → told ≡ reads (clock_after pull tones place)
clock_reads pull tones place old told is said = said ∙ ap reads is

-- no place is decided
pub taken_few : (was now : HeldTones) (slow_clock fast_clock : Pull × Clock) (fixed slow fast : HeldLane) (x : List ℤ)
    → now.bank ≡ was.bank → places_in now.count ≡ places_in was.count → TonesHaveTaken now x
    → HasTaken (bank_with was slow_clock fast_clock fixed slow fast) x
    → HasTaken (bank_with now slow_clock fast_clock fixed slow fast) x
taken_few was now slow_clock fast_clock fixed slow fast x same_bank same taken h =
    let n = sym same in
    let b = sym same_bank in
    record {
      tones = taken;
      read = record {
        slow_clock = h.read.slow_clock ∙ (λ i. clock_after Slow (heard (b i) x) (n i));
        fast_clock = h.read.fast_clock ∙ (λ i. clock_after Fast (heard (b i) x) (n i));
        fixed = subst (LaneStandsFor fixed) (λ i. lane_tones x (first_lane (b i)) (n i)) h.read.fixed;
        slow = subst (LaneStandsFor slow) (λ i. lane_tones x (first_lane (b i) + 1) (n i)) h.read.slow;
        fast = subst (LaneStandsFor fast) (λ i. lane_tones x (first_lane (b i) + 2) (n i)) h.read.fast;
      };
    }

pub adds_few : (from to low high : ℕ) (x : List ℤ) (found : List Candidate) → to ≡ from
    → AddsAmong from to low high x found found
adds_few from to low high x found same = subst (λ n. AddsAmong from n low high x found found) (sym same)
    (adds_at_no_place from low high x found)

-- ---- a block

-- what was found so far at the places of a block, with the samples of which more are known than are taken
pub record HasFed (initial now : HeldBank) (block : List ℤ) (before items : List Candidate) (n : ℕ) : Type 0 where
  pub count : now.tones.count ≡ initial.tones.count + n
  pub bank : now.tones.bank ≡ initial.tones.bank
  pub taken : (x : List ℤ) → HasTaken initial x → initial.tones.count + length block ≤ length x
      → ((i : ℕ) → i < length block → get_or block i (pos 0) ≡ get_or x (initial.tones.count + i) (pos 0))
      → HasTaken now x
  pub found : (x : List ℤ) → HasTaken initial x → initial.tones.count + length block ≤ length x
      → ((i : ℕ) → i < length block → get_or block i (pos 0) ≡ get_or x (initial.tones.count + i) (pos 0))
      → AddsAmong (places_in initial.tones.count) (places_in now.tones.count) (first_lane initial.tones.bank)
      (first_lane initial.tones.bank + 3) x before items

pub fed_none : (initial : HeldBank) (block : List ℤ) (before : List Candidate) → HasFed initial initial block before before 0
fed_none initial block before = record {
  count = omega arith;
  bank = refl;
  taken = λ x h room same. h;
  found = λ x h room same. adds_at_no_place (places_in initial.tones.count) (first_lane initial.tones.bank)
      (first_lane initial.tones.bank + 3) x before;
}

pub fed_more : (initial was now : HeldBank) (block : List ℤ) (before found after : List Candidate) (n : ℕ) (sample : ℤ)
    → HasFed initial was block before found n → n < length block
    → sample ≡ get_or block n (pos 0) → now.tones.count ≡ was.tones.count + 1 → now.tones.bank ≡ was.tones.bank
    → ((x : List ℤ) → HasTaken was x → was.tones.count < length x → sample ≡ get_or x was.tones.count (pos 0)
    → HasTaken now x)
    → ((x : List ℤ) → HasTaken was x → was.tones.count < length x → sample ≡ get_or x was.tones.count (pos 0)
    → AddsAmong (places_in was.tones.count) (places_in (was.tones.count + 1)) (first_lane was.tones.bank)
    (first_lane was.tones.bank + 3) x found after)
    → HasFed initial now block before after (n + 1)
fed_more initial was now block before found after n sample h inside is more same_bank take add =
    let count = h.count in
    record {
      count = omega arith;
      bank = same_bank ∙ h.bank;
      taken = λ x t room same. take x (h.taken x t room same) (omega arith)
          (is ∙ same n inside ∙ ap (λ k. get_or x k (pos 0)) (sym count));
      found = λ x t room same.
          let added = add x (h.taken x t room same) (omega arith)
          (is ∙ same n inside ∙ ap (λ k. get_or x k (pos 0)) (sym count)) in
          let here = subst (λ b. AddsAmong (places_in was.tones.count) (places_in (was.tones.count + 1)) (first_lane b)
          (first_lane b + 3) x found after) h.bank added in
          subst (λ m. AddsAmong (places_in initial.tones.count) (places_in m) (first_lane initial.tones.bank)
          (first_lane initial.tones.bank + 3) x before after) (sym more)
          (adds_places (places_in initial.tones.count) (places_in was.tones.count) (places_in (was.tones.count + 1))
          (first_lane initial.tones.bank) (first_lane initial.tones.bank + 3) x before found after (omega arith)
          (omega arith) (h.found x t room same) here);
    }

-- the whole block
module _ (initial now : HeldBank) (block : List ℤ) (before items : List Candidate) (n : ℕ)
    (fed : HasFed initial now block before items n) (whole : n ≡ length block) (x : List ℤ) (h : StandsFor initial x) where
  abbrev y : List ℤ
  y = x ++ block

  size : length y ≡ length x + length block
  size = length-append x block

  start : HasTaken initial y
  start = bank_taken-append x block initial h.taken

  same : (i : ℕ) → i < length block → get_or block i (pos 0) ≡ get_or y (initial.tones.count + i) (pos 0)
  same i small = sym (ap (λ k. get_or y (k + i) (pos 0)) h.position ∙ get_or-append-add x block i (pos 0))

  room : initial.tones.count + length block ≤ length y
  room = let s = size in let p = h.position in omega arith

  end : now.tones.count ≡ length y
  end = let s = size in let p = h.position in let c = fed.count in omega arith

  pub stands_all : StandsFor now y
  stands_all = record { position = end; taken = fed.taken y start room same }

  pub found_all : AddsAmong (places_in (length x)) (places_in (length y)) (first_lane initial.tones.bank)
      (first_lane initial.tones.bank + 3) y before items
  found_all =
      let a = h.position in
      let b = end in
      subst (λ m. AddsAmong (places_in (length x)) (places_in m) (first_lane initial.tones.bank)
      (first_lane initial.tones.bank + 3) y before items) b
      (subst (λ m. AddsAmong (places_in m) (places_in now.tones.count) (first_lane initial.tones.bank)
      (first_lane initial.tones.bank + 3) y before items) a (fed.found y start room same))

-- ---- a new bank

pub stands_first : (tones : HeldTones) (slow_clock fast_clock : Pull × Clock) (fixed slow fast : HeldLane)
    → tones.count ≡ 0 → TonesHaveTaken tones []
    → ((t : ℕ → Tone) → slow_clock.1 ≡ clock_after Slow t 0) → ((t : ℕ → Tone) → fast_clock.1 ≡ clock_after Fast t 0)
    → LaneStandsFor fixed [] → LaneStandsFor slow [] → LaneStandsFor fast []
    → StandsFor (bank_with tones slow_clock fast_clock fixed slow fast) []
stands_first tones slow_clock fast_clock fixed slow fast none taken slow_is fast_is a b d =
    let no_places : 0 ≡ places_in tones.count = omega arith in
    let lane : ℕ → ℕ = λ n. first_lane tones.bank + n in
    let empty : (l : ℕ) → [] ≡ lane_tones [] l (places_in tones.count)
    = λ l. sym (tones_of_none [] l) ∙ ap (lane_tones [] l) no_places in
    record {
      position = none;
      taken = record {
        tones = taken;
        read = record {
          slow_clock = slow_is (heard tones.bank []) ∙ ap (clock_after Slow (heard tones.bank [])) no_places;
          fast_clock = fast_is (heard tones.bank []) ∙ ap (clock_after Fast (heard tones.bank [])) no_places;
          fixed = subst (LaneStandsFor fixed) (empty (first_lane tones.bank)) a;
          slow = subst (LaneStandsFor slow) (empty (first_lane tones.bank + 1)) b;
          fast = subst (LaneStandsFor fast) (empty (first_lane tones.bank + 2)) d;
        };
      };
    }
