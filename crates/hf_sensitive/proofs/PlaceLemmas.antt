-- A bank that decides a place.
use Rattle.hf_sensitive.proofs.Common.{◌≡◌, ℕ, ◌+◌, ◌*◌, ◌<◌, ◌≤◌, ◌%◌, Bool, ℤ, List, ap, sym, subst, ◌∙◌, arith, ◌==◌}
use Rattle.hf_sensitive.proofs.Common.{Tone, Candidate, Pull, Slow, Fast, clock_after, reads, heard, places_in, tone_before}
use Rattle.hf_sensitive.proofs.Common.{HeldTones, TonesHaveTaken, HeldLane, HasTaken, IsLastPlace, LaneStandsFor}
use Rattle.hf_sensitive.proofs.Common.{first_lane, is_read_at, lane_tones, AddsAmong}
use Rattle.hf_sensitive.proofs.FoundLemmas.{adds_lanes}
use Rattle.hf_sensitive.proofs.BankLemmas.{bank_with, read_is, last_tone_is, stepped, clock_reads}
use Rattle.tone_tracking.specs.Clock.{Clock}

module _ (was now : HeldTones) (slow_clock fast_clock slow_next fast_next : Pull × Clock)
    (fixed slow fast fixed_next slow_lane_next fast_lane_next : HeldLane) (number place : ℕ) (tone : Tone)
    (slow_told fast_told : Bool) (x : List ℤ)
    (same_bank : now.bank ≡ was.bank) (numbered : was.bank ≡ number) (here : places_in was.count ≡ place)
    (next : places_in now.count ≡ place + 1) (taken : TonesHaveTaken now x)
    (h : HasTaken (bank_with was slow_clock fast_clock fixed slow fast) x)
    (tone_is : tone ≡ tone_before (heard now.bank x) (places_in now.count) 0)
    (slow_pull : slow_clock.0 ≡ Slow) (fast_pull : fast_clock.0 ≡ Fast)
    (slow_says : slow_told ≡ reads slow_clock.1) (fast_says : fast_told ≡ reads fast_clock.1)
    (slow_step : (t : ℕ → Tone) (k : ℕ) → slow_clock.1 ≡ clock_after slow_clock.0 t k → tone ≡ t k
    → slow_next.1 ≡ clock_after slow_clock.0 t (k + 1))
    (fast_step : (t : ℕ → Tone) (k : ℕ) → fast_clock.1 ≡ clock_after fast_clock.0 t k → tone ≡ t k
    → fast_next.1 ≡ clock_after fast_clock.0 t (k + 1)) where
  pub last : IsLastPlace now place x
  last = record { taken = taken; last = next }

  -- the lanes of the bank, by its number
  abbrev pub first : ℕ
  first = 32 + 3 * number

  slow_stood : slow_clock.1 ≡ clock_after Slow (heard number x) place
  slow_stood = h.read.slow_clock ∙ (λ i. clock_after Slow (heard (numbered i) x) (here i))

  fast_stood : fast_clock.1 ≡ clock_after Fast (heard number x) place
  fast_stood = h.read.fast_clock ∙ (λ i. clock_after Fast (heard (numbered i) x) (here i))

  pub fixed_stood : LaneStandsFor fixed (lane_tones x first place)
  fixed_stood = subst (LaneStandsFor fixed) (λ i. lane_tones x (first_lane (numbered i)) (here i)) h.read.fixed

  pub slow_lane_stood : LaneStandsFor slow (lane_tones x (first + 1) place)
  slow_lane_stood = subst (LaneStandsFor slow) (λ i. lane_tones x (first_lane (numbered i) + 1) (here i)) h.read.slow

  pub fast_lane_stood : LaneStandsFor fast (lane_tones x (first + 2) place)
  fast_lane_stood = subst (LaneStandsFor fast) (λ i. lane_tones x (first_lane (numbered i) + 2) (here i)) h.read.fast

  -- when they read
  pub fixed_reads : (place % 8 == 4) ≡ is_read_at x first place
  fixed_reads =
      let none : first_lane number + 0 ≡ first = omega arith in
      read_is number 0 x place (omega arith) ∙ ap (λ l. is_read_at x l place) none

  pub slow_reads : slow_told ≡ is_read_at x (first + 1) place
  slow_reads = clock_reads Slow (heard number x) place slow_clock slow_told slow_stood slow_says
      ∙ read_is number 1 x place (omega arith)

  pub fast_reads : fast_told ≡ is_read_at x (first + 2) place
  fast_reads = clock_reads Fast (heard number x) place fast_clock fast_told fast_stood fast_says
      ∙ read_is number 2 x place (omega arith)

  tone_there : tone ≡ heard number x place
  tone_there = last_tone_is now.bank x (places_in now.count) place tone tone_is next
      ∙ ap (λ b. heard b x place) (same_bank ∙ numbered)

  -- the bank has taken the place
  pub taken_place : LaneStandsFor fixed_next (lane_tones x first (place + 1))
      → LaneStandsFor slow_lane_next (lane_tones x (first + 1) (place + 1))
      → LaneStandsFor fast_lane_next (lane_tones x (first + 2) (place + 1))
      → HasTaken (bank_with now slow_next fast_next fixed_next slow_lane_next fast_lane_next) x
  taken_place a b d =
      let bank : number ≡ now.bank = sym (same_bank ∙ numbered) in
      let count : place + 1 ≡ places_in now.count = sym next in
      record {
        tones = taken;
        read = record {
          slow_clock = stepped Slow (heard number x) place slow_clock slow_next tone slow_pull slow_stood tone_there slow_step
              ∙ (λ i. clock_after Slow (heard (bank i) x) (count i));
          fast_clock = stepped Fast (heard number x) place fast_clock fast_next tone fast_pull fast_stood tone_there fast_step
              ∙ (λ i. clock_after Fast (heard (bank i) x) (count i));
          fixed = subst (LaneStandsFor fixed_next) (λ i. lane_tones x (first_lane (bank i)) (count i)) a;
          slow = subst (LaneStandsFor slow_lane_next) (λ i. lane_tones x (first_lane (bank i) + 1) (count i)) b;
          fast = subst (LaneStandsFor fast_lane_next) (λ i. lane_tones x (first_lane (bank i) + 2) (count i)) d;
        };
      }

  -- and its lanes have added what they hear there
  pub found_place : (before one two after : List Candidate)
      → AddsAmong place (place + 1) first (first + 1) x before one
      → AddsAmong place (place + 1) (first + 1) (first + 1 + 1) x one two
      → AddsAmong place (place + 1) (first + 2) (first + 2 + 1) x two after
      → AddsAmong (places_in was.count) (places_in now.count) (first_lane was.bank) (first_lane was.bank + 3) x before after
  found_place before one two after a b d =
      let second : first + 1 + 1 ≡ first + 2 = omega arith in
      let third : first + 2 + 1 ≡ first + 3 = omega arith in
      let both = adds_lanes place (place + 1) first (first + 1) (first + 2) x before one two (omega arith) (omega arith) a
      (subst (λ high. AddsAmong place (place + 1) (first + 1) high x one two) second b) in
      let all = adds_lanes place (place + 1) first (first + 2) (first + 3) x before two after (omega arith) (omega arith) both
      (subst (λ high. AddsAmong place (place + 1) (first + 2) high x two after) third d) in
      let bank = sym numbered in
      let from = sym here in
      let to = sym next in
      subst (λ n. AddsAmong (places_in was.count) (places_in now.count) (first_lane n) (first_lane n + 3) x before after) bank
      (subst (λ n. AddsAmong n (places_in now.count) first (first + 3) x before after) from
      (subst (λ n. AddsAmong place n first (first + 3) x before after) to all))
