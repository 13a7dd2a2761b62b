-- What the added lanes hear in samples stays as it is when more samples follow.
use Rattle.hf_sensitive.proofs.Common.{◌≡◌, ℕ, zero, suc, ◌+◌, ◌<◌, ◌≤◌, Bool, true, false, ℤ, List, [], ◌∷◌}
use Rattle.hf_sensitive.proofs.Common.{◌++◌, length, get_or, refl, ap, sym, subst, ◌∙◌, arith, not, ◌&&◌, bits_of}
use Rattle.hf_sensitive.proofs.Common.{EndsFrame, Candidate, Slow, Fast, Pull, changes, length-append, heard, places_in}
use Rattle.hf_sensitive.proofs.Common.{reads, clock_after, delay_of, bank_of, rhythm_of, first_lane, is_read_in, tones}
use Rattle.hf_sensitive.proofs.Common.{is_read_at, tone_back, lane_tones, EndsAtPlace, is_in_time, Tone}
use Rattle.hf_sensitive.proofs.Common.{LaneStandsFor, HasTaken, HeldBank}
use Rattle.std.proofs.Common.{add-one}
use Rattle.tone_tracking.specs.Clock.{next_clock}
use Rattle.hf_tracking.proofs.PrefixLemmas.{heard-append, heard_before-append, taken-append}
use Rattle.hf_sensitive.proofs.LaneLemmas.{lane_tones-read, lane_tones-not, tones_of_none}

-- tones that agree take a clock to the same place
clock_after-agree : (pull : Pull) (t u : ℕ → Tone) (count : ℕ) → ((p : ℕ) → p < count → t p ≡ u p)
    → clock_after pull t count ≡ clock_after pull u count
unfolding clock_after
clock_after-agree pull t u zero agree = refl
clock_after-agree pull t u (suc count) agree =
    let before = clock_after-agree pull t u count (λ p l. agree p (omega arith)) in
    let tone = agree count (omega arith) in
    λ i. next_clock pull (before i) (tone i)

module _ (x y : List ℤ) where
  clock-append : (pull : Pull) (bank count : ℕ) → count ≤ places_in (length x)
      → clock_after pull (heard bank x) count ≡ clock_after pull (heard bank (x ++ y)) count
  clock-append pull bank count inside = clock_after-agree pull (heard bank x) (heard bank (x ++ y)) count
      (λ p l. heard-append bank x y p (omega arith))

  reads-append : (rhythm bank place : ℕ) → place < places_in (length x)
      → is_read_in rhythm (heard bank x) place ≡ is_read_in rhythm (heard bank (x ++ y)) place
  reads-append zero bank place inside = refl
  reads-append (suc zero) bank place inside = ap reads (clock-append Slow bank place (omega arith))
  reads-append (suc (suc n)) bank place inside = ap reads (clock-append Fast bank place (omega arith))

  is_read-append : (lane place : ℕ) → place < places_in (length x) → is_read_at x lane place ≡ is_read_at (x ++ y) lane place
  unfolding is_read_at
  is_read-append lane place inside = reads-append (rhythm_of lane) (bank_of lane) place inside

  tone_back-append : (lane place back : ℕ) → place < places_in (length x) → tone_back x lane place back ≡ tone_back
      (x ++ y) lane place back
  tone_back-append lane place back inside = heard_before-append (bank_of lane) x y (place + 1) (delay_of lane + back)
      (omega arith)

  one_more : (lane count : ℕ) (b : Bool) → count < places_in (length x) → is_read_at x lane count ≡ b
      → lane_tones x lane count ≡ lane_tones (x ++ y) lane count
      → lane_tones x lane (count + 1) ≡ lane_tones (x ++ y) lane (count + 1)
  one_more lane count true inside here before =
      let there : is_read_at (x ++ y) lane count ≡ true = sym (is_read-append lane count inside) ∙ here in
      lane_tones-read x lane count here ∙ (λ i. before i ++ tone_back-append lane count 0 inside i ∷ [])
      ∙ sym (lane_tones-read (x ++ y) lane count there)
  one_more lane count false inside here before =
      let there : is_read_at (x ++ y) lane count ≡ false = sym (is_read-append lane count inside) ∙ here in
      lane_tones-not x lane count here ∙ before ∙ sym (lane_tones-not (x ++ y) lane count there)

  pub lane_tones-append : (lane count : ℕ) → count ≤ places_in (length x)
      → lane_tones x lane count ≡ lane_tones (x ++ y) lane count
  lane_tones-append lane zero inside = tones_of_none x lane ∙ sym (tones_of_none (x ++ y) lane)
  lane_tones-append lane (suc count) inside =
      ap (lane_tones x lane) (sym (add-one count))
      ∙ one_more lane count (is_read_at x lane count) (omega arith) refl (lane_tones-append lane count (omega arith))
      ∙ ap (lane_tones (x ++ y) lane) (add-one count)

  in_time-append : (lane place : ℕ) → place < places_in (length x)
      → is_in_time x lane place ≡ is_in_time (x ++ y) lane place
  in_time-append lane place inside =
      let a = tone_back-append lane place 8 inside in
      let b = tone_back-append lane place 0 inside in
      let c = tone_back-append lane place 16 inside in
      λ i. changes (a i) (b i) && not (changes (c i) (a i))

  -- an item of a place of the first samples is one of all, and the other way round
  pub ends-append : (item : Candidate) (place : ℕ) → place < places_in (length x) → EndsAtPlace x item place
      → EndsAtPlace (x ++ y) item place
  ends-append item place inside h = record {
    least = h.least;
    most = h.most;
    reads = sym (is_read-append item.offset place inside) ∙ h.reads;
    end_of = h.end_of;
    frame = subst (λ ts. EndsFrame (bits_of ts) item.octets)
        (lane_tones-append item.offset (place + 1) (omega arith)) h.frame;
    path = h.path;
    in_time = sym (in_time-append item.offset place inside) ∙ h.in_time;
  }

  pub ends-take : (item : Candidate) (place : ℕ) → place < places_in (length x) → EndsAtPlace (x ++ y) item place
      → EndsAtPlace x item place
  ends-take item place inside h = record {
    least = h.least;
    most = h.most;
    reads = is_read-append item.offset place inside ∙ h.reads;
    end_of = h.end_of;
    frame = subst (λ ts. EndsFrame (bits_of ts) item.octets)
        (sym (lane_tones-append item.offset (place + 1) (omega arith))) h.frame;
    path = h.path;
    in_time = in_time-append item.offset place inside ∙ h.in_time;
  }

  -- the bank has taken the first of more samples
  pub bank_taken-append : (held : HeldBank) → HasTaken held x → HasTaken held (x ++ y)
  bank_taken-append held h =
      let inside = h.tones.samples.within in
      let bank : ℕ = held.tones.bank in
      let count : ℕ = places_in held.tones.count in
      record {
        tones = taken-append held.tones x y h.tones;
        read = record {
          slow_clock = h.read.slow_clock ∙ clock-append Slow bank count (omega arith);
          fast_clock = h.read.fast_clock ∙ clock-append Fast bank count (omega arith);
          fixed = subst (LaneStandsFor held.fixed) (lane_tones-append (first_lane bank) count (omega arith)) h.read.fixed;
          slow = subst (LaneStandsFor held.slow) (lane_tones-append (first_lane bank + 1) count (omega arith)) h.read.slow;
          fast = subst (LaneStandsFor held.fast) (lane_tones-append (first_lane bank + 2) count (omega arith)) h.read.fast;
        };
      }
