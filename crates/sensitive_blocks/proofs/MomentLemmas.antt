-- What a moment tells of the bits with an end: which lanes read one, its tone, and whether its flag is in time.
use Rattle.sensitive_blocks.proofs.Common.{◌≡◌, ℕ, ◌+◌, ◌-◌, ◌%◌, ◌<◌, ◌≤◌, Bool, true, false, ℤ, List, length, take, drop}
use Rattle.sensitive_blocks.proofs.Common.{refl, ap, sym, ◌∙◌, arith, inl, inr, if◌then◌else◌, nat_lt, nat_le, ◌&&◌, not, ◌==◌}
use Rattle.sensitive_blocks.proofs.Common.{cases_lt, lt-ltb, le-ltb, le-leb, leb-true, Tone, reads, tone_for, place_for}
use Rattle.sensitive_blocks.proofs.Common.{added_places, delay_of, is_read_at, is_in_time, list_of}
unfoldable use Rattle.sensitive_receiver.specs.Lanes.{readings_at}
use Rattle.sensitive_blocks.proofs.Common.{tone_back, tone_read, tones, pos, window_to, ◌++◌}
use Rattle.std.specs.Prelude.{replicate}
use Rattle.std.proofs.Math.Seq.{drop-append-add}
use Rattle.std.proofs.lemmas.Bool.{and_parts}
use Rattle.offset_slicers.specs.Decision.{tone_of}
use Rattle.tone_tracking.specs.Clock.{changes, is_reading}
use Rattle.tone_tracking.specs.declared.bit_clock.Pull.TheVariants.{Slow, Fast}
use Rattle.tone_tracking.specs.declared.reach.Reach.TheVariants.{Alone, Near, Far}
use Rattle.tone_tracking.specs.HeldTracker.{tone_before}
use Rattle.tone_tracking.specs.declared.reach.Reach.{Reach}
use Rattle.tone_tracking.proofs.TrackerLemmas.{tone_before-within, tone_before-outside}
use Rattle.sensitive_blocks.specs.declared.readings.Readings.{Readings}
use Rattle.sensitive_blocks.specs.Held.{none_known}
unfoldable use Rattle.sensitive_blocks.specs.Held.{known_at, known_of}
use Rattle.sensitive_blocks.proofs.BitLemmas.{place_read, reads-place, reads-window}

-- ---- which lanes read

pub window_told : (x : List ℤ) (lane end : ℕ) → lane < 8 → end ≤ length x
    → (nat_le 8 end && (end % 8 == lane)) ≡ reads x lane end
window_told x lane end small inside =
    go (nat_le 8 end) ∙ ap (λ b. (nat_le 8 end && b) && (end % 8 == lane)) (sym (le-leb end (length x) inside))
    ∙ sym (reads-window x lane end small)
  where
    go : (b : Bool) → (b && (end % 8 == lane)) ≡ ((b && true) && (end % 8 == lane))
    go true = refl
    go false = refl

-- what a lane from 16 on reads by, clock after clock
abbrev by_clocks : List ℤ → ℕ → ℕ → Bool
by_clocks x lane place =
    if nat_lt lane 19 then is_reading Slow (tones Near x) place
    else if nat_lt lane 22 then is_reading Slow (tones Far x) place
    else if nat_lt lane 23 then is_reading Fast (tones Near x) place
    else is_reading Slow (tones Alone x) place

clocked : (x : List ℤ) (lane place : ℕ) → 16 ≤ lane → is_read_at x lane place ≡ by_clocks x lane place
unfolding readings_at
clocked x lane place a = ap (λ t. if t then place % 8 == lane - 8 else by_clocks x lane place) (le-ltb lane 16 a)

clock_near : (x : List ℤ) (lane place : ℕ) → 16 ≤ lane → lane < 19
    → is_read_at x lane place ≡ is_reading Slow (tones Near x) place
clock_near x lane place a b = clocked x lane place a
    ∙ ap (λ t. if t then is_reading Slow (tones Near x) place
    else (if nat_lt lane 22 then is_reading Slow (tones Far x) place
    else if nat_lt lane 23 then is_reading Fast (tones Near x) place else is_reading Slow (tones Alone x) place))
    (lt-ltb lane 19 b)

past_near : (x : List ℤ) (lane place : ℕ) → 19 ≤ lane → is_read_at x lane place
    ≡ (if nat_lt lane 22 then is_reading Slow (tones Far x) place
    else if nat_lt lane 23 then is_reading Fast (tones Near x) place else is_reading Slow (tones Alone x) place)
past_near x lane place a = clocked x lane place (omega arith)
    ∙ ap (λ t. if t then is_reading Slow (tones Near x) place
    else (if nat_lt lane 22 then is_reading Slow (tones Far x) place
    else if nat_lt lane 23 then is_reading Fast (tones Near x) place else is_reading Slow (tones Alone x) place))
    (le-ltb lane 19 a)

clock_far : (x : List ℤ) (lane place : ℕ) → 19 ≤ lane → lane < 22
    → is_read_at x lane place ≡ is_reading Slow (tones Far x) place
clock_far x lane place a b = past_near x lane place a
    ∙ ap (λ t. if t then is_reading Slow (tones Far x) place
    else (if nat_lt lane 23 then is_reading Fast (tones Near x) place else is_reading Slow (tones Alone x) place))
    (lt-ltb lane 22 b)

past_far : (x : List ℤ) (lane place : ℕ) → 22 ≤ lane → is_read_at x lane place
    ≡ (if nat_lt lane 23 then is_reading Fast (tones Near x) place else is_reading Slow (tones Alone x) place)
past_far x lane place a = past_near x lane place (omega arith)
    ∙ ap (λ t. if t then is_reading Slow (tones Far x) place
    else (if nat_lt lane 23 then is_reading Fast (tones Near x) place else is_reading Slow (tones Alone x) place))
    (le-ltb lane 22 a)

clock_fast : (x : List ℤ) (lane place : ℕ) → 22 ≤ lane → lane < 23
    → is_read_at x lane place ≡ is_reading Fast (tones Near x) place
clock_fast x lane place a b = past_far x lane place a
    ∙ ap (λ t. if t then is_reading Fast (tones Near x) place else is_reading Slow (tones Alone x) place) (lt-ltb lane 23 b)

clock_alone : (x : List ℤ) (lane place : ℕ) → 23 ≤ lane → is_read_at x lane place ≡ is_reading Slow (tones Alone x) place
clock_alone x lane place a = past_far x lane place (omega arith)
    ∙ ap (λ t. if t then is_reading Fast (tones Near x) place else is_reading Slow (tones Alone x) place) (le-ltb lane 23 a)

-- lanes 8 to 15
fixed : (x : List ℤ) (lane place : ℕ) → lane < 16 → is_read_at x lane place ≡ (place % 8 == lane - 8)
unfolding readings_at
fixed x lane place a = ap (λ t. if t then place % 8 == lane - 8 else by_clocks x lane place) (lt-ltb lane 16 a)

fixed_delay : (lane : ℕ) → lane < 16 → delay_of lane ≡ 0
fixed_delay lane a =
    ap (λ b. if b then 0 else (if nat_lt lane 19 then lane - 16
    else if nat_lt lane 22 then lane - 19 else if nat_lt lane 23 then 1 else lane - 23)) (lt-ltb lane 16 a)

-- what is known of the place that an added lane reads for a bit
module _ (x : List ℤ) (lane end : ℕ) (added : 8 ≤ lane) (told : Readings) (told_is : told ≡ known_at x (end + delay_of lane)) where
  abbrev decided : Bool
  decided = nat_le 8 (end + delay_of lane) && nat_lt (place_for lane end) (added_places (length x))

  -- a clock that is known reads as it reads at the place
  by_clock : (f : Readings → Bool) (reading : Bool) → f none_known ≡ false → f (known_of x (place_for lane end)) ≡ reading
      → is_read_at x lane (place_for lane end) ≡ reading → f told ≡ reads x lane end
  unfolding known_at
  by_clock f reading none known is =
      ap f told_is ∙ go decided ∙ ap (λ b. decided && b) (sym is) ∙ sym (reads-place x lane end added)
    where
      go : (b : Bool) → f (if b then known_of x (place_for lane end) else none_known) ≡ (b && reading)
      go true = known
      go false = none

  pub near_told : 16 ≤ lane → lane < 19 → told.slow_near ≡ reads x lane end
  unfolding known_of
  near_told a b = by_clock (λ r. r.slow_near) (is_reading Slow (tones Near x) (place_for lane end)) refl refl
      (clock_near x lane (place_for lane end) a b)

  pub far_told : 19 ≤ lane → lane < 22 → told.slow_far ≡ reads x lane end
  unfolding known_of
  far_told a b = by_clock (λ r. r.slow_far) (is_reading Slow (tones Far x) (place_for lane end)) refl refl
      (clock_far x lane (place_for lane end) a b)

  pub fast_told : 22 ≤ lane → lane < 23 → told.fast_near ≡ reads x lane end
  unfolding known_of
  fast_told a b = by_clock (λ r. r.fast_near) (is_reading Fast (tones Near x) (place_for lane end)) refl refl
      (clock_fast x lane (place_for lane end) a b)

  pub alone_told : 23 ≤ lane → told.slow_alone ≡ reads x lane end
  unfolding known_of
  alone_told a = by_clock (λ r. r.slow_alone) (is_reading Slow (tones Alone x) (place_for lane end)) refl refl
      (clock_alone x lane (place_for lane end) a)

  -- lanes 8 to 15 read at each eighth place
  pub fixed_lane_told : lane < 16 → (told.decided && (end % 8 == lane - 8)) ≡ reads x lane end
  unfolding known_at known_of
  fixed_lane_told a =
      ap (λ r. r.decided && (end % 8 == lane - 8)) told_is ∙ go decided refl
      ∙ ap (λ b. decided && b) (sym (fixed x lane (place_for lane end) a))
      ∙ sym (reads-place x lane end added)
    where
      go : (b : Bool) → decided ≡ b
          → ((if b then known_of x (place_for lane end) else none_known).decided && (end % 8 == lane - 8))
          ≡ (b && (place_for lane end % 8 == lane - 8))
      go false is = refl
      go true is =
          let parts = and_parts (nat_le 8 (end + delay_of lane)) (nat_lt (place_for lane end) (added_places (length x))) is in
          let least = leb-true 8 (end + delay_of lane) parts.0 in
          let no_delay = fixed_delay lane a in
          let same : end % 8 ≡ place_for lane end % 8 = omega arith in
          ap (λ n. n == lane - 8) same

-- ---- the tone

-- tones that lie equally far before the same place
same_back : (t : ℕ → Tone) (count back counted following : ℕ) → count + following ≡ counted + back
    → tone_before t count back ≡ tone_before t counted following
same_back t count back counted following same = elim (cases_lt back count) [
  | inl within ↦ tone_before-within t count back within
      ∙ ap t (let e : count - 1 - back ≡ counted - 1 - following = omega arith in e)
      ∙ sym (tone_before-within t counted following (omega arith))
  | inr outside ↦ tone_before-outside t count back outside ∙ sym (tone_before-outside t counted following (omega arith))
]

-- the tone of the place that a lane reads for a bit, and those a bit and two bits before
pub back_told : (x : List ℤ) (lane end position back more : ℕ) (reach : Reach) (tone : Tone) → 8 ≤ lane
    → reads x lane end ≡ true → back + end + 31 ≡ position → 39 ≤ position → reach ≡ list_of lane
    → tone ≡ tone_before (tones reach x) (added_places position) (back + more)
    → tone ≡ tone_back x lane (place_for lane end) more
back_told x lane end position back more reach tone added is at enough reach_is tone_is =
    let least = (place_read x lane end added is).least in
    tone_is ∙ ap (λ r. tone_before (tones r x) (added_places position) (back + more)) reach_is
    ∙ same_back (tones (list_of lane) x) (added_places position) (back + more) (place_for lane end + 1) (delay_of lane + more)
    (omega arith)

pub tone_told : (x : List ℤ) (lane end position back : ℕ) (reach : Reach) (tone : Tone) → 8 ≤ lane
    → reads x lane end ≡ true → back + end + 31 ≡ position → 39 ≤ position → reach ≡ list_of lane
    → tone ≡ tone_before (tones reach x) (added_places position) back → tone ≡ tone_for x lane end
unfolding tone_for
tone_told x lane end position back reach tone added is at enough reach_is tone_is =
    let none : back ≡ back + 0 = omega arith in
    back_told x lane end position back 0 reach tone added is at enough reach_is
    (tone_is ∙ ap (λ n. tone_before (tones reach x) (added_places position) n) none)
    ∙ sym (ap (λ b. if b then tone_of (take 8 (drop (end - 8) x)) else tone_read x lane (place_for lane end)) (le-ltb lane 8 added))

pub window_tone : (x : List ℤ) (lane end : ℕ) (window : List ℤ) (tone : Tone) → lane < 8 → tone ≡ tone_of window
    → 8 ≤ end → window ≡ window_to x end → tone ≡ tone_for x lane end
unfolding tone_for window_to
window_tone x lane end window tone small is least window_is =
    let silence = replicate 8 (pos 0) in
    let place : end ≡ 8 + (end - 8) = omega arith in
    is ∙ ap tone_of (window_is ∙ ap (λ n. take 8 (drop n (silence ++ x))) place
    ∙ ap (take 8) (drop-append-add silence x (end - 8)))
    ∙ sym (ap (λ b. if b then tone_of (take 8 (drop (end - 8) x)) else tone_read x lane (place_for lane end)) (lt-ltb lane 8 small))

-- whether a flag is in time
pub in_time_told : (x : List ℤ) (lane place : ℕ) (tone one two : Tone) → tone ≡ tone_back x lane place 0
    → one ≡ tone_back x lane place 8 → two ≡ tone_back x lane place 16
    → (changes one tone && not (changes two one)) ≡ is_in_time x lane place
in_time_told x lane place tone one two a b c = λ i. changes (b i) (a i) && not (changes (c i) (b i))
