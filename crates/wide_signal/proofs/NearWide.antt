-- A transmission at 48,000 samples a second, as the filter gives it: its bits but for the first and the last flag are near
-- the wave at 9600. So are all transmissions, one after the other.
use Rattle.wide_signal.proofs.Common.{◌≡◌, ℕ, zero, suc, ◌+◌, ◌-◌, ◌*◌, ◌/◌, ◌%◌, ◌<◌, ◌≤◌, ℤ, pos, ◌*ℤ◌, List, [], ◌∷◌}
use Rattle.wide_signal.proofs.Common.{◌++◌, length, get_or, take, drop, refl, ap, sym, ◌∙◌, subst, arith, ints, length-append}
use Rattle.wide_signal.proofs.Common.{Bool, sum_by, Tone, Mark, Space, wave_sample, phase_step, sum_below, IsNear, distance}
use Rattle.wide_signal.proofs.Common.{taps, IsNearFine, fine_phase, fine_sample, All, AllByRecursion, unsigned_abs}
use Rattle.std.proofs.Common.{append_assoc, get_or-drop, get_or-take, length-take-le, drop-drop, drop_at, take_at, map}
use Rattle.std.proofs.Common.{take-append-drop, length-drop, nat_le, true}
use Rattle.wide_signal.proofs.Common.{cycle_sample, half_wave, quarter}
use Rattle.std.proofs.lemmas.Bool.{agree_below_at, leb-true}
use Rattle.std.proofs.lemmas.List.{drop_more, get_or-append_right, get_or-append-add, get_or_append_left, take-append-le}
use Rattle.std.proofs.lemmas.List.Elements.{All-from_recursion, recursion_from_All}
use Rattle.std.proofs.lemmas.List.FromFn.{length-map-range_with_len}
use Rattle.std.proofs.lemmas.List.Sums.{sum_by-append, sum_by_more}
use Rattle.tone_table.specs.Wave.{wave_from}
use Rattle.nrzi_bits.specs.Line.{last_from, line, line_from}
use Rattle.nrzi_bits.proofs.LineLemmas.{length-line_from, line_from-append}
unfoldable use Rattle.hdlc_framer.specs.Body.{body}
use Rattle.hdlc_framer.specs.Body.{flags}
use Rattle.hdlc_framer.specs.Frames.{IsFrame}
use Rattle.hdlc_framer.specs.Stuffing.{flag}
use Rattle.hdlc_framer.proofs.StuffLemmas.{flags-more}
use Rattle.resampler.proofs.FilterLemmas.{decimated_place}
use Rattle.resampler.specs.Filtered.{decimated}
use Rattle.std.proofs.Common.{ext_get_or}
use Rattle.std.proofs.lemmas.List.Concat.{flat_map-cons}
use Rattle.hdlc_framer.specs.Body.{joined}
use Rattle.afsk_modulator.specs.Modulation.{IsBitPhase}
use Rattle.afsk_modulator.specs.Signal.{Transmission}
use Rattle.clean_signal.specs.GoodTransmission.{IsTransmission, body_of, frames_of}
use Rattle.clean_signal.specs.NearSignal.{IsNearAll, IsReceived, Received, transmissions_of}
use Rattle.clean_signal.specs.WavePlace.{phase_at}
use Rattle.clean_signal.proofs.WaveLemmas.{length-wave_from, wave_from-place}
use Rattle.resampler.specs.Filtered.{filtered, filtered_at}
use Rattle.wide_input.specs.Streams.{stream}
use Rattle.wide_input.proofs.StreamLemmas.{length-stream, stream-place}
use Rattle.wide_signal.specs.WideSignal.{IsNearWide, IsWideReceived, begin_of, end_of, inside, trimmed, trimmed_after}
use Rattle.wide_signal.proofs.FilteredWaves.{filtered_close, filtered_wave, plain_wave}
use Rattle.wide_signal.proofs.FineLemmas.{fifth, sample_in_three, sum-take_more, wave_sample-mod}
use Rattle.wide_signal.proofs.Windows.{filtered-place, near_rounded, weighted_close}

-- ---- one sample

-- the wave never leaves its amplitude
small_at : (k : ℕ) → k < 48 → unsigned_abs (wave_sample k) ≤ 10000
unfolding wave_sample cycle_sample half_wave quarter
small_at k below =
    leb-true _ _ (agree_below_at (λ j. nat_le (unsigned_abs (wave_sample j)) 10000) (λ _. true) 48 k refl below)

wave_small : (p : ℕ) → unsigned_abs (wave_sample p) ≤ 10000
wave_small p =
    let same = ap unsigned_abs (wave_sample-mod p (p % 48) (omega arith)) in
    omega (arith, same, small_at (p % 48) (omega arith))

-- the phase of a bit at 9600 samples a second, which a flag has moved by 40 steps
phases : (phase s sum before product later after : ℕ) → phase ≡ 8 * (phase / 8) → s ≡ (phase / 8 + sum) % 6
    → product ≡ later → sum + before ≡ 83 + after
    → (8 * s + 8 * before + product) % 48 ≡ ((phase + 40) % 48 + (8 * after + later)) % 48
phases phase s sum before product later after sixth is same sums = omega arith

-- A filtered sample of a bit that stands between two others.
module _ (level start place : ℕ) (tones : List Tone) (x : List ℤ) (least : 500 ≤ level) (most : level ≤ 31000)
    (near : IsNearFine level start tones x place) (room : place + 40 * length tones ≤ length x) where
  one_sample : (s a i : ℕ) (rest : List Tone) (p c f : Tone) → s < 6 → i < 8 → drop a tones ≡ p ∷ c ∷ f ∷ rest
      → a + 3 ≤ length tones → (start + 40 * sum_by phase_step (take a tones)) % 240 ≡ (40 * s) % 240
      → distance (1071 * level / 1024) (plain_wave p c s i) (get_or (filtered x) (place + 40 * (a + 1) + 5 * i) (pos 0))
      ≤ 1000 * (1071 * level / 1024)
  one_sample s a i rest p c f sixth below are within same =
      let n : ℕ = place + 40 * (a + 1) + 5 * i in
      let close : (j : ℕ) → j < 31
      → distance level (fine_sample (fine_phase (40 * s) (p ∷ c ∷ f ∷ []) (25 + 5 * i + j))) (get_or x (n + j - 15) (pos 0))
      ≤ 100 * level
      = λ j few.
      let m : ℕ = 25 + 5 * i + j in
      let there : place + (40 * a + m) ≡ n + j - 15 = omega arith in
      let wave = sample_in_three start s a m tones rest p c f (omega arith) are same in
      let here = near (40 * a + m) (omega arith) in
      let alike : distance level (fine_sample (fine_phase start tones (40 * a + m))) (get_or x (place + (40 * a + m)) (pos 0))
      ≡ distance level (fine_sample (fine_phase (40 * s) (p ∷ c ∷ f ∷ []) m)) (get_or x (n + j - 15) (pos 0))
      = (λ k. distance level (wave k) (get_or x (there k) (pos 0))) in
      omega (arith, alike, here) in
      let sums = weighted_close level (λ j. fine_sample (fine_phase (40 * s) (p ∷ c ∷ f ∷ []) (25 + 5 * i + j)))
      (λ j. get_or x (n + j - 15) (pos 0)) close in
      let rounded = near_rounded level (plain_wave p c s i) (filtered_wave p c f s i)
      (sum_below (λ j. get_or x (n + j - 15) (pos 0) *ℤ get_or taps j (pos 0)) 31) least most
      (wave_small (8 * s + 8 * phase_step p + i * phase_step c)) (filtered_close p c f s i sixth below) sums in
      let is = filtered-place x n (omega arith) (omega arith) in
      subst (λ y. distance (1071 * level / 1024) (plain_wave p c s i) y ≤ 1000 * (1071 * level / 1024)) (sym is) rounded

-- ---- the bits of a transmission

-- the tones of a flag, after which the line stands as before it
abbrev flag_tones : List Tone
flag_tones = Space ∷ Space ∷ Space ∷ Space ∷ Space ∷ Space ∷ Space ∷ Mark ∷ []

-- a bit of it, and the bits beside it
abbrev tone_at : List Tone → ℕ → Tone
tone_at tones n = get_or tones n Mark

three_from : (tones : List Tone) (a : ℕ) → a + 3 ≤ length tones
    → drop a tones ≡ tone_at tones a ∷ tone_at tones (a + 1) ∷ tone_at tones (a + 1 + 1) ∷ drop (a + 1 + 1 + 1) tones
three_from tones a within =
    drop_more tones a Mark (omega arith)
    ∙ ap (λ ts. tone_at tones a ∷ ts) (drop_more tones (a + 1) Mark (omega arith))
    ∙ ap (λ ts. tone_at tones a ∷ tone_at tones (a + 1) ∷ ts) (drop_more tones (a + 1 + 1) Mark (omega arith))

module _ (level phase place : ℕ) (inner last : List Tone) (x : List ℤ) (least : 500 ≤ level) (most : level ≤ 31000)
    (at : IsBitPhase phase) (size : length last ≡ 8)
    (near : IsNearFine level (5 * phase) (flag_tones ++ (inner ++ last)) x place)
    (room : place + 40 * length (flag_tones ++ (inner ++ last)) ≤ length x) where
  abbrev whole : List Tone
  whole = flag_tones ++ (inner ++ last)

  long : length whole ≡ 16 + length inner
  long = omega (arith, length-append inner last)

  -- a sample of the bits within
  pub sample_near : (b i : ℕ) → b < length inner → i < 8
      → distance (1071 * level / 1024) (get_or (wave_from ((phase + 40) % 48) inner) (8 * b + i) (pos 0))
      (get_or (filtered x) (place + 320 + 40 * b + 5 * i) (pos 0))
      ≤ 1000 * (1071 * level / 1024)
  sample_near b i within_inner below =
      let a : ℕ = 7 + b in
      let sum : ℕ = sum_by phase_step (take a whole) in
      let s : ℕ = (phase / 8 + sum) % 6 in
      let sixth : phase ≡ 8 * (phase / 8) = omega (arith, at.sixth) in
      let p : Tone = tone_at whole a in
      let c : Tone = tone_at whole (a + 1) in
      let within : a + 3 ≤ length whole = omega (arith, long) in
      let one = one_sample level (5 * phase) place whole x least most near room s a i (drop (a + 1 + 1 + 1) whole) p c
      (tone_at whole (a + 1 + 1)) (omega arith) below (three_from whole a within) within (omega arith) in
      let place_of : 7 + b + 1 ≡ 8 + b = omega arith in
      let here : c ≡ tone_at inner b
      = ap (tone_at whole) place_of ∙ get_or-append-add flag_tones (inner ++ last) b Mark
      ∙ get_or_append_left inner last Mark b within_inner in
      let same_take : sum_by phase_step (take (7 + b + 1) whole) ≡ sum_by phase_step (take (8 + b) whole)
      = ap (λ n. sum_by phase_step (take n whole)) place_of in
      let more : sum_by phase_step (take (a + 1) whole) ≡ sum + phase_step p
      = sum_by_more phase_step whole a Mark (omega arith) in
      let before : sum_by phase_step (take (8 + b) whole) ≡ 83 + sum_by phase_step (take b inner)
      = sum-take_more whole 8 b
      ∙ ap (λ ts. 83 + sum_by phase_step ts) (take-append-le b inner last (omega arith)) in
      let product : i * phase_step c ≡ i * phase_step (tone_at inner b) = ap (λ t. i * phase_step t) here in
      let plain : plain_wave p c s i ≡ get_or (wave_from ((phase + 40) % 48) inner) (8 * b + i) (pos 0)
      = wave_sample-mod (8 * s + 8 * phase_step p + i * phase_step c) ((phase + 40) % 48 + phase_at inner b i)
      (phases phase s sum (phase_step p) (i * phase_step c) (i * phase_step (tone_at inner b))
      (sum_by phase_step (take b inner)) sixth refl product (omega (arith, more, before, same_take)))
      ∙ sym (wave_from-place inner ((phase + 40) % 48) b i within_inner below) in
      let there : place + 40 * (a + 1) + 5 * i ≡ place + 320 + 40 * b + 5 * i = omega arith in
      let alike : distance (1071 * level / 1024) (plain_wave p c s i) (get_or (filtered x) (place + 40 * (a + 1) + 5 * i) (pos 0))
      ≡ distance (1071 * level / 1024) (get_or (wave_from ((phase + 40) % 48) inner) (8 * b + i) (pos 0))
      (get_or (filtered x) (place + 320 + 40 * b + 5 * i) (pos 0))
      = (λ k. distance (1071 * level / 1024) (plain k) (get_or (filtered x) (there k) (pos 0))) in
      omega (arith, one, alike)

-- ---- a transmission

-- its bits without its first and its last flag
abbrev within_flags : Received → List Bool
within_flags r = body r.transmission.frames (r.transmission.opening - 1) (r.transmission.closing - 1)

flags_split : (count : ℕ) → 1 ≤ count → flags count ≡ flag ++ flags (count - 1)
flags_split zero some = absurd (omega arith)
flags_split (suc count) some =
    let less : suc count - 1 ≡ count = omega arith in
    ap (λ n. flag ++ flags n) (sym less)

flags_end : (count : ℕ) → 1 ≤ count → flags count ≡ flags (count - 1) ++ flag
flags_end count some =
    let more : count ≡ count - 1 + 1 = omega arith in
    ap flags more ∙ flags-more (count - 1)

body_split : (r : Received) → IsWideReceived r → body_of r.transmission ≡ flag ++ (within_flags r ++ flag)
unfolding body
body_split r good =
    let opening : ℕ = r.transmission.opening in
    let closing : ℕ = r.transmission.closing in
    let frames : List Bool = joined r.transmission.frames in
    (λ i. flags_split opening (omega (arith, good.opening)) i
    ++ (frames ++ flags_end closing (omega (arith, good.closing)) i))
    ∙ ap (λ bits. flag ++ (flags (opening - 1) ++ bits)) (sym (append_assoc frames (flags (closing - 1)) flag))
    ∙ ap (λ bits. flag ++ bits) (sym (append_assoc (flags (opening - 1)) (frames ++ flags (closing - 1)) flag))

-- the tones of its last flag
abbrev last_tones : Received → List Tone
last_tones r = line_from (last_from Mark (line (within_flags r))) flag

line_split : (r : Received) → IsWideReceived r
    → line (body_of r.transmission) ≡ flag_tones ++ (line (within_flags r) ++ last_tones r)
line_split r good =
    ap line (body_split r good) ∙ ap (λ tones. flag_tones ++ tones) (line_from-append Mark (within_flags r) flag)

length-last : (r : Received) → length (last_tones r) ≡ 8
length-last r = length-line_from (last_from Mark (line (within_flags r))) flag

length-body : (r : Received) → IsWideReceived r → length (body_of r.transmission) ≡ 16 + length (within_flags r)
length-body r good = omega (arith, ap length (body_split r good), length-append (within_flags r) flag)

-- ---- streams

-- the stream of the filtered samples, by place
filtered_stream : (offset : ℕ) (x : List ℤ) (k : ℕ) → offset < 5 → 5 * k + offset < length x
    → get_or (stream offset (filtered x)) k (pos 0) ≡ get_or (filtered x) (5 * k + offset) (pos 0)
filtered_stream offset x k small room =
    stream-place offset (filtered x) k (pos 0)
    (omega (arith, length-stream offset (filtered x) (omega arith), length-map-range_with_len (filtered_at x) 0 (length x)))

length-filtered_stream : (offset : ℕ) (x : List ℤ) → offset < 5
    → length (stream offset (filtered x)) ≡ (length x + 4 - offset) / 5
length-filtered_stream offset x small =
    length-stream offset (filtered x) (omega arith)
    ∙ ap (λ n. (n + 4 - offset) / 5) (length-map-range_with_len (filtered_at x) 0 (length x))

-- the samples of one transmission in it
part_near : (offset begin : ℕ) (r : Received) (x : List ℤ) → offset < 5 → IsWideReceived r
    → 5 * (begin + 8 * length (body_of r.transmission)) + offset ≤ length x
    → IsNearFine r.level (5 * r.phase) (line (body_of r.transmission)) x (5 * begin + offset)
    → IsNear (1071 * r.level / 1024) (wave_from ((r.phase + 40) % 48) (line (within_flags r)))
    (take (8 * length (within_flags r)) (drop (begin + 64) (stream offset (filtered x))))
part_near offset begin r x small good room near =
    let y : List ℤ = stream offset (filtered x) in
    let inner : List Tone = line (within_flags r) in
    let m : ℕ = length (within_flags r) in
    let tones : length inner ≡ m = length-line_from Mark (within_flags r) in
    let bits = length-body r good in
    let all : length (flag_tones ++ (inner ++ last_tones r)) ≡ 16 + m
    = omega (arith, length-append inner (last_tones r), length-last r, tones) in
    let whole : IsNearFine r.level (5 * r.phase) (flag_tones ++ (inner ++ last_tones r)) x (5 * begin + offset)
    = subst (λ ts. IsNearFine r.level (5 * r.phase) ts x (5 * begin + offset)) (line_split r good) near in
    let long : 8 * m ≤ length (drop (begin + 64) y)
    = omega (arith, length-drop (begin + 64) y, length-filtered_stream offset x small, bits) in
    record {
      size = length-take-le (8 * m) (drop (begin + 64) y) long
          ∙ sym (length-wave_from ((r.phase + 40) % 48) inner ∙ ap (λ n. 8 * n) tones);
      close = λ k below.
          let few : k < 8 * m = omega (arith, length-wave_from ((r.phase + 40) % 48) inner, tones) in
          let one = sample_near r.level r.phase (5 * begin + offset) inner (last_tones r) x good.least good.most good.phase
          (length-last r) whole (omega (arith, all, bits)) (k / 8) (k % 8) (omega (arith, tones)) (omega arith) in
          let index : 8 * (k / 8) + k % 8 ≡ k = omega arith in
          let there : 5 * begin + offset + 320 + 40 * (k / 8) + 5 * (k % 8) ≡ 5 * (begin + 64 + k) + offset = omega arith in
          let here : get_or (filtered x) (5 * begin + offset + 320 + 40 * (k / 8) + 5 * (k % 8)) (pos 0)
          ≡ get_or (take (8 * m) (drop (begin + 64) y)) k (pos 0)
          = ap (λ n. get_or (filtered x) n (pos 0)) there
          ∙ sym (filtered_stream offset x (begin + 64 + k) small (omega (arith, bits)))
          ∙ sym (get_or-drop (begin + 64) y k (pos 0))
          ∙ sym (get_or-take (8 * m) (drop (begin + 64) y) k (pos 0) few) in
          let alike : distance (1071 * r.level / 1024)
          (get_or (wave_from ((r.phase + 40) % 48) inner) (8 * (k / 8) + k % 8) (pos 0))
          (get_or (filtered x) (5 * begin + offset + 320 + 40 * (k / 8) + 5 * (k % 8)) (pos 0))
          ≡ distance (1071 * r.level / 1024) (get_or (wave_from ((r.phase + 40) % 48) inner) k (pos 0))
          (get_or (take (8 * m) (drop (begin + 64) y)) k (pos 0))
          = (λ i. distance (1071 * r.level / 1024) (get_or (wave_from ((r.phase + 40) % 48) inner) (index i) (pos 0)) (here i)) in
          omega (arith, one, alike);
    }

-- ---- all of them

near_from : (offset : ℕ) (received : List Received) (x : List ℤ) (place more spot : ℕ) → offset < 5
    → place + 64 ≡ spot + more → AllByRecursion IsWideReceived received → IsNearWide offset place received x
    → IsNearAll (trimmed_after more received) (drop spot (stream offset (filtered x)))
near_from offset [] x place more spot small at good near = tt
near_from offset (r ∷ received) x place more spot small at (first, others) (room, here, following) =
    let y : List ℤ = stream offset (filtered x) in
    let silence : ℕ = r.transmission.silence + more in
    let m : ℕ = length (within_flags r) in
    let begin : ℕ = begin_of place r in
    let there : spot + silence ≡ begin + 64 = omega arith in
    let bits = length-body r first in
    let y_long = length-filtered_stream offset x small in
    let gap : List ℤ = take silence (drop spot y) in
    let past : drop silence (drop spot y) ≡ drop (begin + 64) y
    = drop-drop silence spot y ∙ ap (λ n. drop n y) there in
    let rest : drop (8 * m) (drop (begin + 64) y) ≡ drop (begin + 64 + 8 * m) y
    = drop-drop (8 * m) (begin + 64) y in (
      gap,
      take (8 * m) (drop (begin + 64) y),
      drop (begin + 64 + 8 * m) y,
      sym (ap (λ l. gap ++ l)
          (ap (λ l. take (8 * m) (drop (begin + 64) y) ++ l) (sym rest) ∙ take-append-drop (8 * m) (drop (begin + 64) y)
          ∙ sym past) ∙ take-append-drop silence (drop spot y)),
      length-take-le silence (drop spot y) (omega (arith, length-drop spot y, y_long, bits)),
      part_near offset begin r x small first room here,
      near_from offset received x (end_of place r) 128 (begin + 64 + 8 * m) small (omega (arith, bits)) others following,
    )

pub near_inside : (offset : ℕ) (received : List Received) (x : List ℤ) → offset < 5 → All IsWideReceived received
    → IsNearWide offset 0 received x → IsNearAll (inside received) (stream offset (filtered x))
near_inside offset received x small good near =
    near_from offset received x 0 64 0 small (omega arith) (recursion_from_All IsWideReceived received good) near

trimmed_good : (more : ℕ) (r : Received) → IsWideReceived r → IsReceived (trimmed more r)
trimmed_good more r good = record {
  transmission = record {
    frames = good.frames;
    opening = omega (arith, good.opening);
    closing = omega (arith, good.closing);
  };
  phase = record { below = omega arith; sixth = omega (arith, good.phase.sixth) };
  least = omega (arith, good.least);
  most = omega (arith, good.most);
}

all_good : (more : ℕ) (received : List Received) → AllByRecursion IsWideReceived received
    → AllByRecursion IsReceived (trimmed_after more received)
all_good more [] good = tt
all_good more (r ∷ received) (first, others) = (trimmed_good more r first, all_good 128 received others)

pub inside_good : (received : List Received) → All IsWideReceived received → All IsReceived (inside received)
inside_good received good =
    All-from_recursion IsReceived (inside received)
    (all_good 64 received (recursion_from_All IsWideReceived received good))

frames_from : (more : ℕ) (received : List Received)
    → frames_of (transmissions_of (trimmed_after more received)) ≡ frames_of (transmissions_of received)
frames_from more [] = refl
frames_from more (r ∷ received) =
    flat_map-cons (λ (t : Transmission). t.frames) (trimmed more r).transmission
    (transmissions_of (trimmed_after 128 received))
    ∙ ap (λ fs. r.transmission.frames ++ fs) (frames_from 128 received)
    ∙ sym (flat_map-cons (λ (t : Transmission). t.frames) r.transmission (transmissions_of received))

-- the frames are the same
pub frames_inside : (received : List Received)
    → frames_of (transmissions_of (inside received)) ≡ frames_of (transmissions_of received)
frames_inside received = frames_from 64 received

-- the first stream is each fifth filtered sample
pub first_stream : (x : List ℤ) → stream 0 (filtered x) ≡ decimated x
first_stream x =
    let size : length (stream 0 (filtered x)) ≡ (length x + 4 - 0) / 5 = length-filtered_stream 0 x (omega arith) in
    let others : length (decimated x) ≡ (length x + 4) / 5
    = length-map-range_with_len (λ k. filtered_at x (5 * k)) 0 ((length x + 4) / 5) in
    ext_get_or (pos 0) (stream 0 (filtered x)) (decimated x) (omega arith)
    (λ k below.
    let same : 5 * k + 0 ≡ 5 * k = omega arith in
    stream-place 0 (filtered x) k (pos 0) below
    ∙ ap (λ n. get_or (filtered x) n (pos 0)) same
    ∙ sym (decimated_place x k (omega arith)))
