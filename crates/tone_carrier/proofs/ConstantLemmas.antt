-- A constant has no tones. Its windows are all alike, and none runs on from another: the product is at most 14,400
-- times the square of the constant, and the power of both windows, 170 fold, is 21,760 times that square.
use Rattle.std.proofs.Common.{◌≡◌, ℕ, zero, suc, ◌+◌, ◌-◌, ◌*◌, ◌<◌, ◌≤◌, ℤ, pos, negsuc, ◌+ℤ◌, ◌-ℤ◌, ◌*ℤ◌, ◌≤ℤ◌}
use Rattle.std.proofs.Common.{unsigned_abs, List, length, take, replicate, false, refl, ap, ◌∙◌, arith}
use Rattle.std.specs.Prelude.{int_lt}
use Rattle.std.proofs.lemmas.Bool.{cond-false}
use Rattle.std.proofs.lemmas.Int.{ints, unsigned_abs-mul}
use Rattle.std.proofs.lemmas.Nat.{mul-le}
use Rattle.std.proofs.Math.IntN.{*ℤ_comm}
use Rattle.std.proofs.lemmas.List.{take-replicate, drop-replicate, length-replicate}
use Rattle.std.proofs.lemmas.List.FromFn.{get_or-map-range_with_len, length-map-range_with_len}
use Rattle.tone_table.specs.declared.tone.Tone.{Tone}
use Rattle.tone_table.specs.declared.tone.Tone.TheVariants.{Mark, Space}
use Rattle.tone_table.specs.Sine.{wave_sample, cycle_sample, half_wave, quarter}
use Rattle.offset_slicers.specs.Decision.{sum_below, sine_sum, cosine_sum, tone_of}
use Rattle.offset_slicers.specs.Held.{offset_from}
use Rattle.offset_slicers.specs.Windows.{windows_in, window_at}
use Rattle.offset_slicers.proofs.IntegerLemmas.{mul-assoc}
use Rattle.tone_carrier.specs.declared.heard_window.HeardWindow.{HeardWindow}
use Rattle.tone_carrier.specs.HeardWindows.{heard_window, part_of, power, sum_of, square_sum_of}
use Rattle.tone_carrier.specs.RunsOn.{turned_product, runs_on}
use Rattle.tone_carrier.specs.Evidence.{evidence, evidence_with, heard_at, silent}
use Rattle.tone_carrier.specs.Tones.{heard_windows, HasTones}
use Rattle.tone_carrier.proofs.NumberLemmas.{square_least}

abbrev constant : ℤ → List ℤ
constant level = replicate 8 level

-- ---- the sums of a constant: those of a tone's weights, times it

swap : (c w : ℤ) → c *ℤ w ≡ w *ℤ c
swap = *ℤ_comm

-- a sum of eight products of one number with weights, by the sum of the weights
weighed : (c s : ℤ) (a b d e f g h k : ℤ)
    → s ≡ (((((((pos 0 +ℤ c *ℤ a) +ℤ c *ℤ b) +ℤ c *ℤ d) +ℤ c *ℤ e) +ℤ c *ℤ f) +ℤ c *ℤ g) +ℤ c *ℤ h) +ℤ c *ℤ k
    → s ≡ (((((((pos 0 +ℤ a *ℤ c) +ℤ b *ℤ c) +ℤ d *ℤ c) +ℤ e *ℤ c) +ℤ f *ℤ c) +ℤ g *ℤ c) +ℤ h *ℤ c) +ℤ k *ℤ c
weighed c s a b d e f g h k is =
    omega (arith, ints, is, swap c a, swap c b, swap c d, swap c e, swap c f, swap c g, swap c h, swap c k)

sine_size : (tone : Tone) (c : ℤ) → unsigned_abs (sine_sum tone (constant c)) ≤ 7180 * unsigned_abs c
unfolding sine_sum sum_below wave_sample cycle_sample half_wave quarter
sine_size Mark c =
    let is = weighed c (sine_sum Mark (constant c)) (pos 0) (pos 7071) (pos 10000) (pos 7071) (pos 0) (negsuc 7070)
    (negsuc 9999) (negsuc 7070) refl in
    omega (arith, ints, is)
sine_size Space c =
    let is = weighed c (sine_sum Space (constant c)) (pos 0) (pos 9914) (pos 2588) (negsuc 9238) (negsuc 4999)
    (pos 7934) (pos 7071) (negsuc 6087) refl in
    omega (arith, ints, is)

cosine_size : (tone : Tone) (c : ℤ) → unsigned_abs (cosine_sum tone (constant c)) ≤ 7180 * unsigned_abs c
unfolding cosine_sum sum_below wave_sample cycle_sample half_wave quarter
cosine_size Mark c =
    let is = weighed c (cosine_sum Mark (constant c)) (pos 10000) (pos 7071) (pos 0) (negsuc 7070) (negsuc 9999)
    (negsuc 7070) (pos 0) (pos 7071) refl in
    omega (arith, ints, is)
cosine_size Space c =
    let is = weighed c (cosine_sum Space (constant c)) (pos 10000) (pos 1305) (negsuc 9658) (negsuc 3826) (pos 8660)
    (pos 6088) (negsuc 7070) (negsuc 7933) refl in
    omega (arith, ints, is)

part_size : (z : ℤ) (n : ℕ) → unsigned_abs z ≤ 7180 * n → unsigned_abs (part_of z) ≤ 30 * n
part_size (pos m) n small = omega arith
part_size (negsuc m) n small = omega arith

-- ---- its power: 64 times its square

power_of : (c : ℤ) → power (constant c) ≡ pos 64 *ℤ (c *ℤ c)
unfolding power sum_of square_sum_of sum_below
power_of c =
    let sum : sum_of (constant c) ≡ pos 8 *ℤ c = omega (arith, ints) in
    let squares : square_sum_of (constant c) ≡ pos 8 *ℤ (c *ℤ c) = omega (arith, ints) in
    let both : (pos 8 *ℤ c) *ℤ (pos 8 *ℤ c) ≡ pos 8 *ℤ (pos 8 *ℤ (c *ℤ c))
    = mul-assoc (pos 8) c (pos 8 *ℤ c) ∙ ap (λ z. pos 8 *ℤ z) (swap c (pos 8 *ℤ c) ∙ mul-assoc (pos 8) c c) in
    (λ i. pos 64 *ℤ squares i -ℤ pos 7 *ℤ (sum i *ℤ sum i)) ∙ omega (arith, ints, both)

-- ---- two windows of it

-- squares by sizes
square_size : (z : ℤ) (m n : ℕ) → unsigned_abs z ≤ m * n → (z *ℤ z) ≤ℤ pos ((m * m) * (n * n))
square_size z m n small =
    let size = mul-le (unsigned_abs z) (unsigned_abs z) (m * n) (m * n) small small in
    let same : (m * n) * (m * n) ≡ (m * m) * (n * n) = grind arith in
    omega (arith, ints, unsigned_abs-mul z z)

square_is : (z : ℤ) → z *ℤ z ≡ pos (unsigned_abs z * unsigned_abs z)
square_is z = omega (arith, ints, unsigned_abs-mul z z, square_least z)

least_below : (a b : ℤ) → b ≤ℤ a → int_lt a b ≡ false
least_below a b le = grind (arith, ints)

product_small : (tone : Tone) (v : HeardWindow) (n : ℕ) → unsigned_abs v.sine ≤ 30 * n → unsigned_abs v.cosine ≤ 30 * n
    → turned_product tone v v ≤ℤ pos (14400 * (n * n))
product_small Mark v n a b =
    let sine = square_size v.sine 30 n a in let cosine = square_size v.cosine 30 n b in omega (arith, ints)
product_small Space v n a b =
    let sine = square_size v.sine 30 n a in
    let cosine = square_size v.cosine 30 n b in
    let least_sine = square_least v.sine in
    let least_cosine = square_least v.cosine in
    omega (arith, ints, *ℤ_comm v.cosine v.sine)

-- no window of a constant runs on from one of it
stands_still : (c : ℤ) → runs_on (heard_window (constant c)) (heard_window (constant c)) ≡ false
unfolding heard_window
stands_still c =
    let w = constant c in
    let v = heard_window w in
    let n = unsigned_abs c in
    let small = product_small (tone_of w) v n (part_size (sine_sum (tone_of w) w) n (sine_size (tone_of w) c))
    (part_size (cosine_sum (tone_of w) w) n (cosine_size (tone_of w) c)) in
    let loud : v.power ≡ pos 64 *ℤ pos (n * n) = power_of c ∙ ap (λ z. pos 64 *ℤ z) (square_is c) in
    least_below (pos 170 *ℤ (v.power +ℤ v.power)) (turned_product (tone_of w) v v) (omega (arith, ints, small, loud))

-- ---- all windows of it

constant_windows : (c : ℤ) (count offset k : ℕ) → k < windows_in offset count
    → window_at offset (replicate count c) k ≡ constant c
unfolding window_at
constant_windows c count offset k below =
    let at : ℕ = offset + 8 * k in
    ap (take 8) (drop-replicate at count c) ∙ take-replicate 8 (count - at) c (omega arith)

heard_constant : (c : ℤ) (count offset k : ℕ) → k < length (heard_windows offset (replicate count c))
    → heard_at (heard_windows offset (replicate count c)) k ≡ heard_window (constant c)
unfolding heard_windows
heard_constant c count offset k below =
    let n : ℕ = windows_in offset (length (replicate count c)) in
    let size : length (heard_windows offset (replicate count c)) ≡ n
    = length-map-range_with_len (λ j. heard_window (window_at offset (replicate count c) j)) 0 n in
    get_or-map-range_with_len (λ j. heard_window (window_at offset (replicate count c) j)) 0 n k k silent
    (omega arith) (omega arith)
    ∙ ap heard_window (constant_windows c count offset k (omega (arith, length-replicate count c)))

none_found : (windows : List HeardWindow) (w : HeardWindow) → runs_on w w ≡ false
    → ((k : ℕ) → k < length windows → heard_at windows k ≡ w) → (k : ℕ) → k < length windows
    → evidence windows k ≡ 0
unfolding evidence
none_found windows w still same zero below = refl
none_found windows w still same (suc k) below =
    (λ i. evidence_with (none_found windows w still same k (omega arith) i) (same k (omega arith) i)
    (same (suc k) below i))
    ∙ cond-false (runs_on w w) _ 0 still

pub constant_has_no_tones : (begin count : ℕ) (c : ℤ) → HasTones begin (replicate count c) → ⊥
constant_has_no_tones begin count c tones =
    let offset : ℕ = offset_from (2 * tones.half) begin in
    let shown = tones.shown in
    let none = none_found (heard_windows offset (replicate count c)) (heard_window (constant c)) (stands_still c)
    (heard_constant c count offset) shown.found shown.within in
    let full = shown.full in
    absurd (omega arith)
