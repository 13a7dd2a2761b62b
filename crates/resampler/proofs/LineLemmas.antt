-- The windows of a line are those of the samples taken so far, and each fifth of them gives what a decimator gives.
use Rattle.resampler.proofs.Common.{◌≡◌, ℕ, ◌+◌, ◌-◌, ◌*◌, ◌/◌, ◌≤◌, ◌<◌, ℤ, List, [], ◌∷◌, ◌++◌, length, take, drop}
use Rattle.resampler.proofs.Common.{map, ap, sym, ◌∙◌, refl, arith, zero, suc, append_assoc, append-nil, length-append}
use Rattle.resampler.proofs.Common.{map-range_with_len_more, range_with_len, zeros, sample_of_sum}
use Rattle.resampler.proofs.Common.{filtered_at, decimated_first, decimated_settled, last_window}
use Rattle.std.proofs.lemmas.List.{drop-append-le, drop-drop, drop-take, length-take-le, take-append-drop, take-take}
use Rattle.std.proofs.Math.Seq.{take-append-add, take-append_seam}
use Rattle.std.proofs.lemmas.List.FromFn.{length-map-range_with_len}
use Rattle.std.proofs.lemmas.Slice.{take-put_mid}
use borrow.Rule.Slice.PartMut.{put_mid}
use Rattle.resampler.specs.Line.{sample_of_window, each_fifth}
use Rattle.resampler.proofs.WindowLemmas.{length-last_window, window_sum}
use Rattle.resampler.proofs.FilterLemmas.{at_stays, fifths_stay}

-- the last samples of more samples are the end of the last samples and these
last_window-append : (x y : List ℤ) → last_window (x ++ y) ≡ drop (length y) (last_window x ++ y)
last_window-append x y =
    let inside : length x ≤ length (zeros 31 ++ x) = omega (arith, length-append (zeros 31) x) in
    ap (λ n. drop n (zeros 31 ++ (x ++ y))) (length-append x y)
    ∙ ap (λ l. drop (length x + length y) l) (sym (append_assoc (zeros 31) x y))
    ∙ sym (drop-drop (length y) (length x) ((zeros 31 ++ x) ++ y))
    ∙ ap (drop (length y)) (drop-append-le (length x) (zeros 31 ++ x) y inside)

-- the window of a line that so many samples of the part end
pub window_of_line : (x part line : List ℤ) (n : ℕ) → n ≤ length part
    → take (31 + length part) line ≡ last_window x ++ part
    → take 31 (drop n line) ≡ last_window (x ++ take n part)
window_of_line x part line n inside is =
    let w : List ℤ = last_window x in
    let size : n ≡ length (take n part) = sym (length-take-le n part inside) in
    let seam : n + 31 ≡ length w + n = omega (arith, length-last_window x) in
    sym (drop-take n 31 line)
    ∙ ap (drop n) (sym (take-take (n + 31) (31 + length part) line (omega arith))
    ∙ ap (take (n + 31)) is
    ∙ ap (λ m. take m (w ++ part)) seam
    ∙ take-append-add w part n)
    ∙ ap (λ m. drop m (w ++ take n part)) size
    ∙ sym (last_window-append x (take n part))

-- a window and a part, written into a row of places: the first places are theirs
pub two_writes : (window part rest front back : List ℤ) (k : ℕ) → length window ≡ 31 → front ≡ window → back ≡ part
    → take (31 + length part) (put_mid 31 k (front ++ rest) back) ≡ window ++ part
two_writes window part rest front back k size is more =
    let n : length front ≡ 31 = ap length is ∙ size in
    let all : length (front ++ rest) ≡ 31 + length rest = length-append front rest ∙ ap (λ t. t + length rest) n in
    let whole : take 31 (front ++ rest) ≡ front = ap (λ t. take t (front ++ rest)) (sym n)
    ∙ take-append_seam front rest in
    take-put_mid 31 k (front ++ rest) back (31 + length part) (ap (λ t. 31 + length t) (sym more)) (omega arith)
    ∙ ap (λ t. t ++ back) (whole ∙ is) ∙ ap (λ t. window ++ t) more

-- a place further on
map_on : (f g : ℕ → ℤ) (n count : ℕ) → ((k : ℕ) → k < count → f (n + k) ≡ g k)
    → map f (range_with_len 0 (n + count)) ≡ map f (range_with_len 0 n) ++ map g (range_with_len 0 count)
map_on f g n zero agree =
    let still : n + 0 ≡ n = omega arith in
    ap (λ k. map f (range_with_len 0 k)) still ∙ sym (append-nil (map f (range_with_len 0 n)))
map_on f g n (suc count) agree =
    let before : List ℤ = map f (range_with_len 0 n) in
    let first : List ℤ = map g (range_with_len 0 count) in
    let more : n + suc count ≡ n + count + 1 = omega arith in
    let last : count + 1 ≡ suc count = omega arith in
    ap (λ k. map f (range_with_len 0 k)) more
    ∙ map-range_with_len_more f 0 (n + count) (n + count) (omega arith)
    ∙ ap (λ l. l ++ f (n + count) ∷ []) (map_on f g n count (λ k below. agree k (omega arith)))
    ∙ ap (λ z. (before ++ first) ++ z ∷ []) (agree count (omega arith))
    ∙ append_assoc before first (g count ∷ [])
    ∙ ap (λ l. before ++ l) (sym (map-range_with_len_more g 0 count count (omega arith)))
    ∙ ap (λ k. before ++ map g (range_with_len 0 k)) last

-- the filtered sample at a place, of the window that the sample fifteen places on ends
window_gives : (x part line : List ℤ) (m n : ℕ) → n ≤ length part
    → take (31 + length part) line ≡ last_window x ++ part
    → length x + n ≡ m + 16
    → filtered_at (x ++ part) m ≡ sample_of_window (take 31 (drop n line))
window_gives x part line m n inside is at =
    let u : List ℤ = x ++ take n part in
    let size : length u ≡ m + 16 = omega (arith, length-append x (take n part), length-take-le n part inside) in
    ap (λ y. filtered_at (x ++ y) m) (sym (take-append-drop n part))
    ∙ ap (λ y. filtered_at y m) (sym (append_assoc x (take n part) (drop n part)))
    ∙ at_stays u (drop n part) m (omega arith)
    ∙ ap sample_of_sum (sym (window_sum 16 15 m u refl size))
    ∙ ap sample_of_window (sym (window_of_line x part line n inside is))

-- each fifth window of a line gives what its part settles
pub fifths_settled : (x part line : List ℤ) (left count : ℕ) → take (31 + length part) line ≡ last_window x ++ part
    → left + length x ≡ 15 + 5 * ((length x - 15 + 4) / 5)
    → count ≡ (length part + 4 - left) / 5
    → decimated_settled (x ++ part) ≡ decimated_settled x ++ each_fifth line (left + 1) count
fifths_settled x part line left count is at some =
    let y : List ℤ = x ++ part in
    let n : ℕ = (length x - 15 + 4) / 5 in
    let all : (length y - 15 + 4) / 5 ≡ n + count = omega (arith, length-append x part) in
    ap (λ k. decimated_first k y) all
    ∙ map_on (λ k. filtered_at y (5 * k)) (λ k. sample_of_window (take 31 (drop (left + 1 + 5 * k) line))) n count
    (λ k below. window_gives x part line (5 * (n + k)) (left + 1 + 5 * k) (omega arith) is (omega arith))
    ∙ ap (λ l. l ++ each_fifth line (left + 1) count) (fifths_stay n x part (omega arith))

-- how many samples are to come after a part
pub left_after : (size part left count : ℕ) → left + size ≡ 15 + 5 * ((size - 15 + 4) / 5)
    → count ≡ (part + 4 - left) / 5
    → left + 5 * count - part + (size + part) ≡ 15 + 5 * ((size + part - 15 + 4) / 5)
left_after size part left count at some = omega arith

-- what was written to the front
pub take_written : (line : List ℤ) (first count : ℕ) (written rest : List ℤ) → written ≡ each_fifth line first count
    → take count (written ++ rest) ≡ each_fifth line first count
take_written line first count written rest is =
    let size : length written ≡ count = ap length is
    ∙ length-map-range_with_len (λ k. sample_of_window (take 31 (drop (first + 5 * k) line))) 0 count in
    ap (λ n. take n (written ++ rest)) (sym size) ∙ take-append_seam written rest ∙ is
