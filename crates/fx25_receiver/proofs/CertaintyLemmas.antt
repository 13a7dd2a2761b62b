-- The numbers of bits with more samples.
use Rattle.fx25_receiver.proofs.Common.{◌≡◌, ℕ, ◌+◌, ◌-◌, ◌*◌, ◌<◌, ◌≤◌, ℤ, List, [], ◌∷◌, ◌++◌, length, take, drop}
use Rattle.fx25_receiver.proofs.Common.{map, ap, sym, ◌∙◌, arith, length-append, length_push, take_all, windows_in, last_seven}
use Rattle.std.specs.List.{range_with_len}
use Rattle.std.proofs.lemmas.List.{drop-append-le, length-drop, take-append-le}
use Rattle.std.proofs.lemmas.List.FromFn.{fill_by_all, get_or-map-range_with_len, length-map-range_with_len}
use Rattle.std.proofs.lemmas.List.FromFn.{map-range_with_len_more, take-map-range_with_len}
unfoldable use Rattle.offset_slicers.specs.Windows.{window_at}
use Rattle.slicer_bank.proofs.SevenLemmas.{last_seven_whole}
use Rattle.fx25_receiver.specs.Certainty.{certainty}
use Rattle.fx25_receiver.proofs.Common.{certainties}

pub length-certainties : (offset : ℕ) (x : List ℤ) → length (certainties offset x) ≡ windows_in offset (length x)
unfolding certainties
length-certainties offset x =
    length-map-range_with_len (λ k. certainty (window_at offset x k)) 0 (windows_in offset (length x))

-- a window that lies in the first samples
window-append : (offset : ℕ) (x y : List ℤ) (k : ℕ) → offset + 8 * k + 8 ≤ length x
    → window_at offset (x ++ y) k ≡ window_at offset x k
unfolding window_at
window-append offset x y k inside =
    let at : ℕ = offset + 8 * k in
    ap (take 8) (drop-append-le at x y (omega arith))
    ∙ take-append-le 8 (drop at x) y (omega (arith, length-drop at x))

-- the numbers of the first samples are the first of the numbers
pub certainties-append : (offset : ℕ) (x y : List ℤ)
    → certainties offset x ≡ take (windows_in offset (length x)) (certainties offset (x ++ y))
unfolding certainties
certainties-append offset x y =
    let n : ℕ = windows_in offset (length x) in
    let own : ℕ → ℕ = λ k. certainty (window_at offset x k) in
    let there : ℕ → ℕ = λ k. certainty (window_at offset (x ++ y) k) in
    let size = length-append x y in
    sym (take-map-range_with_len there 0 (windows_in offset (length (x ++ y))) n (omega arith)
    ∙ fill_by_all own (map there (range_with_len 0 n)) n 0 (length-map-range_with_len there 0 n)
    (λ k below. get_or-map-range_with_len there 0 n k k 0 below (omega arith)
    ∙ ap certainty (window-append offset x y k (omega arith))))

-- a sample that ends no window adds no number
pub certainties-push_none : (offset : ℕ) (x : List ℤ) (sample : ℤ)
    → windows_in offset (length x + 1) ≡ windows_in offset (length x)
    → certainties offset (x ++ sample ∷ []) ≡ certainties offset x
certainties-push_none offset x sample none =
    let all : List ℤ = x ++ sample ∷ [] in
    let count : length (certainties offset all) ≡ windows_in offset (length x) =
    length-certainties offset all ∙ ap (windows_in offset) (length_push x sample) ∙ none in
    sym (certainties-append offset x (sample ∷ [])
    ∙ take_all (windows_in offset (length x)) (certainties offset all) (omega arith))

-- the window that a sample ends is the last seven and that sample
last_window : (offset k : ℕ) (x : List ℤ) (sample : ℤ) → length x + 1 ≡ offset + 8 * (k + 1)
    → window_at offset (x ++ sample ∷ []) k ≡ last_seven x ++ sample ∷ []
unfolding window_at
last_window offset k x sample ends =
    let at : offset + 8 * k ≡ length x - 7 = omega arith in
    let last : List ℤ = drop (length x - 7) x in
    let short : length (last ++ sample ∷ []) ≤ 8 = omega (arith, length_push last sample, length-drop (length x - 7) x) in
    ap (λ n. take 8 (drop n (x ++ sample ∷ []))) at
    ∙ ap (take 8) (drop-append-le (length x - 7) x (sample ∷ []) (omega arith))
    ∙ take_all 8 (last ++ sample ∷ []) short
    ∙ ap (λ xs. xs ++ sample ∷ []) (sym (last_seven_whole x (omega arith)))

-- a sample that ends a window adds the number of that window
pub certainties-seven : (offset k : ℕ) (x : List ℤ) (sample : ℤ) → length x + 1 ≡ offset + 8 * (k + 1) → offset < 8
    → certainties offset (x ++ sample ∷ []) ≡ certainties offset x ++ certainty (last_seven x ++ sample ∷ []) ∷ []
unfolding certainties
certainties-seven offset k x sample ends small =
    let all : List ℤ = x ++ sample ∷ [] in
    let there : ℕ → ℕ = λ j. certainty (window_at offset all j) in
    let size = length_push x sample in
    let before : windows_in offset (length x) ≡ k = omega arith in
    let count : windows_in offset (length all) ≡ k + 1 = omega arith in
    let first : map there (range_with_len 0 k) ≡ certainties offset x =
    sym (take-map-range_with_len there 0 (windows_in offset (length all)) k (omega arith))
    ∙ ap (λ n. take n (certainties offset all)) (sym before) ∙ sym (certainties-append offset x (sample ∷ [])) in
    ap (λ m. map there (range_with_len 0 m)) count
    ∙ map-range_with_len_more there 0 k k (omega arith)
    ∙ ap (λ ns. ns ++ there k ∷ []) first
    ∙ ap (λ w. certainties offset x ++ certainty w ∷ []) (last_window offset k x sample ends)
