-- What is heard in the windows of samples that one sample more follows.
use Rattle.std.proofs.Common.{◌≡◌, ℕ, ◌+◌, ◌-◌, ◌*◌, ◌<◌, ◌≤◌, ℤ, List, [], ◌∷◌, ◌++◌, length, map, take, drop, ap, sym}
use Rattle.std.proofs.Common.{◌∙◌, arith, length-drop, inl, inr, length-append}
use Rattle.std.specs.List.{range_with_len}
use Rattle.std.proofs.Math.Seq.{drop-append-add}
use Rattle.std.proofs.lemmas.Bool.{cases_lt}
use Rattle.std.proofs.lemmas.List.{drop-append-le, take-append-le, length_push, get_or_append_left, get_or-append_right}
use Rattle.std.proofs.lemmas.List.FromFn.{fill_by_all, get_or-map-range_with_len, length-map-range_with_len}
use Rattle.std.proofs.lemmas.List.FromFn.{map-range_with_len_more}
use Rattle.offset_slicers.specs.Windows.{windows_in, window_at}
use Rattle.tone_carrier.specs.declared.heard_window.HeardWindow.{HeardWindow}
use Rattle.tone_carrier.specs.Evidence.{silent}
use Rattle.tone_carrier.specs.HeardWindows.{heard_window}
use Rattle.tone_carrier.specs.Tones.{heard_windows}

-- functions that agree below a number give the same list up to it
agree : (f g : ℕ → HeardWindow) (n : ℕ) → ((k : ℕ) → k < n → f k ≡ g k)
    → map f (range_with_len 0 n) ≡ map g (range_with_len 0 n)
agree f g n same =
    fill_by_all g (map f (range_with_len 0 n)) n silent (length-map-range_with_len f 0 n)
    (λ k below. get_or-map-range_with_len f 0 n k k silent below (omega arith) ∙ same k below)

-- a window that lies in the first samples is the same whatever follows
window_at-append : (offset : ℕ) (x y : List ℤ) (k : ℕ) → offset + 8 * k + 8 ≤ length x
    → window_at offset (x ++ y) k ≡ window_at offset x k
unfolding window_at
window_at-append offset x y k inside =
    let at : ℕ = offset + 8 * k in
    ap (take 8) (drop-append-le at x y (omega arith))
    ∙ take-append-le 8 (drop at x) y (omega (arith, length-drop at x))

abbrev pub heard : ℕ → List ℤ → ℕ → HeardWindow
heard offset x k = heard_window (window_at offset x k)

same_windows : (offset : ℕ) (x : List ℤ) (sample : ℤ) (k : ℕ) → k < windows_in offset (length x)
    → heard offset (x ++ sample ∷ []) k ≡ heard offset x k
same_windows offset x sample k below = ap heard_window (window_at-append offset x (sample ∷ []) k (omega arith))

-- a sample that ends no window adds none
pub heard_windows-push_none : (offset : ℕ) (x : List ℤ) (sample : ℤ)
    → windows_in offset (length x + 1) ≡ windows_in offset (length x)
    → heard_windows offset (x ++ sample ∷ []) ≡ heard_windows offset x
unfolding heard_windows
heard_windows-push_none offset x sample none =
    let count : windows_in offset (length (x ++ sample ∷ [])) ≡ windows_in offset (length x)
    = ap (windows_in offset) (length_push x sample) ∙ none in
    ap (λ n. map (heard offset (x ++ sample ∷ [])) (range_with_len 0 n)) count
    ∙ agree (heard offset (x ++ sample ∷ [])) (heard offset x) (windows_in offset (length x))
    (same_windows offset x sample)

-- a sample that ends a window adds that one
pub heard_windows-push_one : (offset : ℕ) (x : List ℤ) (sample : ℤ)
    → windows_in offset (length x + 1) ≡ windows_in offset (length x) + 1
    → heard_windows offset (x ++ sample ∷ [])
    ≡ heard_windows offset x ++ heard offset (x ++ sample ∷ []) (windows_in offset (length x)) ∷ []
unfolding heard_windows
heard_windows-push_one offset x sample one =
    let n : ℕ = windows_in offset (length x) in
    let all : ℕ → HeardWindow = heard offset (x ++ sample ∷ []) in
    let count : windows_in offset (length (x ++ sample ∷ [])) ≡ n + 1
    = ap (windows_in offset) (length_push x sample) ∙ one in
    ap (λ m. map all (range_with_len 0 m)) count
    ∙ map-range_with_len_more all 0 n n (omega arith)
    ∙ ap (λ ws. ws ++ all n ∷ []) (agree all (heard offset x) n (same_windows offset x sample))

-- no window lies in no samples
pub heard_windows-none : (offset : ℕ) → heard_windows offset [] ≡ []
unfolding heard_windows
heard_windows-none offset =
    let none : windows_in offset 0 ≡ 0 = omega arith in
    ap (λ n. map (heard offset []) (range_with_len 0 n)) none

-- after whole windows, the windows of an offset are those of what follows
window_at-aligned : (offset q : ℕ) (x y : List ℤ) (k : ℕ) → length x ≡ offset + 8 * q → q ≤ k
    → window_at offset (x ++ y) k ≡ window_at 0 y (k - q)
unfolding window_at
window_at-aligned offset q x y k whole past =
    let at : offset + 8 * k ≡ length x + (0 + 8 * (k - q)) = omega arith in
    ap (λ n. take 8 (drop n (x ++ y))) at ∙ ap (take 8) (drop-append-add x y (0 + 8 * (k - q)))

-- what is heard after whole windows is what is heard in what follows
pub heard_windows-aligned : (offset q : ℕ) (x y : List ℤ) → length x ≡ offset + 8 * q
    → heard_windows offset (x ++ y) ≡ heard_windows offset x ++ heard_windows 0 y
unfolding heard_windows
heard_windows-aligned offset q x y whole =
    let n : ℕ = windows_in 0 (length y) in
    let all : ℕ = windows_in offset (length (x ++ y)) in
    let here : windows_in offset (length x) ≡ q = omega arith in
    let count : all ≡ q + n = omega (arith, length-append x y) in
    let front : List HeardWindow = map (heard offset x) (range_with_len 0 (windows_in offset (length x))) in
    let back : List HeardWindow = map (heard 0 y) (range_with_len 0 n) in
    let size_front : length front ≡ q
    = length-map-range_with_len (heard offset x) 0 (windows_in offset (length x)) ∙ here in
    let size_back = length-map-range_with_len (heard 0 y) 0 n in
    sym (fill_by_all (heard offset (x ++ y)) (front ++ back) all silent
    (omega (arith, length-append front back, size_front, size_back, count))
    (λ k below. elim (cases_lt k q) [
      | inl lt ↦ get_or_append_left front back silent k (omega arith)
          ∙ get_or-map-range_with_len (heard offset x) 0 (windows_in offset (length x)) k k silent (omega arith)
          (omega arith)
          ∙ ap heard_window (sym (window_at-append offset x y k (omega arith)))
      | inr ge ↦ get_or-append_right front back q k silent size_front ge
          ∙ get_or-map-range_with_len (heard 0 y) 0 n (k - q) (k - q) silent (omega arith) (omega arith)
          ∙ ap heard_window (sym (window_at-aligned offset q x y k whole ge))
    ]))
