-- The tones of samples that are put together and cut, whatever the size of a window and the decision of its tone.
use Rattle.offset_slicers.proofs.Common.{◌≡◌, ℕ, zero, suc, ◌+◌, ◌-◌, ◌*◌, ◌/◌, ◌<◌, ◌≤◌, ℤ, List, [], ◌∷◌, ◌++◌}
use Rattle.offset_slicers.proofs.Common.{length, map, take, drop, refl, ap, sym, ◌∙◌, arith, length-append, length-drop}
use Rattle.offset_slicers.proofs.Common.{mul-add, mul-le-mul_left, drop-append-le, append-nil, take_all, length_push}
use Rattle.offset_slicers.proofs.Common.{get_or-map-range_with_len, range_with_len, Tone, Mark}
use Rattle.std.proofs.Common.{min}
use Rattle.std.proofs.Math.Nat.{mul-div-le, div-mul-le_self, mul-div_cancel_left, mul-add-div}
use Rattle.std.proofs.Math.Seq.{drop-append-add}
use Rattle.std.proofs.lemmas.Nat.{le-div}
use Rattle.std.proofs.lemmas.List.{take-append-le, append_assoc, length-take, take-take}
use Rattle.std.proofs.lemmas.List.FromFn.{length-map-range_with_len, take-map-range_with_len, map-range_with_len_more}
use Rattle.std.proofs.lemmas.List.FromFn.{fill_by_all}

-- ---- lists by place

-- f at 0 to q + n - 1 is f at 0 to q - 1 and then at q to q + n - 1
map_split : {X : Type 0} (f : ℕ → X) (q n : ℕ)
    → map f (range_with_len 0 (q + n)) ≡ map f (range_with_len 0 q) ++ map (λ j. f (q + j)) (range_with_len 0 n)
map_split f q zero =
    let none : q + zero ≡ q = omega arith in
    ap (λ m. map f (range_with_len 0 m)) none ∙ sym (append-nil (map f (range_with_len 0 q)))
map_split f q (suc n) =
    let one : q + suc n ≡ (q + n) + 1 = omega arith in
    let last : suc n ≡ n + 1 = omega arith in
    ap (λ m. map f (range_with_len 0 m)) one
    ∙ map-range_with_len_more f 0 (q + n) (q + n) (omega arith)
    ∙ ap (λ xs. xs ++ f (q + n) ∷ []) (map_split f q n)
    ∙ append_assoc (map f (range_with_len 0 q)) (map (λ j. f (q + j)) (range_with_len 0 n)) (f (q + n) ∷ [])
    ∙ ap (λ xs. map f (range_with_len 0 q) ++ xs) (sym (map-range_with_len_more (λ j. f (q + j)) 0 n n (omega arith)))
    ∙ ap (λ m. map f (range_with_len 0 q) ++ map (λ j. f (q + j)) (range_with_len 0 m)) (sym last)

map-agree : {X : Type 0} (f g : ℕ → X) (ks : List ℕ) → ((k : ℕ) → f k ≡ g k) → map f ks ≡ map g ks
map-agree f g [] agree = refl
map-agree f g (k ∷ ks) agree = ap (λ y. y ∷ map f ks) (agree k) ∙ ap (λ ys. g k ∷ ys) (map-agree f g ks agree)

-- the first of a list's items, if it is the beginning of another
pub first_of : {A : Type 0} (xs ys : List A) (n index : ℕ) → xs ≡ take n ys → index < length xs
    → (index < length ys) × (take (index + 1) ys ≡ take (index + 1) xs)
first_of xs ys n index is below =
    let size : length xs ≡ min n (length ys) = ap length is ∙ length-take n ys in
    (omega arith, sym (ap (take (index + 1)) is ∙ take-take (index + 1) n ys (omega arith)))

-- ---- windows and tones

-- how many windows of a size lie in so many samples, from an offset on
abbrev windows_of : ℕ → ℕ → ℕ → ℕ
windows_of size offset count = (count - offset) / size

abbrev window_of : ℕ → ℕ → List ℤ → ℕ → List ℤ
window_of size offset x k = take size (drop (offset + size * k) x)

-- the tones of the windows of an offset
abbrev tones_of : ℕ → (List ℤ → Tone) → ℕ → List ℤ → List Tone
tones_of size tone_of offset x =
    map (λ k. tone_of (window_of size offset x k)) (range_with_len 0 (windows_of size offset (length x)))

pub length-tones_of : (size : ℕ) (tone_of : List ℤ → Tone) (offset : ℕ) (x : List ℤ)
    → length (tones_of size tone_of offset x) ≡ windows_of size offset (length x)
length-tones_of size tone_of offset x =
    length-map-range_with_len (λ k. tone_of (window_of size offset x k)) 0 (windows_of size offset (length x))

module _ (size : ℕ) (some : 0 < size) (tone_of : List ℤ → Tone) where
  -- in more samples lie no fewer windows
  windows-rise : (offset n m : ℕ) → n ≤ m → windows_of size offset n ≤ windows_of size offset m
  windows-rise offset n m le =
      le-div (windows_of size offset n) (m - offset) size some (omega (arith, div-mul-le_self (n - offset) size))

  -- a window of samples ends within them
  window_inside : (offset count k : ℕ) → k < windows_of size offset count → offset + size * k + size ≤ count
  window_inside offset count k below =
      let all : size * (k + 1) ≤ size * windows_of size offset count = mul-le-mul_left size (omega arith) in
      omega (arith, all, mul-div-le (count - offset) size, mul-add size k 1)

  -- a window that lies in the first samples is the same whatever follows
  window_of-append : (offset : ℕ) (x y : List ℤ) (k : ℕ) → offset + size * k + size ≤ length x
      → window_of size offset (x ++ y) k ≡ window_of size offset x k
  window_of-append offset x y k inside =
      let at : ℕ = offset + size * k in
      ap (take size) (drop-append-le at x y (omega arith))
      ∙ take-append-le size (drop at x) y (omega (arith, length-drop at x))

  -- the tones of the first samples are the first of the tones
  pub tones_of-append : (offset : ℕ) (x y : List ℤ)
      → tones_of size tone_of offset x
      ≡ take (windows_of size offset (length x)) (tones_of size tone_of offset (x ++ y))
  tones_of-append offset x y =
      let n : ℕ = windows_of size offset (length x) in
      let tone : ℕ → Tone = λ k. tone_of (window_of size offset x k) in
      let tone_there : ℕ → Tone = λ k. tone_of (window_of size offset (x ++ y) k) in
      let more = windows-rise offset (length x) (length (x ++ y)) (omega (arith, length-append x y)) in
      sym (take-map-range_with_len tone_there 0 (windows_of size offset (length (x ++ y))) n more
      ∙ fill_by_all tone (map tone_there (range_with_len 0 n)) n Mark (length-map-range_with_len tone_there 0 n)
      (λ k below. get_or-map-range_with_len tone_there 0 n k k Mark below (omega arith)
      ∙ ap tone_of (window_of-append offset x y k (window_inside offset (length x) k below))))

  -- after whole windows the windows of an offset are those of what follows, from its first sample on
  window_of-aligned : (offset q : ℕ) (x y : List ℤ) (k : ℕ) → length x ≡ offset + size * q
      → window_of size offset (x ++ y) (q + k) ≡ window_of size 0 y k
  window_of-aligned offset q x y k whole =
      let at : offset + size * (q + k) ≡ length x + (0 + size * k) = omega (arith, mul-add size q k) in
      ap (λ n. take size (drop n (x ++ y))) at ∙ ap (take size) (drop-append-add x y (0 + size * k))

  -- the tones after whole windows are those of what follows
  pub tones_of-aligned : (offset q : ℕ) (x y : List ℤ) → length x ≡ offset + size * q
      → tones_of size tone_of offset (x ++ y) ≡ tones_of size tone_of offset x ++ tones_of size tone_of 0 y
  tones_of-aligned offset q x y whole =
      let n : ℕ = windows_of size 0 (length y) in
      let tone : ℕ → Tone = λ k. tone_of (window_of size offset (x ++ y) k) in
      let first : length x - offset ≡ size * q = omega arith in
      let before : windows_of size offset (length x) ≡ q = ap (λ m. m / size) first ∙ mul-div_cancel_left q some in
      let both : length (x ++ y) - offset ≡ size * q + (length y - 0) = omega (arith, length-append x y) in
      let all : windows_of size offset (length (x ++ y)) ≡ q + n
      = ap (λ m. m / size) both ∙ mul-add-div some q (length y - 0) in
      let more : q ≤ windows_of size offset (length (x ++ y)) = omega arith in
      let front : map tone (range_with_len 0 q) ≡ tones_of size tone_of offset x
      = sym (take-map-range_with_len tone 0 (windows_of size offset (length (x ++ y))) q more)
      ∙ ap (λ m. take m (tones_of size tone_of offset (x ++ y))) (sym before) ∙ sym (tones_of-append offset x y) in
      let back : map (λ j. tone (q + j)) (range_with_len 0 n) ≡ tones_of size tone_of 0 y
      = map-agree (λ j. tone (q + j)) (λ j. tone_of (window_of size 0 y j)) (range_with_len 0 n)
      (λ j. ap tone_of (window_of-aligned offset q x y j whole)) in
      ap (λ m. map tone (range_with_len 0 m)) all
      ∙ map_split tone q n
      ∙ ap (λ xs. xs ++ map (λ j. tone (q + j)) (range_with_len 0 n)) front
      ∙ ap (λ xs. tones_of size tone_of offset x ++ xs) back

  -- a sample that ends no window adds no tone
  pub tones_of-push_none : (offset : ℕ) (x : List ℤ) (sample : ℤ)
      → windows_of size offset (length x + 1) ≡ windows_of size offset (length x)
      → tones_of size tone_of offset (x ++ sample ∷ []) ≡ tones_of size tone_of offset x
  tones_of-push_none offset x sample none =
      let count : length (tones_of size tone_of offset (x ++ sample ∷ [])) ≡ windows_of size offset (length x)
      = length-tones_of size tone_of offset (x ++ sample ∷ [])
      ∙ ap (windows_of size offset) (length_push x sample) ∙ none in
      sym (tones_of-append offset x (sample ∷ []) ∙ take_all (windows_of size offset (length x))
      (tones_of size tone_of offset (x ++ sample ∷ [])) (omega arith))

  -- a sample that ends a window adds the tone of that window
  pub tones_of-push_one : (offset : ℕ) (x : List ℤ) (sample : ℤ)
      → windows_of size offset (length x + 1) ≡ windows_of size offset (length x) + 1
      → tones_of size tone_of offset (x ++ sample ∷ [])
      ≡ tones_of size tone_of offset x
      ++ tone_of (window_of size offset (x ++ sample ∷ []) (windows_of size offset (length x))) ∷ []
  tones_of-push_one offset x sample one =
      let all : List ℤ = x ++ sample ∷ [] in
      let n : ℕ = windows_of size offset (length x) in
      let tone : ℕ → Tone = λ k. tone_of (window_of size offset all k) in
      let count : windows_of size offset (length all) ≡ n + 1
      = ap (windows_of size offset) (length_push x sample) ∙ one in
      let fits : n ≤ windows_of size offset (length all) = omega arith in
      ap (λ m. map tone (range_with_len 0 m)) count
      ∙ map-range_with_len_more tone 0 n n (omega arith)
      ∙ ap (λ tones. tones ++ tone n ∷ [])
      (sym (take-map-range_with_len tone 0 (windows_of size offset (length all)) n fits)
      ∙ sym (tones_of-append offset x (sample ∷ [])))
