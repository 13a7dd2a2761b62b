-- The last seven of samples, the windows that follow them, and the last seven of more samples.
use Rattle.slicer_bank.proofs.Common.{◌≡◌, ℕ, ◌+◌, ◌-◌, ◌*◌, ◌<◌, ◌≤◌, ℤ, pos, List, [], ◌∷◌, ◌++◌, length, take, drop}
use Rattle.slicer_bank.proofs.Common.{ap, sym, ◌∙◌, arith, append_assoc, length-append, length-drop, drop-append-add}
use Rattle.slicer_bank.proofs.Common.{take-append_seam, drop-append-le, drop-drop, take_all, length-take-le}
use Rattle.slicer_bank.proofs.Common.{length-replicate, length_push, tone_of, window_at, windows_in, tones_at, silence}
use Rattle.slicer_bank.proofs.Common.{last_seven}
use borrow.Rule.Slice.PartMut.{put_mid}
use Rattle.std.proofs.lemmas.Slice.{take-put_mid}
use Rattle.std.proofs.lemmas.List.{drop-take}
use Rattle.offset_slicers.proofs.SlicerLemmas.{tones_at-push_one}

-- they are those of the last seven and what follows
pub last_seven-append : (x y : List ℤ) → last_seven (x ++ y) ≡ drop (length y) (last_seven x ++ y)
last_seven-append x y =
    let inside : length x ≤ length (silence ++ x) = omega (arith, length-append silence x) in
    ap (λ n. drop n (silence ++ (x ++ y))) (length-append x y)
    ∙ ap (λ l. drop (length x + length y) l) (sym (append_assoc silence x y))
    ∙ sym (drop-drop (length y) (length x) ((silence ++ x) ++ y))
    ∙ ap (drop (length y)) (drop-append-le (length x) (silence ++ x) y inside)

pub length-last_seven : (x : List ℤ) → length (last_seven x) ≡ 7
length-last_seven x = omega (
  arith,
  length-drop (length x) (silence ++ x),
  length-append silence x,
  length-replicate 7 (pos 0),
)

-- without silence, if there are seven
pub last_seven_whole : (x : List ℤ) → 7 ≤ length x → last_seven x ≡ drop (length x - 7) x
last_seven_whole x enough =
    let at : length x ≡ length silence + (length x - 7) = omega (arith, length-replicate 7 (pos 0)) in
    ap (λ n. drop n (silence ++ x)) at ∙ drop-append-add silence x (length x - 7)

-- the window of an offset that a sample ends
window_is : (offset : ℕ) (x : List ℤ) (sample : ℤ) (w : ℕ) → offset + 8 * w ≡ length x - 7 → offset + 8 * w ≤ length x
    → length (drop (length x - 7) x ++ sample ∷ []) ≤ 8 → window_at offset (x ++ sample ∷ []) w
    ≡ drop (length x - 7) x ++ sample ∷ []
unfolding window_at
window_is offset x sample w at inside short =
    ap (take 8) (drop-append-le (offset + 8 * w) x (sample ∷ []) inside)
    ∙ ap (λ n. take 8 (drop n x ++ sample ∷ [])) at
    ∙ take_all 8 (drop (length x - 7) x ++ sample ∷ []) short

-- a sample that ends a window of an offset adds the tone of the last seven and that sample
pub tones_at-seven : (offset k : ℕ) (x : List ℤ) (sample : ℤ) → length x + 1 ≡ offset + 8 * (k + 1) → offset < 8
    → tones_at offset (x ++ sample ∷ []) ≡ tones_at offset x ++ tone_of (last_seven x ++ sample ∷ []) ∷ []
tones_at-seven offset k x sample ends small =
    let at : offset + 8 * windows_in offset (length x) ≡ length x - 7 = omega arith in
    let inside : offset + 8 * windows_in offset (length x) ≤ length x = omega arith in
    let short : length (drop (length x - 7) x ++ sample ∷ []) ≤ 8 =
    omega (arith, length_push (drop (length x - 7) x) sample, length-drop (length x - 7) x) in
    let window : window_at offset (x ++ sample ∷ []) (windows_in offset (length x)) ≡ last_seven x ++ sample ∷ []
    = window_is offset x sample (windows_in offset (length x)) at inside short
    ∙ ap (λ l. l ++ sample ∷ []) (sym (last_seven_whole x (omega arith))) in
    tones_at-push_one offset x sample (omega arith) ∙ ap (λ w. tones_at offset x ++ tone_of w ∷ []) window

-- after a block of fewer than seven samples: the end of the seven before it and the block
pub seven_after_short : (x block bridge : List ℤ) → take (7 + length block) bridge ≡ last_seven x ++ block
    → take (length block + 7 - length block) (drop (length block) bridge) ≡ last_seven (x ++ block)
seven_after_short x block bridge is =
    let n : ℕ = length block in
    let seven : n + 7 - n ≡ 7 = omega arith in
    let sum : n + 7 ≡ 7 + n = omega arith in
    ap (λ m. take m (drop n bridge)) seven ∙ sym (drop-take n 7 bridge) ∙ ap (λ m. drop n (take m bridge)) sum
    ∙ ap (drop n) is
    ∙ sym (last_seven-append x block)

-- after a longer block: its own last seven
seven_after : (x block : List ℤ) → 7 ≤ length block → drop (length block - 7) block ≡ last_seven (x ++ block)
seven_after x block long =
    let at : length block ≡ length (last_seven x) + (length block - 7) = omega (arith, length-last_seven x) in
    sym (last_seven-append x block ∙ ap (λ n. drop n (last_seven x ++ block)) at
    ∙ drop-append-add (last_seven x) block (length block - 7))

pub seven_after_long : (x block : List ℤ) → 7 ≤ length block
    → take (length block - (length block - 7)) (drop (length block - 7) block) ≡ last_seven (x ++ block)
seven_after_long x block long =
    take_all (length block - (length block - 7)) (drop (length block - 7) block)
    (omega (arith, length-drop (length block - 7) block)) ∙ seven_after x block long

-- after the first seven of a block: those
pub seven_after_first : (x block : List ℤ) → 7 ≤ length block → take 7 block ≡ last_seven (x ++ take 7 block)
seven_after_first x block long =
    let n : length (take 7 block) ≡ 7 = length-take-le 7 block long in
    let none : length (take 7 block) - 7 ≡ 0 = omega arith in
    sym (ap (λ m. drop m (take 7 block)) none) ∙ seven_after x (take 7 block) (omega arith)

-- seven samples and more, written into a row of places: the first places are theirs
pub two_writes : (seven first zeros front back : List ℤ) (k : ℕ) → length seven ≡ 7 → front ≡ seven → back ≡ first
    → take (7 + length first) (put_mid 7 k (front ++ zeros) back) ≡ seven ++ first
two_writes seven first zeros front back k size is more =
    let n : length front ≡ 7 = ap length is ∙ size in
    let all : length (front ++ zeros) ≡ 7 + length zeros = length-append front zeros ∙ ap (λ t. t + length zeros) n in
    let whole : take 7 (front ++ zeros) ≡ front = ap (λ t. take t (front ++ zeros)) (sym n)
    ∙ take-append_seam front zeros in
    take-put_mid 7 k (front ++ zeros) back (7 + length first) (ap (λ t. 7 + length t) (sym more)) (omega arith)
    ∙ ap (λ t. t ++ back) (whole ∙ is) ∙ ap (λ t. seven ++ t) more
