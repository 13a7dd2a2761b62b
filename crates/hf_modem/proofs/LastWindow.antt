-- What one sample more changes: the window that ends with it, and the tones and bits of an offset.
use Rattle.hf_modem.proofs.Common.{◌≡◌, ◌↔◌, inl, inr, ℕ, ◌+◌, ◌-◌, ◌*◌, ◌/◌, ◌%◌, ◌<◌, ◌≤◌, ℤ, pos, List, [], ◌∷◌}
use Rattle.hf_modem.proofs.Common.{◌++◌, Bool, true, length, take, drop, set, nat_eq, ap, sym, ◌∙◌, arith}
use Rattle.hf_modem.proofs.Common.{length-append, append_assoc, cases_eq, take_all, take_more_set, length-set}
use Rattle.hf_modem.proofs.Common.{length_push, length-replicate, append-nil, Tone, bits_of, tone_of, windows_in}
use Rattle.hf_modem.proofs.Common.{window_at, tones_at, bits, last_window}
use Rattle.std.proofs.Common.{◌⊎◌, length-drop}
use Rattle.std.specs.List.{copy_within}
use Rattle.std.proofs.Math.Seq.{drop-append-add}
use Rattle.std.proofs.lemmas.Bool.{eq-eqb, eqb-true}
use Rattle.std.proofs.lemmas.List.{drop-append-le, drop-drop}
use Rattle.std.proofs.lemmas.List.Edits.{take-paste}
use Rattle.hf_modem.specs.Held.{silence}
use Rattle.offset_slicers.proofs.TonesOfWindows.{tones_of-push_none, tones_of-push_one}

-- ---- the last 32 samples

pub length-last_window : (x : List ℤ) → length (last_window x) ≡ 32
length-last_window x = omega (
  arith,
  length-drop (length x) (silence ++ x),
  length-append silence x,
  length-replicate 32 (pos 0),
)

-- with one sample more
pub last_window-push : (x : List ℤ) (sample : ℤ) → last_window (x ++ sample ∷ [])
    ≡ drop 1 (last_window x) ++ sample ∷ []
last_window-push x sample =
    let inside : length x ≤ length (silence ++ x) = omega (arith, length-append silence x) in
    let some : 1 ≤ length (last_window x) = omega (arith, length-last_window x) in
    ap (λ n. drop n (silence ++ (x ++ sample ∷ []))) (length_push x sample)
    ∙ ap (λ l. drop (length x + 1) l) (sym (append_assoc silence x (sample ∷ [])))
    ∙ sym (drop-drop 1 (length x) ((silence ++ x) ++ sample ∷ []))
    ∙ ap (drop 1) (drop-append-le (length x) (silence ++ x) (sample ∷ []) inside)
    ∙ drop-append-le 1 (last_window x) (sample ∷ []) some

-- without silence, if there are 32
last_window_whole : (x : List ℤ) → 32 ≤ length x → last_window x ≡ drop (length x - 32) x
last_window_whole x enough =
    let at : length x ≡ length silence + (length x - 32) = omega (arith, length-replicate 32 (pos 0)) in
    ap (λ n. drop n (silence ++ x)) at ∙ drop-append-add silence x (length x - 32)

-- 32 samples of which the first has gone and a new one has come
pub shifted : (window moved : List ℤ) (sample : ℤ) → length window ≡ 32 → length moved ≡ length window
    → moved ≡ copy_within window 1 32 0
    → set moved 31 sample ≡ drop 1 window ++ sample ∷ []
shifted window moved sample whole same is =
    let rest : length (drop 1 window) ≡ 31 = omega (arith, length-drop 1 window) in
    let size : length (set moved 31 sample) ≤ 31 + 1 = omega (arith, length-set moved 31 sample) in
    sym (take_all (31 + 1) (set moved 31 sample) size)
    ∙ take_more_set moved 31 sample (omega arith)
    ∙ ap (λ w. take 31 w ++ sample ∷ []) is
    ∙ ap (λ w. w ++ sample ∷ []) (take-paste window 0 (drop 1 window) 31 (omega arith) (omega arith))
    ∙ ap (λ w. w ++ sample ∷ []) (take_all 31 (drop 1 window) (omega arith))

-- ---- where a window of an offset ends

-- no window ends, or one does and the windows are one more
pub same_or_ends : (offset count : ℕ) → (windows_in offset (count + 1) ≡ windows_in offset count)
    ⊎ ((k : ℕ) × (count + 1 ≡ offset + 32 * (k + 1)))
same_or_ends offset count = elim (cases_eq (windows_in offset (count + 1)) (windows_in offset count)) [
  | inl same ↦ inl same
  | inr other ↦ inr (windows_in offset count, omega arith)
]

-- a window ends if so many samples, at least 32, leave the offset as the rest of a division by 32
pub ends_by_rest : (offset count : ℕ) → offset < 32 → 32 ≤ count
    → (nat_eq (count % 32) offset ≡ true) ↔ ((k : ℕ) × (count ≡ offset + 32 * (k + 1)))
ends_by_rest offset count small enough = (
  λ same. let rest : count % 32 ≡ offset = eqb-true (count % 32) offset same in (count / 32 - 1, omega arith),
  λ ends. let size = ends.1 in eq-eqb (count % 32) offset (omega arith),
)

-- the window that ends with a sample
window_last : (offset k : ℕ) (x : List ℤ) → length x ≡ offset + 32 * (k + 1) → window_at offset x k ≡ last_window x
unfolding window_at
window_last offset k x ends =
    let at : offset + 32 * k ≡ length x - 32 = omega arith in
    take_all 32 (drop (offset + 32 * k) x) (omega (arith, length-drop (offset + 32 * k) x))
    ∙ ap (λ n. drop n x) at
    ∙ sym (last_window_whole x (omega arith))

-- the tones with the last sample of a window
pub tones_at-last : (offset k : ℕ) (x : List ℤ) (sample : ℤ) → length x + 1 ≡ offset + 32 * (k + 1)
    → tones_at offset (x ++ sample ∷ []) ≡ tones_at offset x ++ tone_of (last_window (x ++ sample ∷ [])) ∷ []
unfolding tones_at window_at
tones_at-last offset k x sample ends =
    let all : List ℤ = x ++ sample ∷ [] in
    let size : length all ≡ length x + 1 = length_push x sample in
    let count : windows_in offset (length x) ≡ k = omega arith in
    tones_of-push_one 32 (omega arith) tone_of offset x sample (omega arith)
    ∙ ap (λ n. tones_at offset x ++ tone_of (window_at offset all n) ∷ []) count
    ∙ ap (λ w. tones_at offset x ++ tone_of w ∷ []) (window_last offset k all (omega arith))

-- the tones with a sample that ends no window
pub tones_at-none : (offset : ℕ) (x : List ℤ) (sample : ℤ) → (((k : ℕ) × (length x + 1 ≡ offset + 32 * (k + 1))) → ⊥)
    → tones_at offset (x ++ sample ∷ []) ≡ tones_at offset x
unfolding tones_at window_at
tones_at-none offset x sample none = elim (same_or_ends offset (length x)) [
  | inl same ↦ tones_of-push_none 32 (omega arith) tone_of offset x sample same
  | inr ends ↦ absurd (none ends)
]

-- ---- bits

-- a sample that ends no window adds no bit
pub bits-push_none : (offset : ℕ) (x : List ℤ) (sample : ℤ) → tones_at offset (x ++ sample ∷ []) ≡ tones_at offset x
    → bits offset (x ++ sample ∷ []) ≡ bits offset x ++ []
unfolding bits
bits-push_none offset x sample none = ap bits_of none ∙ sym (append-nil (bits_of (tones_at offset x)))

-- a sample that ends a window adds the bit of its tone
pub bits-push_one : (offset : ℕ) (x : List ℤ) (sample : ℤ) (tone : Tone) (bit : Bool)
    → tones_at offset (x ++ sample ∷ []) ≡ tones_at offset x ++ tone ∷ []
    → bits_of (tones_at offset x ++ tone ∷ []) ≡ bits_of (tones_at offset x) ++ bit ∷ []
    → bits offset (x ++ sample ∷ []) ≡ bits offset x ++ bit ∷ []
unfolding bits
bits-push_one offset x sample tone bit tones more = ap bits_of tones ∙ more
