-- Samples with zeros stuffed between them, one sample more at a time.
use Rattle.resampler.proofs.Common.{◌≡◌, ℕ, ◌+◌, ◌*◌, ◌≤◌, ◌<◌, ℤ, pos, ◌*ℤ◌, List, [], ◌∷◌, ◌++◌, length, map, ap, sym}
use Rattle.resampler.proofs.Common.{refl, ◌∙◌, arith, append_assoc, append-nil, length-append, length_push}
use Rattle.resampler.proofs.Common.{length-replicate, map-range_with_len_more, range_with_len, zeros, weighted_sum}
use Rattle.resampler.proofs.Common.{sample_of_sum, stuffed, interpolated_at, interpolated, last_window, taps, sum_below}
use Rattle.resampler.proofs.Common.{product_of}
use Rattle.std.specs.List.{flat_map}
use Rattle.std.proofs.lemmas.Grind.{flat_map-append}
use Rattle.resampler.proofs.WindowLemmas.{window_sum}
use Rattle.resampler.proofs.SumLemmas.{sum_stays}
use Rattle.resampler.proofs.FilterLemmas.{map_agree}

-- what is given at a place, of samples among which zeros are stuffed
abbrev pub at : List ℤ → ℕ → ℤ
at u n = sample_of_sum (pos 5 *ℤ weighted_sum (zeros 30 ++ u) n)

-- what follows a place does not change it
pub at_stays : (u more : List ℤ) (n : ℕ) → n + 1 ≤ length u → at (u ++ more) n ≡ at u n
at_stays u more n inside =
    let enough : n + 31 ≤ length (zeros 30 ++ u) = omega (
      arith,
      length-append (zeros 30) u,
      length-replicate 30 (pos 0),
    ) in
    ap (λ l. sample_of_sum (pos 5 *ℤ weighted_sum l n)) (sym (append_assoc (zeros 30) u more))
    ∙ ap (λ z. sample_of_sum (pos 5 *ℤ z)) (sum_stays (zeros 30 ++ u) more n enough)

-- it is the sum of the window that ends there
pub at_window : (u : List ℤ) (sample : ℤ) → sample_of_sum (pos 5 *ℤ sum_below (product_of
    (last_window (u ++ sample ∷ [])) taps) 31)
    ≡ at (u ++ sample ∷ []) (length u)
at_window u sample = ap (λ z. sample_of_sum (pos 5 *ℤ z))
    (window_sum 1 30 (length u) (u ++ sample ∷ []) refl (length_push u sample))

pub length-stuffed : (x : List ℤ) → length (stuffed x) ≡ 5 * length x
length-stuffed [] = refl
length-stuffed (sample ∷ x) = omega (arith, length-stuffed x)

pub stuffed-more : (x : List ℤ) (sample : ℤ)
    → (((((stuffed x ++ sample ∷ []) ++ pos 0 ∷ []) ++ pos 0 ∷ []) ++ pos 0 ∷ []) ++ pos 0 ∷ [])
    ≡ stuffed (x ++ sample ∷ [])
stuffed-more x sample =
    let u : List ℤ = stuffed x in
    let joined : (((((u ++ sample ∷ []) ++ pos 0 ∷ []) ++ pos 0 ∷ []) ++ pos 0 ∷ []) ++ pos 0 ∷ [])
    ≡ u ++ sample ∷ pos 0 ∷ pos 0 ∷ pos 0 ∷ pos 0 ∷ [] = simp append_assoc in
    joined
    ∙ sym (flat_map-append (λ s. s ∷ pos 0 ∷ pos 0 ∷ pos 0 ∷ pos 0 ∷ []) x (sample ∷ []))

-- so what is given of one sample more
pub interpolated-more : (x : List ℤ) (sample a b c d e : ℤ)
    → a ≡ at (stuffed x ++ sample ∷ []) (length (stuffed x))
    → b ≡ at ((stuffed x ++ sample ∷ []) ++ pos 0 ∷ []) (length (stuffed x ++ sample ∷ []))
    → c ≡ at (((stuffed x ++ sample ∷ []) ++ pos 0 ∷ []) ++ pos 0 ∷ [])
    (length ((stuffed x ++ sample ∷ []) ++ pos 0 ∷ []))
    → d ≡ at ((((stuffed x ++ sample ∷ []) ++ pos 0 ∷ []) ++ pos 0 ∷ []) ++ pos 0 ∷ [])
    (length (((stuffed x ++ sample ∷ []) ++ pos 0 ∷ []) ++ pos 0 ∷ []))
    → e ≡ at (((((stuffed x ++ sample ∷ []) ++ pos 0 ∷ []) ++ pos 0 ∷ []) ++ pos 0 ∷ []) ++ pos 0 ∷ [])
    (length ((((stuffed x ++ sample ∷ []) ++ pos 0 ∷ []) ++ pos 0 ∷ []) ++ pos 0 ∷ []))
    → interpolated (x ++ sample ∷ []) ≡ interpolated x ++ a ∷ b ∷ c ∷ d ∷ e ∷ []
interpolated-more x sample a b c d e a_is b_is c_is d_is e_is =
    let z : List ℤ = pos 0 ∷ [] in
    let u0 : List ℤ = stuffed x in
    let u1 : List ℤ = u0 ++ sample ∷ [] in
    let u2 : List ℤ = u1 ++ z in
    let u3 : List ℤ = u2 ++ z in
    let u4 : List ℤ = u3 ++ z in
    let u5 : List ℤ = u4 ++ z in
    let m : ℕ = 5 * length x in
    let n0 : length u0 ≡ m = length-stuffed x in
    let n1 : length u1 ≡ m + 1 = omega (arith, length_push u0 sample) in
    let n2 : length u2 ≡ m + 2 = omega (arith, length_push u1 (pos 0)) in
    let n3 : length u3 ≡ m + 3 = omega (arith, length_push u2 (pos 0)) in
    let n4 : length u4 ≡ m + 4 = omega (arith, length_push u3 (pos 0)) in
    let all : List ℤ = stuffed (x ++ sample ∷ []) in
    let whole : u5 ≡ all = stuffed-more x sample in
    let count : 5 * length (x ++ sample ∷ []) ≡ m + 1 + 1 + 1 + 1 + 1 = omega (arith, length_push x sample) in
    let f : ℕ → ℤ = at all in
    let to : (n : ℕ) → at u5 n ≡ f n = λ n. ap (λ l. at l n) whole in
    let f4 : f (m + 1 + 1 + 1 + 1) ≡ e = sym (e_is ∙ ap (at u5) (let k : length u4 ≡ m + 1 + 1 + 1 + 1 = omega arith in k)
    ∙ to (m + 1 + 1 + 1 + 1)) in
    let f3 : f (m + 1 + 1 + 1) ≡ d = sym (d_is
    ∙ ap (at u4) (let k : length u3 ≡ m + 1 + 1 + 1 = omega arith in k)
    ∙ sym (at_stays u4 z (m + 1 + 1 + 1) (omega arith)) ∙ to (m + 1 + 1 + 1)) in
    let f2 : f (m + 1 + 1) ≡ c = sym (c_is
    ∙ ap (at u3) (let k : length u2 ≡ m + 1 + 1 = omega arith in k)
    ∙ sym (at_stays u3 z (m + 1 + 1) (omega arith)) ∙ sym (at_stays u4 z (m + 1 + 1) (omega arith))
    ∙ to (m + 1 + 1)) in
    let f1 : f (m + 1) ≡ b = sym (b_is ∙ ap (at u2) n1
    ∙ sym (at_stays u2 z (m + 1) (omega arith)) ∙ sym (at_stays u3 z (m + 1) (omega arith))
    ∙ sym (at_stays u4 z (m + 1) (omega arith)) ∙ to (m + 1)) in
    let f0 : f m ≡ a = sym (a_is ∙ ap (at u1) n0
    ∙ sym (at_stays u1 z m (omega arith)) ∙ sym (at_stays u2 z m (omega arith))
    ∙ sym (at_stays u3 z m (omega arith)) ∙ sym (at_stays u4 z m (omega arith)) ∙ to m) in
    let before : (n : ℕ) → n < m → f n ≡ at u0 n = λ n below. sym (sym (at_stays u0 (sample ∷ []) n (omega arith))
    ∙ sym (at_stays u1 z n (omega arith)) ∙ sym (at_stays u2 z n (omega arith))
    ∙ sym (at_stays u3 z n (omega arith)) ∙ sym (at_stays u4 z n (omega arith)) ∙ to n) in
    let base : map f (range_with_len 0 m) ≡ interpolated x = map_agree f (at u0) m before in
    let l : List ℤ = interpolated x in
    let joined : ((((l ++ a ∷ []) ++ b ∷ []) ++ c ∷ []) ++ d ∷ []) ++ e ∷ [] ≡ l ++ a ∷ b ∷ c ∷ d ∷ e ∷ []
    = simp append_assoc in
    ap (λ n. map f (range_with_len 0 n)) count
    ∙ map-range_with_len_more f 0 (m + 1 + 1 + 1 + 1) (m + 1 + 1 + 1 + 1) (omega arith)
    ∙ ap (λ t. t ++ f (m + 1 + 1 + 1 + 1) ∷ []) (map-range_with_len_more f 0 (m + 1 + 1 + 1) (m + 1 + 1 + 1) (omega arith)
    ∙ ap (λ t. t ++ f (m + 1 + 1 + 1) ∷ []) (map-range_with_len_more f 0 (m + 1 + 1) (m + 1 + 1) (omega arith)
    ∙ ap (λ t. t ++ f (m + 1 + 1) ∷ []) (map-range_with_len_more f 0 (m + 1) (m + 1) (omega arith)
    ∙ ap (λ t. t ++ f (m + 1) ∷ []) (map-range_with_len_more f 0 m m (omega arith)
    ∙ ap (λ t. t ++ f m ∷ []) base
    ∙ ap (λ v. l ++ v ∷ []) f0)
    ∙ ap (λ v. (l ++ a ∷ []) ++ v ∷ []) f1)
    ∙ ap (λ v. ((l ++ a ∷ []) ++ b ∷ []) ++ v ∷ []) f2)
    ∙ ap (λ v. (((l ++ a ∷ []) ++ b ∷ []) ++ c ∷ []) ++ v ∷ []) f3)
    ∙ ap (λ v. ((((l ++ a ∷ []) ++ b ∷ []) ++ c ∷ []) ++ d ∷ []) ++ v ∷ []) f4
    ∙ joined
