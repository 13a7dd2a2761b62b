-- The numbers that are kept of bits, and those of octets.
use Rattle.fx25_blocks.proofs.Common.{◌≡◌, ℕ, ◌+◌, ◌-◌, ◌*◌, ◌%◌, ◌<◌, ◌≤◌, min, List, [], ◌∷◌, length, take, drop, map, get_or}
use Rattle.fx25_blocks.proofs.Common.{ap, ◌∙◌, sym, arith, length-drop}
use Rattle.std.proofs.lemmas.List.{ext_get_or, get_or-drop}
use Rattle.std.proofs.lemmas.List.FromFn.{get_or-map-range_with_len, length-map-range_with_len}
use Rattle.std.specs.List.{range_with_len}
use Rattle.fx25_blocks.specs.UnsureBlocks.{AreOctetCertainties, least_of}

pub least_of-le : (numbers : List ℕ) → least_of numbers ≤ 4294967295
least_of-le [] = omega arith
least_of-le (x ∷ xs) = omega (arith, least_of-le xs)

pub same_certainties : (numbers certainty other : List ℕ) → AreOctetCertainties numbers certainty
    → AreOctetCertainties numbers other → certainty ≡ other
same_certainties numbers certainty other first second =
    let size : length certainty ≡ length other = omega (arith, first.size, second.size) in
    ext_get_or 0 certainty other size (λ n below. first.each n below ∙ sym (second.each n (omega arith)))

ring_place : (n m i : ℕ) → m ≤ 2040 → m ≤ n → i ≤ m → (n % 2048 + 2048 - m + i) % 2048 ≡ (n - m + i) % 2048
ring_place n m i most within below = omega arith

-- the last numbers of a ring
pub last_are : (ring numbers items : List ℕ) (next count : ℕ) → next ≡ length numbers % 2048
    → ((i : ℕ) → i < length numbers → length numbers ≤ i + 2048 → get_or ring (i % 2048) 0 ≡ get_or numbers i 0)
    → count ≤ 2040 → count ≤ length numbers → length items ≡ count
    → ((i : ℕ) → i < count → get_or items i 0 ≡ get_or ring ((next + 2048 - count + i) % 2048) 0)
    → items ≡ drop (length numbers - count) numbers
last_are ring numbers items next count next_is kept most within size each =
    ext_get_or 0 items (drop (length numbers - count) numbers)
    (omega (arith, length-drop (length numbers - count) numbers))
    (λ i below. let inside : i < count = omega arith in
    each i inside
    ∙ ap (λ n. get_or ring ((n + 2048 - count + i) % 2048) 0) next_is
    ∙ ap (λ n. get_or ring n 0) (ring_place (length numbers) count i most within (omega arith))
    ∙ kept (length numbers - count + i) (omega arith) (omega arith)
    ∙ sym (get_or-drop (length numbers - count) numbers i 0))

-- the numbers of so many octets
unfoldable pub octet_certainties : ℕ → List ℕ → List ℕ
octet_certainties count numbers = map (λ place. least_of (take 8 (drop (8 * place) numbers))) (range_with_len 0 count)

pub are_octet_certainties : (count : ℕ) (numbers : List ℕ) → length numbers ≡ 8 * count
    → AreOctetCertainties numbers (octet_certainties count numbers)
unfolding octet_certainties
are_octet_certainties count numbers size =
    let f = λ (place : ℕ). least_of (take 8 (drop (8 * place) numbers)) in
    let same = length-map-range_with_len f 0 count in
    record {
      size = size ∙ ap (λ n. 8 * n) (sym same);
      each = λ place below.
          get_or-map-range_with_len f 0 count place place 0 (omega arith) (omega arith);
    }
