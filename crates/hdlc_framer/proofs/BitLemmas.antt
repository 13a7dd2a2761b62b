-- Octets and numbers read back from their bits.
use Rattle.hdlc_framer.proofs.Common.{◌≡◌, ℕ, zero, suc, ◌+◌, ◌*◌, ◌/◌, ◌%◌, ◌^◌, ◌<◌, Bool, true, false, eqb, bit_and}
use Rattle.hdlc_framer.proofs.Common.{List, [], ◌∷◌, ◌++◌, length, refl, ap, ◌∙◌, sym, inl, inr, arith, length-append}
use Rattle.hdlc_framer.proofs.Common.{append_assoc, append-nil, add-one, pow-suc, All, cases_Bool, eq-eqb, ne_eqb}
use Rattle.hdlc_framer.proofs.Common.{eqb-true, eqb-false, flat_map-append, and_mask, low_bits, octet_bits, sent_bits}
use Rattle.hdlc_framer.proofs.Common.{number_of}
use Rattle.std.proofs.Common.{bit_or}
use Rattle.std.proofs.lemmas.Nat.{one_shl, or_comm, or_shifted, shr-shr}
use Rattle.std.proofs.lemmas.List.Elements.{All-head, All-tail}

pub length-low_bits : (count n : ℕ) → length (low_bits count n) ≡ count
length-low_bits zero n = refl
length-low_bits (suc count) n = ap suc (length-low_bits count (n / 2))

-- the first bit is that of a number that is odd
pub number_of-odd : (n : ℕ) (bits : List Bool) → number_of (eqb (n % 2) 1 ∷ bits) ≡ 2 * number_of bits + n % 2
number_of-odd n bits =
    elim (cases_Bool (eqb (n % 2) 1)) [
      | inl odd ↦ ap (λ b. number_of (b ∷ bits)) odd ∙ omega (arith, eqb-true (n % 2) 1 odd)
      | inr even ↦
          let not_one : n % 2 ≡ 1 → ⊥ = eqb-false (n % 2) 1 even in
          let none : n % 2 ≡ 0 = omega arith in
          ap (λ b. number_of (b ∷ bits)) even ∙ omega arith
    ]

pub number_of-low_bits : (count n : ℕ) → n < 2 ^ count → number_of (low_bits count n) ≡ n
number_of-low_bits zero n below = omega arith
number_of-low_bits (suc count) n below =
    let half : n / 2 < 2 ^ count = omega arith in
    number_of-odd n (low_bits count (n / 2)) ∙ omega (arith, number_of-low_bits count (n / 2) half)

pub number_of-lt : (bits : List Bool) → number_of bits < 2 ^ length bits
number_of-lt [] = omega arith
number_of-lt (false ∷ bits) = omega (arith, number_of-lt bits, pow-suc 2 (length bits))
number_of-lt (true ∷ bits) = omega (arith, number_of-lt bits, pow-suc 2 (length bits))

pub length-octet_bits : (octet : ℕ) → length (octet_bits octet) ≡ 8
unfolding octet_bits
length-octet_bits octet = refl

pub number_of-octet_bits : (octet : ℕ) → octet < 256 → number_of (octet_bits octet) ≡ octet
unfolding octet_bits
number_of-octet_bits octet below = number_of-low_bits 8 octet below

pub length-sent_bits : (octets : List ℕ) → length (sent_bits octets) ≡ 8 * length octets
length-sent_bits [] = refl
length-sent_bits (octet ∷ octets) =
    omega (arith, length-append (octet_bits octet) (sent_bits octets), length-octet_bits octet, length-sent_bits octets)

-- the whole octets that bits begin with
abbrev pub whole_octets : List Bool → List ℕ
whole_octets (a ∷ b ∷ c ∷ d ∷ e ∷ f ∷ g ∷ h ∷ bits) = number_of (a ∷ b ∷ c ∷ d ∷ e ∷ f ∷ g ∷ h ∷ []) ∷ whole_octets bits
whole_octets _ = []

whole_octets_none : (bits : List Bool) → length bits < 8 → whole_octets bits ≡ []
whole_octets_none [] short = refl
whole_octets_none (a ∷ []) short = refl
whole_octets_none (a ∷ b ∷ []) short = refl
whole_octets_none (a ∷ b ∷ c ∷ []) short = refl
whole_octets_none (a ∷ b ∷ c ∷ d ∷ []) short = refl
whole_octets_none (a ∷ b ∷ c ∷ d ∷ e ∷ []) short = refl
whole_octets_none (a ∷ b ∷ c ∷ d ∷ e ∷ f ∷ []) short = refl
whole_octets_none (a ∷ b ∷ c ∷ d ∷ e ∷ f ∷ g ∷ []) short = refl
whole_octets_none (a ∷ b ∷ c ∷ d ∷ e ∷ f ∷ g ∷ h ∷ bits) short = absurd (omega arith)

whole_octets-octet : (octet : ℕ) (bits : List Bool) → octet < 256
    → whole_octets (octet_bits octet ++ bits) ≡ octet ∷ whole_octets bits
unfolding octet_bits
whole_octets-octet octet bits below = ap (λ n. n ∷ whole_octets bits) (number_of-low_bits 8 octet below)

-- octets come back from their bits, whatever part of an octet follows
pub whole_octets-sent_bits : (octets : List ℕ) (rest : List Bool) → All (λ octet. octet < 256) octets → length rest < 8
    → whole_octets (sent_bits octets ++ rest) ≡ octets
whole_octets-sent_bits [] rest fit short = whole_octets_none rest short
whole_octets-sent_bits (octet ∷ octets) rest fit short =
    ap whole_octets (append_assoc (octet_bits octet) (sent_bits octets) rest)
    ∙ whole_octets-octet octet (sent_bits octets ++ rest) (All-head (λ x. x < 256) octet octets fit)
    ∙ ap (λ xs. octet ∷ xs) (whole_octets-sent_bits octets rest (All-tail (λ x. x < 256) octet octets fit) short)

-- octets and a part of an octet are told by their bits
pub same_octets : (octets others : List ℕ) (rest more : List Bool) → All (λ octet. octet < 256) octets
    → All (λ octet. octet < 256) others → length rest < 8 → length more < 8
    → sent_bits octets ++ rest ≡ sent_bits others ++ more → octets ≡ others
same_octets octets others rest more fit others_fit short more_short e =
    sym (whole_octets-sent_bits octets rest fit short) ∙ ap whole_octets e
    ∙ whole_octets-sent_bits others more others_fit more_short

-- ---- a part of an octet with one bit more

low_bits-push_zero : (count n : ℕ) → n < 2 ^ count → low_bits (suc count) n ≡ low_bits count n ++ false ∷ []
low_bits-push_zero zero n below = ap (λ b. b ∷ []) (ne_eqb (n % 2) 1 (omega arith))
low_bits-push_zero (suc count) n below =
    ap (λ xs. eqb (n % 2) 1 ∷ xs) (low_bits-push_zero count (n / 2) (omega (arith, pow-suc 2 count)))

pub low_bits-push_one : (count n : ℕ) → n < 2 ^ count → low_bits (suc count) (n + 2 ^ count) ≡ low_bits count n ++ true ∷ []
low_bits-push_one zero n below = ap (λ b. b ∷ []) (eq-eqb ((n + 2 ^ 0) % 2) 1 (omega arith))
low_bits-push_one (suc count) n below =
    let double = pow-suc 2 count in
    let odd : (n + 2 ^ suc count) % 2 ≡ n % 2 = omega arith in
    let half : (n + 2 ^ suc count) / 2 ≡ n / 2 + 2 ^ count = omega arith in
    ap (λ m. eqb m 1 ∷ low_bits (suc count) ((n + 2 ^ suc count) / 2)) odd
    ∙ ap (λ m. eqb (n % 2) 1 ∷ low_bits (suc count) m) half
    ∙ ap (λ xs. eqb (n % 2) 1 ∷ xs) (low_bits-push_one count (n / 2) (omega arith))

-- a 1 set above the lowest bits
or_above : (count n : ℕ) → count < 8 → n < 2 ^ count → bit_or n (1 * 2 ^ count % 256) ≡ n + 2 ^ count
or_above count n low below =
    ap (bit_or n) (one_shl count 8 low) ∙ or_comm n (2 ^ count) ∙ ap (λ m. bit_or m n) (omega arith)
    ∙ or_shifted 1 count n below ∙ omega arith

pub low_bits-with_zero : (count n : ℕ) → n < 2 ^ count → low_bits (count + 1) n ≡ low_bits count n ++ false ∷ []
low_bits-with_zero count n below = ap (λ m. low_bits m n) (add-one count) ∙ low_bits-push_zero count n below

pub low_bits-with_one : (count n : ℕ) → count < 8 → n < 2 ^ count
    → low_bits (count + 1) (bit_or n (1 * 2 ^ count % 256)) ≡ low_bits count n ++ true ∷ []
low_bits-with_one count n low below = ap (λ m. low_bits m (bit_or n (1 * 2 ^ count % 256))) (add-one count)
    ∙ ap (low_bits (suc count)) (or_above count n low below) ∙ low_bits-push_one count n below

pub with_one-lt : (count n : ℕ) → count < 8 → n < 2 ^ count → bit_or n (1 * 2 ^ count % 256) < 2 ^ (count + 1)
with_one-lt count n low below = omega (
  arith,
  or_above count n low below,
  pow-suc 2 count,
  ap (λ m. 2 ^ m) (add-one count),
)

-- how many bits octets and a part of an octet are
pub length-packed : (octets : List ℕ) (filled part : ℕ) → length (sent_bits octets ++ low_bits filled part)
    ≡ 8 * length octets + filled
length-packed octets filled part = omega (
  arith,
  length-append (sent_bits octets) (low_bits filled part),
  length-sent_bits octets,
  length-low_bits filled part,
)

-- the eighth bit makes an octet
pub packed_octet : (octets : List ℕ) (part octet : ℕ) (bit : Bool) → low_bits 8 octet ≡ low_bits 7 part ++ bit ∷ []
    → sent_bits (octets ++ octet ∷ []) ++ [] ≡ (sent_bits octets ++ low_bits 7 part) ++ bit ∷ []
unfolding octet_bits
packed_octet octets part octet bit whole =
    append-nil (sent_bits (octets ++ octet ∷ [])) ∙ flat_map-append octet_bits octets (octet ∷ [])
    ∙ ap (λ xs. sent_bits octets ++ xs) (append-nil (low_bits 8 octet) ∙ whole)
    ∙ sym (append_assoc (sent_bits octets) (low_bits 7 part) (bit ∷ []))

-- one bit more of a number
pub low_bits-more : (count n : ℕ) → low_bits (count + 1) n ≡ low_bits count n ++ eqb (bit_and (n / 2 ^ count) 1) 1 ∷ []
low_bits-more count n = ap (λ m. low_bits m n) (add-one count) ∙ more count n
  where
    more : (count n : ℕ) → low_bits (suc count) n ≡ low_bits count n ++ eqb (bit_and (n / 2 ^ count) 1) 1 ∷ []
    more zero n = ap (λ m. eqb m 1 ∷ []) (omega arith ∙ sym (and_mask (n / 2 ^ 0) 1))
    more (suc count) n =
        let same : n / 2 / 2 ^ count ≡ n / 2 ^ suc count = shr-shr n 1 count ∙ ap (λ m. n / 2 ^ m) (omega arith) in
        ap (λ xs. eqb (n % 2) 1 ∷ xs) (more count (n / 2))
        ∙ ap (λ m. eqb (n % 2) 1 ∷ (low_bits count (n / 2) ++ eqb (bit_and m 1) 1 ∷ [])) same

-- one octet more
pub sent_bits-push : (octets : List ℕ) (octet : ℕ) → sent_bits (octets ++ octet ∷ [])
    ≡ sent_bits octets ++ octet_bits octet
sent_bits-push octets octet = flat_map-append octet_bits octets (octet ∷ [])
    ∙ ap (λ xs. sent_bits octets ++ xs) (append-nil (octet_bits octet))
