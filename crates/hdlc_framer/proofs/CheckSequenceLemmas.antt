-- The frame check sequence as a register of 16 bits that takes one bit, or one octet, at a time.
use Rattle.hdlc_framer.proofs.Common.{◌≡◌, ◌↔◌, ℕ, zero, suc, ◌+◌, ◌-◌, ◌*◌, ◌/◌, ◌%◌, ◌^◌, ◌<◌, ◌≤◌, Bool, true, false}
use Rattle.hdlc_framer.proofs.Common.{not, cond, eqb, bit_xor, List, [], ◌∷◌, ◌++◌, length, take, drop, replicate, refl}
use Rattle.hdlc_framer.proofs.Common.{ap, subst, ◌∙◌, sym, inl, inr, arith, length-append, fold, pow-suc, cases_Bool}
use Rattle.hdlc_framer.proofs.Common.{eq-eqb, ne_eqb, eqb-true, eqb-false, fold-append, low_bits, octet_bits, sent_bits}
use Rattle.hdlc_framer.proofs.Common.{number_of, fcs_of, shifted, step_of, after_octet}
use Rattle.std.proofs.Common.{map}
use Rattle.std.specs.Int.Bits.{xor_zero_l, xor_zero_r}
use Rattle.std.proofs.lemmas.List.{length-map, length-take, length-drop}
use Rattle.std.proofs.lemmas.Nat.{xor_block, xor_comm, xor_mod, xor_shr}
use lib.Bits.{xor_assoc}
use Rattle.hdlc_framer.specs.CheckSequence.{plus, add_front, generator_rest, divide, remainder, invert_front}
use Rattle.hdlc_framer.specs.Division.{times_generator, IsRemainder}
use Rattle.hdlc_framer.specs.Register.{generator_number, bit_number, after_bit}
use Rattle.hdlc_framer.proofs.BitLemmas.{number_of-lt}

length-add_front : (q p : List Bool) → length (add_front q p) ≡ length p
length-add_front [] p = refl
length-add_front (a ∷ q) [] = refl
length-add_front (a ∷ q) (b ∷ p) = ap suc (length-add_front q p)

length-divide : (steps : ℕ) (p : List Bool) → length (divide steps p) ≡ length p - steps
length-divide zero p = omega arith
length-divide (suc steps) [] = omega arith
length-divide (suc steps) (false ∷ p) = omega (arith, length-divide steps p)
length-divide (suc steps) (true ∷ p) = omega (
  arith,
  length-divide steps (add_front generator_rest p),
  length-add_front generator_rest p,
)

length-invert_front : (p : List Bool) → length (invert_front p) ≡ length p
length-invert_front p =
    omega (
      arith,
      length-append (map not (take 16 p)) (drop 16 p),
      length-map (take 16 p) not,
      length-take 16 p,
      length-drop 16 p,
    )

-- what is divided
abbrev dividend : List ℕ → List Bool
dividend octets = sent_bits octets ++ replicate 16 false

pub fcs_of-lt : (octets : List ℕ) → fcs_of octets < 65536
unfolding fcs_of
fcs_of-lt octets =
    let p = invert_front (dividend octets) in
    let least : 16 ≤ length p = omega (
      arith,
      length-invert_front (dividend octets),
      length-append (sent_bits octets) (replicate 16 false),
    ) in
    let size : length (map not (remainder p)) ≡ 16 = omega (
      arith,
      length-map (remainder p) not,
      length-divide (length p - 16) p,
    ) in
    let below : number_of (map not (remainder p)) < 2 ^ 16 =
    subst (λ n. number_of (map not (remainder p)) < 2 ^ n) size (number_of-lt (map not (remainder p))) in
    below

-- ---- on lists: the division takes the bits one at a time

-- the register when its highest coefficient, with the next bit added to it, is this one
abbrev shift_by : Bool → List Bool → List Bool
shift_by false rest = rest ++ false ∷ []
shift_by true rest = add_front generator_rest (rest ++ false ∷ [])

abbrev shift_in : List Bool → Bool → List Bool
shift_in [] bit = []
shift_in (a ∷ rest) bit = shift_by (plus a bit) rest

-- one step of the division
abbrev reduced : Bool → List Bool → List Bool
reduced false p = p
reduced true p = add_front generator_rest p

divide-suc : (steps : ℕ) (a : Bool) (p : List Bool) → divide (suc steps) (a ∷ p) ≡ divide steps (reduced a p)
divide-suc steps false p = refl
divide-suc steps true p = refl

plus-false : (a : Bool) → plus a false ≡ a
plus-false false = refl
plus-false true = refl

plus_assoc : (a b c : Bool) → plus a (plus b c) ≡ plus (plus a b) c
plus_assoc false b c = refl
plus_assoc true false c = refl
plus_assoc true true false = refl
plus_assoc true true true = refl

add_front-zeros : (r : List Bool) (n : ℕ) → length r ≡ n → add_front r (replicate n false) ≡ r
add_front-zeros [] zero size = refl
add_front-zeros [] (suc n) size = absurd (omega arith)
add_front-zeros (a ∷ r) zero size = absurd (omega arith)
add_front-zeros (a ∷ r) (suc n) size = ap (λ b. b ∷ add_front r (replicate n false)) (plus-false a)
    ∙ ap (λ xs. a ∷ xs) (add_front-zeros r n (omega arith))

add_front-push : (r p : List Bool) → length r < length p → add_front (r ++ false ∷ []) p ≡ add_front r p
add_front-push [] [] short = absurd (omega arith)
add_front-push [] (b ∷ p) short = refl
add_front-push (a ∷ r) [] short = refl
add_front-push (a ∷ r) (b ∷ p) short = ap (λ xs. plus a b ∷ xs) (add_front-push r p (omega arith))

add_front-add_front : (q r p : List Bool) → length q ≤ length r
    → add_front q (add_front r p) ≡ add_front (add_front q r) p
add_front-add_front [] r p size = refl
add_front-add_front (a ∷ q) [] p size = absurd (omega arith)
add_front-add_front (a ∷ q) (b ∷ r) [] size = refl
add_front-add_front (a ∷ q) (b ∷ r) (c ∷ p) size =
    ap (λ x. x ∷ add_front q (add_front r p)) (plus_assoc a b c)
    ∙ ap (λ xs. plus (plus a b) c ∷ xs) (add_front-add_front q r p (omega arith))

reduced-add_front : (a : Bool) (rest p : List Bool) → length rest ≡ 15 → 16 ≤ length p
    → reduced a (add_front rest p) ≡ add_front (shift_by a rest) p
reduced-add_front false rest p size least = sym (add_front-push rest p (omega arith))
reduced-add_front true rest p size least =
    ap (add_front generator_rest) (sym (add_front-push rest p (omega arith)))
    ∙ add_front-add_front generator_rest (rest ++ false ∷ []) p (omega (arith, length-append rest (false ∷ [])))

length-shift_by : (a : Bool) (rest : List Bool) → length (shift_by a rest) ≡ length rest + 1
length-shift_by false rest = length-append rest (false ∷ [])
length-shift_by true rest = length-add_front generator_rest (rest ++ false ∷ []) ∙ length-append rest (false ∷ [])

-- the register instead of the division
divide-register : (bits r : List Bool) → length r ≡ 16 → divide (length bits) (add_front r (bits ++ replicate 16 false))
    ≡ fold shift_in r bits
divide-register [] r size = add_front-zeros r 16 size
divide-register (bit ∷ bits) [] size = absurd (omega arith)
divide-register (bit ∷ bits) (a ∷ rest) size =
    let more = bits ++ replicate 16 false in
    let least : 16 ≤ length more = omega (arith, length-append bits (replicate 16 false)) in
    divide-suc (length bits) (plus a bit) (add_front rest more)
    ∙ ap (divide (length bits)) (reduced-add_front (plus a bit) rest more (omega arith) least)
    ∙ divide-register bits (shift_by (plus a bit) rest) (omega (arith, length-shift_by (plus a bit) rest))

invert_front-is : (n : ℕ) (p : List Bool) → n ≤ length p → map not (take n p) ++ drop n p
    ≡ add_front (replicate n true) p
invert_front-is zero p least = refl
invert_front-is (suc n) [] least = absurd (omega arith)
invert_front-is (suc n) (b ∷ p) least = ap (λ xs. not b ∷ xs) (invert_front-is n p (omega arith))

remainder-register : (bits : List Bool) → remainder (invert_front (bits ++ replicate 16 false))
    ≡ fold shift_in (replicate 16 true) bits
remainder-register bits =
    let p = bits ++ replicate 16 false in
    let size : length p ≡ length bits + 16 = length-append bits (replicate 16 false) in
    let steps : length (invert_front p) - 16 ≡ length bits = omega (arith, length-invert_front p) in
    ap (λ n. divide n (invert_front p)) steps ∙ ap (divide (length bits)) (invert_front-is 16 p (omega arith))
    ∙ divide-register bits (replicate 16 true) refl

-- ---- the remainder is that of a division

plus-twice : (a b : Bool) → plus a (plus a b) ≡ b
plus-twice false b = refl
plus-twice true false = refl
plus-twice true true = refl

add_front-twice : (q p : List Bool) → add_front q (add_front q p) ≡ p
add_front-twice [] p = refl
add_front-twice (a ∷ q) [] = refl
add_front-twice (a ∷ q) (b ∷ p) = ap (λ x. x ∷ add_front q (add_front q p)) (plus-twice a b)
    ∙ ap (λ xs. b ∷ xs) (add_front-twice q p)

zeros-add_front : (n : ℕ) (p : List Bool) → add_front (replicate n false) p ≡ p
zeros-add_front zero p = refl
zeros-add_front (suc n) [] = refl
zeros-add_front (suc n) (b ∷ p) = ap (λ xs. b ∷ xs) (zeros-add_front n p)

length-times_generator : (q : List Bool) → length (times_generator q) ≡ length q + 16
length-times_generator [] = refl
length-times_generator (false ∷ q) = omega (arith, length-times_generator q)
length-times_generator (true ∷ q) = omega (
  arith,
  length-times_generator q,
  length-add_front generator_rest (times_generator q),
)

-- a quotient times the generator, and a remainder
abbrev with_remainder : List Bool → List Bool → List Bool
with_remainder q r = add_front (times_generator q) (replicate (length q) false ++ r)

-- the generator added once more if the quotient begins with 1
with_generator : (q r : List Bool) → add_front generator_rest (with_remainder q r)
    ≡ add_front (add_front generator_rest (times_generator q)) (replicate (length q) false ++ r)
with_generator q r = add_front-add_front generator_rest (times_generator q) (replicate (length q) false ++ r)
    (omega (arith, length-times_generator q))

divide-quotient : (steps : ℕ) (p : List Bool) → length p ≡ steps + 16
    → (q : List Bool) × (length q ≡ steps) × (p ≡ with_remainder q (divide steps p))
divide-quotient zero p size = ([], refl, sym (zeros-add_front 16 p))
divide-quotient (suc steps) [] size = absurd (omega arith)
divide-quotient (suc steps) (false ∷ p) size =
    let rest = divide-quotient steps p (omega arith) in
    (false ∷ rest.0, ap suc rest.1, ap (λ xs. false ∷ xs) rest.2)
divide-quotient (suc steps) (true ∷ p) size =
    let rest = divide-quotient steps (add_front generator_rest p)
    (omega (arith, length-add_front generator_rest p)) in (
      true ∷ rest.0,
      ap suc rest.1,
      ap (λ xs. true ∷ xs) (sym (add_front-twice generator_rest p) ∙ ap (add_front generator_rest) rest.2
          ∙ with_generator rest.0 (divide steps (add_front generator_rest p))),
    )

divide-with_remainder : (q r : List Bool) → length r ≡ 16 → divide (length q) (with_remainder q r) ≡ r
divide-with_remainder [] r size = zeros-add_front 16 r
divide-with_remainder (false ∷ q) r size = divide-with_remainder q r size
divide-with_remainder (true ∷ q) r size =
    ap (divide (length q)) (ap (add_front generator_rest) (sym (with_generator q r))
    ∙ add_front-twice generator_rest (with_remainder q r)) ∙ divide-with_remainder q r size

-- There is one remainder, and the definition computes it.
pub remainder-is : (p r : List Bool) → 16 ≤ length p → IsRemainder p r ↔ (r ≡ remainder p)
remainder-is p r least = (one, found)
  where
    one : IsRemainder p r → r ≡ remainder p
    one is =
        let q = is.quotient.0 in
        let steps : length q ≡ length p - 16 = omega (arith, is.quotient.1) in
        sym (divide-with_remainder q r is.size) ∙ ap (divide (length q)) (sym is.quotient.2)
        ∙ ap (λ n. divide n p) steps

    found : r ≡ remainder p → IsRemainder p r
    found same =
        let rest = divide-quotient (length p - 16) p (omega arith) in
        record {
          size = ap length same ∙ length-divide (length p - 16) p ∙ omega arith;
          quotient = (rest.0, omega (arith, rest.1), rest.2 ∙ ap (with_remainder rest.0) (sym same));
        }

-- ---- on numbers

number_of-cons : (a : Bool) (p : List Bool) → number_of (a ∷ p) ≡ number_of p * 2 ^ 1 + bit_number a
number_of-cons false p = omega arith
number_of-cons true p = omega arith

bit_number-lt : (a : Bool) → bit_number a < 2 ^ 1
bit_number-lt false = omega arith
bit_number-lt true = omega arith

bit_number-plus : (a b : Bool) → bit_number (plus a b) ≡ bit_xor (bit_number a) (bit_number b)
bit_number-plus false false = refl
bit_number-plus false true = refl
bit_number-plus true false = refl
bit_number-plus true true = refl

number_of-add_front : (q r : List Bool) → length q ≡ length r
    → number_of (add_front q r) ≡ bit_xor (number_of q) (number_of r)
number_of-add_front [] [] size = refl
number_of-add_front [] (b ∷ r) size = absurd (omega arith)
number_of-add_front (a ∷ q) [] size = absurd (omega arith)
number_of-add_front (a ∷ q) (b ∷ r) size =
    number_of-cons (plus a b) (add_front q r)
    ∙ ap (λ n. n * 2 ^ 1 + bit_number (plus a b)) (number_of-add_front q r (omega arith))
    ∙ ap (λ n. bit_xor (number_of q) (number_of r) * 2 ^ 1 + n) (bit_number-plus a b)
    ∙ sym (xor_block 1 (number_of q) (number_of r) (bit_number a) (bit_number b) (bit_number-lt a) (bit_number-lt b))
    ∙ ap (λ n. bit_xor n (number_of r * 2 ^ 1 + bit_number b)) (sym (number_of-cons a q))
    ∙ ap (bit_xor (number_of (a ∷ q))) (sym (number_of-cons b r))

number_of-push_zero : (p : List Bool) → number_of (p ++ false ∷ []) ≡ number_of p
number_of-push_zero [] = refl
number_of-push_zero (false ∷ p) = omega (arith, number_of-push_zero p)
number_of-push_zero (true ∷ p) = omega (arith, number_of-push_zero p)

number_of-not : (p : List Bool) → number_of (map not p) + number_of p + 1 ≡ 2 ^ length p
number_of-not [] = refl
number_of-not (false ∷ p) = omega (arith, number_of-not p, pow-suc 2 (length p))
number_of-not (true ∷ p) = omega (arith, number_of-not p, pow-suc 2 (length p))

-- a register of so many and one bit, shifted
shifted-bit : (a : Bool) (n : ℕ) → shifted (n * 2 + bit_number a) ≡ bit_xor n (cond a generator_number 0)
unfolding shifted
shifted-bit false n =
    let half : (n * 2 + 0) / 2 ≡ n = omega arith in
    let even : eqb ((n * 2 + 0) % 2) 1 ≡ false = ne_eqb ((n * 2 + 0) % 2) 1 (omega arith) in
    ap (λ m. bit_xor m (cond (eqb ((n * 2 + 0) % 2) 1) generator_number 0)) half
    ∙ ap (λ t. bit_xor n (cond t generator_number 0)) even
shifted-bit true n =
    let half : (n * 2 + 1) / 2 ≡ n = omega arith in
    let odd : eqb ((n * 2 + 1) % 2) 1 ≡ true = eq-eqb ((n * 2 + 1) % 2) 1 (omega arith) in
    ap (λ m. bit_xor m (cond (eqb ((n * 2 + 1) % 2) 1) generator_number 0)) half
    ∙ ap (λ t. bit_xor n (cond t generator_number 0)) odd

number_of-shift_by : (a : Bool) (rest : List Bool) → length rest ≡ 15
    → number_of (shift_by a rest) ≡ bit_xor (number_of rest) (cond a generator_number 0)
number_of-shift_by false rest size = number_of-push_zero rest ∙ sym (xor_zero_r (number_of rest))
number_of-shift_by true rest size =
    number_of-add_front generator_rest (rest ++ false ∷ []) (omega (arith, length-append rest (false ∷ [])))
    ∙ ap (bit_xor generator_number) (number_of-push_zero rest) ∙ xor_comm generator_number (number_of rest)

number_of-shift_in : (r : List Bool) (bit : Bool) → length r ≡ 16
    → number_of (shift_in r bit) ≡ after_bit (number_of r) bit
unfolding after_bit
number_of-shift_in [] bit size = absurd (omega arith)
number_of-shift_in (a ∷ rest) bit size =
    let alone : bit_number bit ≡ 0 * 2 ^ 1 + bit_number bit = omega arith in
    let taken : bit_xor (number_of (a ∷ rest)) (bit_number bit) ≡ number_of rest * 2 + bit_number (plus a bit) =
    ap (λ n. bit_xor n (bit_number bit)) (number_of-cons a rest)
    ∙ ap (bit_xor (number_of rest * 2 ^ 1 + bit_number a)) alone
    ∙ xor_block 1 (number_of rest) 0 (bit_number a) (bit_number bit) (bit_number-lt a) (bit_number-lt bit)
    ∙ ap (λ n. n * 2 + bit_xor (bit_number a) (bit_number bit)) (xor_zero_r (number_of rest))
    ∙ ap (λ n. number_of rest * 2 + n) (sym (bit_number-plus a bit)) in
    number_of-shift_by (plus a bit) rest (omega arith) ∙ sym (shifted-bit (plus a bit) (number_of rest))
    ∙ ap shifted (sym taken)

length-shift_in : (r : List Bool) (bit : Bool) → length r ≡ 16 → length (shift_in r bit) ≡ 16
length-shift_in [] bit size = absurd (omega arith)
length-shift_in (a ∷ rest) bit size = length-shift_by (plus a bit) rest ∙ omega arith

number_of-register : (bits r : List Bool) → length r ≡ 16 → number_of (fold shift_in r bits)
    ≡ fold after_bit (number_of r) bits
number_of-register [] r size = refl
number_of-register (bit ∷ bits) r size =
    number_of-register bits (shift_in r bit) (length-shift_in r bit size)
    ∙ ap (λ n. fold after_bit n bits) (number_of-shift_in r bit size)

length-register : (bits r : List Bool) → length r ≡ 16 → length (fold shift_in r bits) ≡ 16
length-register [] r size = size
length-register (bit ∷ bits) r size = length-register bits (shift_in r bit) (length-shift_in r bit size)

-- an octet is eight bits
after_octets : (octets : List ℕ) (check : ℕ) → fold after_bit check (sent_bits octets) ≡ fold after_octet check octets
unfolding after_octet
after_octets [] check = refl
after_octets (octet ∷ octets) check =
    fold-append after_bit check (octet_bits octet) (sent_bits octets)
    ∙ after_octets octets (fold after_bit check (octet_bits octet))

-- The check sequence is the inverted register.
pub fcs_of-register : (octets : List ℕ) → fcs_of octets ≡ 65535 - fold after_octet 65535 octets
unfolding fcs_of
fcs_of-register octets =
    let r = fold shift_in (replicate 16 true) (sent_bits octets) in
    let inverted : number_of (map not r) ≡ 65535 - number_of r =
    omega (arith, number_of-not r, ap (λ n. 2 ^ n) (length-register (sent_bits octets) (replicate 16 true) refl)) in
    ap (λ xs. number_of (map not xs)) (remainder-register (sent_bits octets)) ∙ inverted
    ∙ ap (λ n. 65535 - n) (number_of-register (sent_bits octets) (replicate 16 true) refl ∙ after_octets octets 65535)

-- ---- eight steps at once

abbrev shifts : ℕ → ℕ → ℕ
shifts zero check = check
shifts (suc k) check = shifts k (shifted check)

-- A step takes the lowest bit of what is added to the register, and moves the other bits down.
shifted-xor : (c o : ℕ) → shifted (bit_xor c o) ≡ bit_xor (shifted (bit_xor c (o % 2))) (o / 2)
unfolding shifted
shifted-xor c o =
    let g : ℕ → ℕ = λ n. cond (eqb n 1) generator_number 0 in
    let half : bit_xor c o / 2 ≡ bit_xor (c / 2) (o / 2) = xor_shr c o 1 in
    let low : o % 2 / 2 ≡ 0 = omega arith in
    let low_half : bit_xor c (o % 2) / 2 ≡ c / 2 = xor_shr c (o % 2) 1 ∙ ap (bit_xor (c / 2)) low
    ∙ xor_zero_r (c / 2) in
    let twice : o % 2 % 2 ≡ o % 2 = omega arith in
    let odd : bit_xor c o % 2 ≡ bit_xor c (o % 2) % 2 = xor_mod c o 1 ∙ ap (bit_xor (c % 2)) (sym twice)
    ∙ sym (xor_mod c (o % 2) 1) in
    ap (λ n. bit_xor n (g (bit_xor c o % 2))) half ∙ ap (λ n. bit_xor (bit_xor (c / 2) (o / 2)) (g n)) odd
    ∙ xor_assoc (c / 2) (o / 2) (g (bit_xor c (o % 2) % 2))
    ∙ ap (bit_xor (c / 2)) (xor_comm (o / 2) (g (bit_xor c (o % 2) % 2)))
    ∙ sym (xor_assoc (c / 2) (g (bit_xor c (o % 2) % 2)) (o / 2))
    ∙ ap (λ n. bit_xor (bit_xor n (g (bit_xor c (o % 2) % 2))) (o / 2)) (sym low_half)

odd_number : (n : ℕ) → bit_number (eqb (n % 2) 1) ≡ n % 2
odd_number n =
    elim (cases_Bool (eqb (n % 2) 1)) [
      | inl odd ↦ ap bit_number odd ∙ sym (eqb-true (n % 2) 1 odd)
      | inr even ↦
          let not_one : n % 2 ≡ 1 → ⊥ = eqb-false (n % 2) 1 even in
          let none : 0 ≡ n % 2 = omega arith in
          ap bit_number even ∙ none
    ]

-- bits taken one at a time are taken at once
taken_at_once : (k c o : ℕ) → o < 2 ^ k → fold after_bit c (low_bits k o) ≡ shifts k (bit_xor c o)
unfolding after_bit
taken_at_once zero c o below = let none : 0 ≡ o = omega arith in sym (xor_zero_r c) ∙ ap (bit_xor c) none
taken_at_once (suc k) c o below =
    let half : o / 2 < 2 ^ k = omega arith in
    ap (λ n. fold after_bit (shifted (bit_xor c n)) (low_bits k (o / 2))) (odd_number o)
    ∙ taken_at_once k (shifted (bit_xor c (o % 2))) (o / 2) half ∙ ap (shifts k) (sym (shifted-xor c o))

-- what stands above the bits that are taken moves down unchanged
shifts-high : (k x y : ℕ) → shifts k (bit_xor x (y * 2 ^ k)) ≡ bit_xor (shifts k x) y
shifts-high zero x y = ap (bit_xor x) (omega arith)
shifts-high (suc k) x y =
    let o = y * 2 ^ suc k in
    let double : o ≡ y * 2 ^ k * 2 = ap (λ n. y * n) (pow-suc 2 k) ∙ omega arith in
    let even : o % 2 ≡ 0 = omega arith in
    let half : o / 2 ≡ y * 2 ^ k = omega arith in
    ap (shifts k) (shifted-xor x o ∙ ap (λ n. bit_xor (shifted (bit_xor x n)) (o / 2)) even
    ∙ ap (λ n. bit_xor (shifted n) (o / 2)) (xor_zero_r x) ∙ ap (bit_xor (shifted x)) half)
    ∙ shifts-high k (shifted x) y

-- One octet: the high octet of the register, and eight steps of the low one with the octet added.
pub after_octet-is : (check octet : ℕ) → octet < 256 → after_octet check octet
    ≡ bit_xor (check / 256) (step_of (bit_xor (check % 256) octet))
unfolding after_octet octet_bits step_of
after_octet-is check octet below =
    let d = bit_xor check octet in
    let none : octet / 256 ≡ 0 = omega arith in
    let all : octet % 256 ≡ octet = omega arith in
    let high : d / 256 ≡ check / 256 = xor_shr check octet 8 ∙ ap (bit_xor (check / 256)) none
    ∙ xor_zero_r (check / 256) in
    let low : d % 256 ≡ bit_xor (check % 256) octet = xor_mod check octet 8 ∙ ap (bit_xor (check % 256)) all in
    let parts : bit_xor (d % 256) (d / 256 * 2 ^ 8) ≡ d =
    ap (λ n. bit_xor n (d / 256 * 2 ^ 8)) (omega arith) ∙ ap (bit_xor (0 * 2 ^ 8 + d % 256)) (omega arith)
    ∙ xor_block 8 0 (d / 256) (d % 256) 0 (omega arith) (omega arith)
    ∙ ap (λ n. n * 2 ^ 8 + bit_xor (d % 256) 0) (xor_zero_l (d / 256))
    ∙ ap (λ n. d / 256 * 2 ^ 8 + n) (xor_zero_r (d % 256)) ∙ omega arith in
    taken_at_once 8 check octet below ∙ ap (shifts 8) (sym parts) ∙ shifts-high 8 (d % 256) (d / 256)
    ∙ ap (λ n. bit_xor (shifts 8 n) (d / 256)) low ∙ ap (bit_xor (shifts 8 (bit_xor (check % 256) octet))) high
    ∙ xor_comm (shifts 8 (bit_xor (check % 256) octet)) (check / 256)
