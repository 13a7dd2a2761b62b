-- The field's laws: doubling is linear, and the powers of 2 are all octets but 0.
use Rattle.reed_solomon.proofs.Common.{◌≡◌, ℕ, zero, suc, ◌+◌, ◌-◌, ◌*◌, ◌/◌, ◌%◌, ◌<◌, ◌≤◌, Bool, true, cond, eqb}
use Rattle.reed_solomon.proofs.Common.{bit_xor, List, [], ◌∷◌, length, get_or, drop, refl, ap, subst, ◌∙◌, sym, inl}
use Rattle.reed_solomon.proofs.Common.{inr, arith, xor_zero_l, xor_zero_r, xor_self, xor_assoc, cases_lt, xor_comm}
use Rattle.reed_solomon.proofs.Common.{xor_of_8, double, times_power, power, logarithm, product}
use Rattle.std.proofs.Common.{◌^◌, ◌&&◌, ltb}
use Rattle.std.proofs.lemmas.Bool.{lt-ltb, le-ltb, eqb-true, ltb-true, and_parts}
use Rattle.std.proofs.lemmas.Nat.{xor_block, xor_lt}
use Rattle.reed_solomon.specs.Product.{logarithms}

-- ---- sums

-- two sums added part by part
pub xor_pairs : (a b c d : ℕ) → bit_xor (bit_xor a b) (bit_xor c d) ≡ bit_xor (bit_xor a c) (bit_xor b d)
xor_pairs a b c d =
    xor_assoc a b (bit_xor c d) ∙ ap (bit_xor a) (sym (xor_assoc b c d))
    ∙ ap (λ n. bit_xor a (bit_xor n d)) (xor_comm b c) ∙ ap (bit_xor a) (xor_assoc c b d)
    ∙ sym (xor_assoc a c (bit_xor b d))

-- what is added twice goes away
pub xor_twice : (a b : ℕ) → bit_xor a (bit_xor a b) ≡ b
xor_twice a b = sym (xor_assoc a a b) ∙ ap (λ n. bit_xor n b) (xor_self a) ∙ xor_zero_l b

-- a sum of 0 has equal parts
pub same_from_xor : (a b : ℕ) → bit_xor a b ≡ 0 → a ≡ b
same_from_xor a b none = sym (xor_zero_r a) ∙ ap (bit_xor a) (sym none) ∙ xor_twice a b

-- ---- doubling

-- an octet by its highest bit and the rest
double-split : (h l : ℕ) → h < 2 → l < 128 → double (h * 128 + l) ≡ bit_xor (l * 2) (h * 29)
unfolding double
double-split zero l high low =
    let below : 0 * 128 + l < 128 = omega arith in
    let same : 2 * (0 * 128 + l) ≡ l * 2 = omega arith in
    ap (λ t. cond t (2 * (0 * 128 + l)) (bit_xor (2 * (0 * 128 + l) - 256) 29)) (lt-ltb _ _ below)
    ∙ same ∙ sym (xor_zero_r (l * 2))
double-split (suc zero) l high low =
    let above : 128 ≤ 1 * 128 + l = omega arith in
    let same : 2 * (1 * 128 + l) - 256 ≡ l * 2 = omega arith in
    ap (λ t. cond t (2 * (1 * 128 + l)) (bit_xor (2 * (1 * 128 + l) - 256) 29)) (le-ltb _ _ above)
    ∙ ap (λ n. bit_xor n 29) same
double-split (suc (suc h)) l high low = absurd (omega arith)

times_29-xor : (h k : ℕ) → h < 2 → k < 2 → bit_xor h k * 29 ≡ bit_xor (h * 29) (k * 29)
times_29-xor zero k h_low k_low = ap (λ n. n * 29) (xor_zero_l k) ∙ sym (xor_zero_l (k * 29))
times_29-xor (suc zero) zero h_low k_low = refl
times_29-xor (suc zero) (suc zero) h_low k_low = refl
times_29-xor (suc zero) (suc (suc k)) h_low k_low = absurd (omega arith)
times_29-xor (suc (suc h)) k h_low k_low = absurd (omega arith)

xor-bit : (h k : ℕ) → h < 2 → k < 2 → bit_xor h k < 2
xor-bit zero k h_low k_low = subst (λ (n : ℕ). n < 2) (sym (xor_zero_l k)) k_low
xor-bit (suc zero) zero h_low k_low = omega arith
xor-bit (suc zero) (suc zero) h_low k_low = omega arith
xor-bit (suc zero) (suc (suc k)) h_low k_low = absurd (omega arith)
xor-bit (suc (suc h)) k h_low k_low = absurd (omega arith)

xor-times_2 : (l m : ℕ) → bit_xor l m * 2 ≡ bit_xor (l * 2) (m * 2)
xor-times_2 l m =
    let out : bit_xor l m * 2 ≡ bit_xor l m * 2 ^ 1 + bit_xor 0 0 = omega arith in
    let left : l * 2 ^ 1 + 0 ≡ l * 2 = omega arith in
    let right : m * 2 ^ 1 + 0 ≡ m * 2 = omega arith in
    out ∙ sym (xor_block 1 l m 0 0 (omega arith) (omega arith)) ∙ ap (λ n. bit_xor n (m * 2 ^ 1 + 0)) left
    ∙ ap (bit_xor (l * 2)) right

xor_of_7 : (l m : ℕ) → l < 128 → m < 128 → bit_xor l m < 128
xor_of_7 l m l_low m_low = xor_lt 7 l m l_low m_low

double-xor_split : (h l k m : ℕ) → h < 2 → l < 128 → k < 2 → m < 128
    → double (bit_xor (h * 128 + l) (k * 128 + m)) ≡ bit_xor (double (h * 128 + l)) (double (k * 128 + m))
double-xor_split h l k m h_low l_low k_low m_low =
    ap double (xor_block 7 h k l m l_low m_low)
    ∙ double-split (bit_xor h k) (bit_xor l m) (xor-bit h k h_low k_low) (xor_of_7 l m l_low m_low)
    ∙ ap (λ n. bit_xor n (bit_xor h k * 29)) (xor-times_2 l m)
    ∙ ap (bit_xor (bit_xor (l * 2) (m * 2))) (times_29-xor h k h_low k_low)
    ∙ xor_pairs (l * 2) (m * 2) (h * 29) (k * 29)
    ∙ ap (λ n. bit_xor n (bit_xor (m * 2) (k * 29))) (sym (double-split h l h_low l_low))
    ∙ ap (bit_xor (double (h * 128 + l))) (sym (double-split k m k_low m_low))

pub double-xor : (a b : ℕ) → a < 256 → b < 256 → double (bit_xor a b) ≡ bit_xor (double a) (double b)
double-xor a b a_fits b_fits =
    let split : a / 128 * 128 + a % 128 ≡ a = omega arith in
    let other : b / 128 * 128 + b % 128 ≡ b = omega arith in
    let law = double-xor_split (a / 128) (a % 128) (b / 128) (b % 128) (omega arith) (omega arith) (omega arith)
    (omega arith) in
    let P : ℕ → Type 0 = λ n. double (bit_xor n (b / 128 * 128 + b % 128))
    ≡ bit_xor (double n) (double (b / 128 * 128 + b % 128)) in
    let Q : ℕ → Type 0 = λ n. double (bit_xor a n) ≡ bit_xor (double a) (double n) in
    subst Q other (subst P split law)

pub double-lt : (a : ℕ) → a < 256 → double a < 256
double-lt a fits =
    let split : a / 128 * 128 + a % 128 ≡ a = omega arith in
    let high : a / 128 < 2 = omega arith in
    let P : ℕ → Type 0 = λ n. double n < 256 in
    let Q : ℕ → Type 0 = λ n. n < 256 in
    subst P split (subst Q (sym (double-split (a / 128) (a % 128) high (omega arith)))
    (xor_of_8 (a % 128 * 2) (a / 128 * 29) (omega arith) (omega arith)))

-- ---- powers

pub times_power-lt : (i a : ℕ) → a < 256 → times_power i a < 256
unfolding times_power
times_power-lt zero a fits = fits
times_power-lt (suc i) a fits = double-lt (times_power i a) (times_power-lt i a fits)

pub times_power-zero : (i : ℕ) → times_power i 0 ≡ 0
unfolding times_power double
times_power-zero zero = refl
times_power-zero (suc i) = ap double (times_power-zero i)

pub times_power-xor : (i a b : ℕ) → a < 256 → b < 256
    → times_power i (bit_xor a b) ≡ bit_xor (times_power i a) (times_power i b)
unfolding times_power
times_power-xor zero a b a_fits b_fits = refl
times_power-xor (suc i) a b a_fits b_fits =
    ap double (times_power-xor i a b a_fits b_fits)
    ∙ double-xor (times_power i a) (times_power i b) (times_power-lt i a a_fits) (times_power-lt i b b_fits)

pub times_power-add : (i k a : ℕ) → times_power (i + k) a ≡ times_power i (times_power k a)
unfolding times_power
times_power-add zero k a = ap (λ n. times_power n a) (omega arith)
times_power-add (suc i) k a =
    let next : suc i + k ≡ suc (i + k) = omega arith in
    ap (λ n. times_power n a) next ∙ ap double (times_power-add i k a)

pub times_power_comm : (i k a : ℕ) → times_power i (times_power k a) ≡ times_power k (times_power i a)
times_power_comm i k a =
    let swapped : i + k ≡ k + i = omega arith in
    sym (times_power-add i k a) ∙ ap (λ n. times_power n a) swapped ∙ times_power-add k i a

-- an octet doubled again and again
abbrev pub doubles : ℕ → ℕ → List ℕ
unfolding double
doubles zero a = []
doubles (suc n) a = a ∷ doubles n (double a)

times_power-double : (i a : ℕ) → times_power i (double a) ≡ times_power (suc i) a
unfolding times_power
times_power-double zero a = refl
times_power-double (suc i) a = ap double (times_power-double i a)

pub get_or-doubles : (n i a : ℕ) → i < n → get_or (doubles n a) i 0 ≡ times_power i a
unfolding double times_power
get_or-doubles zero i a below = absurd (omega arith)
get_or-doubles (suc n) zero a below = refl
get_or-doubles (suc n) (suc i) a below = get_or-doubles n i (double a) (omega arith) ∙ times_power-double i a

-- ---- logarithms

-- the logarithms of a and the octets after it are those of these powers
abbrev logarithms_fit : List ℕ → ℕ → List ℕ → Bool
logarithms_fit powers a [] = true
logarithms_fit powers a (l ∷ ls) = eqb (get_or powers l 0) a && ltb l 255 && logarithms_fit powers (a + 1) ls

-- the powers from power(i) on have these logarithms, and none is 0
abbrev powers_fit : List ℕ → ℕ → List ℕ → Bool
powers_fit logs i [] = true
powers_fit logs i (p ∷ ps) = eqb (get_or logs p 0) i && ltb 0 p && powers_fit logs (i + 1) ps

logarithm_fits : (powers : List ℕ) (a : ℕ) (ls : List ℕ) (i : ℕ) → logarithms_fit powers a ls ≡ true → i < length ls
    → (get_or powers (get_or ls i 0) 0 ≡ a + i) × (get_or ls i 0 < 255)
logarithm_fits powers a [] i fit below = absurd (omega arith)
logarithm_fits powers a (l ∷ ls) zero fit below =
    let both = and_parts (eqb (get_or powers l 0) a && ltb l 255) (logarithms_fit powers (a + 1) ls) fit in
    let parts = and_parts (eqb (get_or powers l 0) a) (ltb l 255) both.0 in
    let same : a ≡ a + 0 = omega arith in
    (eqb-true (get_or powers l 0) a parts.0 ∙ same, ltb-true l 255 parts.1)
logarithm_fits powers a (l ∷ ls) (suc i) fit below =
    let both = and_parts (eqb (get_or powers l 0) a && ltb l 255) (logarithms_fit powers (a + 1) ls) fit in
    let rest = logarithm_fits powers (a + 1) ls i both.1 (omega arith) in
    let next : a + 1 + i ≡ a + suc i = omega arith in
    (rest.0 ∙ next, rest.1)

power_fits : (logs : List ℕ) (i : ℕ) (ps : List ℕ) (k : ℕ) → powers_fit logs i ps ≡ true → k < length ps
    → (get_or logs (get_or ps k 0) 0 ≡ i + k) × (0 < get_or ps k 0)
power_fits logs i [] k fit below = absurd (omega arith)
power_fits logs i (p ∷ ps) zero fit below =
    let both = and_parts (eqb (get_or logs p 0) i && ltb 0 p) (powers_fit logs (i + 1) ps) fit in
    let parts = and_parts (eqb (get_or logs p 0) i) (ltb 0 p) both.0 in
    let same : i ≡ i + 0 = omega arith in
    (eqb-true (get_or logs p 0) i parts.0 ∙ same, ltb-true 0 p parts.1)
power_fits logs i (p ∷ ps) (suc k) fit below =
    let both = and_parts (eqb (get_or logs p 0) i && ltb 0 p) (powers_fit logs (i + 1) ps) fit in
    let rest = power_fits logs (i + 1) ps k both.1 (omega arith) in
    let next : i + 1 + k ≡ i + suc k = omega arith in
    (rest.0 ∙ next, rest.1)

all_logarithms_fit : logarithms_fit (doubles 255 1) 1 (drop 1 logarithms) ≡ true
unfolding double
all_logarithms_fit = refl

all_powers_fit : powers_fit logarithms 0 (doubles 255 1) ≡ true
unfolding double
all_powers_fit = refl

length-doubles : (n a : ℕ) → length (doubles n a) ≡ n
unfolding double
length-doubles zero a = refl
length-doubles (suc n) a = ap suc (length-doubles n (double a))

logarithms_from : (a : ℕ) → 0 < a → get_or logarithms a 0 ≡ get_or (drop 1 logarithms) (a - 1) 0
logarithms_from zero some = absurd (omega arith)
logarithms_from (suc a) some = let same : a ≡ suc a - 1 = omega arith in ap (λ n. get_or (drop 1 logarithms) n 0) same

pub logarithm-lt : (a : ℕ) → 0 < a → a < 256 → logarithm a < 255
unfolding logarithm
logarithm-lt a some fits =
    let P : ℕ → Type 0 = λ n. n < 255 in
    subst P (sym (logarithms_from a some))
    (logarithm_fits (doubles 255 1) 1 (drop 1 logarithms) (a - 1) all_logarithms_fit (omega arith)).1

pub power-logarithm : (a : ℕ) → 0 < a → a < 256 → power (logarithm a) ≡ a
unfolding logarithm
power-logarithm a some fits =
    let whole : 1 + (a - 1) ≡ a = omega arith in
    sym (get_or-doubles 255 (logarithm a) 1 (logarithm-lt a some fits))
    ∙ ap (λ n. get_or (doubles 255 1) n 0) (logarithms_from a some)
    ∙ (logarithm_fits (doubles 255 1) 1 (drop 1 logarithms) (a - 1) all_logarithms_fit (omega arith)).0 ∙ whole

pub logarithm-power : (i : ℕ) → i < 255 → logarithm (power i) ≡ i
unfolding logarithm
logarithm-power i below =
    let same : 0 + i ≡ i = omega arith in
    ap (λ n. get_or logarithms n 0) (sym (get_or-doubles 255 i 1 below))
    ∙ (power_fits logarithms 0 (doubles 255 1) i all_powers_fit (omega (arith, length-doubles 255 1))).0 ∙ same

-- ---- a round of 255

power_of_255 : power 255 ≡ 1
unfolding times_power double
power_of_255 = refl

pub times_power_of_255 : (a : ℕ) → a < 256 → times_power 255 a ≡ a
times_power_of_255 zero fits = times_power-zero 255
times_power_of_255 (suc a) fits =
    let is = power-logarithm (suc a) (omega arith) fits in
    ap (times_power 255) (sym is) ∙ times_power_comm 255 (logarithm (suc a)) 1
    ∙ ap (times_power (logarithm (suc a))) power_of_255 ∙ is

pub times_power_rounds : (n r a : ℕ) → a < 256 → times_power (n * 255 + r) a ≡ times_power r a
times_power_rounds zero r a fits = let same : 0 * 255 + r ≡ r = omega arith in ap (λ n. times_power n a) same
times_power_rounds (suc n) r a fits =
    let more : suc n * 255 + r ≡ 255 + (n * 255 + r) = omega arith in
    ap (λ n. times_power n a) more ∙ times_power-add 255 (n * 255 + r) a
    ∙ times_power_of_255 (times_power (n * 255 + r) a) (times_power-lt (n * 255 + r) a fits)
    ∙ times_power_rounds n r a fits

pub times_power-mod : (i a : ℕ) → a < 256 → times_power (i % 255) a ≡ times_power i a
times_power-mod i a fits =
    let split : i / 255 * 255 + i % 255 ≡ i = omega arith in
    sym (times_power_rounds (i / 255) (i % 255) a fits) ∙ ap (λ n. times_power n a) split

pub power_of_zero : (a : ℕ) → times_power 0 a ≡ a
unfolding times_power
power_of_zero a = refl

-- a power times an octet is 0 for the octet 0 alone
pub zero_from_times_power : (i a : ℕ) → a < 256 → times_power i a ≡ 0 → a ≡ 0
zero_from_times_power i a fits none =
    let round : i * 255 + 0 ≡ 254 * i + i = omega arith in
    sym (times_power_rounds i 0 a fits ∙ power_of_zero a) ∙ ap (λ n. times_power n a) round
    ∙ times_power-add (254 * i) i a
    ∙ ap (times_power (254 * i)) none ∙ times_power-zero (254 * i)

-- the same product of one octet comes of one power
pub same_power : (i k a : ℕ) → i < 255 → k < 255 → 0 < a → a < 256 → times_power i a ≡ times_power k a → i ≡ k
same_power i k a i_low k_low some fits same =
    let h = logarithm a in
    let is = power-logarithm a some fits in
    let at = λ (n : ℕ). ap (times_power n) (sym is) ∙ sym (times_power-add n h 1)
    ∙ sym (times_power-mod (n + h) 1 (omega arith)) in
    let powers : power ((i + h) % 255) ≡ power ((k + h) % 255) = sym (at i) ∙ same ∙ at k in
    let logs : (i + h) % 255 ≡ (k + h) % 255 = sym (logarithm-power ((i + h) % 255) (omega arith)) ∙ ap logarithm powers
    ∙ logarithm-power ((k + h) % 255) (omega arith) in
    let low = logarithm-lt a some fits in
    omega arith

-- ---- products

pub product-lt : (a b : ℕ) → b < 256 → product a b < 256
unfolding product
product-lt zero b fits = omega arith
product-lt (suc a) b fits = times_power-lt (logarithm (suc a)) b fits

pub product-zero : (a : ℕ) → product a 0 ≡ 0
unfolding product
product-zero zero = refl
product-zero (suc a) = times_power-zero (logarithm (suc a))

pub zero-product : (b : ℕ) → product 0 b ≡ 0
unfolding product
zero-product b = refl

pub product-xor : (a b c : ℕ) → b < 256 → c < 256 → product a (bit_xor b c) ≡ bit_xor (product a b) (product a c)
unfolding product
product-xor zero b c b_fits c_fits = refl
product-xor (suc a) b c b_fits c_fits = times_power-xor (logarithm (suc a)) b c b_fits c_fits

pub product-times_power : (a i b : ℕ) → product a (times_power i b) ≡ times_power i (product a b)
unfolding product
product-times_power zero i b = sym (times_power-zero i)
product-times_power (suc a) i b = times_power_comm (logarithm (suc a)) i b

by_logarithm : (a b : ℕ) → 0 < a → product a b ≡ times_power (logarithm a) b
unfolding product
by_logarithm zero b some = absurd (omega arith)
by_logarithm (suc a) b some = refl

pub power-some : (i : ℕ) → 0 < power i
power-some i =
    elim (cases_lt 0 (power i)) [
      | inl some ↦ some
      | inr none ↦
          let zero_power : power i ≡ 0 = omega arith in
          let one : suc zero ≡ zero = zero_from_times_power i 1 (omega arith) zero_power in
          absurd (omega arith)
    ]

pub power-product : (i b : ℕ) → b < 256 → product (power i) b ≡ times_power i b
power-product i b fits =
    ap (λ n. product n b) (sym (times_power-mod i 1 (omega arith)))
    ∙ by_logarithm (power (i % 255)) b (power-some (i % 255))
    ∙ ap (λ n. times_power n b) (logarithm-power (i % 255) (omega arith)) ∙ times_power-mod i b fits

pub times_by_logarithm : (i b : ℕ) → 0 < b → b < 256 → power (i + logarithm b) ≡ times_power i b
times_by_logarithm i b some fits =
    times_power-add i (logarithm b) 1 ∙ ap (times_power i) (power-logarithm b some fits)

pub product_by_logarithms : (a b : ℕ) → 0 < a → 0 < b → b < 256 → power (logarithm a + logarithm b) ≡ product a b
product_by_logarithms a b a_some some fits =
    times_by_logarithm (logarithm a) b some fits ∙ sym (by_logarithm a b a_some)

-- an octet times 1
pub product-one : (a : ℕ) → a < 256 → product a 1 ≡ a
unfolding product
product-one zero fits = refl
product-one (suc a) fits = power-logarithm (suc a) (omega arith) fits

pub product_comm : (a b : ℕ) → a < 256 → b < 256 → product a b ≡ product b a
product_comm zero b a_fits b_fits = zero-product b ∙ sym (product-zero b)
product_comm (suc a) zero a_fits b_fits = product-zero (suc a) ∙ sym (zero-product (suc a))
product_comm (suc a) (suc b) a_fits b_fits =
    let turned : logarithm (suc a) + logarithm (suc b) ≡ logarithm (suc b) + logarithm (suc a) = omega arith in
    sym (product_by_logarithms (suc a) (suc b) (omega arith) (omega arith) b_fits) ∙ ap power turned
    ∙ product_by_logarithms (suc b) (suc a) (omega arith) (omega arith) a_fits

pub zero_from_product : (a b : ℕ) → 0 < a → b < 256 → product a b ≡ 0 → b ≡ 0
zero_from_product a b some fits none =
    zero_from_times_power (logarithm a) b fits (sym (by_logarithm a b some) ∙ none)

pub product_assoc : (a b c : ℕ) → b < 256 → c < 256 → product (product a b) c ≡ product a (product b c)
product_assoc zero b c b_fits c_fits =
    ap (λ n. product n c) (zero-product b) ∙ zero-product c ∙ sym (zero-product (product b c))
product_assoc (suc a) b c b_fits c_fits =
    let k = logarithm (suc a) in
    let by = λ (n : ℕ). by_logarithm (suc a) n (omega arith) in
    ap (λ n. product n c) (by b) ∙ product_comm (times_power k b) c (times_power-lt k b b_fits) c_fits
    ∙ product-times_power c k b ∙ ap (times_power k) (product_comm c b c_fits b_fits) ∙ sym (by (product b c))

pub xor-product : (a b c : ℕ) → a < 256 → b < 256 → c < 256
    → product (bit_xor a b) c ≡ bit_xor (product a c) (product b c)
xor-product a b c a_fits b_fits c_fits =
    product_comm (bit_xor a b) c (xor_of_8 a b a_fits b_fits) c_fits ∙ product-xor c a b a_fits b_fits
    ∙ ap (λ n. bit_xor n (product c b)) (product_comm c a c_fits a_fits)
    ∙ ap (bit_xor (product a c)) (product_comm c b c_fits b_fits)

-- what is divided by an octet, times that octet
pub quotient-product : (a b : ℕ) → 0 < b → b < 256 → a < 256 → times_power (255 - logarithm b) (product a b) ≡ a
quotient-product a b some b_fits a_fits =
    let k = logarithm b in
    let low = logarithm-lt b some b_fits in
    let round : 255 - k + k ≡ 255 = omega arith in
    ap (times_power (255 - k)) (product_comm a b a_fits b_fits ∙ by_logarithm b a some)
    ∙ sym (times_power-add (255 - k) k a) ∙ ap (λ n. times_power n a) round ∙ times_power_of_255 a a_fits
