-- The register of the check octets: at each root of the generator its value is that of the octets so far, times the
-- power of as many places as it has.
use Rattle.reed_solomon.proofs.Common.{◌≡◌, ℕ, zero, suc, ◌+◌, ◌*◌, ◌<◌, bit_xor, List, [], ◌∷◌, ◌++◌, length, map}
use Rattle.reed_solomon.proofs.Common.{drop, replicate, refl, ap, ◌∙◌, sym, arith, length-append, fold, xor_zero_r}
use Rattle.reed_solomon.proofs.Common.{xor_self, xor_assoc, length-map, length-replicate, take_at, append_assoc}
use Rattle.reed_solomon.proofs.Common.{append-nil, xor_comm, xor_of_8, Zeros, Leading, Between, with_zeros, times_power}
use Rattle.reed_solomon.proofs.Common.{value_at, product, taken, zeros_after}
use Rattle.std.specs.List.{refill}
use Rattle.reed_solomon.proofs.FieldLemmas.{times_power-lt, times_power-zero, times_power-xor, times_power-add}
use Rattle.reed_solomon.proofs.FieldLemmas.{times_power_comm, product-times_power, product-one, same_from_xor}
use Rattle.reed_solomon.proofs.ValueLemmas.{Octets, Octets-append, Octets-added, Octets-product, Octets-replicate}
use Rattle.reed_solomon.proofs.ValueLemmas.{length-added, value_at-lt, value_at-added, value_at-product}
use Rattle.reed_solomon.proofs.ValueLemmas.{value_at-append, value_at-zeros, value_at-zero}
use Rattle.reed_solomon.proofs.GeneratorLemmas.{value_at-push, value_at-cons}

-- a whole list written over another one
pub refill_all : (n : ℕ) (xs ws : List ℕ) → length ws ≡ n → refill n xs ws ≡ ws
refill_all n xs ws size = take_at ws (drop (length ws) xs) n size

pub length-taken : (g r : List ℕ) (octet : ℕ) → length r ≡ length g → 0 < length g → length (taken g r octet) ≡ length g
unfolding taken
length-taken g [] octet same some = absurd (omega arith)
length-taken g (h ∷ r) octet same some =
    length-added (r ++ 0 ∷ []) (map (product (bit_xor octet h)) g)
    (omega (arith, length-append r (0 ∷ []), length-map g (product (bit_xor octet h))))
    ∙ omega (arith, length-append r (0 ∷ []))

Octets-taken : (g r : List ℕ) (octet : ℕ) → 0 < length r → Octets g → Octets r → Octets (taken g r octet)
unfolding taken
Octets-taken g [] octet some g_octets octets = absurd (omega arith)
Octets-taken g (h ∷ r) octet some g_octets octets =
    Octets-added (r ++ 0 ∷ []) (map (product (bit_xor octet h)) g)
    (Octets-append r (0 ∷ []) octets.1 (omega arith, tt))
    (Octets-product (bit_xor octet h) g g_octets)

-- three parts, the last one first
xor_turn : (a b c : ℕ) → bit_xor a (bit_xor b c) ≡ bit_xor (bit_xor c a) b
xor_turn a b c =
    ap (bit_xor a) (xor_comm b c) ∙ sym (xor_assoc a c b) ∙ ap (λ n. bit_xor n b) (xor_comm a c)

value_at-taken : (j : ℕ) (g r : List ℕ) (octet : ℕ) → length r ≡ length g → 0 < length g → Octets g → Octets r
    → octet < 256 → value_at j (1 ∷ g) ≡ 0
    → value_at j (taken g r octet) ≡ bit_xor (times_power j (value_at j r)) (times_power (j * length g) octet)
unfolding taken
value_at-taken j g [] octet same some g_octets octets fits root = absurd (omega arith)
value_at-taken j g (h ∷ r) octet same some g_octets octets fits root =
    let c = length g in
    let f = bit_xor octet h in
    let v = value_at j r in
    let shifted = r ++ 0 ∷ [] in
    let scaled = map (product f) g in
    let sizes : length shifted ≡ length scaled = omega (arith, length-append r (0 ∷ []), length-map g (product f)) in
    let at_root : value_at j g ≡ times_power (j * c) 1 =
    sym (same_from_xor (times_power (j * c) 1) (value_at j g) (sym (value_at-cons j 1 g) ∙ root)) in
    let fed : value_at j scaled ≡ bit_xor (times_power (j * c) octet) (times_power (j * c) h) =
    value_at-product j f g g_octets ∙ ap (product f) at_root ∙ product-times_power f (j * c) 1
    ∙ ap (times_power (j * c)) (product-one f (xor_of_8 octet h fits octets.0))
    ∙ times_power-xor (j * c) octet h fits octets.0 in
    let kept : value_at j shifted ≡ times_power j v = value_at-push j 0 r octets.1 ∙ xor_zero_r (times_power j v) in
    let place : j + j * length r ≡ j * c =
    let more : suc (length r) ≡ c = same in sym (ap (λ n. j * n) (sym more) ∙ omega arith) in
    let whole : times_power j (value_at j (h ∷ r)) ≡ bit_xor (times_power (j * c) h) (times_power j v) =
    ap (times_power j) (value_at-cons j h r)
    ∙ times_power-xor j (times_power (j * length r) h) v (times_power-lt (j * length r) h octets.0)
    (value_at-lt j r octets.1)
    ∙ ap (λ n. bit_xor n (times_power j v)) (sym (times_power-add j (j * length r) h)
    ∙ ap (λ n. times_power n h) place) in
    value_at-added j shifted scaled sizes (Octets-append r (0 ∷ []) octets.1 (omega arith, tt))
    (Octets-product f g g_octets)
    ∙ ap (λ n. bit_xor n (value_at j scaled)) kept ∙ ap (bit_xor (times_power j v)) fed
    ∙ xor_turn (times_power j v) (times_power (j * c) octet) (times_power (j * c) h)
    ∙ ap (λ n. bit_xor n (times_power (j * c) octet)) (sym whole)

pub length-register : (g r xs : List ℕ) → length r ≡ length g → 0 < length g → length (fold (taken g) r xs) ≡ length g
length-register g r [] same some = same
length-register g r (x ∷ xs) same some =
    length-register g (taken g r x) xs (length-taken g r x same some) some

pub Octets-register : (g r xs : List ℕ) → length r ≡ length g → 0 < length g → Octets g → Octets r
    → Octets (fold (taken g) r xs)
Octets-register g r [] same some g_octets octets = octets
Octets-register g r (x ∷ xs) same some g_octets octets =
    Octets-register g (taken g r x) xs (length-taken g r x same some) some g_octets
    (Octets-taken g r x (omega arith) g_octets octets)

-- what the register has taken, and what it takes now
value_at-register : (j : ℕ) (g r before xs : List ℕ) → length r ≡ length g → 0 < length g → Octets g → Octets r
    → Octets before → Octets xs → value_at j (1 ∷ g) ≡ 0
    → value_at j r ≡ times_power (j * length g) (value_at j before)
    → value_at j (fold (taken g) r xs) ≡ times_power (j * length g) (value_at j (before ++ xs))
value_at-register j g r before [] same some g_octets octets before_octets xs_octets root so_far =
    so_far ∙ ap (λ ys. times_power (j * length g) (value_at j ys)) (sym (append-nil before))
value_at-register j g r before (x ∷ xs) same some g_octets octets before_octets xs_octets root so_far =
    let c = length g in
    let v = value_at j before in
    let turned : j + j * c ≡ j * c + j = omega arith in
    let now : value_at j (taken g r x) ≡ times_power (j * c) (value_at j (before ++ x ∷ [])) =
    value_at-taken j g r x same some g_octets octets xs_octets.0 root
    ∙ ap (λ n. bit_xor (times_power j n) (times_power (j * c) x)) so_far
    ∙ ap (λ n. bit_xor n (times_power (j * c) x)) (times_power_comm j (j * c) v)
    ∙ sym (times_power-xor (j * c) (times_power j v) x (times_power-lt j v (value_at-lt j before before_octets))
    xs_octets.0)
    ∙ ap (times_power (j * c)) (sym (value_at-push j x before before_octets)) in
    value_at-register j g (taken g r x) (before ++ x ∷ []) xs (length-taken g r x same some) some g_octets
    (Octets-taken g r x (omega arith) g_octets octets) (Octets-append before (x ∷ []) before_octets (xs_octets.0, tt))
    xs_octets.1 root now
    ∙ ap (λ ys. times_power (j * c) (value_at j ys)) (append_assoc before (x ∷ []) xs)

-- Octets and then their register have the value 0 at each root of the generator.
pub register_checks : (j : ℕ) (g xs : List ℕ) → 0 < length g → Octets g → Octets xs → value_at j (1 ∷ g) ≡ 0
    → value_at j (xs ++ fold (taken g) (replicate (length g) 0) xs) ≡ 0
register_checks j g xs some g_octets octets root =
    let c = length g in
    let r = fold (taken g) (replicate c 0) xs in
    let start = length-replicate c 0 in
    let v = times_power (j * c) (value_at j xs) in
    let zeros : value_at j (replicate c 0) ≡ times_power (j * c) (value_at j []) =
    value_at-zeros j c ∙ sym (ap (times_power (j * c)) (value_at-zeros j 0) ∙ times_power-zero (j * c)) in
    value_at-append j xs r octets
    ∙ ap (λ n. bit_xor (times_power (j * n) (value_at j xs)) (value_at j r)) (length-register g
    (replicate c 0) xs start some)
    ∙ ap (bit_xor v) (value_at-register j g (replicate c 0) [] xs start some g_octets
    (Octets-replicate c) tt octets root
    zeros) ∙ xor_self v

-- zeros in front add nothing
value_at-leading : (j n : ℕ) (xs : List ℕ) → value_at j (replicate n 0 ++ xs) ≡ value_at j xs
value_at-leading j zero xs = refl
value_at-leading j (suc n) xs = value_at-zero j (replicate n 0 ++ xs) ∙ value_at-leading j n xs

-- a whole word has the value of what the register takes, and of the register
pub value_at-with_zeros : (j : ℕ) (zeros : Zeros) (n : ℕ) (xs r : List ℕ)
    → value_at j (with_zeros zeros n xs ++ r) ≡ value_at j ((xs ++ replicate (zeros_after zeros n) 0) ++ r)
value_at-with_zeros j Leading n xs r =
    ap (value_at j) (append_assoc (replicate n 0) xs r) ∙ value_at-leading j n (xs ++ r)
    ∙ ap (λ ys. value_at j (ys ++ r)) (sym (append-nil xs))
value_at-with_zeros j Between n xs r = refl
