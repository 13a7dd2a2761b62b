-- Phasors by their parts, and how large they are.
use Rattle.tone_tracking.proofs.Common.{◌≡◌, ℕ, ◌+◌, ◌*◌, ◌≤◌, ℤ, pos, negsuc, ◌+ℤ◌, ◌-ℤ◌, ◌*ℤ◌, ◌≤ℤ◌, unsigned_abs}
use Rattle.tone_tracking.proofs.Common.{subst, sym, neg_ℤ, ap, ◌∙◌, arith, ints, Tone, Mark, Space, Phasor, IsWithin}
use Rattle.tone_tracking.proofs.Common.{none, plus, turn, turn_back, size}
use Rattle.std.proofs.lemmas.Int.{unsigned_abs-mul}
use Rattle.std.proofs.Math.Nat.{mul-le-mul_right, mul-le-mul_left}
use Rattle.std.proofs.Math.IntN.{*ℤ_comm, +ℤ_invr, zero-*ℤ, pos-*ℤ-pos, negsuc-*ℤ-negsuc}
use Rattle.offset_slicers.proofs.IntegerLemmas.{mul-add_left, mul-add_right}

-- phasors with the same parts are the same
pub phasor_is : (p q : Phasor) → p.a ≡ q.a → p.b ≡ q.b → p ≡ q
phasor_is p q same_a same_b = λ i. record { a = same_a i; b = same_b i }

-- ---- bounds

pub within_more : (m n : ℕ) (p : Phasor) → IsWithin m p → m ≤ n → IsWithin n p
within_more m n p h le = let a = h.first in let b = h.second in let c = h.both in
    record { first = omega arith; second = omega arith; both = omega arith }

pub within_none : (m : ℕ) → IsWithin m none
within_none m = record { first = omega arith; second = omega arith; both = omega arith }

pub within_plus : (m n : ℕ) (p q : Phasor) → IsWithin m p → IsWithin n q → IsWithin (m + n) (plus p q)
within_plus m n p q h k =
    let a = h.first in let b = h.second in let c = h.both in
    let d = k.first in let e = k.second in let f = k.both in
    record { first = omega (arith, ints); second = omega (arith, ints); both = omega (arith, ints) }

pub within_turn_back : (m : ℕ) (tone : Tone) (p : Phasor) → IsWithin m p → IsWithin m (turn_back tone p)
within_turn_back m Mark p h = h
within_turn_back m Space p h =
    let a = h.first in let b = h.second in let c = h.both in
    record { first = omega (arith, ints); second = omega (arith, ints); both = omega (arith, ints) }

-- a quarter of a number, rounded down, lies within a unit of it
pub record IsFloor (q z : ℤ) (d : ℕ) : Type 0 where
  pub least : (pos d *ℤ q) ≤ℤ z
  pub most : z ≤ℤ ((pos d *ℤ q +ℤ pos d) -ℤ pos 1)

-- the product of two parts that are not above a bound
pub product_bound : (m : ℕ) (a b : ℤ) → unsigned_abs a ≤ m → unsigned_abs b ≤ m → unsigned_abs (a *ℤ b) ≤ m * m
product_bound m a b small large =
    let one : unsigned_abs a * unsigned_abs b ≤ m * unsigned_abs b = mul-le-mul_right (unsigned_abs b) small in
    let two : m * unsigned_abs b ≤ m * m = mul-le-mul_left m large in
    omega (arith, unsigned_abs-mul a b)

-- ---- the same of what functions give

pub sum_within : (m n : ℕ) (p q r : Phasor) → r ≡ plus p q → IsWithin m p → IsWithin n q → IsWithin (m + n) r
sum_within m n p q r is h k = subst (IsWithin (m + n)) (sym is) (within_plus m n p q h k)

pub turned_back_within : (m : ℕ) (tone : Tone) (p r : Phasor) → r ≡ turn_back tone p → IsWithin m p → IsWithin m r
turned_back_within m tone p r is h = subst (IsWithin m) (sym is) (within_turn_back m tone p h)

pub plus-none : (p : Phasor) → plus p none ≡ p
plus-none p = phasor_is (plus p none) p (omega (arith, ints)) (omega (arith, ints))

pub plus-assoc : (p q r : Phasor) → plus (plus p q) r ≡ plus p (plus q r)
plus-assoc p q r = phasor_is (plus (plus p q) r) (plus p (plus q r)) (omega (arith, ints)) (omega (arith, ints))

-- ---- sizes

-- a size by the sum of both parts
pub size-sum : (p : Phasor) → size p +ℤ p.a *ℤ p.b ≡ (p.a +ℤ p.b) *ℤ (p.a +ℤ p.b)
size-sum p =
    omega (
      arith,
      ints,
      mul-add_left p.a p.b (p.a +ℤ p.b),
      mul-add_right p.a p.a p.b,
      mul-add_right p.b p.a p.b,
      *ℤ_comm p.b p.a,
    )

square_least : (z : ℤ) → pos 0 ≤ℤ (z *ℤ z)
square_least (pos n) = omega (arith, ints, pos-*ℤ-pos n n)
square_least (negsuc n) = omega (arith, ints, negsuc-*ℤ-negsuc n n)

-- No size is below 0: of the product of both parts and its negative, one is at least 0.
pub size_least : (p : Phasor) → pos 0 ≤ℤ size p
size_least p =
    omega (arith, ints, size-sum p, square_least p.a, square_least p.b, square_least (p.a +ℤ p.b))

mul-neg_right : (b c : ℤ) → b *ℤ neg_ℤ c ≡ neg_ℤ (b *ℤ c)
mul-neg_right b c =
    let none : b *ℤ (c +ℤ neg_ℤ c) ≡ pos 0 = ap (λ z. b *ℤ z) (+ℤ_invr c) ∙ *ℤ_comm b (pos 0) ∙ zero-*ℤ b in
    omega (arith, ints, mul-add_right b c (neg_ℤ c), none)

-- a turn changes no size
size-turn_back : (p : Phasor) → size (turn_back Space p) ≡ size p
size-turn_back p =
    let a = p.a in let b = p.b in
    omega (
      arith,
      ints,
      size-sum p,
      mul-neg_right (a +ℤ b) a,
      mul-add_left a b a,
      *ℤ_comm a b,
      *ℤ_comm (neg_ℤ a) (neg_ℤ a),
      mul-neg_right (neg_ℤ a) a,
      *ℤ_comm (neg_ℤ a) a,
      mul-neg_right a a,
    )

-- so a turn of what is added does what a turn back of the rest does
pub size-turn : (p q : Phasor) → size (plus p (turn Space q)) ≡ size (plus (turn_back Space p) q)
size-turn p q =
    let turned : turn_back Space (plus p (turn Space q)) ≡ plus (turn_back Space p) q
    = phasor_is _ _ (omega (arith, ints)) (omega (arith, ints)) in
    sym (size-turn_back (plus p (turn Space q))) ∙ ap size turned
