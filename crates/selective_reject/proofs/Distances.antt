-- Distances between numbers on the air.
use Rattle.std.proofs.Common.{◌≡◌, ℕ, ◌+◌, ◌-◌, ◌*◌, ◌/◌, ◌%◌, ◌<◌, ◌≤◌, ap, sym, ◌∙◌, inl, inr, arith}
use Rattle.std.proofs.Math.Nat.{mod-eq_of_lt, add-mod_right, mod-lt, mod-mod}
use Rattle.std.proofs.lemmas.Nat.{mod-mul-add, div-add-mod'}
use Rattle.std.proofs.lemmas.Bool.{cases_lt}
use Rattle.selective_reject.specs.Numbers.{IsModulus, ahead}

-- from q rounds and r, a number that is d ahead
ahead-rounds : (m q r d : ℕ) → r < m → d < m → ahead m (q * m + r) ((q * m + r + d) % m) ≡ d
unfolding ahead
ahead-rounds m q r d rm dm =
    let start : (q * m + r) % m ≡ r = mod-mul-add q m r rm in
    elim (cases_lt (r + d) m) [
      | inl same ↦
          let sum : q * m + r + d ≡ q * m + (r + d) = omega arith in
          let here : (q * m + r + d) % m ≡ r + d = ap (λ t. t % m) sum ∙ mod-mul-add q m (r + d) same in
          let rest : r + d + m - r ≡ d + m = omega arith in
          ap (λ t. (t + m - (q * m + r) % m) % m) here ∙ ap (λ t. (r + d + m - t) % m) start ∙ ap (λ t. t % m) rest
          ∙ add-mod_right d m ∙ mod-eq_of_lt dm
      | inr next ↦
          let sum : q * m + r + d ≡ (q + 1) * m + (r + d - m) = omega arith in
          let small : r + d - m < m = omega arith in
          let here : (q * m + r + d) % m ≡ r + d - m = ap (λ t. t % m) sum ∙ mod-mul-add (q + 1) m (r + d - m) small in
          let rest : r + d - m + m - r ≡ d = omega arith in
          ap (λ t. (t + m - (q * m + r) % m) % m) here ∙ ap (λ t. (r + d - m + m - t) % m) start ∙ ap (λ t. t % m) rest
          ∙ mod-eq_of_lt dm
    ]

-- less than once round ahead
pub ahead-at_or_ahead : (m a n : ℕ) → a ≤ n → n < a + m → ahead m a (n % m) ≡ n - a
ahead-at_or_ahead m a n low high =
    let split : a / m * m + a % m ≡ a = div-add-mod' a m in
    let positive : 0 < m = omega arith in
    let from_start = ahead-rounds m (a / m) (a % m) (n - a) (mod-lt a positive) (omega arith) in
    let sum : a / m * m + a % m + (n - a) ≡ n = omega arith in
    ap (λ t. ahead m t (n % m)) (sym split) ∙ ap (λ t. ahead m (a / m * m + a % m) (t % m)) (sym sum) ∙ from_start

-- less than once round after
pub ahead-following : (m a n : ℕ) → n < a → a < n + m → ahead m a (n % m) ≡ n + m - a
ahead-following m a n low high =
    ap (ahead m a) (sym (add-mod_right n m)) ∙ ahead-at_or_ahead m a (n + m) (omega arith) (omega arith)

-- whole rounds of the start do not count
pub ahead-mod : (m a n : ℕ) → ahead m (a % m) n ≡ ahead m a n
unfolding ahead
ahead-mod m a n = ap (λ t. (n + m - t) % m) (mod-mod a m)

pub mod-mod_128 : (m a : ℕ) → IsModulus m → a % 128 % m ≡ a % m
mod-mod_128 m a (inl is) = rw is (omega arith)
mod-mod_128 m a (inr is) = rw is (omega arith)

-- nor those of 128, which both moduli divide
pub ahead-mod_128 : (m a n : ℕ) → IsModulus m → ahead m (a % 128) n ≡ ahead m a n
unfolding ahead
ahead-mod_128 m a n is = ap (λ t. (n + m - t) % m) (mod-mod_128 m a is)

pub IsModulus-positive : (m : ℕ) → IsModulus m → 0 < m
IsModulus-positive m (inl is) = omega arith
IsModulus-positive m (inr is) = omega arith

pub IsModulus-le : (m : ℕ) → IsModulus m → m ≤ 128
IsModulus-le m (inl is) = omega arith
IsModulus-le m (inr is) = omega arith

pub ahead-below : (m a n : ℕ) → 0 < m → ahead m a n < m
unfolding ahead
ahead-below m a n positive = mod-lt (n + m - a % m) positive
