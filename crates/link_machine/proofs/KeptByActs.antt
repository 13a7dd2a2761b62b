-- What an SREJ leaves, and what it names.
use Rattle.link_machine.proofs.Common.{◌≡◌, ℕ, ◌+◌, ◌-◌, ◌%◌, ◌<◌, Bool, true, false, if◌then◌else◌}
use Rattle.link_machine.proofs.Common.{refl, ◌∙◌, arith, inl, IsModulus, ahead, Machine, acknowledged_by_srej}
use Rattle.link_machine.proofs.Common.{inr, ap, sym, named, nat_lt, picked_out}
use Rattle.selective_reject.proofs.Distances.{ahead-at_or_ahead}
use Rattle.selective_reject.specs.Outgoing.{asked_again}
use Rattle.link_machine.specs.Acts.{picking}

pub srej_path : (n : ℕ) (flag : Bool) (m : Machine) → (acknowledged_by_srej n flag m).path ≡ m.path
srej_path n true m = refl
srej_path n false m = refl

pub srej_incoming : (n : ℕ) (flag : Bool) (m : Machine) → (acknowledged_by_srej n flag m).incoming ≡ m.incoming
srej_incoming n true m = refl
srej_incoming n false m = refl

-- a number that is named is what was named it by
pub named_as_sent : (m va nr : ℕ) → IsModulus m → nr < m → nr ≡ (va + ahead m va nr) % m
unfolding ahead
named_as_sent m va nr (inl is) h = let low : nr < 8 = omega (arith, h, is) in rw is (omega arith)
named_as_sent m va nr (inr is) h = let low : nr < 128 = omega (arith, h, is) in rw is (omega arith)

-- the number that an SREJ names stays the one that it names once what it acknowledges is gone
pub named_again : (n nr : ℕ) (flag : Bool) (m : Machine) → IsModulus m.incoming.modulus → nr < m.incoming.modulus
    → n ≡ named nr m
    → named nr (acknowledged_by_srej n flag m) ≡ n
named_again n nr true m known small e =
    let modulus = m.incoming.modulus in
    let positive : 0 < modulus = omega (arith, small) in
    let sent : nr ≡ n % modulus = named_as_sent modulus m.outgoing.va nr known small ∙ ap (λ k. k % modulus) (sym e) in
    let near : n < n + modulus = omega (arith, positive) in
    let none : ahead modulus n nr ≡ n - n = ap (λ k. ahead modulus n k) sent
    ∙ ahead-at_or_ahead modulus n n (omega arith) near in
    let sum : n + (n - n) ≡ n = omega arith in
    ap (λ k. n + k) none ∙ sum
named_again n nr false m known small e = sym e

picked_if : (b : Bool) (n : ℕ) (m : Machine)
    → (if b then record m { control = picking m.control; outgoing = asked_again n m.outgoing } else m).path ≡ m.path
picked_if true n m = refl
picked_if false n m = refl

pub picked_path : (n : ℕ) (m : Machine) → (picked_out n m).path ≡ m.path
picked_path n m = picked_if (nat_lt n m.outgoing.top) n m
