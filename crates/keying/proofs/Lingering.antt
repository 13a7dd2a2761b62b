-- A count of ticks says whether the key is wanted.
use Rattle.keying.proofs.Common.{◌≡◌, ℕ, zero, suc, ◌+◌, ◌-◌, ◌≤◌, Bool, true, false, List, [], ◌∷◌, take, refl, ap}
use Rattle.keying.proofs.Common.{sym, ◌∙◌, inl, inr, arith, cases_lt, wanted}
use Rattle.std.proofs.Common.{ltb, ◌||◌}
use Rattle.std.specs.List.{list_any}
use Rattle.std.proofs.lemmas.Bool.{lt-ltb, le-ltb}
use Rattle.keying.specs.Key.{linger_after}

-- one of these ticks had sound
abbrev pub sounded : List Bool → Bool
sounded ticks = list_any (λ sounds. sounds) ticks

pub linger_most : (tail : ℕ) (ticks : List Bool) → linger_after tail ticks ≤ tail
linger_most tail [] = omega arith
linger_most tail (true ∷ ticks) = omega arith
linger_most tail (false ∷ ticks) = let most = linger_most tail ticks in omega arith

same_test : (a b c d : ℕ) → (a + 1 ≡ c) → (b ≡ d - 1) → ltb c d ≡ ltb a b
same_test a b c d first second =
    elim (cases_lt c d) [
      | inl below ↦ lt-ltb c d below ∙ sym (lt-ltb a b (omega arith))
      | inr above ↦ le-ltb c d above ∙ sym (le-ltb a b (omega arith))
    ]

-- of the `tail - d` last ticks one had sound
pub linger_counts : (tail d n : ℕ) (ticks : List Bool) → n + d ≡ tail
    → sounded (take n ticks) ≡ ltb d (linger_after tail ticks)
linger_counts tail d zero [] is = sym (le-ltb d 0 (omega arith))
linger_counts tail d (suc n) [] is = sym (le-ltb d 0 (omega arith))
linger_counts tail d zero (sounds ∷ ticks) is =
    let most = linger_most tail (sounds ∷ ticks) in sym (le-ltb d (linger_after tail (sounds ∷ ticks)) (omega arith))
linger_counts tail d (suc n) (true ∷ ticks) is = sym (lt-ltb d tail (omega arith))
linger_counts tail d (suc n) (false ∷ ticks) is =
    linger_counts tail (d + 1) n ticks (omega arith)
    ∙ same_test d (linger_after tail ticks - 1) (d + 1) (linger_after tail ticks) refl refl

-- whether the key is wanted at a tick, by what is kept of the ticks before
pub wanted_kept : (tail : ℕ) (sounds : Bool) (ticks : List Bool)
    → wanted tail (sounds ∷ ticks) ≡ (sounds || ltb 0 (linger_after tail ticks))
wanted_kept tail sounds ticks = ap (λ more. sounds || more) (linger_counts tail 0 tail ticks (omega arith))
