-- The key of a new link: a table has one, and the first two of a table in which none was freed.
use Rattle.station_laws.proofs.Common.{◌≡◌, ℕ, ◌<◌, true, Option, Some, None, refl, sym, ◌∙◌, ap, subst, arith, inl, inr}
use Rattle.station_laws.proofs.Common.{is_some, cases_lt, false≢true, IsNewKey, Links, link_at}
use Rattle.std.specs.Prelude.{IfSome}

-- no key is vacant below the least vacant one
not_lower : (links : Links) (key lower : ℕ) → link_at lower links ≡ None
    → ((k : ℕ) → k < key → is_some (link_at k links) ≡ true) → lower < key → ⊥
not_lower links key lower vacant least less = false≢true (ap is_some (sym vacant) ∙ least lower less)

key_by : (links : Links) (freed : Option ℕ) (k j : ℕ) → links.freed ≡ freed → IsNewKey k links → IsNewKey j links
    → IfSome freed (λ last. k ≡ last) → IfSome freed (λ last. j ≡ last) → k ≡ j
key_by links None k j none h g one other = elim (cases_lt k j) [
  | inl less ↦ absurd (not_lower links j k h.vacant (g.least none) less)
  | inr from ↦ elim (cases_lt j k) [
    | inl less ↦ absurd (not_lower links k j g.vacant (h.least none) less)
    | inr equal ↦ omega arith
  ]
]
key_by links (Some last) k j some h g one other = one ∙ sym other

pub one_key : (links : Links) (k j : ℕ) → IsNewKey k links → IsNewKey j links → k ≡ j
one_key links k j h g = key_by links links.freed k j refl h g h.freed g.freed

-- key 0, if no link has it
pub first_key : (links : Links) → link_at 0 links ≡ None → IfSome links.freed (λ last. 0 ≡ last) → IsNewKey 0 links
first_key links vacant freed = record {
  within = omega arith;
  vacant = vacant;
  freed = freed;
  least = λ none lower less. absurd (omega arith);
}

-- key 1, if a link has key 0
pub second_key : (links : Links) → is_some (link_at 0 links) ≡ true → link_at 1 links ≡ None
    → IfSome links.freed (λ last. 1 ≡ last) → IsNewKey 1 links
second_key links some vacant freed = record {
  within = omega arith;
  vacant = vacant;
  freed = freed;
  least = λ none lower less.
      let zero : 0 ≡ lower = omega arith in subst (λ (k : ℕ). is_some (link_at k links) ≡ true) zero some;
}
