use Rattle.ax25_address.proofs.Common.{◌*◌, ap, arith, ◌∙◌, map, sym, inl, inr, padded}
use Rattle.ax25_address.proofs.FieldLemmas.{HasNameUpTo-so_far, bad_place, IsHeld-so_far, so_far-octets}
use Rattle.ax25_address.proofs.field.read_name.Goals as goal

pub returns-then-at-octets-clause-refused : goal.returns-then-at-octets-clause-refused
returns-then-at-octets-clause-refused c =
    (omega arith, omega arith, omega arith, HasNameUpTo-so_far _ _ _ _ _ c.requires.aligned c.loop-i.invariant)

pub returns-then-not-is_shifted_character-clause-refused : goal.returns-then-not-is_shifted_character-clause-refused
returns-then-not-is_shifted_character-clause-refused c = (
  omega arith,
  omega arith,
  omega arith,
  HasNameUpTo-so_far _ _ _ _ _ c.requires.aligned c.loop-i.invariant,
  bad_place _ _ _ _ _ c.requires.aligned (omega arith) c.loop-i.invariant
      (λ space later. elim c.else-octet-eq-SPACE.either [ inl first ↦ omega arith | inr other ↦ omega arith ])
      (λ letter full. elim c.then-not-is_shifted_character.either [
        | inl none ↦ (let yes = c.is_shifted_character.ensures.1 letter in cc)
        | inr gap ↦ omega arith
      ]),
)

pub from_characters-requires : goal.from_characters-requires
from_characters-requires c = IsHeld-so_far _ _ _ _ _ (omega arith) c.loop-i.invariant

pub returns-clause-name : goal.returns-clause-name
returns-clause-name c =
    so_far-octets _ _ _ _ _ (omega arith) c.loop-i.invariant
    ∙ ap (λ call. map (λ x. 2 * x) (padded call.name)) (sym c.from_characters.ensures)
