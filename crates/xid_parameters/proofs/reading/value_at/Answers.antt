-- A parameter takes two octets at least.
use Rattle.std.proofs.Common.{◌≡◌, ℕ, ◌-◌, ◌<◌, List, ◌∷◌, ◌++◌, length, drop, ap, ◌∙◌, sym, arith, length-drop}
use Rattle.xid_parameters.proofs.reading.value_at.Goals as goal

short : (at : ℕ) (group : List ℕ) (a b : ℕ) (rest : List ℕ) → length group - at < 2 → drop at group ≡ a ∷ b ∷ rest → ⊥
short at group a b rest few is =
    let long : length group - at ≡ length (a ∷ b ∷ rest) = sym (length-drop at group) ∙ ap length is in
    omega (arith, few, long)

pub returns-then-group-at-lt2-clause-none : goal.returns-then-group-at-lt2-clause-none
returns-then-group-at-lt2-clause-none c none p rest is =
    short c.args.at c.args.group.now p.identifier (length p.value) (p.value ++ rest) c.if-group-at-lt2.true is
