-- One parameter is read, or none begins there.
use Rattle.std.proofs.Common.{◌≡◌, ℕ, ◌+◌, ◌<◌, List, [], ◌∷◌, ◌++◌, length, take, drop, slice_index, refl, ap, ◌∙◌, sym}
use Rattle.std.proofs.Common.{arith, append_assoc, length-drop}
use Rattle.std.proofs.lemmas.List.{take-append-drop, drop-drop}
use Rattle.xid_parameters.specs.XidField.{Parameter, group_octets, parameter_octets}
use Rattle.xid_parameters.proofs.Spelling.{one_spelling, joins_group}
use Rattle.xid_parameters.proofs.reading.read_group.Goals as goal

-- the octets from here on begin with no parameter
stops : (group rest : List ℕ) (done ps : List Parameter) → group ≡ group_octets done ++ rest → 0 < length rest
    → ((p : Parameter) (after : List ℕ) → rest ≡ p.identifier ∷ length p.value ∷ (p.value ++ after) → ⊥)
    → group ≡ group_octets ps → ⊥
stops group rest done ps so_far some none is =
    go (one_spelling done ps rest (sym so_far ∙ is))
  where
    go : (after : List Parameter) × (rest ≡ group_octets after) → ⊥
    go ([], empty) = omega (arith, some, ap length empty)
    go (p ∷ ps, more) = none p (group_octets ps) more

pub returns-in_err-value-clause-none : goal.returns-in_err-value-clause-none
returns-in_err-value-clause-none c none ps is =
    stops c.args.group.now (drop c.loop-at.at c.args.group.now) c.loop-at.invariant.0 ps c.loop-at.invariant.1
    (omega (arith, length-drop c.loop-at.at c.args.group.now, c.loop-at-test.true))
    (c.in_err-value.ensures.none refl) is

-- with the parameter that was read, the octets spell one more
joined : (group : List ℕ) (at : ℕ) (done : List Parameter) (p : Parameter) → group ≡ group_octets done ++ drop at group
    → take (2 + length p.value) (drop at group) ≡ parameter_octets p
    → group ≡ group_octets (done ++ p ∷ []) ++ drop (at + (2 + length p.value)) group
joined group at done p so_far here =
    let size : ℕ = 2 + length p.value in
    let rest : drop at group ≡ parameter_octets p ++ drop (at + size) group =
    sym (take-append-drop size (drop at group)) ∙ ap (λ front. front ++ drop size (drop at group)) here
    ∙ ap (λ back. parameter_octets p ++ back) (drop-drop size at group) in
    so_far ∙ ap (λ back. group_octets done ++ back) rest
    ∙ sym (append_assoc (group_octets done) (parameter_octets p) (drop (at + size) group))
    ∙ ap (λ front. front ++ drop (at + size) group) (sym (joins_group done p))

abbrev read : goal.After-with-told → Parameter
read c = record { identifier = slice_index c.args.group.now c.loop-at.at; value = c.in_ok-value.value.now }

pub loop-at-preserved : goal.loop-at-preserved
loop-at-preserved c = (
  c.loop-at.invariant.0 ++ read c ∷ [],
  joined c.args.group.now c.loop-at.at c.loop-at.invariant.0 (read c) c.loop-at.invariant.1 c.in_ok-value.ensures.value,
  c.with-told.ensures c.loop-at.invariant.0 c.loop-at.invariant.2,
  omega (arith, c.in_ok-value.ensures.whole),
)
