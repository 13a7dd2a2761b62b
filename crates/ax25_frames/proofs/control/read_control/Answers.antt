use Rattle.std.proofs.Common.{◌≡◌, ℕ, ◌<◌, ◌++◌, List, get_or, ap, arith, ◌∙◌, sym, subst, [], ◌∷◌}
use Rattle.std.specs.Prelude.{IfOk, IfErr}
use Rattle.std.proofs.lemmas.List.{nil_from_length}
use Rattle.ax25_frames.specs.ControlField.{control_octets, IsNumbered}
use Rattle.ax25_frames.specs.FrameFault.{LacksControl, BodyFault}
use Rattle.ax25_frames.specs.declared.frame.Modulus.{Modulus}
use Rattle.ax25_frames.proofs.ControlLemmas.{LacksControl-none, LacksControl-one}
use Rattle.ax25_frames.proofs.control.read_control.Goals as goal

pub returns-in_default-clause-fault : goal.returns-in_default-clause-fault
returns-in_default-clause-fault c =
    let none = c.in_default.ensures.cases in
    (omega arith, LacksControl-none c.args.modulus c.args.body.now (nil_from_length c.args.body.now none))

pub returns-then-first-eq3-clause-control : goal.returns-then-first-eq3-clause-control
returns-then-first-eq3-clause-control c =
    let P : List ℕ → Type 0 = λ xs. IfOk c.read_unnumbered.result (λ r. IsNumbered c.args.modulus r.0
    × (xs ≡ control_octets c.args.modulus r.0 ++ r.1.now)) in
    subst P (sym c.in-Some.ensures.cases.0) (c.read_unnumbered.ensures.control c.args.modulus)

pub returns-then-first-eq3-clause-fault : goal.returns-then-first-eq3-clause-fault
returns-then-first-eq3-clause-fault c =
    let P : List ℕ → Type 0 = λ xs. IfErr c.read_unnumbered.result (BodyFault c.args.modulus xs c.args.start) in
    subst P (sym c.in-Some.ensures.cases.0) (c.read_unnumbered.ensures.fault c.args.modulus c.args.start)

pub returns-in-None-clause-fault : goal.returns-in-None-clause-fault
returns-in-None-clause-fault c =
    let first = c.in-Some.ensures.cases in
    let none = c.in-None.ensures.cases in
    let one : c.args.body.now ≡ c.in-Some.first.now ∷ [] = first.0
    ∙ ap (λ (xs : List ℕ). c.in-Some.first.now ∷ xs) (nil_from_length c.in-Some.rest.now none) in (
      omega arith,
      subst (λ (m : Modulus). LacksControl m c.args.body.now) (sym c.in-OneTwentyEight.is)
          (LacksControl-one c.in-Some.first.now c.args.body.now
          (subst (λ (xs : List ℕ). get_or xs 0 0 < 256) first.0 (c.type_inv.body 0).fits)
          c.if-first-eq3.false c.else-first-eq1.either one),
    )
