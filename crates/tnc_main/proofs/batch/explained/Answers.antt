use Rattle.tnc_main.proofs.Common.{◌≡◌, ◌++◌, Some, IfErr, inl, inr, sym, subst, ap, ◌∙◌, Stop, line_of, stray_line}
use Rattle.tnc_main.proofs.Common.{BadInput, WriteFault}
use Rattle.std.specs.Prelude.{Result}
use Rattle.tnc_main.specs.declared.status.Status.TheVariants.{Stray as HeardStray, NotQuiet as FoundNoQuiet}
use Rattle.tnc_main.specs.declared.status.Status.TheVariants.{Spent as WasSpent}
use Rattle.tnc_main.proofs.batch.explained.Goals as goal

pub returns-in-Ok-of_stray-clause-told : goal.returns-in-Ok-of_stray-clause-told
returns-in-Ok-of_stray-clause-told g c = λ before was which.
    let written : (g.E.Sink.told c.told-in-Ok-of_stray.new.report).written
    ≡ Some (before ++ stray_line c.in-Err-Stray.octets) =
    elim (c.told-in-Ok-of_stray.ensures.line before was) [
      | inl whole ↦ whole ∙ ap (λ line. Some (before ++ line)) (c.deref-in-Ok-of_stray.ensures
          ∙ c.in-Ok-of_stray.ensures ∙ ap stray_line c.as_slice.ensures.list)
      | inr fault ↦
          elim which [
            | inl bad ↦ let both : BadInput ≡ WriteFault = sym bad ∙ fault in cc both
            | inr more ↦ elim more [
              | inl stray ↦ let both : HeardStray ≡ WriteFault = sym stray ∙ fault in cc both
              | inr last ↦ elim last [
                | inl quiet ↦ let both : FoundNoQuiet ≡ WriteFault = sym quiet ∙ fault in cc both
                | inr spent ↦ let both : WasSpent ≡ WriteFault = sym spent ∙ fault in cc both
              ]
            ]
          ]
    ] in
    subst (λ (end : Result (Unit {0}) Stop). IfErr end (λ stop. (g.E.Sink.told c.told-in-Ok-of_stray.new.report).written
    ≡ Some (before ++ line_of stop))) (sym c.in-Err-Stray.is)
    (written ∙ ap (λ stop. Some (before ++ line_of stop)) (sym c.in-Err-Stray.field-0-is))
