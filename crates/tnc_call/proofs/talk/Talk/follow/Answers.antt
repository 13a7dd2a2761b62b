use Rattle.tnc_call.proofs.Common.{◌≡◌, ◌++◌, ◌+◌, ◌-◌, ◌^◌, List, ℕ, min, length, ap, ◌∙◌, Some, arith, refl, subst}
use Rattle.tnc_call.proofs.Common.{WrotePart}
use Rattle.tnc_call.proofs.HeardLemmas.{followed, part_of_last}
use Rattle.tnc_call.proofs.talk.Talk.follow.Goals as goal

pub returns-in-Ok-print-clause-taken : goal.returns-in-Ok-print-clause-taken
returns-in-Ok-print-clause-taken g c = λ plan host before ahead.
    let got : c.saturating_add-self.result ≡ min (c.args.self.now.got + length c.args.out.print) (2 ^ 64 - 1) =
    omega (arith, c.saturating_add-self.ensures, c.len.ensures.count) in
    followed c.args.self.now _ c.args.out plan host before (g.O.Sink.told c.args.output.now).written
    (g.O.Sink.told c.print.new.output).written c.end_if_done.result ahead refl
    (c.in-Ok.ensures.items ∙ ap (λ xs. c.args.self.now.sent.items ++ xs) c.as_slice.ensures.list) got
    (c.in-Ok-print.ensures.appends (before ++ ahead.printed) ahead.is_written
    ∙ ap (λ xs. Some ((before ++ ahead.printed) ++ xs)) c.as_slice-2.ensures.list)
    (c.end_if_done.ensures.done plan host ahead.client)

pub returns-clause-taken : goal.returns-clause-taken
returns-clause-taken g c = λ plan host before ahead.
    let P : List ℕ → Type 0 = λ xs. WrotePart (before ++ ahead.printed) xs (g.O.Sink.told c.print.new.output).written in
    part_of_last plan host before ahead.printed c.args.out.print (g.O.Sink.told c.print.new.output).written ahead.prints
    (subst P c.as_slice-2.ensures.list (c.in-Err.ensures.partly (before ++ ahead.printed) ahead.is_written))
