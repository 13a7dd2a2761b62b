use Rattle.tnc_engine.proofs.Common.{◌++◌, List, ℕ, Err, Some, sym, subst, ap, ◌∙◌, err_from_is_err_and}
use Rattle.tnc_engine.proofs.Common.{WrotePart, Finishes, IsFinished}
use Rattle.tnc_engine.proofs.making.make_last.Goals as goal

pub returns-in_err-write_text-clause-finished : goal.returns-in_err-write_text-clause-finished
returns-in_err-write_text-clause-finished g c = λ words octets holds.
    let told = err_from_is_err_and c.from_residual-in_err-write_text.result c.from_residual-in_err-write_text.ensures.1
    in
    let was = (g.O.Sink.told c.args.output.now).written in
    let now = (g.O.Sink.told c.write_text.new.output).written in
    let text : List ℕ = c.finish.new.text.items in
    subst (IsFinished (g.M.Maker.making words) octets was now)
    (sym (told.1 ∙ ap Err (told.2 ∙ c.in_err-write_text.ensures.only))) (record {
      text = text;
      is = (c.in_ok-fault.ensures.finishes words octets holds).closes;
      written = λ b w. subst (λ o. WrotePart b o now) c.deref.ensures.value (c.in_err-write_text.ensures.partly b w);
    })

pub returns-in-None-clause-finished : goal.returns-in-None-clause-finished
returns-in-None-clause-finished g c = λ words octets holds.
    let text : List ℕ = c.finish.new.text.items in
    let ends = subst (Finishes (g.M.Maker.making words) octets text) c.in-None.is
    (c.in_ok-fault.ensures.finishes words octets holds) in (
      ends.known,
      record {
        text = text;
        is = ends.closes;
        written = λ b w. c.in_ok-write_text.ensures.appends b w ∙ ap (λ o. Some (b ++ o)) c.deref.ensures.value;
      },
    )

pub returns-in-Some-clause-finished : goal.returns-in-Some-clause-finished
returns-in-Some-clause-finished g c = λ words octets holds.
    let text : List ℕ = c.finish.new.text.items in
    let ends = subst (Finishes (g.M.Maker.making words) octets text) c.in-Some.is
    (c.in_ok-fault.ensures.finishes words octets holds) in (
      ends.known,
      record {
        text = text;
        is = ends.closes;
        written = λ b w. c.in_ok-write_text.ensures.appends b w ∙ ap (λ o. Some (b ++ o)) c.deref.ensures.value;
      },
    )
