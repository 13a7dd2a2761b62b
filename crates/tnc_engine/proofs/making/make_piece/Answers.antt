use Rattle.tnc_engine.proofs.Common.{◌≡◌, ◌+◌, ◌-◌, ◌≤◌, ◌++◌, List, ℕ, length, length-append, take, drop, Err, Some, refl}
use Rattle.tnc_engine.proofs.Common.{sym, subst, ap, ◌∙◌, arith, err_from_is_err_and, input_limit, WrotePart, IsFront}
use Rattle.tnc_engine.proofs.Common.{IsTaken, Takes}
use Rattle.std.proofs.Common.{length-drop, length-take-le}
use Rattle.std.proofs.lemmas.List.{take_all}
use borrow.Author.Tests.{eqb-true}
use Rattle.tnc_engine.proofs.PieceLemmas.{TookFront, at_memory, took_all, took_bad, took_cut, took_more, took_none}
use Rattle.tnc_engine.proofs.making.make_piece.Goals as goal

pub taking-init : goal.taking-init
taking-init g c = record {
  took = λ words before holds good. took_none (g.M.Maker.making words) (g.M.Maker.holds c.args.maker.now words) before
      c.args.octets.now (g.O.Sink.told c.args.output.now).written holds good;
  held = c.requires.held;
  faultless = refl;
}

pub returns-in_err-taken-clause-taken : goal.returns-in_err-taken-clause-taken
returns-in_err-taken-clause-taken g c = λ words before holds good.
    let making = g.M.Maker.making words in
    let told = err_from_is_err_and c.from_residual.result c.from_residual.ensures.1 in
    let was = (g.O.Sink.told c.args.output.now).written in
    let mid = (g.O.Sink.told c.taking.output).written in
    subst (IsTaken making before c.args.octets.now was mid) (sym (told.1 ∙ ap Err told.2))
    (at_memory making (g.M.Maker.holds c.taking.maker words) before c.args.octets.now c.taking.rest.now was mid
    (c.taking.invariant.took words before holds good))

pub returns-in_err-write_text-clause-taken : goal.returns-in_err-write_text-clause-taken
returns-in_err-write_text-clause-taken g c = λ words before holds good.
    let making = g.M.Maker.making words in
    let t = c.taking.invariant.took words before holds good in
    let told = err_from_is_err_and c.from_residual-in_err-write_text.result c.from_residual-in_err-write_text.ensures.1
    in
    let was = (g.O.Sink.told c.args.output.now).written in
    let mid = (g.O.Sink.told c.taking.output).written in
    let now = (g.O.Sink.told c.write_text.new.output).written in
    let text : List ℕ = c.take.new.text.items in
    subst (IsTaken making before c.args.octets.now was now)
    (sym (told.1 ∙ ap Err (told.2 ∙ c.in_err-write_text.ensures.only)))
    (took_cut making (g.M.Maker.holds c.taking.maker words) before c.args.octets.now c.taking.rest.now was mid t
    (c.requires.laws words) (g.M.Maker.holds c.take.new.self words) text now
    (λ b w. subst (λ o. WrotePart b o now) c.deref.ensures.value (c.in_err-write_text.ensures.partly b w))
    c.in_ok-taken.taken (c.in_ok-taken.ensures.takes words (before ++ t.front) t.holds))

pub returns-in-Bad-clause-taken : goal.returns-in-Bad-clause-taken
returns-in-Bad-clause-taken g c = λ words before holds good.
    let making = g.M.Maker.making words in
    let t = c.taking.invariant.took words before holds good in
    let was = (g.O.Sink.told c.args.output.now).written in
    let mid = (g.O.Sink.told c.taking.output).written in
    let now = (g.O.Sink.told c.write_text.new.output).written in
    let text : List ℕ = c.take.new.text.items in
    took_bad making (g.M.Maker.holds c.taking.maker words) before c.args.octets.now c.taking.rest.now was mid t
    (g.M.Maker.holds c.take.new.self words) c.in-Bad.fault text now
    (subst (Takes making (g.M.Maker.holds c.take.new.self words) (before ++ t.front) c.taking.rest.now text) c.in-Bad.is
    (c.in_ok-taken.ensures.takes words (before ++ t.front) t.holds))
    (λ b w. c.in_ok-write_text.ensures.appends b w ∙ ap (λ o. Some (b ++ o)) c.deref.ensures.value)

pub taking-preserved : goal.taking-preserved
taking-preserved g c =
    let inv = c.taking.invariant in
    let held = inv.held in
    let count = c.in-Front.count in
    let text : List ℕ = c.take.new.text.items in
    let mid = (g.O.Sink.told c.taking.output).written in
    let now = (g.O.Sink.told c.write_text.new.output).written in
    let rest : List ℕ = drop count c.taking.rest.now in
    let size : length rest ≡ length c.taking.rest.now - count = length-drop count c.taking.rest.now in
    let front = subst (IsFront c.taking.rest.now) c.in-Front.is c.in_ok-taken.ensures.front in
    let some : length (take count c.taking.rest.now) ≡ count = length-take-le count c.taking.rest.now front.1 in
    let fits = held.3 in
    let within = front.1 in
    record {
      took = λ words before holds good.
          let making = g.M.Maker.making words in
          let t = inv.took words before holds good in
          subst (λ o. TookFront making (g.M.Maker.holds c.take.new.self words) before c.args.octets.now o
          (g.O.Sink.told c.args.output.now).written now) (sym (take_all _ rest (omega (arith, size))))
          (took_more making (g.M.Maker.holds c.taking.maker words) before c.args.octets.now c.taking.rest.now
          (g.O.Sink.told c.args.output.now).written mid t (g.M.Maker.holds c.take.new.self words) count text now
          (subst (Takes making (g.M.Maker.holds c.take.new.self words) (before ++ t.front) c.taking.rest.now text)
          c.in-Front.is (c.in_ok-taken.ensures.takes words (before ++ t.front) t.holds))
          (λ b w. c.in_ok-write_text.ensures.appends b w ∙ ap (λ o. Some (b ++ o)) c.deref.ensures.value));
      held =
          let took = subst (Takes (g.M.Maker.making held.0) (g.M.Maker.holds c.take.new.self held.0) held.1
          c.taking.rest.now text) c.in-Front.is (c.in_ok-taken.ensures.takes held.0 held.1 held.2) in (
            held.0,
            held.1 ++ take count c.taking.rest.now,
            took.0,
            subst (λ o. length (held.1 ++ take count c.taking.rest.now) + length o ≤ input_limit)
                (sym (take_all _ rest (omega (arith, size))))
                (let all = length-append held.1 (take count c.taking.rest.now) in
                omega (arith, all, some, size, fits, within)),
          );
      faultless = c.in_ok-write_text.ensures.faultless ∙ inv.faultless;
    }

pub returns-clause-taken : goal.returns-clause-taken
returns-clause-taken g c = λ words before holds good.
    (took_all (g.M.Maker.making words) (g.M.Maker.holds c.taking.maker words) before c.args.octets.now
    c.taking.rest.now (g.O.Sink.told c.args.output.now).written (g.O.Sink.told c.taking.output).written
    (c.taking.invariant.took words before holds good)
    (eqb-true (length c.taking.rest.now) 0 (sym c.taking-test.ensures))).2

pub returns-clause-goes : goal.returns-clause-goes
returns-clause-goes g c = λ words before holds good.
    let all = took_all (g.M.Maker.making words) (g.M.Maker.holds c.taking.maker words) before c.args.octets.now
    c.taking.rest.now (g.O.Sink.told c.args.output.now).written (g.O.Sink.told c.taking.output).written
    (c.taking.invariant.took words before holds good)
    (eqb-true (length c.taking.rest.now) 0 (sym c.taking-test.ensures)) in
    (all.0, all.1)
