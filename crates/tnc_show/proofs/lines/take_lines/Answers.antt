use Rattle.std.proofs.Common.{◌≡◌, ◌+◌, ◌-◌, List, ℕ, length, drop, length-drop, Err, Some, sym, subst, ap, ◌∙◌, arith}
use borrow.Author.Tests.{eqb-true}
use Rattle.std.proofs.lemmas.List.{take_all}
use Rattle.tnc_forms.specs.HeldLine.{StandsFor, position_of}
use Rattle.tnc_show.specs.HeldShow.{HasTaken, TookFront}
use Rattle.tnc_show.proofs.TakingLemmas.{took_all, took_bad, took_more}
use Rattle.tnc_show.proofs.lines.take_lines.Goals as goal

pub lines-preserved : goal.lines-preserved
lines-preserved c =
    let inv = c.lines.invariant in
    let pushed = c.in_ok-push_frame-in-Ok.ensures in
    let rest : List ℕ = drop c.in-Ok.count c.lines.rest.now in
    let size : length rest ≡ length c.lines.rest.now - c.in-Ok.count = length-drop c.in-Ok.count c.lines.rest.now in
    let t = took_more c.args.modulus c.args.lines.now c.lines.lines c.args.octets.now c.lines.rest.now
    c.lines.text.items inv.took inv.least
    c.take.new.self c.in-Ok.count c.in-Ok.frame pushed.0 c.in-Ok.ensures.stands_for c.in-Ok.ensures.frame pushed.1 in
    record {
      took = subst (λ o. TookFront c.args.modulus c.args.lines.now c.args.octets.now o c.push_frame.new.text.items
          c.take.new.self) (sym (take_all _ rest (omega (arith, size))))
          (subst (λ o. TookFront c.args.modulus c.args.lines.now c.args.octets.now rest o c.take.new.self)
          (sym pushed.2) t);
      least = c.in-Ok.ensures.least ∙ inv.least;
      position = subst (λ o. position_of c.take.new.self + length o
          ≡ position_of c.args.lines.now + length c.args.octets.now) (sym (take_all _ rest (omega (arith, size))))
          (let a = c.in-Ok.ensures.position in let b = inv.position in let d = c.in-Ok.ensures.count.0 in
          omega (arith, size, a, b, d));
    }

pub returns-in-Err-Input-clause-taken : goal.returns-in-Err-Input-clause-taken
returns-in-Err-Input-clause-taken c =
    let inv = c.lines.invariant in
    subst (λ f. (before : List ℕ) → StandsFor c.args.lines.now before
    → HasTaken c.args.modulus before c.args.octets.now c.lines.text.items c.take.new.self (Some f))
    (sym c.in-Err-Input.fault-is)
    (took_bad c.args.modulus c.args.lines.now c.lines.lines c.args.octets.now c.lines.rest.now c.lines.text.items
    inv.took inv.least
    c.take.new.self c.in-Err-Input.fault (λ before h. c.in-Err-Input.ensures.bad before c.in-Err-Input.fault h
    (ap Err c.in-Err-Input.field-0-is)))

pub returns-clause-taken : goal.returns-clause-taken
returns-clause-taken c =
    let inv = c.lines.invariant in
    took_all c.args.modulus c.args.lines.now c.lines.lines c.args.octets.now c.lines.rest.now c.lines.text.items
    inv.took inv.least
    (eqb-true (length c.lines.rest.now) 0 (sym c.lines-test.ensures))
