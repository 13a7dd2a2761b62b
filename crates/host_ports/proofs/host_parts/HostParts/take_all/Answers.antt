use Rattle.host_ports.proofs.Common.{◌++◌, [], sym, ap, subst, ◌∙◌, append_assoc, arith, IsTaken, IsWholePiece}
use Rattle.std.proofs.Common.{◌∷◌, All, suc}
use Rattle.host_ports.proofs.TakeLemmas.{runs_more}
use Rattle.host_ports.proofs.host_parts.HostParts.take_all.Goals as goal

pub loop-event-preserved : goal.loop-event-preserved
loop-event-preserved c =
    let left = c.next.new.self.rest.items in
    let whole : All IsWholePiece (c.in-Some.event ∷ left) =
    subst (All IsWholePiece) c.in-Some.ensures.steps.0 c.loop-event.invariant.pieces in
    record {
      moves = runs_more IsTaken c.loop-event.yielded c.in-Some.event c.args.self.now c.loop-event.self c.take.new.self
          c.loop-event.invariant.moves c.in_ok-take.ensures.moves;
      rest = c.in_ok-take.ensures.rest;
      parts =
          c.loop-event.invariant.parts ∙ ap (λ more. c.loop-event.yielded ++ more) c.in-Some.ensures.steps.0
          ∙ sym (append_assoc c.loop-event.yielded (c.in-Some.event ∷ []) left);
      pieces = λ k d within. whole (suc k) d (omega (arith, within));
    }
