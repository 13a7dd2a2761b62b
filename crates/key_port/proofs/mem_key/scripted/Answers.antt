use Rattle.std.proofs.Common.{◌≢◌, ℕ, get_or, ap, sym, ◌∙◌}
use Rattle.std.specs.Prelude.{Some}
use Rattle.key_port.specs.declared.mem_key.KeyOutcome.{KeyOutcome}
use Rattle.key_port.proofs.LineLemmas.{scripted_here, scripted_later}
use Rattle.key_port.proofs.mem_key.scripted.Goals as goal

pub loop-entry-preserved : goal.loop-entry-preserved
loop-entry-preserved c =
    let script = c.args.script.now in
    let other : (get_or script c.loop-entry.entry-index c.entry-item.result).0 ≢ c.args.call =
    λ e. c.if-entry-call.false (ap (λ (p : ℕ × KeyOutcome). p.0) c.entry-item.is ∙ e) in
    sym (scripted_later script c.loop-entry.entry-index c.args.call c.entry-item.result c.loop-entry-test.true other)
    ∙ c.loop-entry.invariant

pub returns-then-entry-call : goal.returns-then-entry-call
returns-then-entry-call c =
    let script = c.args.script.now in
    ap (λ (p : ℕ × KeyOutcome). Some p.1) c.entry-item.is
    ∙ sym (scripted_here script c.loop-entry.entry-index c.args.call c.entry-item.result c.loop-entry-test.true
    (ap (λ (p : ℕ × KeyOutcome). p.0) (sym c.entry-item.is) ∙ c.if-entry-call.true))
    ∙ c.loop-entry.invariant
