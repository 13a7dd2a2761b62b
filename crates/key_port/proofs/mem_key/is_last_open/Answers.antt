use Rattle.std.proofs.Common.{◌≡◌, ◌+◌, ◌-◌, length, ap, sym, ◌∙◌, arith}
use Rattle.std.specs.Prelude.{not}
use Rattle.key_port.specs.KeyLines.{KeyLine}
use Rattle.key_port.proofs.LineLemmas.{is_open-at}
use Rattle.key_port.proofs.mem_key.is_last_open.Goals as goal

pub returns-then-count-gt0 : goal.returns-then-count-gt0
returns-then-count-gt0 c =
    let now = c.args.lines.now.items in
    let long : c.len-count.result ≡ length now = c.len-count.ensures ∙ c.args.lines.now.ok.0 in
    let some = c.if-count-gt0.true in
    let at : (c.len-count.result - 1) + 1 ≡ length now = omega (arith, long, some) in
    c.is_open.ensures ∙ ap (λ (l : KeyLine). not l.dropped) c.index.ensures
    ∙ sym (is_open-at now (c.len-count.result - 1) c.index.result.now at)
