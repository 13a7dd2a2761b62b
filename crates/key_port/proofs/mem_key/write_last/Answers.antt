use Rattle.std.proofs.Common.{◌≡◌, ◌+◌, ◌-◌, length, set, ap, sym, ◌∙◌, arith}
use Rattle.key_port.specs.KeyLines.{after_write}
use Rattle.key_port.proofs.LineLemmas.{with_last-at, on_ok}
use Rattle.key_port.proofs.mem_key.write_last.Goals as goal

pub returns-clause-written : goal.returns-clause-written
returns-clause-written c =
    let now = c.args.lines.now.items in
    let long : c.len-count.result ≡ length now = c.len-count.ensures ∙ c.args.lines.now.ok.0 in
    let some = c.if-count-eq0.false in
    let at : (c.len-count.result - 1) + 1 ≡ length now = omega (arith, long, some) in
    on_ok c.note_write.result
    (λ (h : c.note_write.new.self ≡ after_write c.args.command c.args.had c.index_mut.result.now).
    ap (set now (c.len-count.result - 1)) (h ∙ ap (after_write c.args.command c.args.had) c.index_mut.ensures.value)
    ∙ sym (with_last-at (after_write c.args.command c.args.had) now (c.len-count.result - 1) c.index_mut.result.now at))
    c.note_write.ensures.written
