use Rattle.std.proofs.Common.{◌≡◌, ◌+◌, ◌-◌, length, set, ap, sym, ◌∙◌, arith}
use Rattle.std.specs.Prelude.{None}
use Rattle.key_port.specs.KeyLines.{after_read}
use Rattle.key_port.proofs.LineLemmas.{with_last-at, on_ok}
use Rattle.key_port.proofs.mem_key.read_last.Goals as goal

pub returns-clause-read : goal.returns-clause-read
returns-clause-read c =
    let now = c.args.lines.now.items in
    let long : c.len-count.result ≡ length now = c.len-count.ensures ∙ c.args.lines.now.ok.0 in
    let some = c.if-count-eq0.false in
    let at : (c.len-count.result - 1) + 1 ≡ length now = omega (arith, long, some) in
    on_ok c.note_read.result
    (λ (h : c.note_read.new.self ≡ after_read c.args.now c.args.octets.now None c.index_mut.result.now).
    ap (set now (c.len-count.result - 1)) (h ∙ ap
    (after_read c.args.now c.args.octets.now None) c.index_mut.ensures.value)
    ∙ sym (with_last-at (after_read c.args.now c.args.octets.now None) now
    (c.len-count.result - 1) c.index_mut.result.now at))
    c.note_read.ensures.read
