use Rattle.std.proofs.Common.{◌≡◌, ◌+◌, ◌-◌, length, set, ap, sym, ◌∙◌, arith}
use Rattle.key_port.specs.KeyLines.{after_drop}
use Rattle.key_port.proofs.LineLemmas.{with_last-at, none_last}
use Rattle.key_port.proofs.mem_key.drop_last.Goals as goal

pub returns-then-count-gt0 : goal.returns-then-count-gt0
returns-then-count-gt0 c =
    let now = c.args.lines.now.items in
    let long : c.len-count.result ≡ length now = c.len-count.ensures ∙ c.args.lines.now.ok.0 in
    let some = c.if-count-gt0.true in
    let at : (c.len-count.result - 1) + 1 ≡ length now = omega (arith, long, some) in
    ap (set now (c.len-count.result - 1)) (c.note_drop.ensures ∙ ap after_drop c.index_mut.ensures.value)
    ∙ sym (with_last-at after_drop now (c.len-count.result - 1) c.index_mut.result.now at)

pub returns-else-count-gt0 : goal.returns-else-count-gt0
returns-else-count-gt0 c =
    let now = c.args.lines.now.items in
    let long : c.len-count.result ≡ length now = c.len-count.ensures ∙ c.args.lines.now.ok.0 in
    let none = c.if-count-gt0.false in
    let empty : length now ≡ 0 = omega (arith, long, none) in
    sym (none_last after_drop now empty)
