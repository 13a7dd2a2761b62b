use Rattle.tnc_forms.proofs.Common.{sym, subst, ◌∙◌, arith}
use Rattle.tnc_forms.proofs.HexFrameLemmas.{HasReadLines, has_read_none, read_nothing, read_frame, read_bad}
use Rattle.tnc_forms.proofs.hex_frames.read_hex_frames.Goals as goal

pub lines-init : goal.lines-init
lines-init c = has_read_none c.args.least c.args.input.now c.new-frames.result.items c.new-frames.ensures.items

pub overflow_add-place : goal.overflow_add-place
overflow_add-place c =
    let bad = read_bad c.args.least c.args.input.now c.lines.frames.items c.lines.place c.line_at-next.result.1
    c.in-Some.at c.line_at-next.result.0.now
    c.lines.invariant c.in-Some.is c.line_at-next.ensures.lines c.in-Refused.flaw c.in-Refused.offset
    (sym c.in_ok-read_line.ensures ∙ c.in-Refused.is) in
    let offset = bad.2 in
    let within = c.line_at-next.ensures.within in
    omega arith

pub lines-preserved : goal.lines-preserved
lines-preserved c =
    subst (λ frames. HasReadLines c.args.least c.args.input.now frames c.line_at-next.result.1)
    (sym c.in_ok-push-in-Frame.ensures.items)
    (read_frame c.args.least c.args.input.now c.lines.frames.items c.lines.place c.line_at-next.result.1 c.in-Some.at
    c.line_at-next.result.0.now
    c.lines.invariant c.in-Some.is c.line_at-next.ensures.lines c.in-Frame.octets c.line_at-next.ensures.next
    (sym c.in_ok-read_line.ensures ∙ c.in-Frame.is))

pub lines-preserved-in-Nothing : goal.lines-preserved-in-Nothing
lines-preserved-in-Nothing c =
    read_nothing c.args.least c.args.input.now c.lines.frames.items c.lines.place c.line_at-next.result.1 c.in-Some.at
    c.line_at-next.result.0.now
    c.lines.invariant c.in-Some.is c.line_at-next.ensures.lines c.line_at-next.ensures.next
    (sym c.in_ok-read_line.ensures ∙ c.in-Nothing.is)
