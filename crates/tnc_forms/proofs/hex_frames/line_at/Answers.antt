use Rattle.tnc_forms.proofs.Common.{◌≡◌, ◌+◌, ◌-◌, ◌∷◌, [], length, take, drop, sym, ap, ◌∙◌, arith, position}
use Rattle.tnc_forms.proofs.Common.{strip_carriage_return, take_all, is_line_feed, lines_at}
use Rattle.std.proofs.Common.{length-drop}
use Rattle.tnc_forms.proofs.LineLemmas.{line_before, line_at_end}
use Rattle.tnc_forms.proofs.hex_frames.line_at.Goals as goal

pub returns-in-Some-clause-lines : goal.returns-in-Some-clause-lines
returns-in-Some-clause-lines c =
    let rest : take (length c.args.input.now - c.args.place) (drop c.args.place c.args.input.now)
    ≡ drop c.args.place c.args.input.now
    = take_all _ _ (omega (arith, length-drop c.args.place c.args.input.now)) in
    line_before c.args.input.now c.args.place c.in-Some.length (sym c.in-Some.is ∙ c.line_feed.ensures
    ∙ ap (position is_line_feed) rest)
    ∙ ap (λ text. record { place = c.args.place; text = text } ∷ lines_at c.args.input.now
    (c.args.place + c.in-Some.length + 1))
    (sym (c.without_carriage_return.ensures ∙ ap (λ xs. strip_carriage_return (take c.in-Some.length xs)) rest))

pub returns-in-None-clause-lines : goal.returns-in-None-clause-lines
returns-in-None-clause-lines c =
    let rest : take (length c.args.input.now - c.args.place) (drop c.args.place c.args.input.now)
    ≡ drop c.args.place c.args.input.now
    = take_all _ _ (omega (arith, length-drop c.args.place c.args.input.now)) in
    line_at_end c.args.input.now c.args.place (sym c.in-None.is ∙ c.line_feed.ensures ∙ ap (position is_line_feed) rest)
    ∙ ap (λ text. record { place = c.args.place; text = text } ∷ []) (sym rest)
