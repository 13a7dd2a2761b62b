use Rattle.resampler.proofs.Common.{◌≡◌, ◌+◌, ◌-◌, ◌*◌, ◌/◌, ◌≤◌, ◌∙◌, ℕ, ℤ, List, ◌++◌, length, take, drop, ap, sym, arith}
use Rattle.resampler.proofs.Common.{decimated_settled, last_window, HeldFilter, length-append, take_all}
use Rattle.std.proofs.lemmas.List.{length-take-le}
use Rattle.resampler.specs.Line.{each_fifth}
use Rattle.resampler.proofs.LineLemmas.{window_of_line, fifths_settled, left_after, take_written}
use Rattle.resampler.proofs.decimator.Decimator.feed_part.Goals as goal

pub returns-clause-fed : goal.returns-clause-fed
returns-clause-fed c = λ x h.
    let part : List ℤ = c.args.part.now in
    let line : List ℤ = c.line_of-line.result in
    let left : ℕ = c.from-left.result in
    let count : ℕ = c.saturating_sub-count.result / 5 in
    let view = c.self.view_is in
    let line_is : take (31 + length part) line ≡ last_window x ++ part =
    c.line_of-line.ensures
    ∙ ap (λ w. w ++ part) (c.samples.ensures ∙ ap (λ (held : HeldFilter). held.window) view ∙ h.window) in
    let left_is : left ≡ c.args.self.now.left = c.from-left.ensures ∙ ap (λ (held : HeldFilter). held.left) view in
    let at = h.left in
    let before : left + length x ≡ 15 + 5 * ((length x - 15 + 4) / 5) = omega arith in
    let some : count ≡ (length part + 4 - left) / 5 = ap (λ n. n / 5) c.saturating_sub-count.ensures in
    let room = c.requires.room in
    let fits : count ≤ length c.args.out.now = omega arith in
    let whole : take (length part) part ≡ part = take_all (length part) part (omega arith) in (
      record {
        window = c.replace.ensures ∙ c.window_at.ensures
            ∙ window_of_line x part line (length part) (omega arith) line_is
            ∙ ap (λ t. last_window (x ++ t)) whole;
        left = ap (λ n. left + 5 * count - length part + n) (length-append x part)
            ∙ left_after (length x) (length part) left count before some
            ∙ ap (λ n. 15 + 5 * ((n - 15 + 4) / 5)) (sym (length-append x part));
      },
      fifths_settled x part line left count line_is before some
          ∙ ap (λ l. decimated_settled x ++ l) (sym (take_written line (left + 1) count c.filter_each_fifth.new.out
          (drop count c.args.out.now)
          (c.filter_each_fifth.ensures ∙ ap (each_fifth line (left + 1)) (length-take-le count c.args.out.now fits)))),
    )
