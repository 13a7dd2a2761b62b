use Rattle.std.proofs.Common.{sym, subst}
use Rattle.std.specs.Option.{option_to_list}
use Rattle.tnc_show.specs.Shown.{IsLineOf, IsTextOf, ended}
use Rattle.tnc_show.proofs.LineLemmas.{text_of_one}
use Rattle.tnc_show.proofs.lines.push_frame.Goals as goal

pub returns-in_ok-push_line : goal.returns-in_ok-push_line
returns-in_ok-push_line c =
    let line = c.as_str.result.now in
    let shows = subst (λ o. IsLineOf c.args.modulus o line) c.as_slice.ensures.list
    (subst (λ l. IsLineOf c.args.modulus c.as_slice.result.now l) (sym c.as_str.ensures.value) c.in_ok-line.ensures)
    in (
      ended line,
      subst (λ f. IsTextOf c.args.modulus (option_to_list f) (ended line)) (sym c.in-Some.is)
          (text_of_one c.args.modulus c.in-Some.octets line shows),
      c.in_ok-push_line.ensures,
    )
