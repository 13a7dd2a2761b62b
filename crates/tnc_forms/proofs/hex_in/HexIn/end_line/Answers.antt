use Rattle.tnc_forms.proofs.Common.{◌≡◌, ◌++◌, Err, Some, ap, sym, ◌∙◌, err_from_is_err_and, strip_carriage_return}
use Rattle.tnc_forms.proofs.Common.{Input, fault_in_line}
use Rattle.tnc_forms.proofs.Ends.{same_fault}
use Rattle.tnc_forms.proofs.SoFarLemmas.{long_fault}
use Rattle.tnc_forms.proofs.hex_in.HexIn.end_line.Goals as goal

pub returns-in_err-keep-clause-bad : goal.returns-in_err-keep-clause-bad
returns-in_err-keep-clause-bad c = λ fault is.
    let told = err_from_is_err_and c.from_residual.result c.from_residual.ensures.1 in
    let same : c.in_err-keep.field-0.0 ≡ Input fault = same_fault _ _ (ap Err (sym told.2) ∙ sym told.1 ∙ is) in
    let long = c.in_err-keep.ensures.long fault (ap Err same) in
    let held = c.args.self.now in
    ap fault_in_line (long_fault held.least (record {
      place = held.place;
      text = strip_carriage_return (held.part ++ c.args.octets.now);
    }) long.1) ∙ ap Some (sym long.0)
