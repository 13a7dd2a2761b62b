use Rattle.std.proofs.Common.{◌≡◌, ◌+◌, ap, arith, ◌∙◌, length, length-append}
use Rattle.std.proofs.lemmas.Result.{err_from_is_err_and}
use Rattle.ax25_frames.specs.ControlField.{control_octets}
use Rattle.ax25_frames.proofs.Outcomes.{IsOneKind-outcome, IsOneKind-verdict}
use Rattle.ax25_frames.proofs.reading.read_kind.Goals as goal

pub returns-in_err-control : goal.returns-in_err-control
returns-in_err-control c =
    let p = err_from_is_err_and c.from_residual.result c.from_residual.ensures.1 in
    rw (p.1, p.2) (IsOneKind-outcome c.args.modulus c.args.body.now c.args.start _ c.in_err-control.ensures.fault)

pub returns : goal.returns
returns c =
    let control = c.in_ok-control.control in
    let rest = c.in_ok-control.rest.now in
    let whole = c.in_ok-control.ensures.control in
    let len : length c.args.body.now ≡ length (control_octets c.args.modulus control) + length rest =
    ap length whole.1 ∙ length-append (control_octets c.args.modulus control) rest in
    IsOneKind-verdict c.args.modulus c.args.body.now c.args.start _ control rest c.kind_of.result whole.0 whole.1
    (omega arith) c.kind_of.ensures
