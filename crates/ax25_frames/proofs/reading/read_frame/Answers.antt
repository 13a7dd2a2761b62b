use Rattle.std.proofs.Common.{ℕ, List, subst, Ok, Err}
use Rattle.std.proofs.lemmas.List.{take_rest}
use Rattle.std.proofs.lemmas.Result.{err_from_is_err_and}
use Rattle.ax25_frames.specs.Verdict.{IsOneKind}
use Rattle.ax25_frames.proofs.FrameLemmas.{IsOneFrame, IsOneFrame-address, IsOneFrame-kind, IsOneFrame-fault}
use Rattle.ax25_frames.proofs.reading.read_frame.Goals as goal

pub returns-in-Err : goal.returns-in-Err
returns-in-Err c =
    let one = IsOneFrame-address c.args.modulus c.args.octets.now c.in-Err.fault c.in-Err.ensures.fault in
    record { frame = one.frame; fault = one.fault; each_frame = one.each_frame; each_fault = one.each_fault }

pub returns-in_err-kind : goal.returns-in_err-kind
returns-in_err-kind c =
    let p = err_from_is_err_and c.from_residual.result c.from_residual.ensures.1 in
    let octets = c.args.octets.now in
    let reading = c.in-Ok.reading in
    let said = subst (λ (xs : List ℕ). IsOneKind c.args.modulus xs reading.1 (Err c.in_err-kind.field-0.0))
    (take_rest octets reading.1) c.in_err-kind.ensures in
    let one : IsOneFrame c.args.modulus octets c.from_residual.result =
    rw (p.1, p.2) (IsOneFrame-fault c.args.modulus octets reading.0 reading.1 _ c.in-Ok.ensures.path said) in
    record { frame = one.frame; fault = one.fault; each_frame = one.each_frame; each_fault = one.each_fault }

pub returns : goal.returns
returns c =
    let octets = c.args.octets.now in
    let reading = c.in-Ok.reading in
    let said = subst (λ (xs : List ℕ). IsOneKind c.args.modulus xs reading.1 (Ok c.in_ok-kind.kind))
    (take_rest octets reading.1) c.in_ok-kind.ensures in
    let one = IsOneFrame-kind c.args.modulus octets reading.0 reading.1 c.in_ok-kind.kind c.in-Ok.ensures.path said in
    record { frame = one.frame; fault = one.fault; each_frame = one.each_frame; each_fault = one.each_fault }
