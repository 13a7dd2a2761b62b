use Rattle.tnc_ports.proofs.Common.{Some, None, refl}
use Rattle.tnc_ports.proofs.turning.Turning.sent_modulus.Goals as goal

pub returns-in-Ok : goal.returns-in-Ok
returns-in-Ok c = λ hosts printed stands. (
  Some c.in-Ok.path,
  (_, c.in-Ok.ensures.path),
  c.modulus.ensures hosts printed stands,
)

pub returns-in-Err : goal.returns-in-Err
returns-in-Err c = λ hosts printed stands. (
  None,
  (λ path len begins. let e = c.in-Err.ensures.each_path path len begins in cc e),
  refl,
)
