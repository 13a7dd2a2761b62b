use Rattle.std.proofs.Common.{ap, sym, refl}
use Rattle.std.specs.Prelude.{None}
use Rattle.key_port.proofs.LineLemmas.{read_nothing}
use Rattle.key_port.proofs.mem_key.MemKeyPort.bring.Goals as goal

pub returns-then-not-is_last_open-clause-told : goal.returns-then-not-is_last_open-clause-told
returns-then-not-is_last_open-clause-told c =
    let now = c.args.self.now in
    ap (λ lines. record now { lines = lines }) (sym (read_nothing now.time None now.lines refl))
