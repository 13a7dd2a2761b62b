use Rattle.std.proofs.Common.{sym, refl}
use Rattle.std.specs.Prelude.{Some}
use Rattle.keying.specs.declared.line.End.TheVariants.{Fault}
use Rattle.key_port.proofs.LineLemmas.{read_nothing}
use Rattle.key_port.proofs.mem_key.note_came.Goals as goal

pub returns-in-Some-Fault-clause-told : goal.returns-in-Some-Fault-clause-told
returns-in-Some-Fault-clause-told c = sym (read_nothing c.args.now (Some Fault) c.args.lines.now.items refl)
