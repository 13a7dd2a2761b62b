use Rattle.std.proofs.Common.{sym, refl, ◌∙◌}
use Rattle.std.specs.Prelude.{None, Some}
use Rattle.keying.specs.declared.line.End.TheVariants.{Fault}
use Rattle.key_port.proofs.LineLemmas.{read_nothing}
use Rattle.key_port.proofs.mem_key.note_octets.Goals as goal

pub returns-then-count-eq0-clause-told : goal.returns-then-count-eq0-clause-told
returns-then-count-eq0-clause-told c = sym (read_nothing c.args.now None c.args.lines.now.items refl)

pub returns-in-Err-clause-told : goal.returns-in-Err-clause-told
returns-in-Err-clause-told c =
    c.in-Err.ensures.memory ∙ sym (read_nothing c.args.now (Some Fault) c.args.lines.now.items refl)
