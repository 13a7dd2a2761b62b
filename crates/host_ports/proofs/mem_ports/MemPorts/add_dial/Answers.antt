use Rattle.host_ports.proofs.Common.{false, ◌≡◌, ap, sym, ◌∙◌, ◌++◌, [], rules, PortsView, was_shut, has_dialed}
use Rattle.std.proofs.Common.{◌∷◌}
use Rattle.host_ports.proofs.ScriptLemmas.{still_one_of, dialed_more, was_shut-dialed, is_one_of}
use Rattle.host_ports.proofs.mem_ports.MemPorts.add_dial.Goals as goal

pub invariant_of-self-2 : goal.invariant_of-self-2
invariant_of-self-2 c =
    let came : c.push.new.self.items ≡ c.self.inside.came.items ++ (record { id = 1; shut = false }) ∷ [] =
    search rules in (
      c.self.invariant.0,
      c.self.invariant.1,
      λ id comes.
          ap (is_one_of id) came
          ∙ still_one_of id c.self.inside.came.items ((record { id = 1; shut = false }) ∷ [])
          (c.self.invariant.2 id comes),
      λ id dialed.
          ap (is_one_of id) came
          ∙ dialed_more id c.self.inside.dials.items (record { port = c.args.port; id = 1 }) c.self.inside.came.items
          (c.self.invariant.3 id) (sym (ap (has_dialed id) c.in_ok-push-2.ensures.items) ∙ dialed),
    )

pub returns-clause-shut : goal.returns-clause-shut
returns-clause-shut c = λ id.
    let came : c.push.new.self.items ≡ c.self.inside.came.items ++ (record { id = 1; shut = false }) ∷ [] =
    search rules in
    ap (λ all. was_shut all id) came ∙ was_shut-dialed c.self.inside.came.items 1 id
    ∙ ap (λ (view : PortsView). was_shut view.came id) c.self.view_is
