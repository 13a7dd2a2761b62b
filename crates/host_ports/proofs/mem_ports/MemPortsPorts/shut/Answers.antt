use Rattle.host_ports.proofs.Common.{ap, ◌∙◌, PortsView, was_shut, has_come, has_dialed}
use Rattle.host_ports.proofs.ScriptLemmas.{with_shut-itself, with_shut-others, with_shut-ids, is_one_of}
use Rattle.host_ports.proofs.mem_ports.MemPortsPorts.shut.Goals as goal

pub invariant_of-self : goal.invariant_of-self
invariant_of-self c = (
  c.self.invariant.0,
  c.self.invariant.1,
  λ id comes. ap (is_one_of id) c.shut_all_of.ensures ∙ with_shut-ids c.args.id id c.self.inside.came.items
      ∙ c.self.invariant.2 id comes,
  λ id dialed. ap (is_one_of id) c.shut_all_of.ensures ∙ with_shut-ids c.args.id id c.self.inside.came.items
      ∙ c.self.invariant.3 id dialed,
)

pub returns-clause-shut : goal.returns-clause-shut
returns-clause-shut c = λ come.
    ap (λ all. was_shut all c.args.id) c.shut_all_of.ensures
    ∙ with_shut-itself c.args.id c.self.inside.came.items (c.self.invariant.2 c.args.id
    (ap (λ (view : PortsView). has_come c.args.id view.polls) c.self.view_is ∙ come))

pub returns-clause-shut_dialed : goal.returns-clause-shut_dialed
returns-clause-shut_dialed c = λ dialed.
    ap (λ all. was_shut all c.args.id) c.shut_all_of.ensures
    ∙ with_shut-itself c.args.id c.self.inside.came.items (c.self.invariant.3 c.args.id
    (ap (λ (view : PortsView). has_dialed c.args.id view.dials) c.self.view_is ∙ dialed))

pub returns-clause-others : goal.returns-clause-others
returns-clause-others c = λ other differs.
    ap (λ all. was_shut all other) c.shut_all_of.ensures
    ∙ with_shut-others c.args.id c.self.inside.came.items other differs
    ∙ ap (λ (view : PortsView). was_shut view.came other) c.self.view_is
