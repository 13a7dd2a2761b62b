use Rattle.host_ports.proofs.Common.{◌≡◌, sym, ap, subst, ◌∙◌, inl, list_any, is_from}
use Rattle.std.proofs.Common.{true}
use Rattle.host_ports.proofs.host_parts.HostParts.has_to_wait.Goals as goal

pub returns-then-has_untaken-clause-waits : goal.returns-then-has_untaken-clause-waits
returns-then-has_untaken-clause-waits c = λ printed hosts h. (
  λ is.
      let has : list_any (is_from c.args.id) c.args.self.now.untaken.items ≡ true =
      ap (list_any (is_from c.args.id)) (sym c.deref.ensures.value) ∙ sym c.has_untaken.ensures ∙ is in
      inl (subst (λ all. list_any (is_from c.args.id) all ≡ true) (sym h.untaken) has),
  λ waits. c.if-has_untaken.true,
)
