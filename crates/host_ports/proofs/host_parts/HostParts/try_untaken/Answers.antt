use Rattle.host_ports.proofs.Common.{◌≡◌, ◌≤◌, ◌++◌, [], length, refl, sym, ap, subst, ◌∙◌, append_assoc, arith}
use Rattle.host_ports.proofs.Common.{HostParts, Untaken, Hosts, InOrder, IsTried}
use Rattle.std.proofs.Common.{◌∷◌, All, suc}
use Rattle.host_ports.proofs.TakeLemmas.{runs_more, put_aside, whole_list}
use Rattle.host_ports.proofs.host_parts.HostParts.try_untaken.Goals as goal

pub loop-one-preserved : goal.loop-one-preserved
loop-one-preserved c =
    let begun : HostParts = record c.args.self.now { untaken = c.replace-untaken.new.dest } in
    let left = c.next.new.self.rest.items in
    let few : All (λ (one : Untaken). length one.octets ≤ 17) (c.in-Some.one ∷ left) =
    subst (All (λ (one : Untaken). length one.octets ≤ 17))
    c.in-Some.ensures.steps.0 c.loop-one.invariant.pieces in
    record {
      moves = runs_more IsTried c.loop-one.yielded c.in-Some.one begun c.loop-one.self c.take_octets.new.self
          c.loop-one.invariant.moves c.in_ok-take_octets.ensures.moves;
      rest = c.in_ok-take_octets.ensures.rest;
      parts =
          c.loop-one.invariant.parts ∙ ap (λ more. c.loop-one.yielded ++ more) c.in-Some.ensures.steps.0
          ∙ sym (append_assoc c.loop-one.yielded (c.in-Some.one ∷ []) left);
      pieces = λ k d within. few (suc k) d (omega (arith, within));
    }

pub returns-clause-moves : goal.returns-clause-moves
returns-clause-moves c = λ printed hosts h.
    let begun : HostParts = record c.args.self.now { untaken = c.replace-untaken.new.dest } in
    let none : begun.untaken.items ≡ [] = ap (λ v. v.items) c.replace-untaken.ensures.after ∙ c.new.ensures.items in
    let aside : Hosts = record hosts { untaken = [] } in
    let m = c.loop-one.invariant.moves printed aside
    (put_aside c.args.self.now begun printed hosts refl refl refl refl refl refl none h) in
    let over : length c.loop-one.one-iterator.rest.items ≡ 0 = sym c.loop-one.one-iterator.rest.ok.0
    ∙ c.in-None.ensures.steps.0 in
    let all : c.loop-one.yielded ≡ hosts.untaken =
    whole_list c.into_iter-one-iterator.result.rest.items c.loop-one.yielded c.loop-one.one-iterator.rest.items
    c.loop-one.invariant.parts over
    ∙ c.into_iter-one-iterator.ensures.into_iter_gives.0 ∙ ap (λ v. v.items) c.replace-untaken.ensures.value
    ∙ sym h.untaken in
    (m.0, subst (λ all. InOrder IsTried all aside m.0) all m.1, m.2)
