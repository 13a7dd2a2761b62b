use Rattle.tnc_ports.proofs.Common.{◌∙◌, ◌++◌, [], refl, ap, sym, subst, arith, map, append_assoc, append-nil, length}
use Rattle.tnc_ports.proofs.Common.{length-append, map-append, take, Publishes, ◌≡◌, ◌≤◌}
use Rattle.std.proofs.Common.{List, Some, ℤ}
use Rattle.std.proofs.lemmas.List.{take_all}
use Rattle.tnc_ports.specs.HeldPump.{HasTaken}
use Rattle.tnc_ports.proofs.PumpLemmas.{taken_more, taken_none}
use Rattle.tnc_ports.proofs.pumping.publish.Goals as goal

pub loop-octet-init : goal.loop-octet-init
loop-octet-init g c = record {
  input = refl;
  output = refl;
  ring = refl;
  taken = λ rate x fed. taken_none rate x c.args.low.now c.args.incoming.now (g.T.Inlet.published c.args.inlet.now) fed;
  few = omega arith;
  steps = (
    [],
    sym (append-nil (g.T.Inlet.published c.args.inlet.now)),
    λ before told. told ∙ ap Some (sym (append-nil before)),
  );
  source = refl;
}

pub loop-octet-preserved : goal.loop-octet-preserved
loop-octet-preserved g c =
    let so_far = c.loop-octet.invariant.steps in
    let one = c.push_octet.ensures.steps in
    record {
      input = c.push_octet.ensures.input ∙ c.loop-octet.invariant.input;
      output = c.push_octet.ensures.output ∙ c.loop-octet.invariant.output;
      ring = c.push_octet.ensures.ring ∙ c.loop-octet.invariant.ring;
      taken = λ rate x fed.
          taken_more rate x c.args.low.now c.loop-octet.low c.push_octet.new.low c.args.octets.now
          c.loop-octet.octet-index c.loop-octet.incoming c.push_octet.new.incoming _ _ c.loop-octet-test.true
          (c.loop-octet.invariant.taken rate x fed) (c.push_octet.ensures.fed rate) c.push_octet.ensures.rest;
      few =
          let before = c.loop-octet.invariant.few in
          let size = ap length one.1 ∙ length-append (g.T.Inlet.published c.loop-octet.inlet) one.0 in
          let small = one.2 in
          omega (arith, before, size, small);
      steps = (
        so_far.0 ++ one.0,
        one.1 ∙ ap (λ p. p ++ one.0) so_far.1
            ∙ append_assoc (g.T.Inlet.published c.args.inlet.now) so_far.0 one.0,
        λ before told.
            one.3 (before ++ map Publishes so_far.0) (so_far.2 before told)
            ∙ ap Some (append_assoc before (map Publishes so_far.0) (map Publishes one.0)
            ∙ ap (λ l. before ++ l) (sym (map-append Publishes so_far.0 one.0))),
      );
      source = c.push_octet.ensures.source ∙ c.loop-octet.invariant.source;
    }
