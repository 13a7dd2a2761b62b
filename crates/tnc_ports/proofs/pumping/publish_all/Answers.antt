use Rattle.tnc_ports.proofs.Common.{◌≡◌, ◌<◌, ◌≤◌, ◌+◌, ◌∙◌, ◌++◌, ◌∷◌, ℤ, [], refl, ap, sym, subst, arith, get_or}
use Rattle.tnc_ports.proofs.Common.{length, map, append_assoc, append-nil, length-append, length-take-le, map-append}
use Rattle.tnc_ports.proofs.Common.{take, take_more, Publishes, Step, rules}
use Rattle.std.proofs.Common.{FitsSigned, List, Some, pos}
use Rattle.std.proofs.lemmas.Int.{to_z-of_z}
use Rattle.std.proofs.lemmas.List.{take_all}
use Rattle.tnc_ports.proofs.pumping.publish_all.Goals as goal
use mir.Syntax.{w16}

pub loop-sample-init : goal.loop-sample-init
loop-sample-init g c = record {
  input = refl;
  output = refl;
  ring = refl;
  published = sym (append-nil (g.T.Inlet.published c.args.inlet.now));
  steps = λ before told. told ∙ ap Some (sym (append-nil before));
  source = refl;
}

pub publish-requires : goal.publish-requires
publish-requires g c =
    let room = c.requires in
    let lt = c.loop-sample-test.true in
    let size = ap length c.loop-sample.invariant.published
    ∙ length-append (g.T.Inlet.published c.args.inlet.now) (take c.loop-sample.sample-index c.args.samples.now) in
    let first : length (take c.loop-sample.sample-index c.args.samples.now) ≡ c.loop-sample.sample-index =
    length-take-le c.loop-sample.sample-index c.args.samples.now (omega arith) in
    omega (arith, room, lt, size, first)

pub loop-sample-preserved : goal.loop-sample-preserved
loop-sample-preserved g c =
    let samples : List ℤ = c.args.samples.now in
    let i = c.loop-sample.sample-index in
    let sample : ℤ = get_or samples i (pos 0) in
    let fits : FitsSigned w16 sample = search rules in
    let same = to_z-of_z w16 sample fits in
    let more = take_more samples i (pos 0) c.loop-sample-test.true in
    record {
      input = c.publish.ensures.input ∙ c.loop-sample.invariant.input;
      output = c.publish.ensures.output ∙ c.loop-sample.invariant.output;
      ring = c.publish.ensures.ring ∙ c.loop-sample.invariant.ring;
      published = c.publish.ensures.published
          ∙ ap (λ (z : ℤ). g.T.Inlet.published c.loop-sample.inlet ++ z ∷ []) same
          ∙ ap (λ p. p ++ sample ∷ []) c.loop-sample.invariant.published
          ∙ append_assoc (g.T.Inlet.published c.args.inlet.now) (take i samples) (sample ∷ [])
          ∙ ap (λ t. g.T.Inlet.published c.args.inlet.now ++ t) (sym more);
      steps = λ before told.
          c.publish.ensures.told (before ++ map Publishes (take i samples)) (c.loop-sample.invariant.steps before told)
          ∙ ap (λ (z : ℤ). Some ((before ++ map Publishes (take i samples)) ++ Publishes z ∷ [])) same
          ∙ ap Some (append_assoc before (map Publishes (take i samples)) (Publishes sample ∷ [])
          ∙ ap (λ l. before ++ l) (sym (ap (map Publishes) more ∙ map-append Publishes (take i samples) (sample ∷ []))));
      source = c.publish.ensures.source ∙ c.loop-sample.invariant.source;
    }

pub returns-clause-published : goal.returns-clause-published
returns-clause-published g c =
    let past = c.loop-sample-test.false in
    c.loop-sample.invariant.published
    ∙ ap (λ t. g.T.Inlet.published c.args.inlet.now ++ t) (take_all c.loop-sample.sample-index c.args.samples.now (omega arith))

pub returns-clause-steps : goal.returns-clause-steps
returns-clause-steps g c = λ before told.
    let past = c.loop-sample-test.false in
    c.loop-sample.invariant.steps before told
    ∙ ap (λ t. Some (before ++ map Publishes t)) (take_all c.loop-sample.sample-index c.args.samples.now (omega arith))
