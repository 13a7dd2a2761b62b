use Rattle.hf_sender.proofs.Common.{◌+◌, ◌*◌, ◌%◌, arith, refl, rules}
use Rattle.hf_sender.proofs.WaveLemmas.{samples_more, samples_all}
use Rattle.hf_sender.proofs.modulator.window.Goals as goal

pub loop-place-preserved : goal.loop-place-preserved
loop-place-preserved c = record {
  samples = samples_more c.args.level c.args.phase c.loop-place.place c.step-step.result
      ((c.args.phase + c.loop-place.place * c.step-step.result) % 48)
      c.args.tone c.loop-place.window c.sine.result c.at_level.result
      (omega arith) c.loop-place.invariant.samples c.step-step.ensures refl c.sine.ensures.sample
      c.sine.ensures.bound c.at_level.ensures.value c.at_level.ensures.bound c.requires.level;
  whole = search rules;
}

pub returns : goal.returns
returns c =
    samples_all c.args.level c.args.phase c.loop-place.place c.args.tone c.loop-place.window (omega arith)
    c.loop-place.invariant.whole c.loop-place.invariant.samples
