use Rattle.tnc_ports.proofs.Common.{◌≡◌, ap, refl, rules, sym, ◌∙◌, ring_len}
use Rattle.slicer_bank.specs.RingTurns.{reads_on}
use Rattle.std.proofs.Common.{of_z, to_z}
use Rattle.std.proofs.lemmas.Int.{to_z-of_z}
use mir.Syntax.{w16}
use Rattle.host_ports.specs.Health.{after_answer, after_sample}
use Rattle.tnc_ports.proofs.LiveMeter.{read_more, stays_so}
use Rattle.tnc_ports.proofs.meter.Meter.read_once.Goals as goal

pub returns-in-Item-clause-read : goal.returns-in-Item-clause-read
returns-in-Item-clause-read c =
    let stored : to_z w16 (of_z w16 c.in-Item.sample) ≡ c.in-Item.sample =
    to_z-of_z w16 c.in-Item.sample (search rules) in
    record {
      got = c.read-got.result;
      answers = read_more (ring_len c.args.ring.now) c.args.self.now.reader c.read-got.new.self c.read-got.result
          c.read-got.ensures.read;
      place = c.read-got.ensures.moves;
      forward = c.read-got.ensures.forward;
      health = c.take_sample.ensures ∙ ap (λ sample. after_sample sample c.args.self.now.health) stored
          ∙ sym (ap (after_answer c.args.self.now.health) c.in-Item.is);
      out = refl;
      goes_on = sym (ap reads_on c.in-Item.is);
    }

pub returns-in-Gap-clause-read : goal.returns-in-Gap-clause-read
returns-in-Gap-clause-read c = record {
  got = c.read-got.result;
  answers = read_more (ring_len c.args.ring.now) c.args.self.now.reader c.read-got.new.self c.read-got.result
      c.read-got.ensures.read;
  place = c.read-got.ensures.moves;
  forward = c.read-got.ensures.forward;
  health = c.miss_samples.ensures ∙ sym (ap (after_answer c.args.self.now.health) c.in-Gap.is);
  out = refl;
  goes_on = sym (ap reads_on c.in-Gap.is);
}

pub returns-in-Empty-clause-read : goal.returns-in-Empty-clause-read
returns-in-Empty-clause-read c = record {
  got = c.read-got.result;
  answers = read_more (ring_len c.args.ring.now) c.args.self.now.reader c.read-got.new.self c.read-got.result
      c.read-got.ensures.read;
  place = c.read-got.ensures.moves;
  forward = c.read-got.ensures.forward;
  health = (stays_so c.args.self.now.health c.read-got.result c.in-Empty.is).1;
  out = refl;
  goes_on = (stays_so c.args.self.now.health c.read-got.result c.in-Empty.is).0;
}
