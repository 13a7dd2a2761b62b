-- The station makes the step of the frame, and what was in flight before it is in flight no longer.
use Rattle.channel_bench.proofs.Common.{◌<◌, refl, All}
use Rattle.std.proofs.lemmas.List.Elements.{All-from_get_or}
use Rattle.channel_bench.proofs.HeardSteps.{heard_step}
use Rattle.channel_bench.proofs.side.Side.hear_sent.Goals as goal

pub returns-clause-step : goal.returns-clause-step
returns-clause-step c = λ end n h none.
    let small : All (λ octet. octet < 256) c.args.octets.now =
    All-from_get_or (λ octet. octet < 256) c.args.octets.now 0 (λ i h. (c.type_inv.octets i).fits) in
    heard_step end c.args.octets.now c.args.number n c.in_ok-out.out c.args.self.now _ c.settle.new.self
    c.args.shared.now _ c.settle.new.shared
    c.is_ask.result h none
    (record {
      end = refl;
      there = refl;
      reader = refl;
      program = refl;
      ear = refl;
      towards = refl;
      air = refl;
      silenced = refl;
    }) refl
    (c.in_ok-out.ensures.step n.side.station h.side_is.station) c.in_ok-out.ensures.ids small c.is_ask.ensures
    (record { draws = refl; transmissions = refl; lost = refl; trouble = refl }) c.hear.ensures
    c.in_ok-settle.ensures.side c.in_ok-settle.ensures.flight c.in_ok-settle.ensures.trouble c.in_ok-settle.ensures.rest
