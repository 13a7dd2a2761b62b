-- Both host programs know that A asks, and its station hears of it.
use Rattle.channel_bench.proofs.Common.{refl, ap, ◌∙◌, subst, None, A, B, Bytes, near, IsStep, Says, with_asking}
use Rattle.channel_bench.proofs.Common.{disconnect_octets, FromHost}
use Rattle.channel_bench.specs.HostProgram.{asking, waiting}
use Rattle.channel_bench.proofs.RunLemmas.{with_a}
use Rattle.channel_bench.proofs.SideLemmas.{stands_program}
use Rattle.station.proofs.MemoryLemmas.{if_took}
use Rattle.channel_bench.proofs.run.Run.ask.Goals as goal

pub bring-requires : goal.bring-requires
bring-requires c = c.requires c.in_ok-octets.octets
    (if_took _ c.disconnect.result c.in_ok-octets.octets c.in_ok-octets.ensures.value c.disconnect.ensures.most)

pub returns-clause-asked : goal.returns-clause-asked
returns-clause-asked c = λ w bench h none.
    let run = c.args.self.now in
    let a = stands_program A run.a _ bench.a (asking bench.a.program) h.a
    (record {
      end = refl;
      station = refl;
      there = refl;
      reader = refl;
      ear = refl;
      towards = refl;
      matched = refl;
      air = refl;
      silenced = refl;
    })
    (c.ask.ensures ∙ ap asking h.a.program) in
    let b = stands_program B run.b _ bench.b (waiting bench.b.program) h.b
    (record {
      end = refl;
      station = refl;
      there = refl;
      reader = refl;
      ear = refl;
      towards = refl;
      matched = refl;
      air = refl;
      silenced = refl;
    })
    (c.wait.ensures ∙ ap waiting h.b.program) in
    let made = c.in_ok-bring.ensures.step A (near A (with_asking bench))
    (record { side_is = a; shared_is = h.shared }) none in
    with_a (Says A (disconnect_octets A)) _ w (with_asking bench) h.words b h.text_of_a h.text_of_b h.ticks refl (
      made.0,
      subst (λ o. IsStep A (FromHost (Bytes 1 o)) None (near A (with_asking bench)) made.0)
          (if_took _ c.disconnect.result c.in_ok-octets.octets c.in_ok-octets.ensures.value c.disconnect.ensures.spelled) made.1,
      made.2,
    )
