-- A's host program knows that it calls, and its station hears of it.
use Rattle.channel_bench.proofs.Common.{refl, ap, ◌∙◌, subst, None, A, Bytes, near, IsStep, Says, with_calling}
use Rattle.channel_bench.proofs.Common.{connect_octets, FromHost}
use Rattle.channel_bench.specs.HostProgram.{calling}
use Rattle.channel_bench.proofs.RunLemmas.{with_a}
use Rattle.channel_bench.proofs.SideLemmas.{stands_program}
use Rattle.station.proofs.MemoryLemmas.{if_took}
use Rattle.channel_bench.proofs.run.Run.call.Goals as goal

pub bring-requires : goal.bring-requires
bring-requires c = c.requires c.in_ok-octets.octets
    (if_took _ c.connect.result c.in_ok-octets.octets c.in_ok-octets.ensures.value c.connect.ensures.most)

pub returns-clause-called : goal.returns-clause-called
returns-clause-called c = λ w bench h none.
    let run = c.args.self.now in
    let a = stands_program A run.a _ bench.a (calling bench.a.program) h.a
    (record {
      end = refl;
      station = refl;
      there = refl;
      reader = refl;
      ear = refl;
      towards = refl;
      matched = refl;
      air = refl;
      silenced = refl;
    })
    (c.call.ensures ∙ ap calling h.a.program) in
    let made = c.in_ok-bring.ensures.step A (near A (with_calling bench))
    (record { side_is = a; shared_is = h.shared }) none in
    with_a (Says A (connect_octets A)) _ w (with_calling bench) h.words h.b h.text_of_a h.text_of_b h.ticks h.closing (
      made.0,
      subst (λ o. IsStep A (FromHost (Bytes 1 o)) None (near A (with_calling bench)) made.0)
          (if_took _ c.connect.result c.in_ok-octets.octets c.in_ok-octets.ensures.value c.connect.ensures.spelled) made.1,
      made.2,
    )
