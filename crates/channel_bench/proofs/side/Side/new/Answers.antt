-- Nothing came yet.
use Rattle.channel_bench.proofs.Common.{◌≡◌, [], refl, subst, ids_of, config_of, if_took, EarStandsFor}
use Rattle.station.specs.Held.{Held}
use Rattle.station.specs.State.{new_station}
use Rattle.station.specs.StandsFor.{StandsFor}
use Rattle.station.proofs.WindowLemmas.{none_refused}
use Rattle.channel_bench.proofs.Loudness.{silence_within}
use Rattle.channel_bench.proofs.side.Side.new.Goals as goal

pub of_fitting_windows-requires : goal.of_fitting_windows-requires
of_fitting_windows-requires c = λ window is.
    none_refused c.args.config.params window c.requires ((c.new.ensures.bad_window window).0 is)

pub returns : goal.returns
returns c = λ w config blocks seed. record {
  end_is = refl;
  station = subst (λ s. StandsFor c.in_ok-station.station (new_station (config_of w) s)) seed
      (subst (λ k. StandsFor c.in_ok-station.station (new_station k c.args.seed)) config
      (if_took (λ (station : Held). StandsFor station (new_station c.args.config c.args.seed)) c.new.result
      c.in_ok-station.station c.in_ok-station.ensures c.new.ensures.stands_for));
  ids = if_took (λ (station : Held). ids_of station ≡ []) c.new.result c.in_ok-station.station c.in_ok-station.ensures
      c.new.ensures.no_ids;
  there = c.new-3.ensures.items;
  reader = c.new-4.ensures.stands_for;
  program = c.new-5.ensures;
  ear = subst (λ b. EarStandsFor c.in_ok-ear.ear b []) blocks c.in_ok-ear.ensures;
  towards = c.new-6.ensures.items;
  matched = refl;
  air = refl;
  loud = silence_within 96;
  silenced = refl;
}
