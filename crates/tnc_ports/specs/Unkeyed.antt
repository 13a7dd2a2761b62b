-- A tick of a live station that keys no transmitter.
use Rattle.std.specs.Prelude.{◌≡◌, ◌+◌, ◌*◌, ◌++◌, ℤ, Bool, List, length}
use Rattle.sample_ring.specs.declared.got.Got.{Got}
use Rattle.channel_access.specs.declared.air_tick.AirTick.{AirTick}
use Rattle.sound_rate.specs.Rates.{written_at}
use Rattle.tnc_ports.specs.declared.serve_words.ServeWords.{ServeWords}
use Rattle.tnc_ports.specs.HealthNotes.{health_lines}
use Rattle.tnc_ports.specs.Measured.{ReadsTo, place_after}
use Rattle.host_ports.specs.Hosts.{Hosts}
use Rattle.tnc_ports.specs.Sampled.{Live, health_after_tick, notes_in_tick, tick_samples}
use Rattle.tnc_ports.specs.SampledFrames.{IsTickMade, with_lines}

-- The channel is busy by what the lanes hear alone, and the report has what the station tells and what is told of its
-- health, alone.
pub record IsPlainTick (words : ServeWords) (busy : Bool) (before after : Live) : Type 0 where
  pub reads : List Got
  pub reading : ReadsTo (tick_samples * (before.ticks + 1)) (place_after 0 before.sound) reads
  pub air : AirTick
  pub hosts : Hosts
  pub step : IsTickMade words.monitor busy air before.hosts hosts
  pub size : length air.samples ≡ tick_samples
  pub out : List ℤ
  pub at_rate : written_at words.rate (before.samples ++ air.samples) ≡ written_at words.rate before.samples ++ out
  pub is : after ≡ record before {
    hosts = with_lines (health_lines (notes_in_tick words busy reads air before hosts)) hosts;
    ticks = before.ticks + 1;
    samples = before.samples ++ air.samples;
    sent = before.sent ++ out;
    sound = before.sound ++ reads;
    health = health_after_tick words busy reads air before hosts;
  }
