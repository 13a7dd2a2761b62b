-- What reaches a station: the samples that the other one sends, unless its transmission is lost or the station sends
-- itself in half duplex, and noise.
use Rattle.std.specs.Prelude.{ℕ, ◌+◌, ◌-◌, ◌*◌, ◌%◌, ◌==◌, nat_lt, nat_le, ◌&&◌, ◌||◌, not, Bool, true, ℤ, pos, negsuc}
use Rattle.std.specs.Prelude.{◌+ℤ◌, ◌-ℤ◌, if◌then◌else◌, List, [], ◌∷◌, ◌++◌, length, drop, count_by, replicate, Option}
use Rattle.std.specs.Prelude.{Some, None}
use Rattle.std.specs.List.{list_any}
use Rattle.rand_pcg.specs.Lcg.{Lcg}
use Rattle.channel_access.specs.declared.air_tick.AirTick.{AirTick}
use Rattle.channel_access.specs.declared.air_tick.Sent.{Sent}
use Rattle.link_world.specs.declared.end.End.TheVariants.{A, B}
use Rattle.channel_bench.specs.declared.matching.SentAt.{SentAt}
use Rattle.channel_bench.specs.declared.words.BenchWords.{BenchWords}
use Rattle.channel_bench.specs.BenchState.{SideState, BenchState, Near, near, with_near}
use Rattle.station_laws.specs.InFlight.Moment.{Passes}
use Rattle.channel_access.specs.Words.{after_word, next_word}

-- the samples of a tick
abbrev pub tick_samples : ℕ
tick_samples = 96

-- ---- losses

-- A transmission that begins draws one word, and is lost whole if that modulo 100 is below the loss.
abbrev pub is_lost : ℕ → Lcg → Bool
is_lost loss draws = nat_lt (next_word draws % 100) loss

abbrev pub with_transmission : Bool → Near → Near
with_transmission lost n = record {
  side = record n.side { silenced = lost };
  common = record n.common {
    draws = after_word n.common.draws;
    transmissions = n.common.transmissions + 1;
    lost = if lost then n.common.lost + 1 else n.common.lost;
  };
}

unfoldable pub with_loss : ℕ → Near → Near
with_loss loss n =
    if n.side.air.began then with_transmission (is_lost loss n.common.draws) n else n

-- A draws before B
unfoldable pub with_losses : ℕ → BenchState → BenchState
with_losses loss bench =
    let first = with_near A (with_loss loss (near A bench)) bench in
    with_near B (with_loss loss (near B first)) first

-- ---- samples

abbrev pub is_sound : ℤ → Bool
is_sound (pos n) = not (n == 0)
is_sound (negsuc n) = true

-- a station sends in a tick of which some sample is not silent
abbrev pub sends : AirTick → Bool
sends air = list_any is_sound air.samples

-- Nothing reaches a station of a transmission that is lost, nor in half duplex while it sends itself.
unfoldable pub reaching : Bool → SideState → SideState → List ℤ
reaching full sender hearer =
    if sender.silenced || (not full && sends hearer.air) then replicate tick_samples (pos 0) else sender.air.samples

-- noise of at most so much, from a word
abbrev pub noise_of : ℕ → ℕ → ℤ
noise_of noise word = pos (word % (2 * noise + 1)) -ℤ pos noise

-- samples, each with the noise of a word of its own, and the generator after them
abbrev pub with_words : ℕ → List ℤ → Lcg → List ℤ
with_words noise [] draws = []
with_words noise (sample ∷ samples) draws =
    (sample +ℤ noise_of noise (next_word draws)) ∷ with_words noise samples (after_word draws)

abbrev pub after_words : List ℤ → Lcg → Lcg
after_words [] draws = draws
after_words (sample ∷ samples) draws = after_words samples (after_word draws)

-- without noise no word is drawn
abbrev pub with_noise : ℕ → List ℤ → Lcg → List ℤ
with_noise noise samples draws = if noise == 0 then samples else with_words noise samples draws

abbrev pub after_noise : ℕ → List ℤ → Lcg → Lcg
after_noise noise samples draws = if noise == 0 then draws else after_words samples draws

-- ---- frames that are sent

-- a frame whose sending has ended in the tick of a number
abbrev pub sent_in : ℕ → Option Sent → List SentAt
sent_in tick None = []
sent_in tick (Some sent) = (record { octets = sent.octets; end = tick_samples * tick + sent.after }) ∷ []

-- ---- a tick of the channel

abbrev pub with_samples : List ℤ → List SentAt → SideState → SideState
with_samples samples sent side =
    record side { samples = side.samples ++ samples; towards = side.towards ++ sent }

-- the samples towards B have their noise drawn before those towards A
unfoldable pub carried : BenchWords → BenchState → BenchState
carried w bench =
    let to_b = reaching w.full bench.a bench.b in
    let to_a = reaching w.full bench.b bench.a in
    let draws = bench.common.draws in
    let between = after_noise w.noise to_b draws in
    record bench {
      a = with_samples (with_noise w.noise to_a between) (sent_in bench.ticks bench.b.air.sent) bench.a;
      b = with_samples (with_noise w.noise to_b draws) (sent_in bench.ticks bench.a.air.sent) bench.b;
      common = record bench.common { draws = after_noise w.noise to_a between };
    }

unfoldable pub sounding : BenchWords → BenchState → BenchState
sounding w bench = carried w (with_losses w.loss bench)

-- ---- marks

-- how far after the samples the marks of all lanes stand
abbrev pub mark_of : List ℤ → ℕ
mark_of samples = length samples - 7

-- One past the number of the last frame towards a station that is in flight no longer, since every mark has passed its
-- true end by 16 samples, or since it or a later one was matched.
abbrev pub passed_below : SideState → ℕ
passed_below side =
    side.matched
    + count_by (λ (sent : SentAt). nat_le (sent.end + 16) (mark_of side.samples)) (drop side.matched side.towards)

-- the end of a tick
unfoldable pub ticked : BenchState → BenchState
ticked bench = record bench {
  common = record bench.common {
    moments = bench.common.moments ++ Passes A (passed_below bench.b) ∷ Passes B (passed_below bench.a) ∷ [];
  };
  ticks = bench.ticks + 1;
}
