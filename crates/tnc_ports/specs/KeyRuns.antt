-- A run of a live station with a key, in few words: no sound without a key, nothing begins while it is refused, it is
-- never on for too long, and it is released at every end.
use Rattle.std.specs.Prelude.{◌≡◌, ℕ, ℤ, true, false, List, [], ◌∷◌, ◌++◌, length, Option, Some, None}
use Rattle.std.specs.List.{list_all}
use Rattle.tnc_base.specs.Streams.{WrotePart}
use Rattle.sound_rate.specs.Rates.{written_at}
use Rattle.keying.specs.Keyed.{failed}
use Rattle.keying.specs.Laws.{newest_keys}
use Rattle.key_port.specs.KeyEvents.{KeyEvent, lines_of, marks_of, reports_of}
use Rattle.key_port.specs.KeyLines.{KeyLine, is_open, open_commands}
use Rattle.tnc_ports.specs.declared.serve_words.KeyWords.{KeyWords}
use Rattle.tnc_ports.specs.declared.serve_words.ServeWords.{ServeWords}
use Rattle.host_ports.specs.Hosts.{Hosts}
use Rattle.tnc_ports.specs.KeyLaws.{BeginsKeyed, EndsReleased, IsKeptWithin}
use Rattle.tnc_ports.specs.KeyTurns.{TicksKeyIf, Whole}
use Rattle.tnc_ports.specs.ReportText.{output_octets}
use Rattle.tnc_ports.specs.RunTicks.{RunTick, begins_in, is_full_duplex, is_on_air, samples_in, samples_of}
use Rattle.tnc_ports.specs.RunTicks.{sounds_in}
use Rattle.tnc_ports.specs.Sampled.{octets_sent}
use Rattle.tnc_ports.specs.SampledRun.{Outside}

-- ---- where a tick stands among what the key does

-- What the key has done when the samples of a tick are written: it was told of the tick, and did what that asks for.
abbrev pub events_told : (key : Option KeyWords) (octets : ℕ) (samples out : List ℤ) (keyed new : List KeyEvent)
    (whole told : Whole) (before after : Hosts) → TicksKeyIf key octets samples out keyed new whole told before after
    → List KeyEvent
events_told None octets samples out keyed new whole told before after h = keyed
events_told (Some key) octets samples out keyed new whole told before after h = h.between

abbrev pub events_at : (words : ServeWords) → RunTick words → List KeyEvent
events_at words tick =
    events_told words.key (octets_sent tick.before) tick.made.air.samples tick.made.out tick.before.keyed
    tick.made.keyed tick.before.whole tick.made.whole tick.made.made tick.made.hosts tick.made.key

-- these events, and others after them
pub record GoesOnFrom (events older : List KeyEvent) : Type 0 where
  pub newer : List KeyEvent
  pub is : events ≡ newer ++ older

-- this holds of each tick, with those before it
abbrev pub EachTick : (words : ServeWords) → (RunTick words → List (RunTick words) → Type 0) → List (RunTick words)
    → Type 0
EachTick words P [] = Unit {0}
EachTick words P (tick ∷ older) = P tick older × EachTick words P older

-- ---- nothing begins while the key is refused

-- If a transmission begins with the tick in half duplex, it begins keyed.
abbrev pub BeginsWell : (words : ServeWords) → KeyWords → RunTick words → Type 0
BeginsWell words key tick = begins_in words tick ≡ true → is_full_duplex words tick ≡ false
    → BeginsKeyed key.words tick.busy (samples_in words tick) tick.before.keyed

-- ---- no sound without a key

-- The transmission of a tick with sound began with this tick or with an earlier one, the first, and was under way from
-- then on, with sound in each tick. If it began in half duplex, no line of the report has told of the key since then, and
-- no write has failed, the newest command on the line keys when the samples of the tick are written. The line was this
-- at the start of the run, and the output had so many octets.
pub record SoundsKeyed (words : ServeWords) (key : KeyWords) (start : ℕ) (was : List KeyLine) (tick : RunTick words)
    (older : List (RunTick words)) : Type 0 where
  pub since : List (RunTick words)
  pub first : RunTick words
  pub earlier : List (RunTick words)
  pub stand : tick ∷ older ≡ since ++ first ∷ earlier
  pub begins : begins_in words first ≡ true
  pub under_way : list_all (is_on_air words) since ≡ true
  pub loud : list_all (sounds_in words) since ≡ true
  pub keys : is_full_duplex words first ≡ false
      → reports_of key.words (events_at words tick) ≡ reports_of key.words first.before.keyed
      → failed (marks_of key.words (events_at words tick)) ≡ false
      → newest_keys (open_commands (lines_of key.port start was (events_at words tick))) ≡ true

-- ---- a run

-- Of a run with these ticks, from a line without a connection and an output with these octets on:
pub record IsKeyedRun (words : ServeWords) (key : KeyWords) (was : List KeyLine) (out : List ℕ) (after : Outside)
    (ticks : List (RunTick words)) : Type 0 where
  -- the output has what goes out for the samples of the ticks, at its rate, or a first part of that
  pub written : WrotePart out (output_octets (written_at words.rate (samples_of words ticks))) after.output.written
  -- no tick with sound is without a key
  pub sounds : EachTick words (λ tick older. sounds_in words tick ≡ true
      → SoundsKeyed words key (length out) was tick older) ticks
  -- nothing begins while the key is refused
  pub begins : EachTick words (λ tick older. BeginsWell words key tick) ticks
  -- the key is never on for more than 9000 ticks, and what stands on the line is what it did
  pub kept : IsKeptWithin key was out after
  -- of that, what it did until the samples of each tick were written is a first part
  pub in_order : EachTick words (λ tick older. GoesOnFrom kept.events (events_at words tick)) ticks
  -- it is released at the end
  pub released : EndsReleased after
