-- What the code keeps of what has happened so far. No public clause cites it.
use Rattle.std.specs.Prelude.{ℕ, nat_lt, if◌then◌else◌, List}
use Rattle.channel_access.specs.declared.listening.Listening.{Listening}
use Rattle.channel_access.specs.Happenings.{Happening}
use Rattle.channel_access.specs.Turns.{was_busy, was_own, quiet_ticks, quiet_before, is_spoken_to}

-- a count of ticks, as far as an octet goes: no slot is longer
abbrev pub most_kept : ℕ
most_kept = 255

abbrev pub kept : ℕ → ℕ
kept count = if nat_lt count most_kept then count else most_kept

abbrev pub listening_of : List Happening → Listening
listening_of past = record {
  spoken_to = is_spoken_to past;
  busy = was_busy past;
  own = was_own past;
  quiet = kept (quiet_ticks past);
  before = kept (quiet_before past);
}
