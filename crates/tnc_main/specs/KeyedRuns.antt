-- A run of `serve` that keys a transmitter.
use mathlib.Core.Logic.{inl, inr}
use Rattle.std.specs.Prelude.{ℕ, List, []}
use Rattle.key_port.specs.KeyLines.{KeyLine}
use Rattle.tnc_base.specs.Streams.{SourceTold}
use Rattle.tnc_words.specs.declared.command.PttOptions.{PttOptions}
use Rattle.tnc_words.specs.declared.command.ServeOptions.{ServeOptions}
use Rattle.tnc_ports.specs.KeyRuns.{IsKeyedRun}
use Rattle.tnc_ports.specs.RunTicks.{RunTick, ticks_served}
use Rattle.tnc_ports.specs.SampledRun.{Outside}
use Rattle.tnc_main.specs.declared.status.Status.{Status}
use Rattle.tnc_main.specs.Serving.{RunsLive, key_of, words_of}

-- the ticks of a run, the newest first; none if there was no memory to begin
abbrev pub ticks_run : (options : ServeOptions) (outer : ℕ) (status : Status) (input left : SourceTold)
    (before after : Outside) → RunsLive options outer status input left before after
    → List (RunTick (words_of options outer))
ticks_run options outer status input left before after (inl h) = []
ticks_run options outer status input left before after (inr h) =
    ticks_served (words_of options outer) h.end input left before h.between h.served

-- The options are those of a live command with a key, and what they ask for is run. Of the ticks that the run makes: no
-- sound without a key, nothing begins while it is refused, it is never on for more than 9000 ticks, and it is released at
-- the end. The key's line was this before, without a connection, and the output had these octets.
abbrev pub RunsKeyed : ServeOptions → PttOptions → ℕ → List KeyLine → List ℕ → Status → SourceTold → SourceTold
    → Outside
    → Outside → Type 0
RunsKeyed options ptt outer was out status input left before after =
    (runs : RunsLive options outer status input left before after)
    × IsKeyedRun (words_of options outer) (key_of ptt) was out after
    (ticks_run options outer status input left before after runs)
