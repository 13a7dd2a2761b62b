-- A run of `call`: what it is asked for, how it ends, and what is told of its end.
use Rattle.std.specs.Prelude.{◌≡◌, ◌⊎◌, ℕ, List, Option, Some, None}
use Rattle.tnc_base.specs.Streams.{SinkTold}
use Rattle.tnc_words.specs.declared.command.CallOptions.{CallOptions}
use Rattle.tnc_call.specs.declared.call_end.CallEnd.{CallEnd}
use Rattle.tnc_call.specs.declared.call_end.CallEnd.TheVariants.{Done, TooLong, Memory, ReadFault, WriteFault, NoHost}
use Rattle.tnc_call.specs.declared.call_end.CallEnd.TheVariants.{Refused, HostLost, Broken, GaveUp}
use Rattle.tnc_call.specs.declared.call_words.CallWords.{CallWords}
use Rattle.tnc_call.specs.CallEnding.{IsCalled}
use Rattle.host_ports.specs.Sockets.{PortsTold}
use Rattle.tnc_main.specs.declared.status.Status.{Status}
use Rattle.tnc_main.specs.declared.status.Status.TheVariants.{Done as WellDone, BadInput, Memory as NoMemory}
use Rattle.tnc_main.specs.declared.status.Status.TheVariants.{ReadFault as InputFailed, WriteFault as OutputFailed}
use Rattle.tnc_main.specs.declared.status.Status.TheVariants.{NoHost as FoundNoHost, Refused as WasRefused}
use Rattle.tnc_main.specs.declared.status.Status.TheVariants.{HostLost as LostHost, HostBroke, GaveUp as HasGivenUp}
use Rattle.tnc_main.specs.EndTold.{IsEndToldOrWanted}
use Rattle.tnc_main.specs.Report.{gave_up_line, got_line, host_broke_line, host_lost_line, long_text_line, no_host_line}
use Rattle.tnc_main.specs.Report.{refused_line}

-- the call that the options ask for
abbrev pub words_of : CallOptions → CallWords
words_of options = record {
  agw = options.agw;
  own = options.own;
  remote = options.remote;
  via = options.via;
  expect = options.expect;
  polls = options.polls;
}

-- the status of an end
abbrev pub status_of_end : CallEnd → Status
status_of_end (Done got) = WellDone
status_of_end TooLong = BadInput
status_of_end Memory = NoMemory
status_of_end ReadFault = InputFailed
status_of_end WriteFault = OutputFailed
status_of_end NoHost = FoundNoHost
status_of_end Refused = WasRefused
status_of_end HostLost = LostHost
status_of_end (Broken len) = HostBroke
status_of_end (GaveUp polls) = HasGivenUp

-- the line that tells an end, if one does
abbrev pub line_of_end : CallEnd → Option (List ℕ)
line_of_end (Done got) = Some (got_line got)
line_of_end TooLong = Some long_text_line
line_of_end Memory = None
line_of_end ReadFault = None
line_of_end WriteFault = None
line_of_end NoHost = Some no_host_line
line_of_end Refused = Some refused_line
line_of_end HostLost = Some host_lost_line
line_of_end (Broken len) = Some (host_broke_line len)
line_of_end (GaveUp polls) = Some (gave_up_line polls)

-- ---- a run

-- The input is this text, and the output was this before: a call was made until an end, which was told.
pub record Calls (words : CallWords) (text before : List ℕ) (written : Option (List ℕ)) (start now : PortsTold)
    (status : Status) (report after : SinkTold) : Type 0 where
  pub end : CallEnd
  pub called : IsCalled words text before written start now end
  pub told : IsEndToldOrWanted (line_of_end end) (status_of_end end) status report after

-- there was no memory for the words, and nothing was done
pub record HasNotCalled (before : List ℕ) (written : Option (List ℕ)) (start now : PortsTold) (status : Status)
    (report after : SinkTold) : Type 0 where
  pub memory : status ≡ NoMemory
  pub unwritten : written ≡ Some before
  pub untouched : now ≡ start
  pub untold : after ≡ report

-- The options are those of `call`: the call was made, or there was no memory to begin.
abbrev pub RunsCall : CallOptions → List ℕ → List ℕ → Option (List ℕ) → PortsTold → PortsTold → Status → SinkTold
    → SinkTold → Type 0
RunsCall options text before written start now status report after =
    HasNotCalled before written start now status report after
    ⊎ Calls (words_of options) text before written start now status report after
