-- What each command makes of its input, and why it refuses it. A live command does not make one text of its input:
-- `serve` is none of these.
use Rattle.std.specs.Prelude.{◌≡◌, ℕ, ⊤, List, [], Option, Some, None}
use Rattle.tnc_forms.specs.declared.fault.InputFault.{InputFault}
use Rattle.tnc_words.specs.declared.command.Command.{Command}
use Rattle.tnc_words.specs.declared.command.Command.TheVariants.{Decode, Encode, Show, Loop, Bench, Serve, Help}
use Rattle.tnc_words.specs.declared.command.Command.TheVariants.{Record, Call, Version}
use Rattle.tnc_words.specs.declared.command.LoopWords.{LoopWords}
use Rattle.tnc_words.specs.Help.{text_about, version_text}
use Rattle.tnc_decode.specs.Audio.{audio_fault}
use Rattle.tnc_decode.specs.Decoded.{IsDecoded}
use Rattle.tnc_encode.specs.Encoded.{encoded, encoded_before, encode_fault}
use Rattle.tnc_show.specs.Shown.{IsShown, show_fault}
use Rattle.clean_signal.specs.GoodTransmission.{frames_of}
use Rattle.clean_signal.specs.MergedFrames.{MergesTo}
use Rattle.clean_signal.specs.Stray.{NoStray}
use Rattle.tnc_loop.specs.Drawn.{drawn, samples_drawn}
use Rattle.tnc_loop.specs.Summary.{IsSummary, IsFirstStray}
use Rattle.channel_bench.specs.declared.report.BenchFault.TheVariants.{Stray, NotQuiet, Spent}
use Rattle.channel_bench.specs.BenchRun.{IsFaultOf}
use Rattle.tnc_bench.specs.Reported.{IsReportOf, words_of}

-- a command has these octets to read, of those that its input has left: loop, bench, help and version read none, and
-- serve is no such command
abbrev pub Reads : Command → Option (List ℕ) → List ℕ → Type 0
Reads (Decode words) left octets = left ≡ Some octets
Reads (Encode words) left octets = left ≡ Some octets
Reads (Show words) left octets = left ≡ Some octets
Reads (Loop words) left octets = octets ≡ []
Reads (Bench options) left octets = octets ≡ []
Reads (Serve options) left octets = ⊥
Reads (Record options) left octets = ⊥
Reads (Call options) left octets = ⊥
Reads (Help topic) left octets = octets ≡ []
Reads Version left octets = octets ≡ []

-- a command leaves its input alone
abbrev pub ReadsNothing : Command → Type 0
ReadsNothing (Decode words) = ⊥
ReadsNothing (Encode words) = ⊥
ReadsNothing (Show words) = ⊥
ReadsNothing (Loop words) = ⊤
ReadsNothing (Bench options) = ⊤
ReadsNothing (Serve options) = ⊥
ReadsNothing (Record options) = ⊥
ReadsNothing (Call options) = ⊥
ReadsNothing (Help topic) = ⊤
ReadsNothing Version = ⊤

-- the text is what a command makes of octets; each has one text
abbrev pub Makes : Command → List ℕ → List ℕ → Type 0
Makes (Decode words) octets text = IsDecoded words octets text
Makes (Encode words) octets text = text ≡ encoded words octets
Makes (Show words) octets text = IsShown words octets text
Makes (Loop words) octets text = IsSummary words text
Makes (Bench options) octets text = IsReportOf options text
Makes (Serve options) octets text = ⊥
Makes (Record options) octets text = ⊥
Makes (Call options) octets text = ⊥
Makes (Help topic) octets text = text ≡ text_about topic
Makes Version octets text = text ≡ version_text

-- why a command refuses octets: with none nothing is wrong
abbrev pub fault_of : Command → List ℕ → Option InputFault
fault_of (Decode words) octets = audio_fault words octets
fault_of (Encode words) octets = encode_fault words octets
fault_of (Show words) octets = show_fault octets
fault_of (Loop words) octets = None
fault_of (Bench options) octets = None
fault_of (Serve options) octets = None
fault_of (Record options) octets = None
fault_of (Call options) octets = None
fault_of (Help topic) octets = None
fault_of Version octets = None

-- the text is what a command makes of octets that are not too many, before it refuses them
abbrev pub MakesUpToFault : Command → List ℕ → List ℕ → Type 0
MakesUpToFault (Decode words) octets text = IsDecoded words octets text
MakesUpToFault (Encode words) octets text = text ≡ encoded_before words octets
MakesUpToFault (Show words) octets text = IsShown words octets text
MakesUpToFault (Loop words) octets text = ⊥
MakesUpToFault (Bench options) octets text = ⊥
MakesUpToFault (Serve options) octets text = ⊥
MakesUpToFault (Record options) octets text = ⊥
MakesUpToFault (Call options) octets text = ⊥
MakesUpToFault (Help topic) octets text = ⊥
MakesUpToFault Version octets text = ⊥

-- what a command sent to itself has a stray frame, the first one of these octets
abbrev pub Strays : Command → List ℕ → Type 0
Strays (Decode words) octets = ⊥
Strays (Encode words) octets = ⊥
Strays (Show words) octets = ⊥
Strays (Loop words) octets = IsFirstStray words octets
Strays (Bench options) octets = IsFaultOf (words_of options) (Stray octets)
Strays (Serve options) octets = ⊥
Strays (Record options) octets = ⊥
Strays (Call options) octets = ⊥
Strays (Help topic) octets = ⊥
Strays Version octets = ⊥

-- in the run of a command a frame that sets a link up or ends it found no quiet channel: the one of this number
abbrev pub FindsNoQuiet : Command → ℕ → Type 0
FindsNoQuiet (Decode words) index = ⊥
FindsNoQuiet (Encode words) index = ⊥
FindsNoQuiet (Show words) index = ⊥
FindsNoQuiet (Loop words) index = ⊥
FindsNoQuiet (Bench options) index = IsFaultOf (words_of options) (NotQuiet index)
FindsNoQuiet (Serve options) index = ⊥
FindsNoQuiet (Record options) index = ⊥
FindsNoQuiet (Call options) index = ⊥
FindsNoQuiet (Help topic) index = ⊥
FindsNoQuiet Version index = ⊥

-- the run of a command is not over after the most ticks that it may take, which are so many
abbrev pub IsSpent : Command → ℕ → Type 0
IsSpent (Decode words) ticks = ⊥
IsSpent (Encode words) ticks = ⊥
IsSpent (Show words) ticks = ⊥
IsSpent (Loop words) ticks = ⊥
IsSpent (Bench options) ticks = IsFaultOf (words_of options) (Spent ticks)
IsSpent (Serve options) ticks = ⊥
IsSpent (Record options) ticks = ⊥
IsSpent (Call options) ticks = ⊥
IsSpent (Help topic) ticks = ⊥
IsSpent Version ticks = ⊥

-- nothing is wrong with the octets of a command, nor with what it sends to itself, and its run ends in time
pub record IsFaultless (command : Command) (octets : List ℕ) : Type 0 where
  pub input : fault_of command octets ≡ None
  pub sent : (frame : List ℕ) → ¬ Strays command frame
  pub quiet : (index : ℕ) → ¬ FindsNoQuiet command index
  pub in_time : (ticks : ℕ) → ¬ IsSpent command ticks

-- no candidate of what a loop sent to itself is stray, and what it heard is what it made, in order
pub record HeardAsMade (words : LoopWords) : Type 0 where
  pub no_stray : NoStray (drawn words) (samples_drawn words)
  pub heard : MergesTo (frames_of (drawn words)) (samples_drawn words)
