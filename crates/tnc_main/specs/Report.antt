-- The lines that tell an operator why a run was refused.
use Rattle.std.specs.Prelude.{ℕ, List, [], ◌∷◌, ◌++◌, codes, decimal}
use Rattle.hex.specs.Hex.{encode_lower}
use Rattle.wav_file.specs.declared.fault.WavFault.{WavFault}
use Rattle.wav_file.specs.declared.fault.WavFault.TheVariants.{NotRiff, NotWave, NoFormat, BadFormat, Truncated}
use Rattle.tnc_forms.specs.declared.fault.InputFault.{InputFault}
use Rattle.tnc_forms.specs.declared.fault.InputFault.TheVariants.{TooLong, Line, Wav, LongWav}
use Rattle.tnc_forms.specs.declared.line_fault.LineFlaw.{LineFlaw}
use Rattle.tnc_forms.specs.declared.line_fault.LineFlaw.TheVariants.{LongLine, OddLine, BadDigit, ShortLine}
use Rattle.tnc_main.specs.declared.stop.Stop.{Stop}
use Rattle.tnc_main.specs.declared.stop.Stop.TheVariants.{Input, Stray, NotQuiet, Spent, Memory, Read, Write}

abbrev pub bad_words_line : List ℕ
bad_words_line = codes "tnc: bad words" ++ 10 ∷ []

abbrev pub no_port_line : List ℕ
no_port_line = codes "tnc: no port" ++ 10 ∷ []

-- what is wrong with a line
abbrev pub name_of_flaw : LineFlaw → List ℕ
name_of_flaw LongLine = codes "long line"
name_of_flaw OddLine = codes "odd line"
name_of_flaw BadDigit = codes "bad digit"
name_of_flaw ShortLine = codes "short line"

-- the place at which a fault shows, and the end of the line
abbrev pub at_place : ℕ → List ℕ
at_place place = codes " at " ++ (decimal place ++ 10 ∷ [])

-- what is wrong with a WAV file
abbrev pub wav_text : WavFault → List ℕ
wav_text (NotRiff place) = codes "not riff" ++ at_place place
wav_text (NotWave place) = codes "not wave" ++ at_place place
wav_text (NoFormat place) = codes "no format" ++ at_place place
wav_text (BadFormat place field value) = codes "bad format "
    ++ (decimal field ++ (codes " value " ++ (decimal value ++ at_place place)))
wav_text (Truncated place) = codes "truncated" ++ at_place place

-- what is wrong with an input: one that is too long shows at the octet after the 2^40th, and a WAV file to be written
-- that is too long at its count of samples
abbrev pub input_text : InputFault → List ℕ
input_text TooLong = codes "too long at 1099511627776" ++ 10 ∷ []
input_text (Line fault) = name_of_flaw fault.flaw ++ at_place fault.place
input_text (Wav fault) = wav_text fault
input_text (LongWav count) = codes "too long" ++ at_place count

abbrev pub input_line : InputFault → List ℕ
input_line fault = codes "tnc: bad input: " ++ input_text fault

-- the octets of what is stray
abbrev pub stray_line : List ℕ → List ℕ
stray_line octets = codes "tnc: stray " ++ (encode_lower octets ++ 10 ∷ [])

-- the number of the frame that found no quiet channel, among all frames that links queued, from 1
abbrev pub not_quiet_line : ℕ → List ℕ
not_quiet_line index = codes "tnc: not quiet" ++ at_place index

-- the ticks after which a run is spent
abbrev pub spent_line : ℕ → List ℕ
spent_line ticks = codes "tnc: spent after " ++ (decimal ticks ++ (codes " ticks" ++ 10 ∷ []))

-- the input of a call is too long at its octet 2^20 + 1
abbrev pub long_text_line : List ℕ
long_text_line = codes "tnc: bad input: too long at 1048576" ++ 10 ∷ []

-- how many octets a call has printed
abbrev pub got_line : ℕ → List ℕ
got_line count = codes "got " ++ (decimal count ++ 10 ∷ [])

abbrev pub no_host_line : List ℕ
no_host_line = codes "tnc: no host" ++ 10 ∷ []

abbrev pub refused_line : List ℕ
refused_line = codes "tnc: refused" ++ 10 ∷ []

abbrev pub host_lost_line : List ℕ
host_lost_line = codes "tnc: host lost" ++ 10 ∷ []

-- the length that the header of a message tells
abbrev pub host_broke_line : ℕ → List ℕ
host_broke_line len = codes "tnc: host broke at length " ++ (decimal len ++ 10 ∷ [])

abbrev pub gave_up_line : ℕ → List ℕ
gave_up_line polls = codes "tnc: gave up after " ++ (decimal polls ++ (codes " polls" ++ 10 ∷ []))

-- the line for what stopped a command, if there is one
abbrev pub line_of : Stop → List ℕ
line_of (Input fault) = input_line fault
line_of (Stray octets) = stray_line octets
line_of (NotQuiet index) = not_quiet_line index
line_of (Spent ticks) = spent_line ticks
line_of Memory = []
line_of Read = []
line_of Write = []
