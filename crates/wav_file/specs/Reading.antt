-- What the octets of a WAV file are read as (Multimedia Programming Interface and Data Specifications 1.0): "RIFF", a
-- size that is not looked at, "WAVE", and chunks, of which a "fmt " comes before the first "data".
use Rattle.std.specs.Prelude.{ℕ, ◌+◌, ◌==◌, nat_lt, nat_le, if◌then◌else◌, Bool, true, false, List, [], ◌∷◌, length}
use Rattle.std.specs.Prelude.{take, drop, codes, ℤ, Option, Some, None, Result, Ok, Err}
use Rattle.std.specs.Option.{option_to_list}
use Rattle.std.specs.Str.{bytes_eq}
use Rattle.wav_file.specs.declared.fault.WavFault.{WavFault}
use Rattle.wav_file.specs.declared.fault.WavFault.TheVariants.{NotRiff, NotWave, NoFormat, Truncated}
use Rattle.wav_file.specs.Place.{told_place}
use Rattle.wav_file.specs.Chunks.{Chunk, chunks}
use Rattle.wav_file.specs.declared.rates.Rates.{Rates}
use Rattle.wav_file.specs.Format.{fields, field_fault, rate_at_front}
use Rattle.wav_file.specs.Samples.{samples}

pub record Reading : Type 0 where
  -- the first fault, if one shows
  pub fault : Option WavFault
  -- the rate of the samples, once the format was read
  pub rate : Option ℕ
  pub heard : List ℤ
  -- the contents of the first data chunk are there to their end
  pub whole : Bool

-- no fault shows, and the data has not come
abbrev pub unfinished : Reading
unfinished = record { fault = None; rate = None; heard = []; whole = false }

abbrev pub failed : WavFault → Reading
failed fault = record { fault = Some fault; rate = None; heard = []; whole = false }

-- a fault, or if none shows, the reading of what follows
abbrev pub unless : Option WavFault → Reading → Reading
unless (Some fault) reading = failed fault
unless None reading = reading

-- the first octet that is not the letter of a word, if the octets are there
abbrev pub difference : (ℕ → WavFault) → ℕ → List ℕ → List ℕ → Option WavFault
difference fault place (letter ∷ word) (octet ∷ octets) =
    if letter == octet then difference fault (place + 1) word octets else Some (fault place)
difference fault place word octets = None

abbrev pub is_format : Chunk → Bool
is_format chunk = bytes_eq chunk.name (codes "fmt ")

abbrev pub is_data : Chunk → Bool
is_data chunk = bytes_eq chunk.name (codes "data")

-- a data size from here on stands for data to the end of input, as a writer into a pipe leaves it
abbrev pub endless_size : ℕ
endless_size = 0x7fff0000

-- the contents of a data chunk, at a rate
abbrev pub of_data : Option ℕ → Chunk → Reading
of_data rate chunk =
    if nat_lt chunk.size endless_size
    then record {
      fault = None;
      rate = rate;
      heard = samples (take chunk.size chunk.trailing);
      whole = nat_le chunk.size (length chunk.trailing);
    }
    else record { fault = None; rate = rate; heard = samples chunk.trailing; whole = true }

-- chunks after the format, which names this rate
abbrev pub formatted : Option ℕ → List Chunk → Reading
formatted rate [] = record { fault = None; rate = rate; heard = []; whole = false }
formatted rate (chunk ∷ others) = if is_data chunk then of_data rate chunk else formatted rate others

-- a format, and the chunks after it
abbrev pub of_format : Rates → Chunk → List Chunk → Reading
of_format rates chunk others =
    if nat_lt chunk.size 16 then failed (NoFormat (told_place (chunk.place + 7))) else
    unless (field_fault rates fields (chunk.place + 8) chunk.trailing) (formatted (rate_at_front chunk.trailing) others)

-- chunks before the format; a data chunk among them shows at the last octet of its size
abbrev pub unformatted : Rates → List Chunk → Reading
unformatted rates [] = unfinished
unformatted rates (chunk ∷ others) =
    if is_data chunk then failed (NoFormat (told_place (chunk.place + 7))) else
    if is_format chunk then of_format rates chunk others else unformatted rates others

-- the octets of a file so far, as a reader of these rates reads them
unfoldable pub reading : Rates → List ℕ → Reading
reading rates octets =
    unless (difference NotRiff 0 (codes "RIFF") octets)
    (unless (difference NotWave 8 (codes "WAVE") (drop 8 octets)) (unformatted rates (chunks 12 (drop 12 octets))))

-- the samples that octets of a file hold
abbrev pub samples_in : Rates → List ℕ → List ℤ
samples_in rates octets = (reading rates octets).heard

-- the rate of these samples: none until the sixteen octets of the format were read
abbrev pub rate_in : Rates → List ℕ → Option ℕ
rate_in rates octets = (reading rates octets).rate

-- the samples that one octet gave
abbrev pub given : Result (Option ℤ) WavFault → List ℤ
given (Ok sample) = option_to_list sample
given (Err fault) = []

-- the fault that shows in octets of a file, if one does
abbrev pub fault_in : Rates → List ℕ → Option WavFault
fault_in rates octets = (reading rates octets).fault

-- Whether a file is whole, by its last octet's place: it is cut short if no fault shows and its data is not
-- there to the end.
abbrev pub verdict_on : ℕ → Option WavFault → Bool → Result (Unit {0}) WavFault
verdict_on place (Some fault) whole = Err fault
verdict_on place None whole = if whole then Ok tt else Err (Truncated place)

-- whether a file of these octets is whole; if it is cut short, the fault names the number of octets
abbrev pub verdict_of : Rates → List ℕ → Result (Unit {0}) WavFault
verdict_of rates octets = verdict_on (told_place (length octets)) (reading rates octets).fault
    (reading rates octets).whole
