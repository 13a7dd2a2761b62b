-- What is kept of a file while its octets come: the part of the file that is under way. No public clause looks inside:
-- they cite `StandsFor` alone.
use Rattle.std.specs.Prelude.{◌≡◌, ℕ, ◌+◌, ◌-◌, ◌<◌, ◌≤◌, ◌==◌, ◌&&◌, ◌%◌, min, is_none, nat_lt, nat_le, if◌then◌else◌, Bool}
use Rattle.std.specs.Prelude.{true, false, List, [], ◌∷◌, ◌++◌, length, take, drop, codes, slice_index, ℤ, Option, Some}
use Rattle.std.specs.Prelude.{None, Result, Ok, Err}
use Rattle.std.specs.Option.{option_to_list}
use Rattle.std.specs.Str.{bytes_eq}
use Rattle.byteorder.specs.Endian.{little_number}
use Rattle.wav_file.specs.declared.fault.WavFault.{WavFault}
use Rattle.wav_file.specs.declared.fault.WavFault.TheVariants.{NotRiff, NotWave, NoFormat, BadFormat}
use Rattle.wav_file.specs.declared.field.Field.{Field}
use Rattle.wav_file.specs.declared.field.Field.TheVariants.{Format, Channels, Rate, ByteRate, Align, Bits}
use Rattle.wav_file.specs.declared.part.Part.{Part}
use Rattle.wav_file.specs.declared.part.Part.TheVariants.{Head, Chunk as AtChunk, Format as AtFormat, Data, Failed}
use Rattle.wav_file.specs.declared.rates.Rates.{Rates}
use Rattle.wav_file.specs.Place.{told_place}
use Rattle.wav_file.specs.Chunks.{chunks, padded}
use Rattle.wav_file.specs.Format.{number_of, width_of, accepts, field_fault}
use Rattle.wav_file.specs.Samples.{sample_of, samples}
use Rattle.wav_file.specs.Reading.{Reading, failed, unless, difference, formatted, unformatted, endless_size, reading}

pub record Held : Type 0 where
  -- the rates that are read
  pub rates : Rates
  -- the place of the next octet
  pub position : ℕ
  pub part : Part
  -- the octets so far of a chunk's head or of a field
  pub unit : List ℕ

-- what fits a part
abbrev pub Fits : ℕ → Part → List ℕ → Type 0
Fits position Head unit = (position < 12) × (length unit < 1)
Fits position (AtChunk rate skip) unit = length unit < 8
Fits position (AtFormat field rate skip) unit = length unit < width_of field
Fits position (Data rate left low) unit = length unit < 1
Fits position (Failed fault) unit = length unit < 1

-- ---- one octet more

-- the field after a field
abbrev pub next_of : Field → Option Field
next_of Format = Some Channels
next_of Channels = Some Rate
next_of Rate = Some ByteRate
next_of ByteRate = Some Align
next_of Align = Some Bits
next_of Bits = None

abbrev pub after_head : ℕ → ℕ → Part
after_head place octet =
    if nat_lt place 4 then (if slice_index (codes "RIFF") place == octet then Head else Failed (NotRiff place)) else
    if nat_lt place 8 then Head else
    if slice_index (codes "WAVE") (place - 8) == octet then (if place == 11 then AtChunk None 0 else Head)
    else Failed (NotWave place)

-- a data chunk of this size begins
abbrev pub data_begun : ℕ → Option ℕ → ℕ → Part
data_begun place None size = Failed (NoFormat place)
data_begun place (Some rate) size = Data rate (if nat_lt size endless_size then Some size else None) None

-- a format of this size begins
abbrev pub format_begun : ℕ → ℕ → Part
format_begun place size = if nat_lt size 16 then Failed (NoFormat place) else AtFormat Format 0 (padded size - 16)

-- after a chunk's head, whose last octet has this place
abbrev pub after_chunk_head : ℕ → Option ℕ → List ℕ → ℕ → Part
after_chunk_head place rate name size =
    if bytes_eq name (codes "data") then data_begun place rate size else
    if bytes_eq name (codes "fmt ") && is_none rate then format_begun place size else
    AtChunk rate (padded size)

-- the rate after a field of this value
abbrev pub rate_after : Field → ℕ → ℕ → ℕ
rate_after Format rate value = rate
rate_after Channels rate value = rate
rate_after Rate rate value = value
rate_after ByteRate rate value = rate
rate_after Align rate value = rate
rate_after Bits rate value = rate

-- after a field
abbrev pub following : Option Field → ℕ → ℕ → Part
following (Some field) rate skip = AtFormat field rate skip
following None rate skip = AtChunk (Some rate) skip

abbrev pub after_field : Rates → ℕ → Field → ℕ → ℕ → ℕ → Part
after_field rates place field rate skip value =
    if accepts rates field value then following (next_of field) (rate_after field rate value) skip
    else Failed (BadFormat place (number_of field) value)

pub record Step : Type 0 where
  pub part : Part
  pub unit : List ℕ
  pub sample : Option ℤ

abbrev pub made : Held → Option ℤ → Step
made held sample = record { part = held.part; unit = held.unit; sample = sample }

abbrev pub to_part : Part → List ℕ → Step
to_part part unit = record { part = part; unit = unit; sample = None }

abbrev pub after_data_octet : ℕ → Option ℕ → Option ℕ → ℕ → Part × Option ℤ
after_data_octet rate left None octet = (Data rate left (Some octet), None)
after_data_octet rate left (Some low) octet = (Data rate left None, Some (sample_of low octet))

-- after an octet of the data, and the sample that ends with it
abbrev pub after_data : ℕ → Option ℕ → Option ℕ → ℕ → Part × Option ℤ
after_data rate None low octet = after_data_octet rate None low octet
after_data rate (Some left) low octet =
    if left == 0 then (Data rate (Some left) low, None) else after_data_octet rate (Some (left - 1)) low octet

-- how many of so many octets are whole samples of the data that come next: none if a sample has begun
abbrev pub pairs_ahead : Part → ℕ → ℕ
pairs_ahead Head count = 0
pairs_ahead (AtChunk rate skip) count = 0
pairs_ahead (AtFormat field rate skip) count = 0
pairs_ahead (Data rate left (Some low)) count = 0
pairs_ahead (Data rate None None) count = count - count % 2
pairs_ahead (Data rate (Some left) None) count = min count left - min count left % 2
pairs_ahead (Failed fault) count = 0

-- after so many of them
abbrev pub after_pairs : Part → ℕ → Part
after_pairs Head count = Head
after_pairs (AtChunk rate skip) count = AtChunk rate skip
after_pairs (AtFormat field rate skip) count = AtFormat field rate skip
after_pairs (Data rate left (Some low)) count = Data rate left (Some low)
after_pairs (Data rate None None) count = Data rate None None
after_pairs (Data rate (Some left) None) count = Data rate (Some (left - count)) None
after_pairs (Failed fault) count = Failed fault

-- the step that an octet makes
abbrev pub step_of : Rates → ℕ → Part → List ℕ → ℕ → Step
step_of rates place Head unit octet = to_part (after_head place octet) unit
step_of rates place (AtChunk rate skip) unit octet =
    if nat_lt 0 skip then to_part (AtChunk rate (skip - 1)) unit else
    if nat_lt (length unit) 7 then to_part (AtChunk rate 0) (unit ++ octet ∷ []) else
    to_part (after_chunk_head place rate (take 4 (unit ++ octet ∷ [])) (little_number 4 (drop 4 (unit ++ octet ∷ []))))
    []
step_of rates place (AtFormat field rate skip) unit octet =
    if nat_lt (length unit + 1) (width_of field) then to_part (AtFormat field rate skip) (unit ++ octet ∷ []) else
    to_part (after_field rates place field rate skip (little_number (width_of field) (unit ++ octet ∷ []))) []
step_of rates place (Data rate left low) unit octet =
    record { part = (after_data rate left low octet).0; unit = unit; sample = (after_data rate left low octet).1 }
step_of rates place (Failed fault) unit octet = to_part (Failed fault) unit

-- ---- what has come

-- the fault that has shown in a part
abbrev pub fault_of_part : Part → Option WavFault
fault_of_part Head = None
fault_of_part (AtChunk rate skip) = None
fault_of_part (AtFormat field rate skip) = None
fault_of_part (Data rate left low) = None
fault_of_part (Failed fault) = Some fault

-- is the data there to its end?
abbrev pub whole_of_part : Part → Bool
whole_of_part Head = false
whole_of_part (AtChunk rate skip) = false
whole_of_part (AtFormat field rate skip) = false
whole_of_part (Data rate None low) = true
whole_of_part (Data rate (Some left) low) = left == 0
whole_of_part (Failed fault) = false

-- the rate of the format that was read
abbrev pub rate_of_part : Part → Option ℕ
rate_of_part Head = None
rate_of_part (AtChunk rate skip) = rate
rate_of_part (AtFormat field rate skip) = None
rate_of_part (Data rate left low) = Some rate
rate_of_part (Failed fault) = None

-- what is answered to an octet
abbrev pub answer_of : Option WavFault → Option ℤ → Result (Option ℤ) WavFault
answer_of None sample = Ok sample
answer_of (Some fault) sample = Err fault

-- ---- what it stands for

-- the fields from one on
abbrev pub fields_from : Field → List Field
fields_from Format = Format ∷ Channels ∷ Rate ∷ ByteRate ∷ Align ∷ Bits ∷ []
fields_from Channels = Channels ∷ Rate ∷ ByteRate ∷ Align ∷ Bits ∷ []
fields_from Rate = Rate ∷ ByteRate ∷ Align ∷ Bits ∷ []
fields_from ByteRate = ByteRate ∷ Align ∷ Bits ∷ []
fields_from Align = Align ∷ Bits ∷ []
fields_from Bits = Bits ∷ []

abbrev pub widths_from : Field → ℕ
widths_from Format = 16
widths_from Channels = 14
widths_from Rate = 12
widths_from ByteRate = 8
widths_from Align = 4
widths_from Bits = 2

-- the rate that the fields from one on tell, after fields that told a rate
abbrev pub rate_told : Field → ℕ → List ℕ → ℕ
rate_told Format rate octets = little_number 4 (drop 4 octets)
rate_told Channels rate octets = little_number 4 (drop 2 octets)
rate_told Rate rate octets = little_number 4 octets
rate_told ByteRate rate octets = rate
rate_told Align rate octets = rate
rate_told Bits rate octets = rate

abbrev pub rate_from : Field → ℕ → List ℕ → Option ℕ
rate_from field rate octets = if nat_lt (length octets) (widths_from field) then None
    else Some (rate_told field rate octets)

abbrev pub chunks_reading : Rates → Option ℕ → ℕ → List ℕ → Reading
chunks_reading rates None place octets = unformatted rates (chunks place octets)
chunks_reading rates (Some rate) place octets = formatted (Some rate) (chunks place octets)

abbrev pub head_reading : Rates → ℕ → List ℕ → Reading
head_reading rates place octets =
    unless (difference NotRiff place (drop place (codes "RIFF")) octets)
    (unless (difference NotWave (8 + (place - 8)) (drop (place - 8) (codes "WAVE")) (drop (8 - place) octets))
    (chunks_reading rates None 12 (drop (12 - place) octets)))

abbrev pub data_reading : ℕ → Option ℕ → List ℕ → List ℕ → Reading
data_reading rate None low octets = record {
  fault = None;
  rate = Some rate;
  heard = samples (low ++ octets);
  whole = true;
}
data_reading rate (Some left) low octets = record {
  fault = None;
  rate = Some rate;
  heard = samples (low ++ take left octets);
  whole = nat_le left (length octets);
}

-- how the rest of a file is read in a part, after so many octets
abbrev pub rest_reading : Rates → ℕ → Part → List ℕ → List ℕ → Reading
rest_reading rates count Head unit octets = head_reading rates count octets
rest_reading rates count (AtChunk rate skip) unit octets =
    chunks_reading rates rate (count + skip - length unit) (unit ++ drop skip octets)
rest_reading rates count (AtFormat field rate skip) unit octets =
    unless (field_fault rates (fields_from field) (count - length unit) (unit ++ octets))
    (formatted (rate_from field rate (unit ++ octets))
    (chunks (count + (widths_from field - length unit) + skip)
    (drop (widths_from field - length unit + skip) octets)))
rest_reading rates count (Data rate left low) unit octets = data_reading rate left (option_to_list low) octets
rest_reading rates count (Failed fault) unit octets = failed fault

-- a reading with samples before it
abbrev pub trailing : List ℤ → Reading → Reading
trailing before r = record { fault = r.fault; rate = r.rate; heard = before ++ r.heard; whole = r.whole }

-- these octets of a file have come to a reader of these rates
pub record StandsFor (rates : Rates) (held : Held) (octets : List ℕ) : Type 0 where
  pub takes : held.rates ≡ rates
  pub place : held.position ≡ told_place (length octets)
  pub enough : length held.unit ≤ length octets
  -- whatever comes, the file is read as the part reads the rest, after the samples so far
  pub rest : (more : List ℕ) → reading rates (octets ++ more)
      ≡ trailing (reading rates octets).heard (rest_reading rates (length octets) held.part held.unit more)
