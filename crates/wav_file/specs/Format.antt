-- The format of this project's WAV files: PCM, one channel, 16 bits a sample, at 9600 samples a second or at one of the
-- rates that a reader takes (Multimedia Programming Interface and Data Specifications 1.0, "Waveform Audio File
-- Format").
use Rattle.std.specs.Prelude.{ℕ, ◌+◌, ◌-◌, ◌==◌, ◌||◌, nat_lt, if◌then◌else◌, Bool, true, List, [], ◌∷◌, length, drop}
use Rattle.std.specs.Prelude.{Option, Some, None}
use Rattle.byteorder.specs.Endian.{little_number}
use Rattle.wav_file.specs.declared.fault.WavFault.{WavFault}
use Rattle.wav_file.specs.declared.fault.WavFault.TheVariants.{BadFormat}
use Rattle.wav_file.specs.declared.field.Field.{Field}
use Rattle.wav_file.specs.declared.field.Field.TheVariants.{Format, Channels, Rate, ByteRate, Align, Bits}
use Rattle.wav_file.specs.declared.rates.Rates.{Rates}
use Rattle.wav_file.specs.declared.rates.Rates.TheVariants.{Narrow, NarrowOrWide}
use Rattle.wav_file.specs.Place.{told_place}

-- the fields of a format, in order
abbrev pub fields : List Field
fields = Format ∷ Channels ∷ Rate ∷ ByteRate ∷ Align ∷ Bits ∷ []

-- the number of a field, counted from 1
abbrev pub number_of : Field → ℕ
number_of Format = 1
number_of Channels = 2
number_of Rate = 3
number_of ByteRate = 4
number_of Align = 5
number_of Bits = 6

-- how many octets it has
abbrev pub width_of : Field → ℕ
width_of Format = 2
width_of Channels = 2
width_of Rate = 4
width_of ByteRate = 4
width_of Align = 2
width_of Bits = 2

-- is it one of the rates, in samples a second?
abbrev pub accepts_rate : Rates → ℕ → Bool
accepts_rate Narrow value = value == 9600
accepts_rate NarrowOrWide value = (value == 9600) || (value == 48000)

-- is it what a reader of these rates reads? The rate in octets is not looked at.
abbrev pub accepts : Rates → Field → ℕ → Bool
accepts rates Format value = value == 1
accepts rates Channels value = value == 1
accepts rates Rate value = accepts_rate rates value
accepts rates ByteRate value = true
accepts rates Align value = value == 2
accepts rates Bits value = value == 16

-- The first field that is whole and not what is read, of the fields that follow each other from a place on. The fault
-- names the field's last octet.
abbrev pub field_fault : Rates → List Field → ℕ → List ℕ → Option WavFault
field_fault rates [] place octets = None
field_fault rates (field ∷ others) place octets =
    if nat_lt (length octets) (width_of field) then None else
    if accepts rates field (little_number (width_of field) octets)
    then field_fault rates others (place + width_of field) (drop (width_of field) octets)
    else Some (BadFormat (told_place (place + width_of field - 1)) (number_of field)
    (little_number (width_of field) octets))

-- The rate that a format names at the front of these octets, once its sixteen octets are there: the third field's
-- number.
abbrev pub rate_at_front : List ℕ → Option ℕ
rate_at_front octets = if nat_lt (length octets) 16 then None else Some (little_number 4 (drop 4 octets))
