-- How samples are heard, and their rate: 9600 a second if no option says otherwise.
use Rattle.std.specs.Prelude.{◌≡◌, ℕ, List, Option, Some, None, codes, true, false}
use Rattle.clap.specs.Words.{Row, Text, first_of}
use Rattle.tnc_words.specs.declared.command.SampleRate.{SampleRate}
use Rattle.tnc_words.specs.declared.command.SampleRate.TheVariants.{Narrow, Wide}
use Rattle.tnc_words.specs.declared.command.Receiving.{Receiving}
use Rattle.tnc_words.specs.declared.command.Receiving.TheVariants.{Standard, Sensitive, ShortWave}
use Rattle.tnc_words.specs.declared.command.Receiving.TheVariants.{SensitiveShortWave, Fx25, SensitiveFx25}
use Rattle.tnc_words.specs.Numbers.{HasNumber}
use Rattle.tnc_words.specs.Options.{is_used}

-- how many samples a second a rate is
abbrev pub samples_a_second : SampleRate → ℕ
samples_a_second Narrow = 9600
samples_a_second Wide = 48000

-- [--rate n], of the two rates
abbrev pub HasRate : List Row → SampleRate → Type 0
HasRate found rate = HasNumber (first_of (codes "rate") found) 9600 9600 48000 (samples_a_second rate)

-- That of a station, by the texts of --rate and --fx25: blocks are read at 9600 samples a second alone.
abbrev pub HasStationRate : Option Text → Option Text → SampleRate → Type 0
HasStationRate text None rate = HasNumber text 9600 9600 48000 (samples_a_second rate)
HasStationRate text (Some checks) rate = (rate ≡ Narrow) × HasNumber text 9600 9600 48000 9600

-- [--sensitive] at either rate, or at 9600 samples a second [--fx25], or [--hf] without threads, each with [--sensitive] or
-- without
abbrev pub HasReceiving : List Row → Receiving → Type 0
HasReceiving found (Standard rate) =
    (is_used (codes "hf") found ≡ false) × (is_used (codes "sensitive") found ≡ false)
    × (is_used (codes "fx25") found ≡ false) × HasRate found rate
HasReceiving found (Sensitive rate) =
    (is_used (codes "hf") found ≡ false) × (is_used (codes "sensitive") found ≡ true)
    × (is_used (codes "fx25") found ≡ false) × HasRate found rate
HasReceiving found ShortWave =
    (is_used (codes "hf") found ≡ true) × (is_used (codes "sensitive") found ≡ false)
    × (is_used (codes "fx25") found ≡ false) × (is_used (codes "threads") found ≡ false) × HasRate found Narrow
HasReceiving found SensitiveShortWave =
    (is_used (codes "hf") found ≡ true) × (is_used (codes "sensitive") found ≡ true)
    × (is_used (codes "fx25") found ≡ false) × (is_used (codes "threads") found ≡ false) × HasRate found Narrow
HasReceiving found Fx25 =
    (is_used (codes "hf") found ≡ false) × (is_used (codes "sensitive") found ≡ false)
    × (is_used (codes "fx25") found ≡ true) × HasRate found Narrow
HasReceiving found SensitiveFx25 =
    (is_used (codes "hf") found ≡ false) × (is_used (codes "sensitive") found ≡ true)
    × (is_used (codes "fx25") found ≡ true) × HasRate found Narrow
