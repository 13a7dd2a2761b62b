-- By which modem a station works, as options say it.
use Rattle.std.specs.Prelude.{◌≡◌, ℕ, Bool, true, false, List, Option, Some, None, codes}
use Rattle.clap.specs.Words.{Row, Text, first_of}
use Rattle.tnc_words.specs.declared.command.CheckOctets.{CheckOctets}
use Rattle.tnc_words.specs.declared.command.StationModem.{StationModem}
use Rattle.tnc_words.specs.declared.command.StationModem.TheVariants.{Bell202, ShortWave, Fx25}
use Rattle.tnc_words.specs.Numbers.{GivesNumber}
use Rattle.tnc_words.specs.Options.{is_used}
use Rattle.tnc_words.specs.Sending.{count_of}

-- how many check octets are sent around a frame: none if it is sent plainly
abbrev pub count_sent : Option CheckOctets → ℕ
count_sent None = 0
count_sent (Some checks) = count_of checks

-- the modem by whether --hf was given, whether --sensitive was, and by the text of --fx25, which goes without --hf
abbrev pub IsStationModem : Bool → Bool → Option Text → StationModem → Type 0
IsStationModem hf sensitive None (Bell202 more) = (hf ≡ false) × (more ≡ sensitive)
IsStationModem hf sensitive None (ShortWave more) = (hf ≡ true) × (more ≡ sensitive)
IsStationModem hf sensitive None (Fx25 checks more) = ⊥
IsStationModem hf sensitive (Some text) (Bell202 more) = ⊥
IsStationModem hf sensitive (Some text) (ShortWave more) = ⊥
IsStationModem hf sensitive (Some text) (Fx25 checks more) =
    (hf ≡ false) × (more ≡ sensitive) × GivesNumber (Some text) 0 64 (count_sent checks)

-- [--sensitive], and [--hf] or [--fx25 n], n being 0, 16, 32 or 64
abbrev pub HasStationModem : List Row → StationModem → Type 0
HasStationModem found modem =
    IsStationModem (is_used (codes "hf") found) (is_used (codes "sensitive") found) (first_of (codes "fx25") found) modem
