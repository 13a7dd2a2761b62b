-- How bits are sent: by Bell 202 and plainly, if no option says otherwise.
use Rattle.std.specs.Prelude.{◌≡◌, ℕ, Bool, true, false, List, codes, Option, Some, None}
use Rattle.clap.specs.Words.{Row, Text, first_of}
use Rattle.tnc_words.specs.declared.command.CheckOctets.{CheckOctets}
use Rattle.tnc_words.specs.declared.command.CheckOctets.TheVariants.{Sixteen, ThirtyTwo, SixtyFour}
use Rattle.tnc_words.specs.declared.command.Modem.{Modem}
use Rattle.tnc_words.specs.declared.command.Modem.TheVariants.{Bell202, ShortWave, Fx25}
use Rattle.tnc_words.specs.Numbers.{GivesNumber}
use Rattle.tnc_words.specs.Options.{is_used}

-- how many check octets they are
abbrev pub count_of : CheckOctets → ℕ
count_of Sixteen = 16
count_of ThirtyTwo = 32
count_of SixtyFour = 64

-- the modem by whether --hf was given, and by the text of --fx25
abbrev pub IsModem : Bool → Option Text → Modem → Type 0
IsModem hf None Bell202 = hf ≡ false
IsModem hf None ShortWave = hf ≡ true
IsModem hf None (Fx25 checks) = ⊥
IsModem hf (Some text) Bell202 = ⊥
IsModem hf (Some text) ShortWave = ⊥
IsModem hf (Some text) (Fx25 checks) = (hf ≡ false) × GivesNumber (Some text) 16 64 (count_of checks)

-- [--hf] or [--fx25 n], n being 16, 32 or 64
abbrev pub HasModem : List Row → Modem → Type 0
HasModem found modem = IsModem (is_used (codes "hf") found) (first_of (codes "fx25") found) modem
