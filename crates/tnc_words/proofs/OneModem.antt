-- Words name one modem at most, of what is sent as of a station.
use Rattle.tnc_words.proofs.Common.{◌≡◌, Bool, List, Option, Some, None, ap, refl, sym, ◌∙◌, arith, codes, Row, Text}
use Rattle.std.proofs.lemmas.Bool.{true≢false}
use Rattle.clap.specs.Words.{first_of}
use Rattle.tnc_words.specs.declared.command.CheckOctets.{CheckOctets}
use Rattle.tnc_words.specs.declared.command.CheckOctets.TheVariants.{Sixteen, ThirtyTwo, SixtyFour}
use Rattle.tnc_words.specs.declared.command.Modem.{Modem}
use Rattle.tnc_words.specs.declared.command.Modem.TheVariants.{Bell202, ShortWave as OnShortWave, Fx25}
use Rattle.tnc_words.specs.declared.command.StationModem.{StationModem}
use Rattle.tnc_words.specs.declared.command.StationModem.TheVariants.{Bell202 as StationBell202}
use Rattle.tnc_words.specs.declared.command.StationModem.TheVariants.{ShortWave as StationShortWave, Fx25 as StationFx25}
use Rattle.tnc_words.specs.StationModems.{IsStationModem, count_sent}
use Rattle.tnc_words.specs.Options.{is_used}
use Rattle.tnc_words.specs.Sending.{HasModem, IsModem, count_of}
use Rattle.tnc_words.proofs.OneNumber.{given_number}

pub one_count : (checks other : CheckOctets) → count_of checks ≡ count_of other → checks ≡ other
one_count Sixteen Sixteen e = refl
one_count Sixteen ThirtyTwo e = absurd (omega arith)
one_count Sixteen SixtyFour e = absurd (omega arith)
one_count ThirtyTwo Sixteen e = absurd (omega arith)
one_count ThirtyTwo ThirtyTwo e = refl
one_count ThirtyTwo SixtyFour e = absurd (omega arith)
one_count SixtyFour Sixteen e = absurd (omega arith)
one_count SixtyFour ThirtyTwo e = absurd (omega arith)
one_count SixtyFour SixtyFour e = refl

one_modem_by : (hf : Bool) (text : Option Text) (modem other : Modem) → IsModem hf text modem → IsModem hf text other
    → modem ≡ other
one_modem_by hf None Bell202 Bell202 h k = refl
one_modem_by hf None Bell202 OnShortWave h k = absurd (true≢false (sym k ∙ h))
one_modem_by hf None Bell202 (Fx25 other) h k = absurd k
one_modem_by hf None OnShortWave Bell202 h k = absurd (true≢false (sym h ∙ k))
one_modem_by hf None OnShortWave OnShortWave h k = refl
one_modem_by hf None OnShortWave (Fx25 other) h k = absurd k
one_modem_by hf None (Fx25 checks) other h k = absurd h
one_modem_by hf (Some text) Bell202 other h k = absurd h
one_modem_by hf (Some text) OnShortWave other h k = absurd h
one_modem_by hf (Some text) (Fx25 checks) Bell202 h k = absurd k
one_modem_by hf (Some text) (Fx25 checks) OnShortWave h k = absurd k
one_modem_by hf (Some text) (Fx25 checks) (Fx25 other) h k =
    ap Fx25 (one_count checks other (given_number (Some text) 16 64 (count_of checks) (count_of other) h.1 k.1))

pub one_modem : (found : List Row) (modem other : Modem) → HasModem found modem → HasModem found other → modem ≡ other
one_modem found modem other = one_modem_by (is_used (codes "hf") found) (first_of (codes "fx25") found) modem other

no_count : (checks : CheckOctets) → count_of checks ≡ 0 → ⊥
no_count Sixteen e = omega arith
no_count ThirtyTwo e = omega arith
no_count SixtyFour e = omega arith

pub one_count_sent : (checks other : Option CheckOctets) → count_sent checks ≡ count_sent other → checks ≡ other
one_count_sent None None e = refl
one_count_sent None (Some other) e = absurd (no_count other (sym e))
one_count_sent (Some checks) None e = absurd (no_count checks e)
one_count_sent (Some checks) (Some other) e = ap Some (one_count checks other e)

pub one_station_modem : (hf sensitive : Bool) (text : Option Text) (modem other : StationModem)
    → IsStationModem hf sensitive text modem → IsStationModem hf sensitive text other → modem ≡ other
one_station_modem hf sensitive None (StationBell202 more) (StationBell202 less) h k = ap StationBell202 (h.1 ∙ sym k.1)
one_station_modem hf sensitive None (StationBell202 more) (StationShortWave less) h k = absurd (true≢false (sym k.0 ∙ h.0))
one_station_modem hf sensitive None (StationBell202 more) (StationFx25 other less) h k = absurd k
one_station_modem hf sensitive None (StationShortWave more) (StationBell202 less) h k = absurd (true≢false (sym h.0 ∙ k.0))
one_station_modem hf sensitive None (StationShortWave more) (StationShortWave less) h k =
    ap StationShortWave (h.1 ∙ sym k.1)
one_station_modem hf sensitive None (StationShortWave more) (StationFx25 other less) h k = absurd k
one_station_modem hf sensitive None (StationFx25 checks more) other h k = absurd h
one_station_modem hf sensitive (Some text) (StationBell202 more) other h k = absurd h
one_station_modem hf sensitive (Some text) (StationShortWave more) other h k = absurd h
one_station_modem hf sensitive (Some text) (StationFx25 checks more) (StationBell202 less) h k = absurd k
one_station_modem hf sensitive (Some text) (StationFx25 checks more) (StationShortWave less) h k = absurd k
one_station_modem hf sensitive (Some text) (StationFx25 checks more) (StationFx25 other less) h k =
    ap (λ c. StationFx25 c more)
    (one_count_sent checks other (given_number (Some text) 0 64 (count_sent checks) (count_sent other) h.2 k.2))
    ∙ ap (StationFx25 other) (h.1 ∙ sym k.1)
