-- What has to be said of a modem's sound to say what is heard of it.
use Rattle.std.specs.Prelude.{ℤ, List}
use Rattle.afsk_modulator.specs.Signal.{Transmission}
use Rattle.clean_signal.specs.Stray.{NoStray}
use Rattle.hf_signal.specs.Stray.{NoStray as NoHfStray}
use Rattle.tnc_words.specs.declared.command.Modem.{Modem}
use Rattle.tnc_words.specs.declared.command.Modem.TheVariants.{Bell202, ShortWave, Fx25}
use Rattle.tnc_words.specs.declared.command.Receiving.{Receiving}
use Rattle.tnc_words.specs.declared.command.Receiving.TheVariants.{Standard, ShortWave as OnShortWave}
use Rattle.tnc_words.specs.declared.command.SampleRate.TheVariants.{Narrow}

-- how that is heard which a modem sends
abbrev pub receiving_of : Modem → Receiving
receiving_of Bell202 = Standard Narrow
receiving_of ShortWave = OnShortWave
receiving_of (Fx25 checks) = Standard Narrow

-- No candidate of the samples is stray, as it is heard. Of frames with check octets nothing is said: these may hold
-- flags.
abbrev pub IsWithoutStray : Modem → List Transmission → List ℤ → Type 0
IsWithoutStray Bell202 sent x = NoStray sent x
IsWithoutStray ShortWave sent x = NoHfStray sent x
IsWithoutStray (Fx25 checks) sent x = ⊥
