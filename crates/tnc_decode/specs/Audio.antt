-- Audio in its two forms: raw PCM, which is signed 16-bit samples with the low octet first, and a WAV file of them.
use Rattle.std.specs.Prelude.{ℕ, ℤ, List, take, Option, Some, None, option_map}
use Rattle.std.specs.Prelude.{Result, Ok, Err}
use Rattle.wav_file.specs.declared.fault.WavFault.{WavFault}
use Rattle.wav_file.specs.declared.rates.Rates.{Rates}
use Rattle.wav_file.specs.declared.rates.Rates.TheVariants.{Narrow, NarrowOrWide}
use Rattle.wav_file.specs.Reading.{fault_in, samples_in, verdict_of}
use Rattle.wav_file.specs.Samples.{samples}
use Rattle.tnc_forms.specs.declared.fault.InputFault.{InputFault}
use Rattle.tnc_forms.specs.declared.fault.InputFault.TheVariants.{Wav as BadWav}
use Rattle.tnc_forms.specs.LinesSoFar.{fault_as_read}
use Rattle.tnc_forms.specs.Reading.{input_limit}
use Rattle.tnc_words.specs.declared.command.AudioForm.{AudioForm}
use Rattle.tnc_words.specs.declared.command.AudioForm.TheVariants.{Raw, Wav}
use Rattle.tnc_words.specs.declared.command.DecodeWords.{DecodeWords}
use Rattle.tnc_words.specs.declared.command.Receiving.{Receiving}
use Rattle.tnc_words.specs.declared.command.Receiving.TheVariants.{Standard, Sensitive, ShortWave}
use Rattle.tnc_words.specs.declared.command.Receiving.TheVariants.{SensitiveShortWave, Fx25, SensitiveFx25}

-- ---- of a form, if a WAV file may have some rates

-- the samples of an input, those before a fault if there is one
abbrev pub samples_at : Rates → AudioForm → List ℕ → List ℤ
samples_at rates Raw octets = samples octets
samples_at rates Wav octets = samples_in rates octets

abbrev pub fault_in_verdict : Result (Unit {0}) WavFault → Option InputFault
fault_in_verdict (Ok nothing) = None
fault_in_verdict (Err fault) = Some (BadWav fault)

-- what is wrong with an input's form: of raw PCM nothing is, since a last odd octet is left out
abbrev pub form_fault_at : Rates → AudioForm → List ℕ → Option InputFault
form_fault_at rates Raw octets = None
form_fault_at rates Wav octets = fault_in_verdict (verdict_of rates octets)

-- the fault at which reading stops before the end of an input: in a WAV file each but that it is cut short
abbrev pub stopping_fault_at : Rates → AudioForm → List ℕ → Option InputFault
stopping_fault_at rates Raw octets = None
stopping_fault_at rates Wav octets = option_map BadWav (fault_in rates octets)

-- Why an input is refused: for the first fault that reading it meets. Of an input that is too long the first 2^40 octets
-- are read.
abbrev pub audio_fault_at : Rates → AudioForm → List ℕ → Option InputFault
audio_fault_at rates form octets =
    fault_as_read (stopping_fault_at rates form (take input_limit octets)) (form_fault_at rates form octets) octets

-- ---- of words

-- the rates that a WAV file may have
abbrev pub rates_of : Receiving → Rates
rates_of (Standard rate) = NarrowOrWide
rates_of (Sensitive rate) = NarrowOrWide
rates_of ShortWave = Narrow
rates_of SensitiveShortWave = Narrow
rates_of Fx25 = Narrow
rates_of SensitiveFx25 = Narrow

-- the samples of the input of words
abbrev pub samples_read : DecodeWords → List ℕ → List ℤ
samples_read words octets = samples_at (rates_of words.receiving) words.audio octets

abbrev pub form_fault : DecodeWords → List ℕ → Option InputFault
form_fault words octets = form_fault_at (rates_of words.receiving) words.audio octets

abbrev pub stopping_fault : DecodeWords → List ℕ → Option InputFault
stopping_fault words octets = stopping_fault_at (rates_of words.receiving) words.audio octets

abbrev pub audio_fault : DecodeWords → List ℕ → Option InputFault
audio_fault words octets = audio_fault_at (rates_of words.receiving) words.audio octets
