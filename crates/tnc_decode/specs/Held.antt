-- What the code keeps of an input, and what that stands for. No public clause cites it.
use Rattle.std.specs.Prelude.{◌≡◌, ℕ, ◌≤◌, List, [], ◌∷◌, length, ℤ, Bool, false, if◌then◌else◌, Option, Some, None, ⊤}
use Rattle.slicer_bank.specs.HeldDecoder.{StandsFor as DecoderStandsFor}
use Rattle.wide_input.specs.HeldDecoder.{StandsFor as WideStandsFor}
use Rattle.wide_input.specs.HeldSensitive.{StandsFor as WideSensitiveStandsFor}
use Rattle.hf_modem.specs.HeldDecoder.{StandsFor as HfStandsFor}
use Rattle.hf_sensitive.specs.HeldDecoder.{StandsFor as HfSensitiveStandsFor}
use Rattle.sensitive_receiver.specs.HeldDecoder.{StandsFor as SensitiveStandsFor}
use Rattle.fx25_receiver.specs.declared.heard.Heard.{Heard}
use Rattle.fx25_receiver.specs.Held.{StandsFor as Fx25StandsFor}
use Rattle.sensitive_blocks.specs.Held.{StandsFor as BlocksStandFor}
use Rattle.wav_file.specs.declared.rates.Rates.{Rates}
use Rattle.wav_file.specs.Held.{StandsFor as FileStandsFor}
use Rattle.wav_file.specs.Reading.{fault_in}
use Rattle.tnc_words.specs.declared.command.AudioForm.{AudioForm}
use Rattle.tnc_words.specs.declared.command.AudioForm.TheVariants.{Raw, Wav}
use Rattle.tnc_words.specs.declared.command.DecodeWords.{DecodeWords}
use Rattle.tnc_decode.specs.declared.audio.Audio.{Audio}
use Rattle.tnc_decode.specs.declared.audio.Audio.TheVariants.{Pcm, File}
use Rattle.tnc_decode.specs.declared.decoders.Decoders.{Decoders}
use Rattle.tnc_decode.specs.declared.decoders.Decoders.TheVariants.{Plain, Wide, Sensitive, WideSensitive, ShortWave, Fx25}
use Rattle.tnc_decode.specs.declared.decoders.Decoders.TheVariants.{SensitiveShortWave, SensitiveFx25}
use Rattle.tnc_decode.specs.declared.modem.Modem.{Modem}
use Rattle.tnc_decode.specs.declared.modem.Modem.TheVariants.{Plain as PlainModem, Wide as WideModem}
use Rattle.tnc_decode.specs.declared.modem.Modem.TheVariants.{Sensitive as SensitiveModem}
use Rattle.tnc_decode.specs.declared.modem.Modem.TheVariants.{WideSensitive as WideSensitiveModem}
use Rattle.tnc_decode.specs.declared.modem.Modem.TheVariants.{ShortWave as ShortWaveModem, Fx25 as Fx25Modem}
use Rattle.tnc_decode.specs.declared.modem.Modem.TheVariants.{SensitiveShortWave as SensitiveShortWaveModem}
use Rattle.tnc_decode.specs.declared.modem.Modem.TheVariants.{SensitiveFx25 as SensitiveFx25Modem}
use Rattle.tnc_decode.specs.declared.receiver.Receiver.{Receiver}
use Rattle.tnc_decode.specs.Audio.{rates_of, samples_read}
use Rattle.tnc_decode.specs.Modem.{modem_of}

-- the octet of raw PCM that waits for its other half
abbrev pub odd_octet : List ℕ → Option ℕ
odd_octet (low ∷ high ∷ rest) = odd_octet rest
odd_octet (low ∷ []) = Some low
odd_octet [] = None

-- the octets were taken, and no fault has shown in them
abbrev pub HasTakenAt : Rates → AudioForm → Audio → List ℕ → Type 0
HasTakenAt rates Raw (Pcm low) octets = low ≡ odd_octet octets
HasTakenAt rates Wav (File file) octets = FileStandsFor rates file octets × (fault_in rates octets ≡ None)
HasTakenAt rates form audio octets = ⊥

abbrev pub HasTaken : DecodeWords → Audio → List ℕ → Type 0
HasTaken words audio octets = HasTakenAt (rates_of words.receiving) words.audio audio octets

-- the decoder is that of a modem, and has taken these samples
abbrev pub HasDecoded : Modem → Decoders → List ℤ → Type 0
HasDecoded PlainModem (Plain decoder) x = DecoderStandsFor decoder x
HasDecoded WideModem (Wide decoder) x = WideStandsFor decoder x
HasDecoded SensitiveModem (Sensitive decoder) x = SensitiveStandsFor decoder x
HasDecoded WideSensitiveModem (WideSensitive decoder) x = WideSensitiveStandsFor decoder x
HasDecoded ShortWaveModem (ShortWave decoder) x = HfStandsFor decoder x
HasDecoded SensitiveShortWaveModem (SensitiveShortWave decoder) x = HfSensitiveStandsFor decoder x
HasDecoded Fx25Modem (Fx25 decoder) x = (given : List Heard) × Fx25StandsFor decoder x given
HasDecoded SensitiveFx25Modem (SensitiveFx25 decoder) x = (given : List Heard) × BlocksStandFor decoder x given
HasDecoded modem decoder x = ⊥

-- how many samples a decoder has taken, past the filter if it has one, and whether it is finished
abbrev pub position_of : Decoders → ℕ
position_of (Plain decoder) = decoder.position
position_of (Wide decoder) = decoder.bank.position
position_of (Sensitive decoder) = decoder.position
position_of (WideSensitive decoder) = decoder.decoder.position
position_of (ShortWave decoder) = decoder.position
position_of (SensitiveShortWave decoder) = decoder.position
position_of (Fx25 decoder) = decoder.position
position_of (SensitiveFx25 decoder) = decoder.follower.position

abbrev pub finished_of : Decoders → Bool
finished_of (Plain decoder) = decoder.finished
finished_of (Wide decoder) = decoder.bank.finished
finished_of (Sensitive decoder) = decoder.finished
finished_of (WideSensitive decoder) = decoder.decoder.finished
finished_of (ShortWave decoder) = decoder.finished
finished_of (SensitiveShortWave decoder) = decoder.finished
finished_of (Fx25 decoder) = false
finished_of (SensitiveFx25 decoder) = false

-- a block of so many samples is not too long for a decoder, with threads or without
abbrev pub TakesAtOnce : Bool → Decoders → ℕ → Type 0
TakesAtOnce threads (Plain decoder) count = ⊤
TakesAtOnce threads (Sensitive decoder) count = ⊤
TakesAtOnce threads (Wide decoder) count = count ≤ (if threads then 32768 else 2048)
TakesAtOnce threads (WideSensitive decoder) count = count ≤ (if threads then 32768 else 2048)
TakesAtOnce threads decoder count = count ≤ 2048

-- by these words the receiver was given these octets
pub record HasHeard (receiver : Receiver) (words : DecodeWords) (octets : List ℕ) : Type 0 where
  pub frames : receiver.frames ≡ words.frames
  pub receiving : receiver.receiving ≡ words.receiving
  pub audio : HasTaken words receiver.audio octets
  pub decoder : HasDecoded (modem_of words octets) receiver.decoder (samples_read words octets)
  pub position : position_of receiver.decoder ≤ length octets
  pub unfinished : finished_of receiver.decoder ≡ false
