-- What encode makes of the octets of its input.
use Rattle.std.specs.Prelude.{ℕ, ℤ, nat_lt, Bool, true, List, [], ◌∷◌, ◌++◌, map, length, take, Option, Some, None}
use Rattle.std.specs.Prelude.{if◌then◌else◌}
use Rattle.afsk_modulator.specs.Signal.{Transmission}
use Rattle.wav_file.specs.Head.{head_of}
use Rattle.tnc_forms.specs.declared.fault.InputFault.{InputFault}
use Rattle.tnc_forms.specs.declared.fault.InputFault.TheVariants.{LongWav}
use Rattle.tnc_forms.specs.Faults.{fault_within}
use Rattle.tnc_forms.specs.LinesSoFar.{fault_as_read}
use Rattle.tnc_forms.specs.Pcm.{pcm}
use Rattle.tnc_forms.specs.Reading.{input_limit}
use Rattle.tnc_words.specs.declared.command.AudioForm.{AudioForm}
use Rattle.tnc_words.specs.declared.command.AudioForm.TheVariants.{Raw, Wav}
use Rattle.tnc_words.specs.declared.command.EncodeWords.{EncodeWords}
use Rattle.tnc_encode.specs.Sending.{samples_by, signal_by}
use Rattle.tnc_encode.specs.Frames.{form_fault, form_fault_so_far, frames_of_input, frames_so_far}

-- frames that are sent at one go, as the words say
abbrev pub sent_at_once : EncodeWords → List (List ℕ) → Transmission
sent_at_once words frames =
    record { silence = words.silence; frames = frames; opening = words.opening; closing = words.closing }

-- all frames in one transmission, and none if there is no frame
abbrev pub joined : EncodeWords → List (List ℕ) → List Transmission
joined words [] = []
joined words (first ∷ frames) = sent_at_once words (first ∷ frames) ∷ []

-- the transmissions that the words make of frames: each frame its own, or all in one
abbrev pub transmissions : EncodeWords → List (List ℕ) → List Transmission
transmissions words frames =
    if words.join then joined words frames else map (λ frame. sent_at_once words (frame ∷ [])) frames

-- the samples of frames that are sent at one go, and the signal of all of them, by the modem and at the level of the
-- words
abbrev pub samples_at_once : EncodeWords → List (List ℕ) → List ℤ
samples_at_once words frames = samples_by words.modem words.level (sent_at_once words frames)

abbrev pub signal_of : EncodeWords → List (List ℕ) → List ℤ
signal_of words frames = signal_by words.modem words.level (transmissions words frames)

-- the signal of the input's frames
abbrev pub samples_sent : EncodeWords → List ℕ → List ℤ
samples_sent words input = signal_of words (frames_of_input words.frames input)

-- samples as raw PCM, or as a WAV file
abbrev pub written_as : AudioForm → List ℤ → List ℕ
written_as Raw samples = pcm samples
written_as Wav samples = head_of (length samples) ++ pcm samples

-- the octets for an input: the signal of its frames
unfoldable pub encoded : EncodeWords → List ℕ → List ℕ
encoded words input = written_as words.audio (samples_sent words input)

-- the octets that are written of an input with a bad line: the frames before it as raw PCM, or no WAV file
abbrev pub written_before : AudioForm → List ℤ → List ℕ
written_before Raw samples = pcm samples
written_before Wav samples = []

unfoldable pub encoded_before : EncodeWords → List ℕ → List ℕ
encoded_before words input = written_before words.audio (samples_sent words input)

-- the most samples of a WAV file
abbrev pub most_samples : ℕ
most_samples = 2147483629

-- more samples than a WAV file has
abbrev pub length_fault : AudioForm → ℕ → Option InputFault
length_fault Raw count = None
length_fault Wav count = if nat_lt most_samples count then Some (LongWav count) else None

-- the first of two faults
abbrev pub first_of : Option InputFault → Option InputFault → Option InputFault
first_of (Some fault) other = Some fault
first_of None other = other

-- Frames are kept until the input has ended: for a WAV file, whose head tells the count of the samples, and for one
-- transmission. Otherwise each frame is sent as it comes.
abbrev pub keeps_frames : AudioForm → Bool → Bool
keeps_frames Raw join = join
keeps_frames Wav join = true

-- the octets that are written of octets before it is known whether more follow
unfoldable pub encoded_so_far : EncodeWords → List ℕ → List ℕ
encoded_so_far words octets =
    if keeps_frames words.audio words.join then [] else pcm (signal_of words (frames_so_far words.frames octets))

-- why an input is refused that is read whole: it is too long, a line is bad, or what comes of it is too long for a WAV
-- file
unfoldable pub fault_of_whole : EncodeWords → List ℕ → Option InputFault
fault_of_whole words input =
    fault_within input (first_of (form_fault words.frames input)
    (length_fault words.audio (length (samples_sent words input))))

-- and of which each frame is sent as it comes: a line is bad, or else it is too long
abbrev pub fault_of_pieces : EncodeWords → List ℕ → Option InputFault
fault_of_pieces words input =
    fault_as_read (form_fault_so_far words.frames (take input_limit input)) (form_fault words.frames input) input

unfoldable pub encode_fault : EncodeWords → List ℕ → Option InputFault
encode_fault words input =
    if keeps_frames words.audio words.join then fault_of_whole words input else fault_of_pieces words input
