-- How samples and frames come and go: raw PCM of Bell 202 and lines of hexadecimal digits, if no flag says otherwise.
use Rattle.std.specs.Prelude.{List, codes, if◌then◌else◌}
use Rattle.clap.specs.Words.{Row}
use Rattle.tnc_words.specs.declared.command.AudioForm.{AudioForm}
use Rattle.tnc_words.specs.declared.command.AudioForm.TheVariants.{Raw, Wav}
use Rattle.tnc_words.specs.declared.command.FrameForm.{FrameForm}
use Rattle.tnc_words.specs.declared.command.FrameForm.TheVariants.{Hex, Kiss}
use Rattle.tnc_words.specs.Options.{is_used}

-- --wav
abbrev pub audio_form : List Row → AudioForm
audio_form found = if is_used (codes "wav") found then Wav else Raw

-- --kiss
abbrev pub frame_form : List Row → FrameForm
frame_form found = if is_used (codes "kiss") found then Kiss else Hex
