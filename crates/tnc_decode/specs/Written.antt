-- How much decode reads at once.
use Rattle.std.specs.Prelude.{ℕ, if◌then◌else◌}
use Rattle.tnc_words.specs.declared.command.DecodeWords.{DecodeWords}
use Rattle.tnc_words.specs.declared.command.Receiving.{Receiving}
use Rattle.tnc_words.specs.declared.command.Receiving.TheVariants.{Standard, Sensitive, ShortWave}
use Rattle.tnc_words.specs.declared.command.Receiving.TheVariants.{SensitiveShortWave, Fx25, SensitiveFx25}

-- The most octets whose samples threads share, or that are read at once if they share none. Those of a sensitive receiver
-- have more to do with each sample, and keep more of it.
abbrev pub most_shared : Receiving → ℕ
most_shared (Standard rate) = 262144
most_shared (Sensitive rate) = 65536
most_shared ShortWave = 2048
most_shared SensitiveShortWave = 2048
most_shared Fx25 = 2048
most_shared SensitiveFx25 = 2048

-- The most octets that are read at once: few, so that a frame is written soon, and many if threads are to share their
-- samples.
abbrev pub most_at_once : DecodeWords → ℕ
most_at_once words = if words.threads then most_shared words.receiving else 2048
