-- By what a channel is busy, as an option says it.
use Rattle.std.specs.Prelude.{◌≡◌, ◌||◌, Bool, true, false, List, Option, Some, None, codes, is_some}
use Rattle.clap.specs.Words.{Row, Text, first_of}
use Rattle.tnc_words.specs.declared.command.Dcd.{Dcd}
use Rattle.tnc_words.specs.declared.command.Dcd.TheVariants.{Tones, Flags}
use Rattle.tnc_words.specs.Numbers.{GivesNumber}
use Rattle.tnc_words.specs.Options.{is_used}

-- on short wave, and where blocks are read, a station hears others by flags in a row alone
abbrev pub is_by_flags : List Row → Bool
is_by_flags found = is_used (codes "hf") found || is_some (first_of (codes "fx25") found)

-- With Bell 202: tones by their name, so many flags in a row by their number, 1 to 8, and tones if the option was not
-- given. On short wave, and where blocks are read: so many flags in a row, 2 to 8, and three if it was not given.
abbrev pub HasDcd : Bool → Option Text → Dcd → Type 0
HasDcd false None dcd = dcd ≡ Tones
HasDcd false (Some text) Tones = text ≡ codes "tones"
HasDcd false (Some text) (Flags count) = GivesNumber (Some text) 1 8 count
HasDcd true None dcd = dcd ≡ Flags 3
HasDcd true (Some text) Tones = ⊥
HasDcd true (Some text) (Flags count) = GivesNumber (Some text) 2 8 count
