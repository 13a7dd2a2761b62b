use Rattle.slicer_bank.proofs.Common.{◌≡◌, ◌∙◌, refl, Tone}
use denote.Enum.Bare.{sameb}
use Rattle.tone_table.specs.declared.tone.Tone.TheVariants.{Mark, Space}
use Rattle.tone_table.specs.contracts.tone.Tone.{the_type}
use Rattle.nrzi_bits.specs.Line.{same_tone}
use Rattle.slicer_bank.proofs.eight.agree.Goals as goal

-- the derived test says whether two tones agree
sameb-the_type : (a b : Tone) → sameb the_type a b ≡ same_tone a b
sameb-the_type Mark Mark = refl
sameb-the_type Mark Space = refl
sameb-the_type Space Mark = refl
sameb-the_type Space Space = refl

pub returns : goal.returns
returns c = c.eq.ensures ∙ sameb-the_type _ _
