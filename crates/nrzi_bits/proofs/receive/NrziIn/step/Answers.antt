use Rattle.std.proofs.Common.{◌≡◌, refl, sym, ◌∙◌}
use denote.Enum.Bare.{sameb}
use Rattle.tone_table.specs.declared.tone.Tone.{Tone}
use Rattle.tone_table.specs.declared.tone.Tone.TheVariants.{Mark, Space}
use Rattle.tone_table.specs.contracts.tone.Tone.{the_type}
use Rattle.nrzi_bits.specs.Line.{same_tone}
use Rattle.nrzi_bits.proofs.LineLemmas.{last_tone-push, bits_of-push}
use Rattle.nrzi_bits.proofs.receive.NrziIn.step.Goals as goal

-- the derived test says whether two tones agree
sameb-the_type : (a b : Tone) → sameb the_type a b ≡ same_tone a b
sameb-the_type Mark Mark = refl
sameb-the_type Mark Space = refl
sameb-the_type Space Mark = refl
sameb-the_type Space Space = refl

pub returns-clause-stands_for : goal.returns-clause-stands_for
returns-clause-stands_for c = λ tones at. sym (last_tone-push tones c.args.tone)

pub returns-clause-bits : goal.returns-clause-bits
returns-clause-bits c = λ tones at.
    bits_of-push c.self.inside.before tones c.args.tone _ (c.self.view_is ∙ at) (c.eq-bit.ensures ∙ sameb-the_type _ _)
