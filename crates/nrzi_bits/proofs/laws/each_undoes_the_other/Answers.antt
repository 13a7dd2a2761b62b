use Rattle.tone_table.specs.declared.tone.Tone.TheVariants.{Mark}
use Rattle.nrzi_bits.proofs.LineLemmas.{bits_from-line_from, line_from-bits_from}
use Rattle.nrzi_bits.proofs.laws.each_undoes_the_other.Goals as goal

pub returns-clause-heard : goal.returns-clause-heard
returns-clause-heard c = bits_from-line_from Mark

pub returns-clause-sent : goal.returns-clause-sent
returns-clause-sent c = line_from-bits_from Mark
