use Rattle.tnc_forms.specs.HexFrames.{frames_in_lines}
use Rattle.tnc_show.proofs.LineLemmas.{same_text}
use Rattle.tnc_show.proofs.laws.one_text.Goals as goal

pub returns : goal.returns
returns c = λ words octets text other h g. same_text words.modulus (frames_in_lines 0 octets) text other h g
