use Rattle.reed_solomon.proofs.DistanceLemmas.{codewords_apart, octets_of_all}
use Rattle.reed_solomon.proofs.laws.codewords_are_apart.Goals as goal

pub returns : goal.returns
returns c = λ code u v u_octets v_octets. codewords_apart code u v (octets_of_all u u_octets) (octets_of_all v v_octets)
