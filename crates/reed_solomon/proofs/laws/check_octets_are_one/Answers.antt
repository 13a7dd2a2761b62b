use Rattle.reed_solomon.proofs.DistanceLemmas.{one_check, octets_of_all}
use Rattle.reed_solomon.proofs.laws.check_octets_are_one.Goals as goal

pub returns : goal.returns
returns c = λ code xs check other xs_octets check_octets other_octets.
    one_check code xs check other (octets_of_all xs xs_octets) (octets_of_all check check_octets)
    (octets_of_all other other_octets)
