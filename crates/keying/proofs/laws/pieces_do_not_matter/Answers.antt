use Rattle.keying.proofs.ToldEnds.{heard_pieces}
use Rattle.keying.proofs.laws.pieces_do_not_matter.Goals as goal

pub returns : goal.returns
returns c = heard_pieces
