use Rattle.tnc_show.proofs.MakingLemmas.{show_is_making}
use Rattle.tnc_show.proofs.showing.show.Goals as goal

pub make-requires-clause-new : goal.make-requires-clause-new
make-requires-clause-new g c = (c.args.words, c.new-shower.ensures)

pub make-requires-clause-laws : goal.make-requires-clause-laws
make-requires-clause-laws g c = show_is_making

pub returns-clause-ended : goal.returns-clause-ended
returns-clause-ended g c = λ octets left. c.make.ensures.ended c.args.words octets c.new-shower.ensures left
