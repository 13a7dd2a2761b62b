use Rattle.station_laws.proofs.OneSpelling.{call_texts_agree}
use Rattle.station_laws.proofs.laws.call_texts_agree.Goals as goal

pub returns : goal.returns
returns c = call_texts_agree
