use Rattle.fx25_ring.proofs.Common.{map, refl, subst, sym, placed, AreHeardInOne}
use Rattle.stretch_reader.specs.HeardInStretches.{AreHeardOf}
use Rattle.stretch_reader.proofs.HeardLemmas.{heard_one}
use Rattle.fx25_ring.proofs.laws.one_stretch_is_heard.Goals as goal

pub returns : goal.returns
returns c = λ sensitive answers x own one merged.
    subst (λ l. AreHeardOf (AreHeardInOne sensitive) l (map (placed 0) own)) (sym one)
    (heard_one (AreHeardInOne sensitive) (record { begin = 0; samples = x }) (map (placed 0) own) (own, merged, refl))
