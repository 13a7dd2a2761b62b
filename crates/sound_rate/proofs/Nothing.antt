-- Of nothing that came nothing is made.
use Rattle.std.proofs.Common.{◌≡◌, List, [], refl}
use Rattle.std.specs.Prelude.{ℤ}
use Rattle.sound_rate.specs.declared.rate.Rate.{Rate}
use Rattle.sound_rate.specs.declared.rate.Rate.TheVariants.{Narrow, Wide}
use Rattle.sound_rate.specs.Rates.{settled_at, written_at}

pub none_settled : (rate : Rate) → [] ≡ settled_at rate []
none_settled Narrow = refl
none_settled Wide = refl

pub none_written : (rate : Rate) → [] ≡ written_at rate []
none_written Narrow = refl
none_written Wide = refl
