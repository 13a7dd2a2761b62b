use Rattle.tnc_words.proofs.Common.{refl}
use Rattle.tnc_words.proofs.NoRate.{no_station_rate}
use Rattle.tnc_words.proofs.rate_words.station_rate.Goals as goal

pub returns-in_err-rate-clause-none : goal.returns-in_err-rate-clause-none
returns-in_err-rate-clause-none c = λ _. no_station_rate _ _ (c.in_err-rate.ensures.none refl)
