-- What a decoder of samples at 48,000 a second keeps, and what that stands for.
use Rattle.std.specs.Prelude.{ℤ, List}
use Rattle.resampler.specs.Filtered.{settled}
use Rattle.resampler.specs.Held.{HeldFilter, StandsFor as FilterStandsFor}
use Rattle.wide_input.specs.Held.{HeldWide, StandsFor as BankStandsFor}

pub record HeldDecoder : Type 0 where
  pub filter : HeldFilter
  pub bank : HeldWide

-- the filter has taken these samples, and the bank those that it has settled
pub record StandsFor (held : HeldDecoder) (x : List ℤ) : Type 0 where
  pub filter : FilterStandsFor held.filter x
  pub bank : BankStandsFor held.bank (settled x)
