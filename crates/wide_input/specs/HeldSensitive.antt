-- What a decoder of all lanes keeps of samples at 48,000 a second, and what that stands for.
use Rattle.std.specs.Prelude.{◌≡◌, Bool, false, ℤ, List}
use Rattle.resampler.specs.Filtered.{decimated_settled}
use Rattle.resampler.specs.Held.{HeldFilter, HasDecimated}
use Rattle.sensitive_receiver.specs.HeldDecoder.{HeldDecoder, StandsFor as DecoderStandsFor}

pub record HeldSensitive : Type 0 where
  pub filter : HeldFilter
  pub decoder : HeldDecoder
  pub ended : Bool

-- the filter has taken these samples, and the decoder those at 9600 a second that it has settled
pub record StandsFor (held : HeldSensitive) (x : List ℤ) : Type 0 where
  pub ended : held.ended ≡ false
  pub filter : HasDecimated held.filter x
  pub decoder : DecoderStandsFor held.decoder (decimated_settled x)
