-- The samples of the modem, 9600 a second, and those of the sound that comes and goes, as many or five times as many.
use Rattle.std.specs.Prelude.{ℤ, List}
use Rattle.resampler.specs.Filtered.{decimated, decimated_settled, interpolated}
use Rattle.sound_rate.specs.declared.rate.Rate.{Rate}
use Rattle.sound_rate.specs.declared.rate.Rate.TheVariants.{Narrow, Wide}

-- the modem's samples, of all that come
abbrev pub received : Rate → List ℤ → List ℤ
received Narrow x = x
received Wide x = decimated x

-- those of them that do not change, whatever comes next
abbrev pub settled_at : Rate → List ℤ → List ℤ
settled_at Narrow x = x
settled_at Wide x = decimated_settled x

-- the samples that go out for the modem's
abbrev pub written_at : Rate → List ℤ → List ℤ
written_at Narrow x = x
written_at Wide x = interpolated x
