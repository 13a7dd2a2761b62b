-- What a pump does with its input and its ring, in order.
use Rattle.std.specs.Prelude.{◌≡◌, ℕ, ℤ, List, [], ◌∷◌, ◌++◌}
use Rattle.std.specs.List.{flat_map}
use Rattle.sound_rate.specs.declared.rate.Rate.{Rate}
use Rattle.sound_rate.specs.Rates.{received, settled_at}
use Rattle.wav_file.specs.Samples.{samples}

-- a read that brought octets, or a sample that was published
pub data Step : Type 0 where
  Reads : List ℕ → Step
  Publishes : ℤ → Step

abbrev pub octets_of_step : Step → List ℕ
octets_of_step (Reads octets) = octets
octets_of_step (Publishes sample) = []

abbrev pub samples_of_step : Step → List ℤ
samples_of_step (Reads octets) = []
samples_of_step (Publishes sample) = sample ∷ []

-- all octets that were read, in order
abbrev pub octets_read : List Step → List ℕ
octets_read steps = flat_map octets_of_step steps

-- all samples that were published, in order
abbrev pub samples_published : List Step → List ℤ
samples_published steps = flat_map samples_of_step steps

-- those of the modem's samples are published that do not change, whatever is read next
abbrev pub AreSettledPublished : Rate → List Step → Type 0
AreSettledPublished rate steps = samples_published steps ≡ settled_at rate (samples (octets_read steps))

-- and all of them, since nothing more is read
abbrev pub AreAllPublished : Rate → List Step → Type 0
AreAllPublished rate steps = samples_published steps ≡ received rate (samples (octets_read steps))

-- When a read begins, the samples are published that are settled by what was read before it, and all of them at the end.
pub record KeepsPace (rate : Rate) (steps : List Step) : Type 0 where
  pub at_reads : (before after : List Step) (octets : List ℕ) → steps ≡ before ++ Reads octets ∷ after
      → AreSettledPublished rate before
  pub at_end : AreAllPublished rate steps
