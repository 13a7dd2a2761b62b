-- What a pump keeps between two reads, and what it has read and published by then. No public clause cites this.
use Rattle.std.specs.Prelude.{◌≡◌, ℕ, ℤ, ◌+◌, ◌*◌, ◌≤◌, List, [], ◌∷◌, ◌++◌, length, Option, Some, None}
use Rattle.sound_rate.specs.declared.incoming.Incoming.{Incoming}
use Rattle.sound_rate.specs.declared.rate.Rate.{Rate}
use Rattle.sound_rate.specs.HeldRates.{HasReceived}
use Rattle.sound_rate.specs.Rates.{settled_at}
use Rattle.wav_file.specs.Samples.{samples}
use Rattle.tnc_ports.specs.declared.pumping.PumpEnd.{PumpEnd}
use Rattle.tnc_ports.specs.declared.pumping.PumpEnd.TheVariants.{InputEnd, ReadFault, TooLong}
use Rattle.tnc_ports.specs.Inlet.{Step, octets_read, samples_published, AreSettledPublished}
use Rattle.tnc_ports.specs.Inlet.Step.{Reads}
use Rattle.tnc_ports.specs.OddOctet.{count_of, odd_octet}
use Rattle.tnc_ports.specs.Pumped.{most_input}

-- these samples have come, and what they settle is published
pub record IsFed (rate : Rate) (incoming : Incoming) (published x : List ℤ) : Type 0 where
  pub received : HasReceived rate incoming x
  pub settled : published ≡ settled_at rate x

-- after these samples and a low octet, if there was one, octets were taken
pub record HasTaken (rate : Rate) (x : List ℤ) (low : Option ℕ) (octets : List ℕ) (next : Option ℕ)
    (incoming : Incoming) (published : List ℤ) : Type 0 where
  pub more : List ℤ
  pub fed : IsFed rate incoming published (x ++ more)
  pub counted : 2 * length more + count_of next ≡ count_of low + length octets
  pub read : (read : List ℕ) → x ≡ samples read → low ≡ odd_octet read
      → (x ++ more ≡ samples (read ++ octets)) × (next ≡ odd_octet (read ++ octets))

-- of the whole input so many octets were read, the source has the rest, and what they settle is published
pub record HasPumped (rate : Rate) (whole : List ℕ) (left : Option (List ℕ)) (published : List ℤ) (incoming : Incoming)
    (low : Option ℕ) (total : ℕ) : Type 0 where
  pub read : List ℕ
  pub rest : List ℕ
  pub parts : whole ≡ read ++ rest
  pub left_over : left ≡ Some rest
  pub fed : IsFed rate incoming published (samples read)
  pub odd : low ≡ odd_octet read
  pub counted : length read ≡ total

-- where it stopped, after so many octets
abbrev pub HasStopped : PumpEnd → Option (List ℕ) → ℕ → Type 0
HasStopped InputEnd left total = (left ≡ Some []) × (total ≤ most_input)
HasStopped ReadFault left total = total ≤ most_input
HasStopped TooLong left total = total ≡ most_input + 1

-- a read found what was read before settled and published
pub record KeepsPaceSoFar (rate : Rate) (steps : List Step) : Type 0 where
  pub at_reads : (before after : List Step) (octets : List ℕ) → steps ≡ before ++ Reads octets ∷ after
      → AreSettledPublished rate before
  pub now : AreSettledPublished rate steps

-- since these steps there were more, which keep pace
pub record PacesOn (rate : Rate) (before : List Step) (now : Option (List Step)) (published : List ℤ)
    (incoming : Incoming) (low : Option ℕ) : Type 0 where
  pub more : List Step
  pub told : now ≡ Some (before ++ more)
  pub all : published ≡ samples_published more
  pub received : HasReceived rate incoming (samples (octets_read more))
  pub odd : low ≡ odd_octet (octets_read more)
  pub pace : KeepsPaceSoFar rate more
