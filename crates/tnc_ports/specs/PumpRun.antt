-- What a pump makes of its input and of its ring.
use Rattle.std.specs.Prelude.{◌≡◌, ℕ, List, Some}
use Rattle.sound_rate.specs.declared.rate.Rate.{Rate}
use Rattle.tnc_base.specs.Streams.{SourceTold}
use Rattle.tnc_base.specs.Faults.{HasRisen}
use Rattle.sample_ring.specs.declared.ring.Ring.{Ring}
use Rattle.sample_ring.specs.Ends.{ring_id, done_ring, all_published}
use Rattle.tnc_ports.specs.declared.pumping.Pumped.{Pumped}
use Rattle.tnc_ports.specs.declared.pumping.PumpEnd.{PumpEnd}
use Rattle.tnc_ports.specs.declared.pumping.PumpEnd.TheVariants.{InputEnd, ReadFault, TooLong}
use Rattle.tnc_ports.specs.Pumped.{IsPumped}

-- reading failed exactly when the pump says so
abbrev pub ReadFaults : PumpEnd → SourceTold → SourceTold → Type 0
ReadFaults InputEnd before after = after.faults ≡ before.faults
ReadFaults ReadFault before after = HasRisen before.faults after.faults
ReadFaults TooLong before after = after.faults ≡ before.faults

-- the ring is ended, and has the modem's samples of what was read
pub record Pumps (rate : Rate) (ring : Ring) (pumped : Pumped) (input left : SourceTold) : Type 0 where
  pub ended : done_ring pumped.done ≡ ring_id ring
  pub samples : (octets : List ℕ) → input.left ≡ Some octets
      → IsPumped rate octets left.left (all_published pumped.done) pumped.end
  pub faults : ReadFaults pumped.end input left
