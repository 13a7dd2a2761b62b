-- The writer of the ring on its way through the pump, and the pump beside the turns. No public clause cites this.
use Rattle.std.specs.Prelude.{◌≡◌, ℕ, ℤ, Bool, true, false, List, [], Option, Some, None}
use Rattle.sample_ring.specs.declared.got.Got.{Got}
use Rattle.sample_ring.specs.declared.ring.Ring.{Ring}
use Rattle.sample_ring.specs.Ends.{ring_id, writer_ring, published_by}
use Rattle.sound_rate.specs.declared.rate.Rate.{Rate}
use Rattle.tnc_base.specs.Streams.{SourceTold}
use Rattle.tnc_ports.specs.declared.looping.LoopEnd.{LoopEnd}
use Rattle.tnc_ports.specs.declared.pump_run.Pumping.{Pumping}
use Rattle.tnc_ports.specs.declared.pump_run.Pumping.TheVariants.{Before, After, Nothing}
use Rattle.tnc_ports.specs.declared.pumping.Pumped.{Pumped}
use Rattle.tnc_ports.specs.declared.pumping.PumpEnd.{PumpEnd}
use Rattle.tnc_ports.specs.declared.serve_words.ServeWords.{ServeWords}
use Rattle.tnc_ports.specs.declared.serving.ServeEnd.{ServeEnd}
use Rattle.tnc_ports.specs.Pumped.{IsPumped}
use Rattle.tnc_ports.specs.PumpRun.{ReadFaults, Pumps}
use Rattle.tnc_ports.specs.SampledRun.{Outside, IsLooped}
use Rattle.tnc_ports.specs.ServeRun.{LanesStandIn, end_of}

-- a writer of the ring that has published nothing
abbrev pub IsWriting : Ring → Pumping → Type 0
IsWriting ring (Before writer) = (writer_ring writer ≡ ring_id ring) × (published_by writer ≡ [])
IsWriting ring (After pumped token) = ⊥
IsWriting ring Nothing = ⊥

-- the pump ran exactly if it was to begin
abbrev pub IsPumpedIf : Bool → Rate → Ring → Option Pumped → SourceTold → SourceTold → Type 0
IsPumpedIf begins rate ring (Some pumped) input left = (begins ≡ true) × Pumps rate ring pumped input left
IsPumpedIf begins rate ring None input left = (begins ≡ false) × (left ≡ input)

-- and a lock says whether it was
abbrev pub HasRun : ℕ → Rate → Ring → Pumping → SourceTold → SourceTold → Type 0
HasRun lock rate ring (Before writer) input left = ⊥
HasRun lock rate ring (After pumped token) input left =
    (token.of ≡ lock) × IsPumpedIf token.value rate ring pumped input left
HasRun lock rate ring Nothing input left = ⊥

-- the turns are made exactly if the pump begins
abbrev pub IsLoopedIf : Bool → ServeWords → LoopEnd → List (List Got) → Outside → Outside → Type 0
IsLoopedIf true words end lanes before after = IsLooped words end lanes before after
IsLoopedIf false words end lanes before after = after ≡ before

-- the ring is closed after the loop and the pump
pub record IsClosed (rate : Rate) (loop : LoopEnd) (end : ServeEnd) (lanes : List (List Got)) (input left : SourceTold)
    : Type 0 where
  pub pump : PumpEnd
  pub published : List ℤ
  pub pumped : (octets : List ℕ) → input.left ≡ Some octets → IsPumped rate octets left.left published pump
  pub faults : ReadFaults pump input left
  pub stand : LanesStandIn published lanes
  pub ends : end ≡ end_of loop pump
