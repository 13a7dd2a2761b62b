-- What is told of the end of a command whose report has other lines too.
use Rattle.std.specs.Prelude.{◌≡◌, ◌⊎◌, ℕ, List, Option, Some, None}
use Rattle.tnc_base.specs.Streams.{SinkTold}
use Rattle.tnc_base.specs.Faults.{HasRisen}
use Rattle.tnc_ports.specs.SampledWrites.{PutsAll, PutsPart}
use Rattle.tnc_main.specs.declared.status.Status.{Status}
use Rattle.tnc_main.specs.declared.status.Status.TheVariants.{Memory as NoMemory, WriteFault as OutputFailed}

-- A line is told with its status, or it could not be written, which is a write fault. If there is none, nothing is told.
abbrev pub IsEndTold : Option (List ℕ) → Status → Status → SinkTold → SinkTold → Type 0
IsEndTold None own status before after = (status ≡ own) × (after ≡ before)
IsEndTold (Some line) own status before after =
    ((status ≡ own) × PutsAll line before after)
    ⊎ ((status ≡ OutputFailed) × PutsPart line before after × HasRisen before.faults after.faults)

-- so it is, or there was no memory to make the line
abbrev pub IsEndToldOrWanted : Option (List ℕ) → Status → Status → SinkTold → SinkTold → Type 0
IsEndToldOrWanted line own status before after =
    IsEndTold line own status before after ⊎ ((status ≡ NoMemory) × (after ≡ before))
