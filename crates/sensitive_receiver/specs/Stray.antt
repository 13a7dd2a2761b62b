-- What a sensitive receiver makes of a signal, and which of its candidates are stray.
use Rattle.std.specs.Prelude.{◌≡◌, ℕ, ℤ, List, map, true}
use Rattle.frame_merge.specs.declared.candidate.Candidate.{Candidate}
use Rattle.frame_merge.specs.Merged.{merged}
use Rattle.afsk_modulator.specs.Signal.{Transmission}
use Rattle.clean_signal.specs.TrueEnds.{true_ends}
use Rattle.clean_signal.specs.Stray.{is_sent}
use Rattle.sensitive_receiver.specs.Candidates.{IsHeard, AreHeard}

-- No candidate of any of the 26 lanes is stray: each has the octets of a frame that was sent, and ends less than a bit
-- from its true end.
abbrev pub NoneStray : List Transmission → List ℤ → Type 0
NoneStray transmissions x = (item : Candidate) → IsHeard x item → is_sent (true_ends transmissions) item ≡ true

-- the merged candidates of all lanes have these octets, in this order
abbrev pub MergesTo : List (List ℕ) → List ℤ → Type 0
MergesTo frames x = (items : List Candidate) → AreHeard x items → map (λ item. item.octets) (merged items) ≡ frames
