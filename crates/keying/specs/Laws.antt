-- What the laws speak of.
use Rattle.std.specs.Prelude.{◌≡◌, ℕ, ◌+◌, ◌⊎◌, not, Bool, true, false, List, [], ◌∷◌, ◌++◌, replicate, Some, IsSome}
use Rattle.keying.specs.declared.command.Command.TheVariants.{Release as Unkey}
use Rattle.keying.specs.declared.machine.Words.{Words}
use Rattle.keying.specs.declared.report.Why.TheVariants.{Failed}
use Rattle.keying.specs.declared.turning.Next.TheVariants.{ToRelease}
use Rattle.keying.specs.Calls.{Call, history}
use Rattle.keying.specs.Calls.Call.{Turn, AfterTry, Tick, AfterWrite, CommandFailed, Release}
use Rattle.keying.specs.Key.{key_of}
use Rattle.keying.specs.Marks.{Mark}
use Rattle.keying.specs.Told.{turn_told, tick_told, written_told, fault_told}
use Rattle.keying.specs.Marks.Mark.{Tried, Opened, Keyed, Released, Accepted, Lost}

-- the commands that were written on the connection, the newest first: whether each one keys
abbrev pub commands : List Mark → List Bool
commands [] = []
commands (Tried ∷ past) = []
commands (Opened ∷ past) = false ∷ []
commands (Keyed ∷ past) = true ∷ commands past
commands (Released ∷ past) = false ∷ commands past
commands (Lost why ∷ past) = []
commands (_ ∷ past) = commands past

-- how many of them were accepted
abbrev pub accepted : List Mark → ℕ
accepted [] = 0
accepted (Tried ∷ past) = 0
accepted (Accepted ∷ past) = accepted past + 1
accepted (Lost why ∷ past) = 0
accepted (_ ∷ past) = accepted past

-- the first command releases, and each other one does the opposite of the one before
abbrev pub Alternate : List Bool → Type 0
Alternate [] = Unit {0}
Alternate (keys ∷ []) = keys ≡ false
Alternate (keys ∷ before ∷ others) = (keys ≡ not before) × Alternate (before ∷ others)

-- the newest command of these, if there is one, keys
abbrev pub newest_keys : List Bool → Bool
newest_keys [] = false
newest_keys (keys ∷ others) = keys

-- exactly the last `tail` ticks had no sound, after one that had
abbrev pub EndsTail : ℕ → List Bool → Type 0
EndsTail tail ticks = (older : List Bool) × (ticks ≡ replicate tail false ++ true ∷ older)

-- The answer of a call tells that the key ends: a loss that is reported, a release that is written, the end of the run.
abbrev pub TellsEnd : Words → Call → List Mark → Type 0
TellsEnd words (Turn now octets end) past = let told = turn_told words now octets end past in
    IsSome told.lost ⊎ (told.next ≡ ToRelease)
TellsEnd words (AfterTry how) past = ⊥
TellsEnd words (Tick sounds) past = (tick_told words sounds past).command ≡ Some Unkey
TellsEnd words (AfterWrite fault) past = written_told fault (key_of words past) ≡ Some Unkey
TellsEnd words CommandFailed past = fault_told words past ≡ Some Failed
TellsEnd words (Release now octets end) past = Unit {0}

-- none of these later calls tells that
abbrev pub NoneTellsEnd : Words → List Call → List Call → Type 0
NoneTellsEnd words [] calls = Unit {0}
NoneTellsEnd words (call ∷ later) calls =
    (¬ TellsEnd words call (history words (later ++ calls))) × NoneTellsEnd words later calls
