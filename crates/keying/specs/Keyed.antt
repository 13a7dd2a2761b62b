-- The key of the transmitter, by what has happened so far (the newest first).
use Rattle.std.specs.Prelude.{ℕ, suc, ◌+◌, ◌==◌, ◌&&◌, not, Bool, true, false, if◌then◌else◌, List, [], ◌∷◌, take, drop}
use Rattle.std.specs.Prelude.{length, Option, Some, None, unwrap_or, is_some}
use Rattle.std.specs.List.{list_any}
use Rattle.keying.specs.Marks.{Mark}
use Rattle.keying.specs.Marks.Mark.{Tried, Opened, Keyed, Released, Accepted, Lost, Ticked, Cut, WriteFault, Ends}
use Rattle.keying.specs.Line.{time, waiting}

-- whether the last command on the line keys
abbrev pub on : List Mark → Bool
on [] = false
on (Tried ∷ past) = false
on (Opened ∷ past) = false
on (Keyed ∷ past) = true
on (Released ∷ past) = false
on (Lost why ∷ past) = false
on (_ ∷ past) = on past

-- for how many ticks the key has been on, since the last keying command
abbrev pub lit : List Mark → ℕ
lit [] = 0
lit (Keyed ∷ past) = 0
lit (Ticked sounds ∷ past) = if on past then lit past + 1 else lit past
lit (_ ∷ past) = lit past

-- whether a keying command was written since a release was last accepted: a release is accepted if it was the last
-- command, and no other has no answer
abbrev pub owed : List Mark → Bool
owed [] = false
owed (Keyed ∷ past) = true
owed (Accepted ∷ past) = if not (on past) && (length (drop 1 (waiting past)) == 0) then false else owed past
owed (_ ∷ past) = owed past

-- which ticks had sound, the newest first
abbrev pub ticks : List Mark → List Bool
ticks [] = []
ticks (Ticked sounds ∷ past) = sounds ∷ ticks past
ticks (_ ∷ past) = ticks past

-- whether the newest tick, or one of the `tail` ticks before it, had sound: then the key is wanted
abbrev pub wanted : ℕ → List Bool → Bool
wanted tail sounding = list_any (λ sounds. sounds) (take (suc tail) sounding)

-- when the last tick was made
abbrev pub ticked : List Mark → ℕ
ticked [] = 0
ticked (Ticked sounds ∷ past) = time past
ticked (_ ∷ past) = ticked past

-- whether the transmission is cut off: until a tick at which the key is not wanted
abbrev pub cut : ℕ → List Mark → Bool
cut tail [] = false
cut tail (Cut why ∷ past) = true
cut tail (Ticked sounds ∷ past) = cut tail past && wanted tail (sounds ∷ ticks past)
cut tail (_ ∷ past) = cut tail past

-- whether a write of the output or of the report has failed
abbrev pub failed : List Mark → Bool
failed [] = false
failed (WriteFault ∷ past) = true
failed (_ ∷ past) = failed past

-- when the end of the run began
abbrev pub ending : List Mark → Option ℕ
ending [] = None
ending (Ends ∷ past) = Some (unwrap_or (ending past) (time past))
ending (_ ∷ past) = ending past

-- whether the last connection was begun after that
abbrev pub retried : List Mark → Bool
retried [] = false
retried (Tried ∷ past) = is_some (ending past)
retried (_ ∷ past) = retried past
