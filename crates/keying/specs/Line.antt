-- The line to rigctld, by what has happened so far (the newest first).
use Rattle.std.specs.Prelude.{ℕ, ◌==◌, Bool, true, false, if◌then◌else◌, List, [], ◌∷◌, ◌++◌, drop, Option, Some, None}
use Rattle.keying.specs.declared.line.Phase.{Phase}
use Rattle.keying.specs.declared.line.Phase.TheVariants.{Down, Opening, Up}
use Rattle.keying.specs.declared.report.Why.{Why}
use Rattle.keying.specs.Marks.{Mark}
use Rattle.keying.specs.Marks.Mark.{Turned, Tried, Opened, Keyed, Released, Heard, Accepted, Readied, Lost}

-- when the last turn began
abbrev pub time : List Mark → ℕ
time [] = 0
time (Turned now ∷ past) = now
time (_ ∷ past) = time past

-- where the connection stands; the line is up from its first release until it is lost
abbrev pub phase : List Mark → Phase
phase [] = Down
phase (Tried ∷ past) = Opening
phase (Opened ∷ past) = Up
phase (Lost why ∷ past) = Down
phase (_ ∷ past) = phase past

-- When the commands that have no answer were written, the oldest first. The first release of a connection waits from
-- when the connection was begun.
abbrev pub waiting : List Mark → List ℕ
waiting [] = []
waiting (Tried ∷ past) = time past ∷ []
waiting (Keyed ∷ past) = waiting past ++ time past ∷ []
waiting (Released ∷ past) = waiting past ++ time past ∷ []
waiting (Accepted ∷ past) = drop 1 (waiting past)
waiting (Lost why ∷ past) = []
waiting (_ ∷ past) = waiting past

-- whether the last connection got ready, also after it was lost
abbrev pub ready : List Mark → Bool
ready [] = false
ready (Tried ∷ past) = false
ready (Readied ∷ past) = true
ready (_ ∷ past) = ready past

-- what has come on the last connection since its last line feed
abbrev pub part : List Mark → List ℕ
part [] = []
part (Tried ∷ past) = []
part (Heard octet ∷ past) = if octet == 10 then [] else part past ++ octet ∷ []
part (_ ∷ past) = part past

-- when the last connection was begun
abbrev pub last_try : List Mark → Option ℕ
last_try [] = None
last_try (Tried ∷ past) = Some (time past)
last_try (_ ∷ past) = last_try past

-- why the last connection that was lost was lost
abbrev pub last_loss : List Mark → Option Why
last_loss [] = None
last_loss (Lost why ∷ past) = Some why
last_loss (_ ∷ past) = last_loss past
