-- Whose turn it is, by what has come to pass so far (the newest first). A station that was spoken to need not compete
-- with others for its answer.
use Rattle.std.specs.Prelude.{ℕ, ◌+◌, nat_le, Bool, false, not, ◌&&◌, ◌||◌, if◌then◌else◌, List, [], ◌∷◌}
use Rattle.channel_access.specs.Happenings.{Happening}
use Rattle.channel_access.specs.Happenings.Happening.{Heard, Ticked}

-- whether another station was heard in the last tick
abbrev pub was_busy : List Happening → Bool
was_busy [] = false
was_busy (Heard ours ∷ past) = was_busy past
was_busy (Ticked busy began own ∷ past) = busy

-- whether a transmission of the station's own was on the air in the last tick
abbrev pub was_own : List Happening → Bool
was_own [] = false
was_own (Heard ours ∷ past) = was_own past
was_own (Ticked busy began own ∷ past) = own

-- whether the last tick was quiet: no other station was heard in it, and nothing of the station's own was on the air
abbrev pub was_quiet : List Happening → Bool
was_quiet past = not (was_busy past || was_own past)

-- The channel becomes busy with a tick that is busy, if the tick before it was not.
abbrev pub becomes_busy : Bool → List Happening → Bool
becomes_busy busy past = busy && not (was_busy past)

-- how many ticks are quiet, one after another, up to the last one
abbrev pub quiet_ticks : List Happening → ℕ
quiet_ticks [] = 0
quiet_ticks (Heard ours ∷ past) = quiet_ticks past
quiet_ticks (Ticked busy began own ∷ past) = if busy || own then 0 else quiet_ticks past + 1

-- how many of them there were when the channel became busy last
abbrev pub quiet_before : List Happening → ℕ
quiet_before [] = 0
quiet_before (Heard ours ∷ past) = quiet_before past
quiet_before (Ticked busy began own ∷ past) = if becomes_busy busy past then quiet_ticks past else quiet_before past

-- A station is spoken to if the last frame that it heard was an event of one of its links, and since then no
-- transmission of its own began and the channel did not become busy anew.
abbrev pub is_spoken_to : List Happening → Bool
is_spoken_to [] = false
is_spoken_to (Heard ours ∷ past) = ours
is_spoken_to (Ticked busy began own ∷ past) = is_spoken_to past && not (began || becomes_busy busy past)

-- It is its turn if, besides, at least a slot of quiet ticks came before the channel became busy. So a turn does not
-- follow another one at once: the station that answers a turn draws for it.
abbrev pub is_its_turn : ℕ → List Happening → Bool
is_its_turn slot_time past = is_spoken_to past && nat_le slot_time (quiet_before past)
