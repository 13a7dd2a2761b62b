-- How much more an event may do.
use Rattle.std.specs.Prelude.{◌≡◌, ℕ, ◌+◌, ◌-◌, ◌≤◌, [], vec_len, vec_capacity}
use Rattle.link_machine.specs.declared.room.Room.{Room}

-- how many more frames and told items there is room for
abbrev pub frames_left : Room → ℕ
frames_left room = vec_capacity room.frames - vec_len room.frames

abbrev pub told_left : Room → ℕ
told_left room = vec_capacity room.told - vec_len room.told

-- nothing was done, and there is room for so much
pub record HasRoom (frames told : ℕ) (room : Room) : Type 0 where
  pub no_frames : room.frames.items ≡ []
  pub nothing_told : room.told.items ≡ []
  pub for_frames : frames ≤ frames_left room
  pub for_told : told ≤ told_left room

-- at most so much room is used
pub record Uses (before following : Room) (frames told : ℕ) : Type 0 where
  pub of_frames : frames_left before ≤ frames_left following + frames
  pub of_told : told_left before ≤ told_left following + told
