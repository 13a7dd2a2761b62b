-- Two links that come and go. A station has no link that is idle: for the next call, or the next frame, it makes one
-- anew, perhaps on another path. And a frame that finds its transmit queue full is lost as it is sent.
use Rattle.std.specs.Prelude.{Bool, true, false, List, [], ◌∷◌, ◌++◌, IsTrue}
use Rattle.ax25_address.specs.declared.path.Path.{Path}
use Rattle.link_machine.specs.declared.params.Params.{Params}
use Rattle.link_machine.specs.declared.state.LinkState.{LinkState}
use Rattle.link_machine.specs.declared.state.LinkState.TheVariants.{Idle, Calling, Up, Releasing}
use Rattle.link_machine.specs.Machine.{new_machine}
use Rattle.link_world.specs.declared.end.End.{End}
use Rattle.link_world.specs.declared.event.Event.{Event}
use Rattle.link_world.specs.Flight.{Tagged}
use Rattle.link_world.specs.Recorded.{RecordedEnd}
use Rattle.link_world.specs.World.{World, seen_from, end_of, new_world, near_turn, staying, step}
use Rattle.link_world.specs.Quiet.{is_quiet}
use Rattle.link_world.specs.Windows.{WindowsFit}
use Rattle.link_world.specs.Origin.{GotInOrder}
use Rattle.link_world.specs.Law.{hears_valid}

-- what changes a world
pub data Change : Type 0 where
  -- the link of an idle end is made anew, on a path
  Makes : (end : End) → (path : Path) → Change
  -- an event
  Happens : (event : Event) → Change
  -- An event; of the frames that it sends only those are in flight from then on that are marked by `true`, in their
  -- order. The others, also those without a mark, are lost as they are sent.
  Keeps : (event : Event) → (marks : List Bool) → Change

abbrev pub kept_by : Bool → Tagged → List Tagged → List Tagged
kept_by true frame frames = frame ∷ frames
kept_by false frame frames = frames

-- the frames that are marked
abbrev pub kept : List Bool → List Tagged → List Tagged
kept [] frames = []
kept (mark ∷ marks) [] = []
kept (mark ∷ marks) (frame ∷ frames) = kept_by mark frame (kept marks frames)

-- a new link for an end that is idle; its record stays
abbrev pub made_in : LinkState → Path → RecordedEnd → RecordedEnd
made_in Idle path r = record r { machine = new_machine path r.machine.params }
made_in Calling path r = r
made_in Up path r = r
made_in Releasing path r = r

abbrev pub near_made : Path → World → World
near_made path w =
    record w { a = record w.a { end = made_in w.a.end.machine.control.state path w.a.end } }

-- what an event makes of the world as its end sees it, if of the frames sent only the marked ones are in flight
abbrev pub near_kept : Event → List Bool → World → World
near_kept event marks w =
    let turn = near_turn event w in
    record {
      a = record { end = turn.now; towards = staying event w.a.towards };
      b = record w.b { towards = w.b.towards ++ kept marks turn.sent };
    }

abbrev pub changed : World → Change → World
changed w (Makes end path) = seen_from end (near_made path (seen_from end w))
changed w (Happens event) = step w event
changed w (Keeps event marks) = seen_from (end_of event) (near_kept event marks (seen_from (end_of event) w))

-- the world after a list of changes
abbrev pub run_changes : World → List Change → World
run_changes w [] = w
run_changes w (change ∷ changes) = run_changes (changed w change) changes

-- A frame that is lost as it is sent was sent: the channel has to be quiet for it as well.
abbrev pub is_quiet_change : World → Change → Bool
is_quiet_change w (Makes end path) = true
is_quiet_change w (Happens event) = is_quiet w event
is_quiet_change w (Keeps event marks) = is_quiet w event

-- each change finds a quiet channel
abbrev pub AreQuiet : World → List Change → Type 0
AreQuiet w [] = Unit {0}
AreQuiet w (change ∷ changes) = IsTrue (is_quiet_change w change) × AreQuiet (changed w change) changes

abbrev pub hears_valid_in : Change → World → Bool
hears_valid_in (Makes end path) w = true
hears_valid_in (Happens event) w = hears_valid event (seen_from (end_of event) w)
hears_valid_in (Keeps event marks) w = hears_valid event (seen_from (end_of event) w)

-- no link that is up hears an invalid N(R)
abbrev pub ChangesAreValid : World → List Change → Type 0
ChangesAreValid w [] = Unit {0}
ChangesAreValid w (change ∷ changes) =
    IsTrue (hears_valid_in change w) × ChangesAreValid (changed w change) changes

-- what holds after a list of changes: each end got in order what the other was given
pub record ChangesKeepOrder (w : World) (changes : List Change) : Type 0 where
  pub a : let now = run_changes w changes in GotInOrder now.a.end now.b.end
  pub b : let now = run_changes w changes in GotInOrder now.b.end now.a.end
  pub numbers : ChangesAreValid w changes

-- After every quiet list of changes of a new world whose windows fit, each set-up got a prefix of what the other end
-- was given in its origin, and origins rise strictly.
abbrev pub ChangesLaw : Type 0
ChangesLaw =
    (to_b to_a : Path) (a b : Params) → WindowsFit a b
    → (changes : List Change) → let w = new_world to_b to_a a b in AreQuiet w changes → ChangesKeepOrder w changes
