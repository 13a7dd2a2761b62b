-- The law of two links over a channel that loses frames, and never makes one up, doubles or reorders any.
use Rattle.std.specs.Prelude.{Bool, true, List, [], ◌∷◌, IsTrue, Option, Some, None}
use Rattle.ax25_address.specs.declared.path.Path.{Path}
use Rattle.ax25_frames.specs.declared.frame.Frame.{Frame}
use Rattle.ax25_frames.specs.declared.frame.Kind.{Kind}
use Rattle.ax25_frames.specs.declared.frame.Kind.TheVariants.{Info, Super, Setup, Ui, Other}
use Rattle.link_machine.specs.declared.params.Params.{Params}
use Rattle.link_machine.specs.declared.state.LinkState.{LinkState}
use Rattle.link_machine.specs.declared.state.LinkState.TheVariants.{Idle, Calling, Up, Releasing}
use Rattle.link_machine.specs.Machine.{Machine, is_valid}
use Rattle.link_world.specs.declared.event.Event.{Event}
use Rattle.link_world.specs.declared.event.Event.TheVariants.{Connect, Send, Disconnect, Tick, Seize, Hear, Lose}
use Rattle.link_world.specs.Flight.{Tagged}
use Rattle.link_world.specs.World.{World, read_in, seen_from, end_of, new_world, step, run}
use Rattle.link_world.specs.Quiet.{IsQuietRun}
use Rattle.link_world.specs.Windows.{WindowsFit}
use Rattle.link_world.specs.Origin.{GotInOrder}

-- an I or S frame has an N(R) that is valid when it is heard
abbrev pub names_valid : Machine → Kind → Bool
names_valid m (Info ns nr flag pid octets) = is_valid nr m
names_valid m (Super which nr flag) = is_valid nr m
names_valid m (Setup which flag) = true
names_valid m (Ui flag pid octets) = true
names_valid m (Other which flag octets) = true

abbrev pub read_names_valid : Machine → Option Frame → Bool
read_names_valid m None = true
read_names_valid m (Some frame) = names_valid m frame.kind

abbrev pub first_names_valid : Machine → List Tagged → Bool
first_names_valid m [] = true
first_names_valid m (tagged ∷ rest) = read_names_valid m (read_in m.incoming.modulus tagged)

-- numbers are read while a link is up
abbrev pub reads_valid : LinkState → Machine → List Tagged → Bool
reads_valid Idle m frames = true
reads_valid Calling m frames = true
reads_valid Up m frames = first_names_valid m frames
reads_valid Releasing m frames = true

abbrev pub hears_valid : Event → World → Bool
hears_valid (Connect end) w = true
hears_valid (Send end packet) w = true
hears_valid (Disconnect end) w = true
hears_valid (Tick end waiting) w = true
hears_valid (Seize end last full) w = true
hears_valid (Hear end) w = reads_valid w.a.end.machine.control.state w.a.end.machine w.a.towards
hears_valid (Lose end index) w = true

-- no event of a run has an invalid N(R), so that no link is reset by a number
abbrev pub NumbersAreValid : World → List Event → Type 0
NumbersAreValid w [] = Unit {0}
NumbersAreValid w (event ∷ events) =
    IsTrue (hears_valid event (seen_from (end_of event) w)) × NumbersAreValid (step w event) events

-- what holds after a run: each end got in order what the other was given
pub record KeepsOrder (w : World) (events : List Event) : Type 0 where
  pub a : let now = run w events in GotInOrder now.a.end now.b.end
  pub b : let now = run w events in GotInOrder now.b.end now.a.end
  pub numbers : NumbersAreValid w events

-- In every quiet run from a new world whose windows fit, each set-up got a prefix of what the other end was given in
-- its origin, which has the same modulus, and origins rise strictly. The ends may call in different moduli.
abbrev pub PrefixLaw : Type 0
PrefixLaw =
    (to_b to_a : Path) (a b : Params) → WindowsFit a b
    → (events : List Event) → let w = new_world to_b to_a a b in IsQuietRun w events → KeepsOrder w events
