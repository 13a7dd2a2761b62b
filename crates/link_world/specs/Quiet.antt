-- When SABM, SABME and DISC enter a quiet channel. Each condition is a test of the world before an event.
use Rattle.std.specs.Prelude.{ℕ, ◌+◌, ◌==◌, ◌||◌, ◌&&◌, Bool, true, false, not, List, [], ◌∷◌, IsTrue}
use Rattle.ax25_frames.specs.declared.frame.Kind.{Kind}
use Rattle.ax25_frames.specs.declared.frame.Kind.TheVariants.{Info, Super, Setup, Ui, Other}
use Rattle.ax25_frames.specs.declared.frame.U.{U}
use Rattle.ax25_frames.specs.declared.frame.U.TheVariants.{Sabm, Sabme, Disc, Dm, Ua}
use Rattle.link_machine.specs.declared.state.LinkState.{LinkState}
use Rattle.link_machine.specs.declared.state.LinkState.TheVariants.{Idle, Calling, Up, Releasing}
use Rattle.link_world.specs.declared.event.Event.{Event}
use Rattle.link_world.specs.declared.event.Event.TheVariants.{Connect, Send, Disconnect, Tick, Seize, Hear, Lose}
use Rattle.link_world.specs.Flight.{Tagged, asks_in, answers_in}
use Rattle.link_world.specs.World.{World, seen_from, end_of, near_turn, staying, step}

-- A SABM, SABME or DISC of an end is sent alone: no earlier one is in flight to the other end, and no answer to one
-- comes back. `sent` counts those that the event sends, `ahead` the earlier ones and their answers.
abbrev pub is_alone : ℕ → ℕ → Bool
is_alone sent ahead = (sent == 0) || (sent + ahead == 1)

abbrev pub sends_alone : World → Event → Bool
sends_alone w event =
    is_alone (asks_in (near_turn event w).sent) (asks_in w.b.towards + answers_in (staying event w.a.towards))

-- the event sends no SABM, SABME or DISC but into a quiet channel
abbrev pub is_quiet_to_send : World → Event → Bool
is_quiet_to_send w event = sends_alone (seen_from (end_of event) w) event

abbrev pub is_sabm_frame : U → Bool
is_sabm_frame Sabm = true
is_sabm_frame Sabme = true
is_sabm_frame Disc = false
is_sabm_frame Dm = false
is_sabm_frame Ua = false

abbrev pub is_sabm : Kind → Bool
is_sabm (Info ns nr flag pid octets) = false
is_sabm (Super which nr flag) = false
is_sabm (Setup which flag) = is_sabm_frame which
is_sabm (Ui flag pid octets) = false
is_sabm (Other which flag octets) = false

abbrev pub is_idle : LinkState → Bool
is_idle Idle = true
is_idle Calling = false
is_idle Up = false
is_idle Releasing = false

abbrev pub begins_with_sabm : List Tagged → Bool
begins_with_sabm [] = false
begins_with_sabm (tagged ∷ rest) = is_sabm tagged.frame.kind

-- an idle end hears SABM or SABME
abbrev pub is_called : Event → World → Bool
is_called (Connect end) w = false
is_called (Send end packet) w = false
is_called (Disconnect end) w = false
is_called (Tick end waiting) w = false
is_called (Seize end last full) w = false
is_called (Hear end) w = is_idle w.a.end.machine.control.state && begins_with_sabm w.a.towards
is_called (Lose end index) w = false

-- an idle end hears SABM or SABME only when no SABM, SABME or DISC of its own is in flight
abbrev pub called_alone : World → Event → Bool
called_alone w event = not (is_called event w) || (asks_in w.b.towards == 0)

abbrev pub is_quiet_to_hear : World → Event → Bool
is_quiet_to_hear w event = called_alone (seen_from (end_of event) w) event

abbrev pub is_quiet : World → Event → Bool
is_quiet w event = is_quiet_to_send w event && is_quiet_to_hear w event

-- each event of a run meets both conditions
abbrev pub IsQuietRun : World → List Event → Type 0
IsQuietRun w [] = Unit {0}
IsQuietRun w (event ∷ events) = IsTrue (is_quiet w event) × IsQuietRun (step w event) events
