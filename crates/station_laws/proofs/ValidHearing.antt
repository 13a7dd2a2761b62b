-- If no N(R) is invalid in a world, an end hears none that is, as it sees the world itself.
use Rattle.station_laws.proofs.Common.{◌≡◌, Bool, true, List, [], ◌∷◌, ◌++◌, Option, Some, None, refl, sym, ap, ◌∙◌}
use Rattle.station_laws.proofs.Common.{Path, LinkState, Idle, Calling, Up, Releasing, End, Change, ChangesAreValid}
use Rattle.station_laws.proofs.Common.{changed, hears_valid_in, made_in, run_changes, Keeps, first_names_valid}
use Rattle.station_laws.proofs.Common.{hears_valid, names_valid, read_names_valid, reads_valid, World, seen_from}
use Rattle.station_laws.proofs.Common.{event_at_end}
use Rattle.link_machine.specs.Event.{Event as LinkEvent}
use Rattle.link_machine.specs.Event.Event.{Connect as LinkConnect, Send as LinkSend, Disconnect as LinkDisconnect}
use Rattle.link_machine.specs.Event.Event.{Hear as LinkHear, Seize as LinkSeize, Tick as LinkTick}
use Rattle.station_laws.proofs.Acts.{ReadsFront}
use Rattle.station_laws.proofs.Along.{makes_near}
use Rattle.station_laws.proofs.Calm.{HearsValid, IsCalm}

-- the last of a list of changes
pub valid_last :
    (w : World) (first : List Change) (change : Change) → ChangesAreValid w (first ++ change ∷ [])
    → hears_valid_in change (run_changes w first) ≡ true
valid_last w [] change valid = valid.0
valid_last w (next ∷ first) change valid = valid_last (changed w next) first change valid.1

pub valid_seen :
    (e : End) (event : LinkEvent) (ms : List Bool) (w : World)
    → hears_valid_in (Keeps (event_at_end e event) ms) w ≡ true
    → hears_valid (event_at_end e event) (seen_from e w) ≡ true
valid_seen e LinkConnect ms w valid = valid
valid_seen e (LinkSend packet) ms w valid = valid
valid_seen e LinkDisconnect ms w valid = valid
valid_seen e (LinkHear frame) ms w valid = valid
valid_seen e (LinkTick waiting) ms w valid = valid
valid_seen e (LinkSeize last full) ms w valid = valid

pub heard_valid :
    (e : End) (event : LinkEvent) (x : World) → ReadsFront event x → hears_valid (event_at_end e event) x ≡ true
    → HearsValid event x.a.end.machine
heard_valid e LinkConnect x reads valid = tt
heard_valid e (LinkSend packet) x reads valid = tt
heard_valid e LinkDisconnect x reads valid = tt
heard_valid e (LinkHear frame) x reads valid =
    let m = x.a.end.machine in (
      reads.of_link,
      λ up. ap (names_valid m) (sym reads.kind) ∙ ap (read_names_valid m) (sym reads.reading)
          ∙ ap (first_names_valid m) (sym reads.towards) ∙ ap (λ s. reads_valid s m x.a.towards) (sym up) ∙ valid,
    )
heard_valid e (LinkTick waiting) x reads valid = tt
heard_valid e (LinkSeize last full) x reads valid = tt

-- ---- a link that is made is calm

pub made_calm :
    (anew : Option Path) (v : World) → IsCalm v.a.end.machine.control → IsCalm (makes_near anew v).a.end.machine.control
made_calm None v calm = calm
made_calm (Some path) v calm = go v.a.end.machine.control.state
  where
    go : (state : LinkState) → IsCalm (made_in state path v.a.end).machine.control
    go Idle = record { state = tt; quit = refl }
    go Calling = calm
    go Up = calm
    go Releasing = calm
