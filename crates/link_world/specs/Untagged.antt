-- The world without its tags and records: two machines, and frames, each in the modulus in which it is written.
use Rattle.std.specs.Prelude.{List, [], ◌∷◌, ◌++◌, drop, remove, map, Option, Some, None}
use Rattle.ax25_frames.specs.declared.frame.Frame.{Frame}
use Rattle.ax25_frames.specs.declared.frame.Modulus.{Modulus}
use Rattle.link_machine.specs.declared.acts.SentFrame.{SentFrame}
use Rattle.link_machine.specs.Machine.{Machine, modulus_named}
use Rattle.link_machine.specs.Turn.{Turn, begin}
use Rattle.link_machine.specs.Event.{Event as LinkEvent}
use Rattle.link_machine.specs.Event.Event.{Connect as LinkConnect, Send as LinkSend, Disconnect as LinkDisconnect}
use Rattle.link_machine.specs.Event.Event.{Hear as LinkHear, Seize as LinkSeize, Tick as LinkTick}
use Rattle.link_machine.specs.Sent.{sent_frames}
use Rattle.link_machine.specs.Step.{step as link_step}
use Rattle.link_world.specs.declared.end.End.{End}
use Rattle.link_world.specs.declared.end.End.TheVariants.{A, B}
use Rattle.link_world.specs.declared.event.Event.{Event}
use Rattle.link_world.specs.declared.event.Event.TheVariants.{Connect, Send, Disconnect, Tick, Seize, Hear, Lose}
use Rattle.link_world.specs.Flight.{Tagged}
use Rattle.link_world.specs.Reading.{frame_read}
use Rattle.link_world.specs.StandsFor.{sent_tagged}
use Rattle.link_world.specs.World.{Side, World, end_of}

pub record UntaggedSide : Type 0 where
  pub machine : Machine
  pub towards : List SentFrame

pub record UntaggedWorld : Type 0 where
  pub a : UntaggedSide
  pub b : UntaggedSide

abbrev pub frames : List Tagged → List SentFrame
frames tagged = map sent_tagged tagged

abbrev pub untagged_side : Side → UntaggedSide
untagged_side side = record { machine = side.end.machine; towards = frames side.towards }

abbrev pub untagged : World → UntaggedWorld
untagged w = record { a = untagged_side w.a; b = untagged_side w.b }

abbrev pub hear_frame : Option Frame → Option LinkEvent
hear_frame None = None
hear_frame (Some frame) = Some (LinkHear frame)

abbrev pub first_frame : Modulus → List SentFrame → Option LinkEvent
first_frame modulus [] = None
first_frame modulus (sent ∷ rest) = hear_frame (frame_read sent.modulus modulus sent.frame)

-- what an event is to a link in a modulus
abbrev pub link_event : Event → Modulus → List SentFrame → Option LinkEvent
link_event (Connect end) modulus towards = Some LinkConnect
link_event (Send end packet) modulus towards = Some (LinkSend packet)
link_event (Disconnect end) modulus towards = Some LinkDisconnect
link_event (Tick end waiting) modulus towards = Some (LinkTick waiting)
link_event (Seize end last full) modulus towards = Some (LinkSeize last full)
link_event (Hear end) modulus towards = first_frame modulus towards
link_event (Lose end index) modulus towards = None

abbrev pub frames_staying : Event → List SentFrame → List SentFrame
frames_staying (Connect end) towards = towards
frames_staying (Send end packet) towards = towards
frames_staying (Disconnect end) towards = towards
frames_staying (Tick end waiting) towards = towards
frames_staying (Seize end last full) towards = towards
frames_staying (Hear end) towards = drop 1 towards
frames_staying (Lose end index) towards = remove towards index

abbrev pub link_turn : Option LinkEvent → Machine → Turn
link_turn None m = begin m
link_turn (Some event) m = link_step m event

abbrev pub untagged_near_step : Event → UntaggedWorld → UntaggedWorld
untagged_near_step event w =
    let turn = link_turn (link_event event (modulus_named w.a.machine.incoming.modulus) w.a.towards) w.a.machine in
    record {
      a = record { machine = turn.now; towards = frames_staying event w.a.towards };
      b = record w.b { towards = w.b.towards ++ sent_frames turn.now.path turn.sent };
    }

abbrev pub untagged_from : End → UntaggedWorld → UntaggedWorld
untagged_from A w = w
untagged_from B w = record { a = w.b; b = w.a }

-- one step of one link, and frames that come, go and are lost
abbrev pub untagged_step : UntaggedWorld → Event → UntaggedWorld
untagged_step w event = untagged_from (end_of event) (untagged_near_step event (untagged_from (end_of event) w))
