-- No step depends on the tags: the world without its tags makes the step of the world without its tags.
use Rattle.link_world.proofs.Common.{◌≡◌, List, [], ◌∷◌, ◌++◌, ◌∙◌, ap, Option, Some, None, remove, map-append, Frame}
use Rattle.link_world.proofs.Common.{SentFrame, Machine, sent_frames, End, A, B, Event, Connect, Send, Disconnect, Tick}
use Rattle.link_world.proofs.Common.{Hear, Lose, Tagged, RecordedEnd, Happening, end_turn, seen, hears_ask, Connects}
use Rattle.link_world.proofs.Common.{Seize, Seizes, Sends, Disconnects, Ticks, Hears, Side, World, read_in, hearing_as}
use Rattle.link_world.proofs.Common.{turn_of}
use Rattle.link_world.proofs.Common.{seen_from, end_of, near_step, sent_tagged, frames}
use Rattle.link_machine.specs.Step.{step as link_step}
use Rattle.link_world.specs.World.{step}
use Rattle.link_world.specs.Untagged.{UntaggedWorld, hear_frame, link_turn, untagged, untagged_from, untagged_near_step}
use Rattle.link_world.specs.Untagged.{untagged_step}
use Rattle.link_world.proofs.TagLemmas.{frames-tagged, map-remove}

-- frames that are sent go after the others
frames-sent :
    (h : Happening) (r : RecordedEnd) (ahead : List Tagged)
    → let turn = link_step r.machine (seen h) in
    frames (ahead ++ (end_turn h r).sent) ≡ frames ahead ++ sent_frames turn.now.path turn.sent
frames-sent h r ahead =
    let turn = link_step r.machine (seen h) in
    map-append sent_tagged ahead (end_turn h r).sent
    ∙ ap (λ fs. frames ahead ++ fs) (frames-tagged (hears_ask h) (end_turn h r).now turn.sent)

abbrev world_of : Machine → Machine → List SentFrame → List SentFrame → UntaggedWorld
world_of a b to_a to_b = record {
  a = record { machine = a; towards = to_a };
  b = record
      { machine = b; towards = to_b };
}

-- a request or a tick
asked :
    (h : Happening) (w : World) (to_a : List SentFrame)
    → let turn = link_step w.a.end.machine (seen h) in
    world_of turn.now w.b.end.machine to_a (frames (w.b.towards ++ (end_turn h w.a.end).sent))
    ≡ world_of turn.now w.b.end.machine to_a (frames w.b.towards ++ sent_frames turn.now.path turn.sent)
asked h w to_a =
    let turn = link_step w.a.end.machine (seen h) in
    ap (λ fs. world_of turn.now w.b.end.machine to_a fs) (frames-sent h w.a.end w.b.towards)

-- nothing is sent
nothing_sent : (a b : Machine) (to_a : List SentFrame) (tags : List Tagged) → world_of a b to_a (frames (tags ++ [])) ≡
    world_of a b to_a (frames tags ++ [])
nothing_sent a b to_a tags = ap (λ fs. world_of a b to_a fs) (map-append sent_tagged tags [])

-- the frame at the front is heard, if there is one and it is not refused
heard :
    (end : End) (r : RecordedEnd) (tags : List Tagged) (b : Side)
    → let w : World = record { a = record { end = r; towards = tags }; b = b } in
    untagged (near_step (Hear end) w) ≡ untagged_near_step (Hear end) (untagged w)
heard end r [] b = nothing_sent r.machine b.end.machine [] b.towards
heard end r (tag ∷ tags) b = go (read_in r.machine.incoming.modulus tag)
  where
    w : World
    w = record { a = record { end = r; towards = tag ∷ tags }; b = b }

    go : (o : Option Frame)
        → world_of (turn_of (hearing_as tag o) r).now.machine b.end.machine (frames tags)
        (frames (b.towards ++ (turn_of (hearing_as tag o) r).sent))
        ≡ (let turn = link_turn (hear_frame o) r.machine in
        world_of turn.now b.end.machine (frames tags) (frames b.towards ++ sent_frames turn.now.path turn.sent))
    go None = nothing_sent r.machine b.end.machine (frames tags) b.towards
    go (Some frame) = asked (Hears (record tag { frame = frame })) w (frames tags)

-- each event, seen from its end
near : (event : Event) (w : World) → untagged (near_step event w) ≡ untagged_near_step event (untagged w)
near (Connect end) w = asked Connects w (frames w.a.towards)
near (Send end packet) w = asked (Sends packet) w (frames w.a.towards)
near (Disconnect end) w = asked Disconnects w (frames w.a.towards)
near (Tick end waiting) w = asked (Ticks waiting) w (frames w.a.towards)
near (Seize end last full) w = asked (Seizes last full) w (frames w.a.towards)
near (Hear end) w = heard end w.a.end w.a.towards w.b
near (Lose end index) w =
    ap (λ fs. world_of w.a.end.machine w.b.end.machine fs (frames (w.b.towards ++ [])))
    (map-remove sent_tagged w.a.towards index)
    ∙ nothing_sent w.a.end.machine w.b.end.machine (remove (frames w.a.towards) index) w.b.towards

-- seen from either end
from : (end : End) (event : Event) (w : World)
    → untagged (seen_from end (near_step event (seen_from end w))) ≡ untagged_from end
    (untagged_near_step event (untagged_from end (untagged w)))
from A event w = near event w
from B event w = ap (untagged_from B) (near event (seen_from B w))

-- the law
pub untagged-step : (w : World) (event : Event) → untagged (step w event) ≡ untagged_step (untagged w) event
untagged-step w event = from (end_of event) event w
