-- A link that counts goes on doing so, and each frame that it sends may be written in its modulus.
use Rattle.link_world.proofs.Common.{◌≡◌, Bool, ◌++◌, map, sym, subst, All, Done, Machine, step, done_of, CanFly}
use Rattle.link_world.proofs.Common.{flying}
use Rattle.std.proofs.lemmas.List.Elements.{All-append, All-map}
use Rattle.link_machine.specs.declared.machine.Machine.{Machine as HeldLink}
use Rattle.link_machine.specs.StandsFor.{StandsFor as LinkStandsFor}
use Rattle.link_machine.specs.Event.{Event}
use Rattle.link_machine.proofs.Writable.{writable_step}
use Rattle.link_world.specs.declared.side.Side.{Side as HeldSide}
use Rattle.link_world.specs.Held.{IsRunning, IsSide}
use Rattle.link_world.proofs.StepGrowth.{counting_sound, step_keeps}

-- the step of a link, if its calls say so
pub record Steps (event : Event) (old new : HeldLink) (done : Done) : Type 0 where
  pub does : (m : Machine) → LinkStandsFor old m → done ≡ done_of (step m event)
  pub stands : (m : Machine) → LinkStandsFor old m → LinkStandsFor new (step m event).now

-- the link goes on running
pub running_after :
    (event : Event) (old new : HeldLink) (done : Done) → IsRunning old → Steps event old new done → IsRunning new
running_after event old new done h steps = record {
  machine = (step h.machine event).now;
  stands = steps.stands h.machine h.stands;
  counts = (step_keeps h.machine event h.counts).counts;
}

-- the frames of an event may be written
pub frames_written :
    (event : Event) (on_ask : Bool) (old new : HeldLink) (done : Done) → IsRunning old → Steps event old new done
    → All CanFly (map (flying on_ask) done.frames)
frames_written event on_ask old new done h steps =
    let P : Done → Type 0 = λ d. All CanFly (map (flying on_ask) d.frames) in
    subst P (sym (steps.does h.machine h.stands))
    (All-map CanFly (flying on_ask) (done_of (step h.machine event)).frames
    (writable_step h.machine event (counting_sound h.machine h.counts)))

-- the end of the event is a side again, with these frames left in flight towards it
pub near_formed :
    (event : Event) (old new : HeldSide) (done : Done) → IsSide old → Steps event old.link new.link done
    → All CanFly new.towards.items → IsSide new
near_formed event old new done h steps frames =
    record { link = running_after event old.link new.link done h.link steps; frames = frames }

-- so is its partner, with the frames that were sent after the others
pub far_formed :
    (event : Event) (on_ask : Bool) (near_old near far_old far : HeldSide) (done : Done) → IsSide near_old → IsSide
    far_old
    → Steps event near_old.link near.link done → far.link ≡ far_old.link
    → far.towards.items ≡ far_old.towards.items ++ map (flying on_ask) done.frames → IsSide far
far_formed event on_ask near_old near far_old far done h k steps same towards = record {
  link = subst IsRunning (sym same) k.link;
  frames = subst (All CanFly) (sym towards)
      (All-append CanFly far_old.towards.items (map (flying on_ask) done.frames) k.frames
      (frames_written event on_ask near_old.link near.link done h.link steps));
}
