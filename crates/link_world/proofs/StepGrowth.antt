-- In each event a link goes on counting, and each frame that it sends may be written.
use Rattle.link_world.proofs.Common.{All-from_recursion, Machine, step, Turn}
use Rattle.std.specs.List.{AllByRecursion as Each}
use Rattle.std.proofs.lemmas.List.Elements.{recursion_from_All}
use Rattle.link_machine.proofs.Writable.{CanSend, IsSound, sound_step}
use Rattle.link_machine.specs.Event.{Event}
use Rattle.link_world.specs.Held.{IsCounting, IsShort}

pub record Grows (turn : Turn) : Type 0 where
  pub counts : IsCounting turn.now
  pub good : Each CanSend turn.sent

pub counting_sound : (m : Machine) → IsCounting m → IsSound m
counting_sound m h =
    record { modulus = h.modulus_is; short = All-from_recursion IsShort m.outgoing.packets h.short }

pub step_keeps : (m : Machine) (event : Event) → IsCounting m → Grows (step m event)
step_keeps m event h =
    let turn = step m event in
    let sound = sound_step m event (counting_sound m h) in
    record {
      counts = record {
        modulus_is = sound.now.modulus;
        short = recursion_from_All IsShort turn.now.outgoing.packets sound.now.short;
      };
      good = recursion_from_All CanSend turn.sent sound.sent;
    }
