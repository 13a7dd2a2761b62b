-- Which worlds two real links and the frames in flight stand for.
use Rattle.std.specs.Prelude.{◌≡◌, ℕ, List, map, Option}
use Rattle.link_machine.specs.declared.acts.SentFrame.{SentFrame}
use Rattle.link_machine.specs.Machine.{modulus_named}
use Rattle.link_machine.specs.StandsFor.{StandsFor as LinkStandsFor}
use Rattle.link_world.specs.declared.flight.InFlight.{InFlight}
use Rattle.link_world.specs.declared.side.Side.{Side as HeldSide}
use Rattle.link_world.specs.Flight.{Tagged}
use Rattle.link_world.specs.World.{World}

-- a frame in flight, with the modulus in which it is written
abbrev pub sent_tagged : Tagged → SentFrame
sent_tagged f = record { frame = f.frame; modulus = modulus_named f.modulus }

-- the same, and whether it answers
abbrev pub in_flight : Tagged → InFlight
in_flight f = record { sent = sent_tagged f; answers = f.answers }

abbrev pub all_in_flight : List Tagged → List InFlight
all_in_flight frames = map in_flight frames

-- two sides, how many calls there were, and at which the world stopped
pub record HeldWorld : Type 0 where
  pub a : HeldSide
  pub b : HeldSide
  pub calls : ℕ
  pub stopped : Option ℕ

-- the links stand for those of the world
pub record LinksStandFor (held : HeldWorld) (w : World) : Type 0 where
  pub a : LinkStandsFor held.a.link w.a.end.machine
  pub b : LinkStandsFor held.b.link w.b.end.machine

-- The links stand for those of the world, and the frames in flight are those of the world, whatever their tags are.
pub record StandsFor (held : HeldWorld) (w : World) : Type 0 where
  pub links : LinksStandFor held w
  pub towards_a : held.a.towards.items ≡ all_in_flight w.a.towards
  pub towards_b : held.b.towards.items ≡ all_in_flight w.b.towards

-- nothing has changed but how many calls there were, and at which the world stopped
pub record IsAlike (before following : HeldWorld) : Type 0 where
  pub link_of_a : following.a.link ≡ before.a.link
  pub link_of_b : following.b.link ≡ before.b.link
  pub towards_a : following.a.towards.items ≡ before.a.towards.items
  pub towards_b : following.b.towards.items ≡ before.b.towards.items
