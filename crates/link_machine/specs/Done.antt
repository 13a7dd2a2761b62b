-- What a link does in one event.
use Rattle.std.specs.Prelude.{List}
use Rattle.link_machine.specs.declared.acts.SentFrame.{SentFrame}
use Rattle.link_machine.specs.declared.acts.Told.{Told}

-- the frames that are sent, each in its modulus, and what the layer above is told, each in order
pub record Done : Type 0 where
  pub frames : List SentFrame
  pub told : List Told
