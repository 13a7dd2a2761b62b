-- What a sensitive decoder keeps, and what that stands for.
use Rattle.std.specs.Prelude.{ℤ, List}
use Rattle.block_receiver.specs.HeldReceiver.{Held, StandsFor as ReceiverStandsFor}
use Rattle.sensitive_receiver.specs.declared.decoder.AllLanes.{AllLanes}
use Rattle.sensitive_receiver.specs.AllHearing.{hearing_of_all}

abbrev pub HeldDecoder : Type 0
HeldDecoder = Held AllLanes

-- the decoder has taken these samples, it is not finished, and every growth that it wanted was given
abbrev pub StandsFor : HeldDecoder → List ℤ → Type 0
StandsFor held x = ReceiverStandsFor hearing_of_all held x
