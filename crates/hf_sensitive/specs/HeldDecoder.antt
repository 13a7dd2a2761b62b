-- What a sensitive decoder of short wave keeps, and what that stands for.
use Rattle.std.specs.Prelude.{ℤ, List}
use Rattle.block_receiver.specs.HeldReceiver.{Held, StandsFor as ReceiverStandsFor}
use Rattle.hf_sensitive.specs.declared.decoder.AllHfLanes.{AllHfLanes}
use Rattle.hf_sensitive.specs.Hearing.{all_hf_hearing}

abbrev pub HeldDecoder : Type 0
HeldDecoder = Held AllHfLanes

-- the decoder has taken these samples, it is not finished, and every growth that it wanted was given
abbrev pub StandsFor : HeldDecoder → List ℤ → Type 0
StandsFor held x = ReceiverStandsFor all_hf_hearing held x
