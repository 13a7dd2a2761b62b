-- What a decoder keeps, and what that stands for.
use Rattle.std.specs.Prelude.{ℤ, List}
use Rattle.block_receiver.specs.HeldReceiver.{Held, StandsFor as ReceiverStandsFor}
use Rattle.hf_modem.specs.Hearing.{hf_hearing}
use Rattle.hf_modem.specs.Held.{HeldBank}

abbrev pub HeldDecoder : Type 0
HeldDecoder = Held HeldBank

-- the decoder has taken these samples, it is not finished, and every growth that it wanted was given
abbrev pub StandsFor : HeldDecoder → List ℤ → Type 0
StandsFor held x = ReceiverStandsFor hf_hearing held x
