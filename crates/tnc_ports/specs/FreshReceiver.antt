-- The receiver that the turns of a live station begin with.
use Rattle.std.specs.Prelude.{◌≡◌, All, [], replicate}
use Rattle.sample_ring.specs.declared.ring.Ring.{Ring}
use Rattle.sample_ring.specs.Ends.{ring_id, ring_len, reader_ring}
use Rattle.live_receiver.specs.declared.receiver.LiveReceiver.{LiveReceiver}
use Rattle.live_receiver.specs.LiveReceivers.{readers_in, answers_in, detection_of, listening_of, Hears}
use Rattle.live_receiver.specs.Listening.{readers_wanted}
use Rattle.tnc_ports.specs.declared.serve_words.ServeWords.{ServeWords}

-- it reads a ring by as many readers as the words ask for, and none of them has been answered
pub record IsFresh (words : ServeWords) (ring : Ring) (receiver : LiveReceiver) : Type 0 where
  pub readers : All (λ reader. reader_ring reader ≡ ring_id ring) (readers_in receiver)
  pub new : answers_in (ring_len ring) receiver ≡ replicate (readers_wanted words.listening) []
  pub hears : Hears (ring_len ring) receiver
  pub detection : detection_of receiver ≡ words.dcd
  pub listening : listening_of receiver ≡ words.listening
