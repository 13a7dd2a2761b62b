-- A receiver of a live station, in whatever way it listens.
use Rattle.live_receiver.proofs.Common.{ℕ}
use Rattle.live_receiver.specs.declared.receiver.LiveReceiver.{LiveReceiver}
use Rattle.live_receiver.specs.declared.receiver.LiveReceiver.TheVariants.{Bell202 as OfBell202, ShortWave as OfShortWave, Fx25 as OfFx25}
use Rattle.live_receiver.specs.LiveReceivers.{Hears, LanesListen}

-- if all lanes have heard all that their readers were answered, so have those by which it hears other stations
pub hears_listen : (len : ℕ) (receiver : LiveReceiver) → Hears len receiver → LanesListen len receiver
hears_listen len (OfBell202 receiver) h = h.eight
hears_listen len (OfShortWave receiver) h = h.listens
hears_listen len (OfFx25 receiver) h = h.listens
