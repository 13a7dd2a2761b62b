-- Samples from which a live station hears exactly what was sent, by whether the added lanes listen.
use Rattle.std.specs.Prelude.{ℤ, Bool, true, false, List, All}
use Rattle.afsk_modulator.specs.Signal.{Transmission}
use Rattle.clean_signal.specs.NearSignal.{Received, IsReceived, IsNearAll, transmissions_of}
use Rattle.clean_signal.specs.Stray.{NoStray}
use Rattle.sensitive_receiver.specs.Stray.{NoneStray}

-- no candidate of any lane that listens is stray
abbrev pub HasNoStray : Bool → List Transmission → List ℤ → Type 0
HasNoStray false transmissions x = NoStray transmissions x
HasNoStray true transmissions x = NoneStray transmissions x

-- the samples are near what these transmissions give, and none of the candidates is stray
pub record AreClear (sensitive : Bool) (x : List ℤ) (received : List Received) : Type 0 where
  pub each : All IsReceived received
  pub near : IsNearAll received x
  pub no_stray : HasNoStray sensitive (transmissions_of received) x
