-- Samples from which a receiver must hear what was sent.
use Rattle.std.specs.Prelude.{ℕ, ◌<◌, ℤ, List}
use Rattle.std.specs.List.{All}
use Rattle.clean_signal.specs.NearSignal.{Received, IsReceived, IsNearAll, transmissions_of}
use Rattle.clean_signal.specs.Stray.{NoStray}
use Rattle.hf_signal.specs.NearSignal.{IsReceived as IsHfReceived, IsNearAll as IsHfNearAll}
use Rattle.hf_signal.specs.Stray.{NoStray as NoHfStray}
use Rattle.hf_sensitive.specs.Stray.{NoneStray as NoneHfStray}
use Rattle.sensitive_receiver.specs.Stray.{NoneStray}
use Rattle.resampler.specs.Filtered.{filtered, decimated}
use Rattle.wide_input.specs.Streams.{stream}
use Rattle.wide_input.specs.Stray.{NoWideStray}
use Rattle.fx25_receiver.specs.WithoutBlocks.{HasNoBlock}
use Rattle.sensitive_blocks.specs.WithoutBlocks.{HasNoBlock as HasNoBlockOnAllLanes}
use Rattle.fx25_signal.specs.Damage.{AreLost, DifferInStretches, Stretch}
use Rattle.fx25_signal.specs.Merging.{NoneStray as NoneStrayOfUnits}
use Rattle.fx25_signal.specs.NearSignal.{IsNearAll as IsNearAllBlocks, IsReceived as IsReceivedInBlocks}
use Rattle.fx25_signal.specs.NearSignal.{ReceivedBlocks, sent_units}
use Rattle.fx25_signal.specs.Units.{AreApart, Comes, SentUnit}
use Rattle.tnc_decode.specs.declared.modem.Modem.{Modem}
use Rattle.tnc_decode.specs.declared.modem.Modem.TheVariants.{Plain, Wide, Sensitive, WideSensitive, ShortWave, Fx25}
use Rattle.tnc_decode.specs.declared.modem.Modem.TheVariants.{SensitiveShortWave, SensitiveFx25}

-- the samples are near what these transmissions give, each from a phase and at a level of its own, and none of their
-- candidates is stray
pub record IsClean (x : List ℤ) (received : List Received) : Type 0 where
  pub each : All IsReceived received
  pub near : IsNearAll received x
  pub no_stray : NoStray (transmissions_of received) x

-- one stream of the samples is near what these transmissions give, and no candidate of any stream is stray
pub record IsCleanInStream (x : List ℤ) (received : List Received) : Type 0 where
  pub number : ℕ
  pub within : number < 5
  pub each : All IsReceived received
  pub near : IsNearAll received (stream number x)
  pub no_stray : NoWideStray number (transmissions_of received) x

-- the samples are near what these transmissions give, and no candidate of any lane is stray
pub record IsCleanOnAllLanes (x : List ℤ) (received : List Received) : Type 0 where
  pub each : All IsReceived received
  pub near : IsNearAll received x
  pub none_stray : NoneStray (transmissions_of received) x

-- the same on short wave
pub record IsCleanOnShortWave (x : List ℤ) (received : List Received) : Type 0 where
  pub each : All IsHfReceived received
  pub near : IsHfNearAll received x
  pub no_stray : NoHfStray (transmissions_of received) x

-- and by all lanes
pub record IsCleanOnAllHfLanes (x : List ℤ) (received : List Received) : Type 0 where
  pub each : All IsHfReceived received
  pub near : IsHfNearAll received x
  pub none_stray : NoneHfStray (transmissions_of received) x

-- the same as by the eight lanes, and no block ends with any bit of theirs
pub record IsCleanWithoutBlock (x : List ℤ) (received : List Received) : Type 0 where
  pub plain : IsClean x received
  pub no_block : HasNoBlock x

-- the same as by all lanes, and no block ends with any bit of theirs
pub record IsCleanOnAllWithoutBlock (x : List ℤ) (received : List Received) : Type 0 where
  pub plain : IsCleanOnAllLanes x received
  pub no_block : HasNoBlockOnAllLanes x

-- as the modem hears them: samples at 48,000 a second filtered, and by all lanes each fifth of these
abbrev pub IsNearlyClean : Modem → List ℤ → List Received → Type 0
IsNearlyClean Plain x received = IsClean x received
IsNearlyClean Wide x received = IsCleanInStream (filtered x) received
IsNearlyClean Sensitive x received = IsCleanOnAllLanes x received
IsNearlyClean WideSensitive x received = IsCleanOnAllLanes (decimated x) received
IsNearlyClean ShortWave x received = IsCleanOnShortWave x received
IsNearlyClean SensitiveShortWave x received = IsCleanOnAllHfLanes x received
IsNearlyClean Fx25 x received = IsCleanWithoutBlock x received
IsNearlyClean SensitiveFx25 x received = IsCleanOnAllWithoutBlock x received

-- ---- frames in blocks

-- Frames come in the samples one after another, each plainly between two flags of its own or in a block with no more wrong
-- than can be repaired, and nothing that is heard is stray.
pub record CarriesUnits (x : List ℤ) (units : List SentUnit) : Type 0 where
  pub apart : AreApart 0 units
  pub come : All (Comes x) units
  pub none_stray : NoneStrayOfUnits units x

-- The samples are near a signal of frames in blocks, but for one stretch of each block, or none, which is anything, and
-- nothing that is heard is stray. A stretch lies among the data and check octets of its block, leaves the last bit alone
-- and has at most 32c - 71 samples, c being the number of check octets.
pub record IsNearButForStretches (x : List ℤ) (received : List ReceivedBlocks) : Type 0 where
  pub each : All IsReceivedInBlocks received
  pub sent : List ℤ
  pub near : IsNearAllBlocks received sent
  pub stretches : List Stretch
  pub lost : AreLost (sent_units received) stretches
  pub differ : DifferInStretches stretches x sent
  pub none_stray : NoneStrayOfUnits (sent_units received) x
