-- A run of a live command: what a station is asked for, how its serving ends, and what is told last.
use Rattle.std.specs.Prelude.{◌≡◌, ◌⊎◌, ℕ, List, Option, Some, None, option_map}
use Rattle.tnc_base.specs.Faults.{HasRisen}
use Rattle.tnc_base.specs.Streams.{WrotePart, SourceTold}
use Rattle.slicer_bank.specs.declared.detection.Detection.{Detection}
use Rattle.slicer_bank.specs.declared.detection.Detection.TheVariants.{Tones, Flags}
use Rattle.channel_access.specs.declared.modem.CheckOctets.{CheckOctets as ChannelOctets}
use Rattle.channel_access.specs.declared.modem.CheckOctets.TheVariants.{Sixteen as ChannelSixteen, ThirtyTwo as ChannelThirtyTwo, SixtyFour as ChannelSixtyFour}
use Rattle.tnc_words.specs.declared.command.CheckOctets.{CheckOctets}
use Rattle.tnc_words.specs.declared.command.CheckOctets.TheVariants.{Sixteen, ThirtyTwo, SixtyFour}
use Rattle.channel_access.specs.declared.modem.Modem.{Modem}
use Rattle.channel_access.specs.declared.modem.Modem.TheVariants.{Bell202 as SendsBell202, ShortWave as SendsShortWave, Fx25 as SendsFx25}
use Rattle.live_receiver.specs.declared.listening.Listening.{Listening}
use Rattle.live_receiver.specs.declared.listening.Listening.TheVariants.{Bell202, ShortWave, Fx25}
use Rattle.channel_access.specs.declared.parameters.Parameters.{Parameters}
use Rattle.tnc_words.specs.declared.command.ChannelOptions.{ChannelOptions}
use Rattle.tnc_words.specs.declared.command.Dcd.{Dcd}
use Rattle.tnc_words.specs.declared.command.Dcd.TheVariants.{Tones as ByTones, Flags as ByFlags}
use Rattle.tnc_words.specs.declared.command.PttOptions.{PttOptions}
use Rattle.tnc_words.specs.declared.command.SampleRate.{SampleRate}
use Rattle.tnc_words.specs.declared.command.SampleRate.TheVariants.{Narrow as NarrowWords, Wide as WideWords}
use Rattle.tnc_words.specs.declared.command.ServeOptions.{ServeOptions}
use Rattle.tnc_words.specs.declared.command.StationModem.{StationModem}
use Rattle.tnc_words.specs.declared.command.StationModem.TheVariants.{Bell202 as OfBell202, ShortWave as OfShortWave, Fx25 as OfFx25}
use Rattle.tnc_forms.specs.declared.fault.InputFault.TheVariants.{TooLong as InputTooLong}
use Rattle.sound_rate.specs.declared.rate.Rate.{Rate}
use Rattle.sound_rate.specs.declared.rate.Rate.TheVariants.{Narrow, Wide}
use Rattle.tnc_ports.specs.declared.serve_words.KeyWords.{KeyWords}
use Rattle.tnc_ports.specs.declared.serve_words.ServeWords.{ServeWords}
use Rattle.tnc_ports.specs.declared.serving.ServeEnd.{ServeEnd}
use Rattle.tnc_ports.specs.declared.serving.ServeEnd.TheVariants.{Done, TooLong, Memory, ReadFault, WriteFault, NoPort}
use Rattle.tnc_ports.specs.declared.serving.ServeEnd.TheVariants.{NoThread}
use Rattle.tnc_ports.specs.SampledRun.{Outside, GrowsBy}
use Rattle.tnc_ports.specs.ServeRun.{IsServed}
use Rattle.tnc_main.specs.declared.status.Status.{Status}
use Rattle.tnc_main.specs.declared.status.Status.TheVariants.{Done as WellDone, BadInput, Memory as NoMemory}
use Rattle.tnc_main.specs.declared.status.Status.TheVariants.{ReadFault as InputFailed, WriteFault as OutputFailed}
use Rattle.tnc_main.specs.declared.status.Status.TheVariants.{NoPort as PortsFailed}
use Rattle.tnc_main.specs.Report.{input_line, no_port_line}

-- by what the lanes hear another station
abbrev pub detection_of : Dcd → Detection
detection_of ByTones = Tones
detection_of (ByFlags count) = Flags count

-- how a station of a modem listens, and by what it sends
abbrev pub listening_of : StationModem → Listening
listening_of (OfBell202 sensitive) = Bell202 sensitive
listening_of (OfShortWave sensitive) = ShortWave sensitive
listening_of (OfFx25 checks sensitive) = Fx25 sensitive

abbrev pub octets_sent : CheckOctets → ChannelOctets
octets_sent Sixteen = ChannelSixteen
octets_sent ThirtyTwo = ChannelThirtyTwo
octets_sent SixtyFour = ChannelSixtyFour

abbrev pub sending_of : StationModem → Modem
sending_of (OfBell202 sensitive) = SendsBell202
sending_of (OfShortWave sensitive) = SendsShortWave
sending_of (OfFx25 None sensitive) = SendsBell202
sending_of (OfFx25 (Some checks) sensitive) = SendsFx25 (octets_sent checks)

-- how many samples a second come and go
abbrev pub rate_of : SampleRate → Rate
rate_of NarrowWords = Narrow
rate_of WideWords = Wide

-- how the transmitter is keyed
abbrev pub key_of : PttOptions → KeyWords
key_of ptt = record { port = ptt.port; words = record { tail = ptt.tail; «data» = ptt.data_socket } }

-- the seed that an option names, or that of the outside if it names none
abbrev pub seed_of : Option ℕ → ℕ → ℕ
seed_of None outer = outer
seed_of (Some seed) outer = seed

-- how the station takes the channel
abbrev pub channel_of : ChannelOptions → Parameters
channel_of channel = record {
  tx_delay = channel.tx_delay;
  persist = channel.persist;
  slot_time = channel.slot_time;
  tx_tail = channel.tx_tail;
  full_duplex = channel.full_duplex;
}

-- The ports, the station, the lanes, the report and the key that the options ask for, with this seed of the outside. The
-- station sends by the modem for which it listens.
abbrev pub words_of : ServeOptions → ℕ → ServeWords
words_of options outer = record {
  listen = record { address = options.bind; kiss = options.kiss; agw = options.agw };
  seed = seed_of options.seed outer;
  config = record {
    params = options.params;
    modem = sending_of options.modem;
    channel = channel_of options.channel;
    paclen = options.paclen;
    digi = options.digi;
  };
  dcd = detection_of options.dcd;
  monitor = options.monitor;
  stats = options.stats;
  listening = listening_of options.modem;
  rate = rate_of options.rate;
  key = option_map key_of options.ptt;
}

-- the status of an end
abbrev pub status_of_end : ServeEnd → Status
status_of_end Done = WellDone
status_of_end TooLong = BadInput
status_of_end Memory = NoMemory
status_of_end NoThread = NoMemory
status_of_end ReadFault = InputFailed
status_of_end WriteFault = OutputFailed
status_of_end NoPort = PortsFailed

-- the last line of the report, if an end has one
abbrev pub last_line : ServeEnd → Option (List ℕ)
last_line Done = None
last_line TooLong = Some (input_line InputTooLong)
last_line Memory = None
last_line NoThread = None
last_line ReadFault = None
last_line WriteFault = None
last_line NoPort = Some no_port_line

-- ---- what is told last

-- but for its report the outside is as it was
abbrev pub StaysButReport : Outside → Outside → Type 0
StaysButReport before after = after ≡ record before { report = after.report }

-- the report has a line more
pub record HasLineMore (line : List ℕ) (before after : Outside) : Type 0 where
  pub told : GrowsBy line before.report.written after.report.written
  pub faultless : after.report.faults ≡ before.report.faults
  pub others : StaysButReport before after

-- the report failed, and has a first part of a line
pub record LacksLine (line : List ℕ) (before after : Outside) : Type 0 where
  pub part : (was : List ℕ) → before.report.written ≡ Some was → WrotePart was line after.report.written
  pub failed : HasRisen before.report.faults after.report.faults
  pub others : StaysButReport before after

-- A line is told with its status, or it could not be written, which is a write fault. If there is none, nothing is
-- told.
abbrev pub IsToldAs : Option (List ℕ) → Status → Status → Outside → Outside → Type 0
IsToldAs None own status before after = (status ≡ own) × (after ≡ before)
IsToldAs (Some line) own status before after =
    ((status ≡ own) × HasLineMore line before after) ⊎ ((status ≡ OutputFailed) × LacksLine line before after)

-- ---- a run

-- A station was served until an end, and the end was told last.
pub record Serves (words : ServeWords) (status : Status) (input left : SourceTold) (before after : Outside)
    : Type 0 where
  pub end : ServeEnd
  -- what the outside told when serving had ended
  pub between : Outside
  pub served : IsServed words end input left before between
  pub told : IsToldAs (last_line end) (status_of_end end) status between after

-- there was no memory for the words, and nothing was done
pub record HasNotBegun (status : Status) (input left : SourceTold) (before after : Outside) : Type 0 where
  pub memory : status ≡ NoMemory
  pub unread : left ≡ input
  pub untouched : after ≡ before

-- The options are those of a live command: a station was served as they ask for it, with a seed of the outside if they
-- name none, or there was no memory to begin.
abbrev pub RunsLive : ServeOptions → ℕ → Status → SourceTold → SourceTold → Outside → Outside → Type 0
RunsLive options outer status input left before after =
    HasNotBegun status input left before after ⊎ Serves (words_of options outer) status input left before after

-- What status 3 of a served station stands for: memory was wanted and not given; or no thread could be started, which the
-- spawner has counted, and then the ports were opened, nothing was read and no turn was made.
abbrev pub IsServedInWant : ServeWords → ℕ → ℕ → SourceTold → SourceTold → Outside → Outside → Type 0
IsServedInWant words threads threads_after input left before after =
    ((threads_after ≡ threads) × IsServed words Memory input left before after)
    ⊎ (HasRisen threads threads_after × IsServed words NoThread input left before after)

-- And of a run: the same, or memory was wanted before serving began. The numbers are a seed of the outside, and how often
-- no thread could be started, before the run and after it.
abbrev pub IsInWant : ServeOptions → ℕ → ℕ → ℕ → SourceTold → SourceTold → Outside → Outside → Type 0
IsInWant options outer threads threads_after input left before after =
    ((threads_after ≡ threads) × HasNotBegun NoMemory input left before after)
    ⊎ IsServedInWant (words_of options outer) threads threads_after input left before after
