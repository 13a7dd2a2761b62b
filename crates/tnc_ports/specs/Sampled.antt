-- A live station, turn by turn. In a turn each reader reads on in the ring, the frames that are settled by what all
-- have read are heard, the ticks that every reader has passed are made, and the hosts are served. The samples are the
-- only clock: a tick of 10 ms is 96 of them. Each of the eight lanes of Bell 202 has a reader of its own, and the added
-- lanes share a ninth; the lanes of short wave share one. One more reader reads the samples of each tick, by which the
-- station tells how its sound is.
use Rattle.std.specs.Prelude.{◌≡◌, ℕ, zero, suc, ℤ, ◌+◌, ◌*◌, ◌<◌, ◌≤◌, ◌↔◌, ◌||◌, Bool, IsTrue, List, [], ◌∷◌, ◌++◌}
use Rattle.std.specs.Prelude.{length, map, All, replicate, is_some}
use Rattle.key_port.specs.KeyEvents.{KeyEvent}
use Rattle.sample_ring.specs.declared.got.Got.{Got}
use Rattle.frame_merge.specs.declared.candidate.Candidate.{Candidate}
use Rattle.slicer_bank.specs.declared.advance.LaneGap.{LaneGap}
use Rattle.slicer_bank.specs.HeardOnRing.{least_position}
use Rattle.slicer_bank.specs.RingTurns.{MeetsEnd}
use Rattle.live_receiver.specs.Listening.{AreDueBy, IsBusyBy, readers_wanted}
use Rattle.ring_receiver.specs.Turns.{IsTurnOf}
use Rattle.channel_access.specs.declared.air_tick.AirTick.{AirTick}
use Rattle.sound_rate.specs.Rates.{written_at}
use Rattle.host_ports.specs.declared.report_line.ReportLine.{ReportLine}
use Rattle.host_ports.specs.declared.report_line.ReportLine.TheVariants.{GapLine}
use Rattle.tnc_ports.specs.declared.serve_words.ServeWords.{ServeWords}
use Rattle.host_ports.specs.declared.health.Health.{Health}
use Rattle.host_ports.specs.declared.health_note.HealthNotes.{HealthNotes}
use Rattle.host_ports.specs.Health.{new_health, with_heard, after_answers, after_tick, notes_of, after_notes}
use Rattle.host_ports.specs.Health.{standing_of}
use Rattle.tnc_ports.specs.Measured.{ReadsTo, place_after}
use Rattle.tnc_ports.specs.HealthNotes.{health_lines}
use Rattle.host_ports.specs.Hosts.{Hosts, new_hosts}
use Rattle.host_ports.specs.HostTurns.{Asked, IsHostPart}
use Rattle.tnc_ports.specs.KeyTurns.{Whole, nothing_written, TurnsKeyIf, TicksKeyIf, is_held}
use Rattle.tnc_ports.specs.SampledFrames.{with_lines, IsFrameHeard, IsTickMade}

-- all that a live station has done so far
pub record Live : Type 0 where
  pub hosts : Hosts
  -- what each reader was answered: those of lanes 0 to 7, and then that of the added lanes if they listen; or that of the
  -- lanes of short wave
  pub lanes : List (List Got)
  -- how many ticks were made, and their samples
  pub ticks : ℕ
  pub samples : List ℤ
  -- what the output was sent for these, at its rate
  pub sent : List ℤ
  -- what the ports were asked and gave, turn by turn
  pub asked : List Asked
  -- what the key did, the newest event first; nothing if no key was asked for
  pub keyed : List KeyEvent
  -- how much there was to write when the key was last told that no write has failed
  pub whole : Whole
  -- what the reader of the sound was answered
  pub sound : List Got
  -- what was counted, and what of it the report has told
  pub health : Health

-- before the first turn
abbrev pub new_live : ServeWords → Live
new_live words = record {
  hosts = new_hosts words.config words.seed;
  lanes = replicate (readers_wanted words.listening) [];
  ticks = 0;
  samples = [];
  sent = [];
  asked = [];
  keyed = [];
  whole = nothing_written;
  sound = [];
  health = new_health;
}

-- how many octets of the output the run has written, if no write failed
abbrev pub octets_sent : Live → ℕ
octets_sent live = 2 * length live.sent

abbrev pub with_hosts : Hosts → Live → Live
with_hosts hosts live = record live { hosts = hosts }

-- every reader has met the end of the ring
abbrev pub HaveEnded : List (List Got) → Type 0
HaveEnded lanes = All MeetsEnd lanes

-- ---- the readers read on

abbrev pub gap_line : LaneGap → ReportLine
gap_line gap = GapLine gap.lane gap.from gap.to

-- Each reader reads as far as one reads in a turn, and each gap is reported, lanes rising. A gap of the ninth reader is
-- that of the added lanes, and is reported as one of lane 8; one of the lanes of short wave is reported as one of lane 0.
pub record LanesReadOn (words : ServeWords) (ended : Bool) (before after : Live) : Type 0 where
  pub lanes : List (List Got)
  pub gaps : List LaneGap
  pub turn : IsTurnOf (readers_wanted words.listening) before.lanes lanes gaps ended
  pub is : after ≡ record before { lanes = lanes; hosts = with_lines (map gap_line gaps) before.hosts }

-- ---- frames are heard

-- these are heard, in order
abbrev pub AreHeard : Bool → List Candidate → Hosts → Hosts → Type 0
AreHeard monitor [] before after = after ≡ before
AreHeard monitor (item ∷ items) before after =
    (between : Hosts) × IsFrameHeard monitor item.octets before between × AreHeard monitor items between after

-- frames are heard and counted
abbrev pub having_heard : List Candidate → Hosts → Live → Live
having_heard items hosts live = record live { hosts = hosts; health = with_heard (length items) live.health }

-- The readers read on, and all frames that are due are heard and counted: those that all lanes have settled since, and every frame
-- that is left once the ring has ended.
pub record HearsAll (words : ServeWords) (ended : Bool) (before after : Live) : Type 0 where
  pub read : Live
  pub reads : LanesReadOn words ended before read
  pub items : List Candidate
  pub due : AreDueBy words.listening ended before.lanes read.lanes items
  pub hosts : Hosts
  pub hears : AreHeard words.monitor items read.hosts hosts
  pub is : after ≡ having_heard items hosts read

-- ---- ticks are made

-- the samples of a tick
abbrev pub tick_samples : ℕ
tick_samples = 96

-- the health after a tick, of which the report is not told yet
abbrev pub health_in : Bool → List Got → AirTick → Live → Health
health_in busy reads air before = after_tick busy (is_some air.sent) (after_answers reads before.health)

-- what the report is told of it
abbrev pub notes_in_tick : ServeWords → Bool → List Got → AirTick → Live → Hosts → HealthNotes
notes_in_tick words busy reads air before hosts =
    notes_of words.stats (before.ticks + 1) before.health.alike (standing_of hosts) (health_in busy reads air before)

-- and what is counted from then on
abbrev pub health_after_tick : ServeWords → Bool → List Got → AirTick → Live → Hosts → Health
health_after_tick words busy reads air before hosts =
    after_notes words.stats (before.ticks + 1) (standing_of hosts) (health_in busy reads air before)

-- One tick, before which the reader of the sound reads to its end. To the station the channel is busy also while its transmitter cannot be keyed; its health counts other
-- stations alone. What the key reports of the tick stands after what the station does, and what is told of its health
-- stands after all else.
pub record IsTicked (words : ServeWords) (busy : Bool) (before after : Live) : Type 0 where
  pub reads : List Got
  pub reading : ReadsTo (tick_samples * (before.ticks + 1)) (place_after 0 before.sound) reads
  pub air : AirTick
  pub made : Hosts
  pub step : IsTickMade words.monitor (busy || is_held words.key before.keyed) air before.hosts made
  pub size : length air.samples ≡ tick_samples
  -- what goes out for its samples, at the output's rate
  pub out : List ℤ
  pub at_rate : written_at words.rate (before.samples ++ air.samples) ≡ written_at words.rate before.samples ++ out
  pub keyed : List KeyEvent
  pub whole : Whole
  pub hosts : Hosts
  pub key : TicksKeyIf words.key (octets_sent before) air.samples out before.keyed keyed before.whole whole made hosts
  pub is : after ≡ record before {
    hosts = with_lines (health_lines (notes_in_tick words busy reads air before hosts)) hosts;
    keyed = keyed;
    whole = whole;
    ticks = before.ticks + 1;
    samples = before.samples ++ air.samples;
    sent = before.sent ++ out;
    sound = before.sound ++ reads;
    health = health_after_tick words busy reads air before hosts;
  }

-- what all readers were answered: those of the lanes, and then that of the sound
abbrev pub answers_of_all : Live → List (List Got)
answers_of_all live = live.lanes ++ live.sound ∷ []

-- so many
abbrev pub AreTicked : ServeWords → Bool → ℕ → Live → Live → Type 0
AreTicked words busy zero before after = after ≡ before
AreTicked words busy (suc count) before after =
    (between : Live) × IsTicked words busy before between × AreTicked words busy count between after

-- So many ticks are made, each passed by every reader. The channel is busy in them exactly if one of the eight lanes, or
-- a lane of short wave, hears a station, by what the words ask for; the added lanes do not count.
pub record MakesTicks (words : ServeWords) (count : ℕ) (before after : Live) : Type 0 where
  pub busy : Bool
  pub carrier : IsTrue busy ↔ IsBusyBy words.listening words.dcd before.lanes
  pub made : AreTicked words busy count before after
  pub passed : tick_samples * after.ticks ≤ least_position after.lanes

-- ---- the key's turn

pub record IsKeyTurn (words : ServeWords) (before after : Live) : Type 0 where
  pub keyed : List KeyEvent
  pub hosts : Hosts
  pub turn : TurnsKeyIf words.key (octets_sent before) before.keyed keyed before.hosts hosts
  pub is : after ≡ record before { keyed = keyed; hosts = hosts }

-- All that is due is heard, the key has its turn, and every tick is made that every reader has passed.
pub record MakesAll (words : ServeWords) (ended : Bool) (before after : Live) : Type 0 where
  pub heard : Live
  pub hears : HearsAll words ended before heard
  pub keyed : Live
  pub keys : IsKeyTurn words heard keyed
  pub count : ℕ
  pub makes : MakesTicks words count keyed after
  pub next : least_position after.lanes < tick_samples * (after.ticks + 1)

-- ---- hosts are served

-- The ports are polled once, and each connection is offered the rest of one piece.
pub record ServesHosts (before after : Live) : Type 0 where
  pub asked : Asked
  pub hosts : Hosts
  pub part : IsHostPart asked before.hosts hosts
  pub is : after ≡ record before { hosts = hosts; asked = before.asked ++ asked ∷ [] }

-- ---- a turn

-- A turn in which every reader meets the end of the ring, or not.
pub record IsTurn (words : ServeWords) (ended : Bool) (before after : Live) : Type 0 where
  pub made : Live
  pub makes : MakesAll words ended before made
  pub serves : ServesHosts made after
