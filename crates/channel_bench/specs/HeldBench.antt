-- What the code keeps of the bench, and what that stands for. Public clauses cite none of this.
use Rattle.std.specs.Prelude.{◌≡◌, ℕ, ◌*◌, ◌≤◌, ℤ, List, [], ◌∷◌, length, map, replicate, unsigned_abs, All, false}
use Rattle.std.specs.Prelude.{◌⊎◌, Bool, true, None}
use Rattle.agwpe_port.specs.Held.{StandsFor as AgwStandsFor}
use Rattle.frame_merge.specs.declared.candidate.Candidate.{Candidate}
use Rattle.frame_merge.specs.Held.{StandsFor as MergerStandsFor}
use Rattle.frame_merge.specs.Merged.{merged, below}
use Rattle.fx25_receiver.specs.Held.{StandsFor as ReceiverStandsFor}
use Rattle.fx25_receiver.specs.declared.heard.Heard.{Heard}
use Rattle.rand_pcg.specs.Lcg.{Lcg}
use Rattle.link_world.specs.declared.end.End.{End}
use Rattle.link_world.specs.declared.end.End.TheVariants.{A, B}
use Rattle.slicer_bank.specs.Candidates.{AreCandidates}
use Rattle.slicer_bank.specs.Held.{StandsFor as BankStandsFor}
use Rattle.station.specs.Held.{ids_of}
use Rattle.station.specs.StandsFor.{StandsFor as StationStandsFor}
use Rattle.channel_bench.specs.declared.block_ear.BlockEar.{BlockEar}
use Rattle.channel_bench.specs.declared.ear.Ear.{Ear}
use Rattle.channel_bench.specs.declared.ear.Ear.TheVariants.{Plain, Blocks}
use Rattle.channel_bench.specs.declared.plain_ear.PlainEar.{PlainEar}
use Rattle.channel_bench.specs.declared.flight.OneWay.{OneWay as HeldOneWay}
use Rattle.channel_bench.specs.declared.flight.HeldFrame.{HeldFrame}
use Rattle.channel_bench.specs.declared.flight.Flight.{Flight}
use Rattle.channel_bench.specs.declared.shared.Shared.{Shared}
use Rattle.channel_bench.specs.declared.side.Side.{Side}
use Rattle.channel_bench.specs.declared.run.Run.{Run}
use Rattle.channel_bench.specs.declared.words.BenchWords.{BenchWords}
use Rattle.channel_bench.specs.BenchState.{SideState, Common, BenchState, Near, ways_of}
use Rattle.channel_bench.specs.BenchSteps.{GoesOn}
use Rattle.station_laws.specs.InFlight.{LinkFrame, OneWay, BothWays, asks, answers}
use Rattle.channel_bench.specs.BenchRun.{AreTicks, is_over}
use Rattle.channel_bench.specs.BenchTick.{Part}
use Rattle.channel_bench.specs.BenchTick.Part.{AsksOrCalls, Closes, Gives, Listens, Sounds, Ticks}
use Rattle.channel_bench.specs.Sounding.{mark_of, after_noise, reaching, sent_in, with_noise, with_samples}
use Rattle.channel_bench.specs.Words.{text_at}

-- the bank heard these samples, and the merger gave all frames that end below the marks
pub record PlainEarStandsFor (held : PlainEar) (x : List ℤ) : Type 0 where
  pub bank : BankStandsFor held.bank x
  pub flags : held.bank.flags ≡ 1
  pub count : held.count ≡ length x
  pub marks : held.merger.marks ≡ replicate 8 (mark_of x)
  pub candidates : List Candidate
  pub are : AreCandidates x candidates
  pub so_far : MergerStandsFor held.merger candidates (below (mark_of x) (merged candidates))

-- the bank heard these samples, and the receiver gave all frames that ended with them
pub record BlockEarStandsFor (held : BlockEar) (x : List ℤ) : Type 0 where
  pub bank : BankStandsFor held.bank x
  pub flags : held.bank.flags ≡ 1
  pub count : held.count ≡ length x
  pub given : List Heard
  pub so_far : ReceiverStandsFor held.receiver x given

-- an ear that reads blocks, or one that does not, heard these samples
abbrev pub EarStandsFor : Ear → (blocks : Bool) → List ℤ → Type 0
EarStandsFor (Plain ear) false x = PlainEarStandsFor ear x
EarStandsFor (Plain ear) true x = ⊥
EarStandsFor (Blocks ear) false x = ⊥
EarStandsFor (Blocks ear) true x = BlockEarStandsFor ear x

-- how many samples an ear has heard
abbrev pub heard_by : Ear → ℕ
heard_by (Plain ear) = ear.count
heard_by (Blocks ear) = ear.count

-- what is kept of a frame that a link queued
abbrev pub held_frame : LinkFrame → HeldFrame
held_frame frame = record { octets = frame.octets; asks = asks frame; answers = answers frame }

pub record StandsForWay (held : HeldOneWay) (way : OneWay) : Type 0 where
  pub queued : held.queued.items ≡ map held_frame way.queued
  pub front : held.front ≡ way.front

pub record StandsForWays (held : Flight) (ways : BothWays) : Type 0 where
  pub from_a : StandsForWay held.from_a ways.from_a
  pub from_b : StandsForWay held.from_b ways.from_b

pub record StandsForCommon (held : Shared) (common : Common) : Type 0 where
  pub flight : StandsForWays held.flight (ways_of common)
  pub draws : held.draws ≡ common.draws
  pub transmissions : held.transmissions ≡ common.transmissions
  pub lost : held.lost ≡ common.lost
  pub trouble : held.trouble ≡ common.trouble

pub record StandsForSide (end : End) (held : Side) (side : SideState) : Type 0 where
  pub end_is : held.end ≡ end
  pub station : StationStandsFor held.station side.station
  pub ids : ids_of held.station ≡ side.there
  pub there : held.there.items ≡ side.there
  pub reader : AgwStandsFor held.reader side.stream
  pub program : held.program ≡ side.program
  pub ear : EarStandsFor held.ear side.blocks side.samples
  pub towards : held.towards.items ≡ side.towards
  pub matched : held.matched ≡ side.matched
  pub air : held.air ≡ side.air
  pub loud : All (λ sample. unsigned_abs sample ≤ 10000) side.air.samples
  pub silenced : held.silenced ≡ side.silenced

-- memory was refused, to the station or beside it
abbrev pub WantsMemory : Side → Type 0
WantsMemory side = (side.station.spent ≡ true) ⊎ (side.memory.refused ≡ true)

pub record StandsForNear (end : End) (side : Side) (shared : Shared) (n : Near) : Type 0 where
  pub side_is : StandsForSide end side n.side
  pub shared_is : StandsForCommon shared n.common

-- one thing came to pass at a station, if nothing has ended the run
abbrev pub MovesNear : End → (Near → Near → Type 0) → Side → Side → Shared → Shared → Type 0
MovesNear end part side side' shared shared' =
    (n : Near) → StandsForNear end side shared n → n.common.trouble ≡ None
    → (next : Near) × part n next × StandsForNear end side' shared' next

pub record StandsForRun (held : Run) (w : BenchWords) (bench : BenchState) : Type 0 where
  pub words : held.words ≡ w
  pub a : StandsForSide A held.a bench.a
  pub b : StandsForSide B held.b bench.b
  pub shared : StandsForCommon held.shared bench.common
  pub text_of_a : held.text_of_a ≡ text_at w A
  pub text_of_b : held.text_of_b ≡ text_at w B
  pub ticks : held.ticks ≡ bench.ticks
  pub closing : held.closing ≡ bench.closing

-- memory was refused, to one of the sides or beside both
abbrev pub RunWants : Run → Type 0
RunWants run = (WantsMemory run.a ⊎ WantsMemory run.b) ⊎ (run.memory.refused ≡ true)

-- one thing came to pass in the run
abbrev pub MovesRun : BenchWords → (BenchState → BenchState → Type 0) → Run → Run → Type 0
MovesRun w part run run' =
    (bench : BenchState) → StandsForRun run w bench
    → (next : BenchState) × part bench next × StandsForRun run' w next

-- a part of a tick, which comes to pass unless something has ended the run
abbrev pub Unless : (BenchState → BenchState → Type 0) → BenchState → BenchState → Type 0
Unless part before after = GoesOn before.common.trouble (part before after) (after ≡ before)

-- ---- the parts of a tick

-- what hosts and stations do, and what comes of it
abbrev pub acts : List Part
acts = Gives A ∷ AsksOrCalls ∷ Gives B ∷ Ticks A ∷ Ticks B ∷ []

abbrev pub hears : List Part
hears = Listens A ∷ Listens B ∷ Closes ∷ []

abbrev pub sounds : List Part
sounds = Sounds ∷ hears

-- the samples that reach each station, and the words drawn for them
abbrev pub reaching_b : BenchWords → BenchState → List ℤ
reaching_b w bench = with_noise w.noise (reaching w.full bench.a bench.b) bench.common.draws

abbrev pub after_b : BenchWords → BenchState → Lcg
after_b w bench = after_noise w.noise (reaching w.full bench.a bench.b) bench.common.draws

abbrev pub reaching_a : BenchWords → BenchState → List ℤ
reaching_a w bench = with_noise w.noise (reaching w.full bench.b bench.a) (after_b w bench)

abbrev pub with_noise_drawn : BenchWords → BenchState → BenchState
with_noise_drawn w bench = record bench {
  common = record bench.common { draws = after_noise w.noise (reaching w.full bench.b bench.a) (after_b w bench) };
}

-- the samples reach both, with the frames that were sent
abbrev pub with_both : List ℤ → List ℤ → BenchState → BenchState
with_both to_a to_b bench = record bench {
  a = with_samples to_a (sent_in bench.ticks bench.b.air.sent) bench.a;
  b = with_samples to_b (sent_in bench.ticks bench.a.air.sent) bench.b;
}

-- ---- the run, tick by tick

-- what the ticks so far bound: the samples that reached each station, and the transmissions
pub record IsCounted (bench : BenchState) : Type 0 where
  pub a : length bench.a.samples ≤ 96 * bench.ticks
  pub b : length bench.b.samples ≤ 96 * bench.ticks
  pub transmissions : bench.common.transmissions ≤ 2 * bench.ticks
  pub lost : bench.common.lost ≤ bench.common.transmissions

-- so many ticks are made, and nothing has ended the run
pub record HasMade (w : BenchWords) (count : ℕ) (run : Run) : Type 0 where
  pub bench : BenchState
  pub stands : StandsForRun run w bench
  pub ticks : AreTicks w count bench
  pub no_trouble : bench.common.trouble ≡ None
  pub few : run.ticks ≤ count

-- and it is not over
pub record IsGoing (w : BenchWords) (count : ℕ) (run : Run) : Type 0 where
  pub made : HasMade w count run
  pub not_over : is_over made.bench ≡ false
