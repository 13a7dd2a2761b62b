-- The ticks that a run of a live station makes, the newest first, read off the run itself.
use mathlib.Core.Logic.{inl, inr}
use Rattle.std.specs.Prelude.{ℕ, zero, suc, ℤ, Bool, true, false, List, [], ◌∷◌, ◌++◌, is_some}
use Rattle.channel_access.specs.Sound.{has_sound}
use Rattle.sample_ring.specs.declared.got.Got.{Got}
use Rattle.tnc_base.specs.Streams.{SourceTold}
use Rattle.tnc_ports.specs.declared.looping.LoopEnd.{LoopEnd}
use Rattle.tnc_ports.specs.declared.looping.LoopEnd.TheVariants.{Done as LoopDone, Memory as LoopMemory}
use Rattle.tnc_ports.specs.declared.looping.LoopEnd.TheVariants.{WriteFault as LoopFault}
use Rattle.tnc_ports.specs.declared.serve_words.ServeWords.{ServeWords}
use Rattle.tnc_ports.specs.declared.serving.ServeEnd.{ServeEnd}
use Rattle.tnc_ports.specs.declared.serving.ServeEnd.TheVariants.{Done, TooLong, Memory, ReadFault, WriteFault, NoPort}
use Rattle.tnc_ports.specs.declared.serving.ServeEnd.TheVariants.{NoThread}
use Rattle.tnc_ports.specs.Sampled.{Live, AreTicked, IsTicked, MakesAll, MakesTicks, new_live}
use Rattle.tnc_ports.specs.SampledRun.{AreTurns, IsCutRun, IsCutTurn, IsLooped, IsRun, Outside}
use Rattle.tnc_ports.specs.ServeRun.{IsServed}

-- A tick of a run: whether another station was heard, what the station was before the tick and after it, and how that
-- came to pass.
pub record RunTick (words : ServeWords) : Type 0 where
  pub busy : Bool
  pub before : Live
  pub after : Live
  pub made : IsTicked words busy before after

-- its samples
abbrev pub samples_in : (words : ServeWords) → RunTick words → List ℤ
samples_in words tick = tick.made.air.samples

-- whether one of them is not 0
abbrev pub sounds_in : (words : ServeWords) → RunTick words → Bool
sounds_in words tick = has_sound tick.made.air.samples

-- whether a transmission began with it
abbrev pub begins_in : (words : ServeWords) → RunTick words → Bool
begins_in words tick = tick.made.air.began

-- whether the station takes the channel in full duplex
abbrev pub is_full_duplex : (words : ServeWords) → RunTick words → Bool
is_full_duplex words tick = tick.before.hosts.station.channel.parameters.full_duplex

-- whether a transmission was under way before it
abbrev pub is_on_air : (words : ServeWords) → RunTick words → Bool
is_on_air words tick = is_some tick.before.hosts.station.channel.air

-- the samples of all of them, in order
abbrev pub samples_of : (words : ServeWords) → List (RunTick words) → List ℤ
samples_of words [] = []
samples_of words (tick ∷ older) = samples_of words older ++ samples_in words tick

-- ---- the ticks of a turn

-- so many ticks, and before them those of the turns before
abbrev pub with_ticks : (words : ServeWords) (busy : Bool) (count : ℕ) (before after : Live)
    → AreTicked words busy count before after → List (RunTick words) → List (RunTick words)
with_ticks words busy zero before after made older = older
with_ticks words busy (suc count) before after made older =
    with_ticks words busy count made.0 after made.2
    ((record { busy = busy; before = before; after = made.0; made = made.1 }) ∷ older)

abbrev pub with_made : (words : ServeWords) (count : ℕ) (before after : Live) → MakesTicks words count before after
    → List (RunTick words) → List (RunTick words)
with_made words count before after h older = with_ticks words h.busy count before after h.made older

abbrev pub with_all : (words : ServeWords) (ended : Bool) (before after : Live) → MakesAll words ended before after
    → List (RunTick words) → List (RunTick words)
with_all words ended before after h older = with_made words h.count h.keyed after h.makes older

-- ---- the ticks of a run

abbrev pub with_turns : (words : ServeWords) (count : ℕ) (before after : Live) → AreTurns words count before after
    → List (RunTick words) → List (RunTick words)
with_turns words zero before after turns older = older
with_turns words (suc count) before after turns older =
    with_turns words count turns.0 after turns.2 (with_all words false before turns.1.made turns.1.makes older)

-- in a turn that is cut short the ticks may be the first ones alone
abbrev pub with_cut : (words : ServeWords) (before after : Live) → IsCutTurn words before after
    → List (RunTick words) → List (RunTick words)
with_cut words before after (inl reading) older = older
with_cut words before after (inr (inl hearing)) older = older
with_cut words before after (inr (inr (inl ticking))) older =
    with_made words ticking.count ticking.keyed after ticking.makes older
with_cut words before after (inr (inr (inr all))) older = with_all words all.0 before after all.1 older

abbrev pub ticks_of_run : (words : ServeWords) (live : Live) → IsRun words live → List (RunTick words)
ticks_of_run words live run =
    with_all words true run.last run.over.made run.over.makes
    (with_turns words run.count (new_live words) run.last run.turns [])

abbrev pub ticks_of_cut_run : (words : ServeWords) (live : Live) → IsCutRun words live → List (RunTick words)
ticks_of_cut_run words live run =
    with_cut words run.last live run.cut (with_turns words run.count (new_live words) run.last run.turns [])

-- by how it ends
abbrev pub ticks_looped : (words : ServeWords) (end : LoopEnd) (answers : List (List Got)) (before after : Outside)
    → IsLooped words end answers before after → List (RunTick words)
ticks_looped words LoopDone answers before after h = ticks_of_run words h.0 h.1.run
ticks_looped words LoopFault answers before after h = ticks_of_run words h.0 h.1.run
ticks_looped words LoopMemory answers before after h = ticks_of_cut_run words h.0 h.1.run

-- Without ports, without memory for the ring and without a thread no tick is made.
abbrev pub ticks_served : (words : ServeWords) (end : ServeEnd) (input left : SourceTold) (before after : Outside)
    → IsServed words end input left before after → List (RunTick words)
ticks_served words Done input left before after h = ticks_looped words h.loop h.lanes h.open_ports after h.looped
ticks_served words TooLong input left before after h = ticks_looped words h.loop h.lanes h.open_ports after h.looped
ticks_served words Memory input left before after (inl h) = []
ticks_served words Memory input left before after (inr h) =
    ticks_looped words h.loop h.lanes h.open_ports after h.looped
ticks_served words NoThread input left before after h = []
ticks_served words ReadFault input left before after h = ticks_looped words h.loop h.lanes h.open_ports after h.looped
ticks_served words WriteFault input left before after h = ticks_looped words h.loop h.lanes h.open_ports after h.looped
ticks_served words NoPort input left before after h = []
