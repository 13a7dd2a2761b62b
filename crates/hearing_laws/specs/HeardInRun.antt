-- What a live station hears in a run, in order, read off the run itself: each item is one whose octets the station is
-- given as a frame that it heard.
use mathlib.Core.Logic.{inl, inr}
use Rattle.std.specs.Prelude.{ℕ, zero, suc, Bool, true, false, List, [], ◌++◌}
use Rattle.sample_ring.specs.declared.got.Got.{Got}
use Rattle.frame_merge.specs.declared.candidate.Candidate.{Candidate}
use Rattle.tnc_ports.specs.declared.looping.LoopEnd.{LoopEnd}
use Rattle.tnc_ports.specs.declared.looping.LoopEnd.TheVariants.{Done as LoopDone, Memory as LoopMemory}
use Rattle.tnc_ports.specs.declared.looping.LoopEnd.TheVariants.{WriteFault as LoopFault}
use Rattle.tnc_ports.specs.declared.serve_words.ServeWords.{ServeWords}
use Rattle.tnc_ports.specs.Sampled.{Live, IsTurn, MakesAll, new_live}
use Rattle.tnc_ports.specs.SampledRun.{AreTurns, IsCutRun, IsCutTurn, IsLooped, IsRun, Outside}

-- ---- in turns

abbrev pub items_of_making : (words : ServeWords) (ended : Bool) (before after : Live)
    → MakesAll words ended before after → List Candidate
items_of_making words ended before after h = h.hears.items

abbrev pub items_of_turn : (words : ServeWords) (ended : Bool) (before after : Live) → IsTurn words ended before after
    → List Candidate
items_of_turn words ended before after turn = items_of_making words ended before turn.made turn.makes

abbrev pub items_of_turns : (words : ServeWords) (count : ℕ) (before after : Live) → AreTurns words count before after
    → List Candidate
items_of_turns words zero before after turns = []
items_of_turns words (suc count) before after turns =
    items_of_turn words false before turns.0 turns.1 ++ items_of_turns words count turns.0 after turns.2

-- in a turn that is cut short when it hears, the first ones alone
abbrev pub items_of_cut : (words : ServeWords) (before after : Live) → IsCutTurn words before after → List Candidate
items_of_cut words before after (inl reading) = []
items_of_cut words before after (inr (inl hearing)) = hearing.items
items_of_cut words before after (inr (inr (inl ticking))) = ticking.hears.items
items_of_cut words before after (inr (inr (inr all))) = items_of_making words all.0 before after all.1

-- ---- in a run

abbrev pub items_of_run : (words : ServeWords) (live : Live) → IsRun words live → List Candidate
items_of_run words live run =
    items_of_turns words run.count (new_live words) run.last run.turns
    ++ items_of_turn words true run.last live run.over

abbrev pub items_of_cut_run : (words : ServeWords) (live : Live) → IsCutRun words live → List Candidate
items_of_cut_run words live run =
    items_of_turns words run.count (new_live words) run.last run.turns ++ items_of_cut words run.last live run.cut

-- by how it ends
abbrev pub items_looped : (words : ServeWords) (end : LoopEnd) (answers : List (List Got)) (before after : Outside)
    → IsLooped words end answers before after → List Candidate
items_looped words LoopDone answers before after h = items_of_run words h.0 h.1.run
items_looped words LoopFault answers before after h = items_of_run words h.0 h.1.run
items_looped words LoopMemory answers before after h = items_of_cut_run words h.0 h.1.run
