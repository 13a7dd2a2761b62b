-- What holds of a bench at first, and is kept by each part of a tick, holds of each run that nothing has ended.
use Rattle.channel_bench.proofs.Common.{◌≡◌, ℕ, zero, suc, ◌==◌, Bool, true, false, List, [], ◌∷◌, ◌++◌, cond, Option}
use Rattle.channel_bench.proofs.Common.{Some, None, refl, sym, ap, ◌∙◌, subst, each_append, Trouble, BenchWords}
use Rattle.channel_bench.proofs.Common.{AreTicks, BenchState, new_bench, GoesOn, Part, IsPart, IsTick, ArePartsMade}
use Rattle.channel_bench.proofs.Common.{beginning, each_tick, parts_of}
use Rattle.std.specs.List.{AllByRecursion as Each}

-- nothing has ended the run
abbrev pub IsCalm : BenchState → Type 0
IsCalm bench = bench.common.trouble ≡ None

-- once something has ended it, nothing more comes to pass
ended : (w : BenchWords) (parts : List Part) (trouble : Trouble) (before after : BenchState)
    → before.common.trouble ≡ Some trouble → ArePartsMade w parts before after → after ≡ before
ended w [] trouble before after is made = made
ended w (part ∷ parts) trouble before after is made =
    subst (λ t. GoesOn t ((between : BenchState) × IsPart w part before between × ArePartsMade w parts between after)
    (after ≡ before)) is made

-- so a run that is calm now was calm before
pub was_calm : (w : BenchWords) (parts : List Part) (before after : BenchState) → ArePartsMade w parts before after
    → IsCalm after → IsCalm before
was_calm w parts before after made calm = go before.common.trouble refl
  where
    go : (t : Option Trouble) → before.common.trouble ≡ t → t ≡ None
    go None is = refl
    go (Some trouble) is =
        sym is ∙ ap (λ (b : BenchState). b.common.trouble) (sym (ended w parts trouble before after is made)) ∙ calm

-- the first of some parts, and the others
pub record Parted (w : BenchWords) (part : Part) (parts : List Part) (before after : BenchState) : Type 0 where
  pub between : BenchState
  pub first : IsPart w part before between
  pub calm : IsCalm between
  pub rest : ArePartsMade w parts between after

pub parted :
    (w : BenchWords) (part : Part) (parts : List Part) (before after : BenchState)
    → ArePartsMade w (part ∷ parts) before after
    → IsCalm after → Parted w part parts before after
parted w part parts before after made calm =
    let on : (between : BenchState) × IsPart w part before between × ArePartsMade w parts between after =
    subst (λ t. GoesOn t ((between : BenchState) × IsPart w part before between × ArePartsMade w parts between after)
    (after ≡ before))
    (was_calm w (part ∷ parts) before after made calm) made in
    record { between = on.0; first = on.1; calm = was_calm w parts on.0 after on.2 calm; rest = on.2 }

-- a part keeps what holds
abbrev pub KeptBy : BenchWords → (BenchState → Type 0) → Part → Type 0
KeptBy w holds part = (before after : BenchState) → IsPart w part before after → IsCalm after → holds before
    → holds after

pub parts_keep :
    (w : BenchWords) (holds : BenchState → Type 0) (parts : List Part) → Each (KeptBy w holds) parts
    → (before after : BenchState)
    → ArePartsMade w parts before after → IsCalm after → holds before → holds after
parts_keep w holds [] keep before after made calm is = subst holds (sym made) is
parts_keep w holds (part ∷ parts) keep before after made calm is =
    let p = parted w part parts before after made calm in
    parts_keep w holds parts keep.1 p.between after p.rest calm (keep.0 before p.between p.first p.calm is)

-- in each tick
pub record KeptInTicks (w : BenchWords) (holds : BenchState → Type 0) : Type 0 where
  pub new : holds (new_bench w)
  pub begins : Each (KeptBy w holds) (beginning w)
  pub ticks : Each (KeptBy w holds) each_tick

tick_keeps : (w : BenchWords) (holds : BenchState → Type 0) → KeptInTicks w holds → (tick : ℕ)
    → Each (KeptBy w holds) (parts_of w tick)
tick_keeps w holds keep tick = go (tick == 0)
  where
    go : (b : Bool) → Each (KeptBy w holds) (cond b (beginning w ++ each_tick) each_tick)
    go true = each_append (KeptBy w holds) (beginning w) each_tick keep.begins keep.ticks
    go false = keep.ticks

pub ticks_keep :
    (w : BenchWords) (holds : BenchState → Type 0) → KeptInTicks w holds → (count : ℕ) (bench : BenchState)
    → AreTicks w count bench → IsCalm bench → holds bench
unfolding IsTick
ticks_keep w holds keep zero bench made calm = subst holds (sym made) keep.new
ticks_keep w holds keep (suc count) bench made calm =
    parts_keep w holds (parts_of w made.0.ticks) (tick_keeps w holds keep made.0.ticks) made.0 bench made.3 calm
    (ticks_keep w holds keep count made.0 made.1 made.2.no_trouble)

-- ---- what all parts of the kinds that occur keep

pub record KeptByAll (w : BenchWords) (holds : BenchState → Type 0) : Type 0 where
  pub new : holds (new_bench w)
  pub keeps : (part : Part) → KeptBy w holds part
