-- The parts of a tick from what the calls of the code made.
use Rattle.channel_bench.proofs.Common.{◌≡◌, ◌<◌, cond, arith, true, List, [], ◌∷◌, ◌++◌, Option, Some, None, refl, sym}
use Rattle.channel_bench.proofs.Common.{ap, ◌∙◌, subst, false≢true, ne_eqb, Candidate, End, A, B, Trouble, BenchWords}
use Rattle.channel_bench.proofs.Common.{BenchState, SideState, Near, AtEnd, near, side_at, with_near, GoesOn, IsHeardAt}
use Rattle.channel_bench.proofs.Common.{AreHeardAt, Part, AreReady, IsListening, ArePartsMade, IsTick, beginning}
use Rattle.channel_bench.proofs.Common.{each_tick, parts_of, Closes, Listens, Unless, hears, ticked}
use Rattle.std.specs.Prelude.{is_some}
use Rattle.channel_bench.proofs.PartLemmas.{parts_append, parts_cons, parts_one, parts_stop}

-- nothing more comes to pass
pub parts_ended : (w : BenchWords) (parts : List Part) (bench : BenchState) → is_some bench.common.trouble ≡ true
    → ArePartsMade w parts bench bench
parts_ended w parts bench is = go bench.common.trouble refl is
  where
    go : (t : Option Trouble) → bench.common.trouble ≡ t → is_some t ≡ true → ArePartsMade w parts bench bench
    go None same never = absurd (false≢true never)
    go (Some trouble) same ended = parts_stop w parts bench trouble same

heard_over : (end : End) (items : List Candidate) (n next : Near) (trouble : Trouble)
    → n.common.trouble ≡ Some trouble → AreHeardAt end items n next → next ≡ n
heard_over end [] n next trouble is h = h
heard_over end (item ∷ items) n next trouble is h =
    subst (λ t. GoesOn t ((between : Near) × IsHeardAt end item n between × AreHeardAt end items between next)
    (next ≡ n)) is h

same_near : (end : End) (bench : BenchState) → with_near end (near end bench) bench ≡ bench
same_near A bench = refl
same_near B bench = refl

-- a station listens
listens : (end : End) (items : List Candidate) (bench next : BenchState)
    → AreReady (side_at end bench).blocks (side_at end bench).samples items
    → AtEnd end (AreHeardAt end items) bench next → Unless (AtEnd end (IsListening end)) bench next
listens end items bench next ready h = go bench.common.trouble refl
  where
    go : (t : Option Trouble) → bench.common.trouble ≡ t
        → GoesOn t (AtEnd end (IsListening end) bench next) (next ≡ bench)
    go None same = record { next = h.next; step = record { items = items; ready = ready; heard = h.step }; is = h.is }
    go (Some trouble) same =
        h.is ∙ ap (λ n. with_near end n bench) (heard_over end items (near end bench) h.next trouble same h.step)
        ∙ same_near end bench

-- what A hears changes nothing of B
keeps_b : (part : Near → Near → Type 0) (bench next : BenchState) → AtEnd A part bench next → next.b ≡ bench.b
keeps_b part bench next h = ap (λ (b : BenchState). b.b) h.is

-- what is ready is heard, and the tick ends
pub hears_made : (w : BenchWords) (bench i j k : BenchState) (at_a at_b : List Candidate)
    → AreReady bench.a.blocks bench.a.samples at_a → AreReady bench.b.blocks bench.b.samples at_b
    → AtEnd A (AreHeardAt A at_a) bench i → AtEnd B (AreHeardAt B at_b) i j
    → Unless (λ before after. after ≡ ticked before) j k
    → ArePartsMade w hears bench k
hears_made w bench i j k at_a at_b ready_a ready_b a b closes =
    let ready : AreReady i.b.blocks i.b.samples at_b = subst (λ (s : SideState). AreReady s.blocks s.samples at_b)
    (sym (keeps_b (AreHeardAt A at_a) bench i a)) ready_b in
    parts_cons w (Listens A) (Listens B ∷ Closes ∷ []) bench i k (listens A at_a bench i ready_a a)
    (parts_cons w (Listens B) (Closes ∷ []) i j k (listens B at_b i j ready b) (parts_one w Closes j k closes))

-- the first tick, and each later one
pub tick_first : (w : BenchWords) (bench between next : BenchState) → bench.ticks ≡ 0
    → ArePartsMade w (beginning w) bench between
    → ArePartsMade w each_tick between next → IsTick w bench next
unfolding IsTick
tick_first w bench between next is begun made =
    subst (λ t. ArePartsMade w (parts_of w t) bench next) (sym is)
    (parts_append w (beginning w) each_tick bench between next begun made)

pub tick_later : (w : BenchWords) (bench next : BenchState) → 0 < bench.ticks → ArePartsMade w each_tick bench next
    → IsTick w bench next
unfolding IsTick
tick_later w bench next past made =
    subst (λ b. ArePartsMade w (cond b (beginning w ++ each_tick) each_tick) bench next)
    (sym (ne_eqb bench.ticks 0 (λ e. omega (arith, past, e)))) made
