-- What a run stands for after something came to pass at one of its stations.
use Rattle.channel_bench.proofs.Common.{◌≡◌, Bool, true, false, Option, Some, None, refl, sym, ap, ◌∙◌, subst}
use Rattle.channel_bench.proofs.Common.{false≢true, End, A, B, Trouble, Run, BenchWords, BenchState, Near, AtEnd, near}
use Rattle.channel_bench.proofs.Common.{with_near, GoesOn, StandsForSide, StandsForNear, StandsForRun, Unless, text_at}
use Rattle.std.specs.Prelude.{is_some}
use Rattle.station.specs.declared.memory.Memory.{Memory}

-- all but a station and what both share is as it was
pub record IsSameBesidesA (before after : Run) : Type 0 where
  pub words : after.words ≡ before.words
  pub b : after.b ≡ before.b
  pub text_of_a : after.text_of_a ≡ before.text_of_a
  pub text_of_b : after.text_of_b ≡ before.text_of_b
  pub ticks : after.ticks ≡ before.ticks
  pub closing : after.closing ≡ before.closing

pub record IsSameBesidesB (before after : Run) : Type 0 where
  pub words : after.words ≡ before.words
  pub a : after.a ≡ before.a
  pub text_of_a : after.text_of_a ≡ before.text_of_a
  pub text_of_b : after.text_of_b ≡ before.text_of_b
  pub ticks : after.ticks ≡ before.ticks
  pub closing : after.closing ≡ before.closing

pub near_a : (run : Run) (w : BenchWords) (bench : BenchState) → StandsForRun run w bench
    → StandsForNear A run.a run.shared (near A bench)
near_a run w bench h = record { side_is = h.a; shared_is = h.shared }

pub near_b : (run : Run) (w : BenchWords) (bench : BenchState) → StandsForRun run w bench
    → StandsForNear B run.b run.shared (near B bench)
near_b run w bench h = record { side_is = h.b; shared_is = h.shared }

pub at_a : (part : Near → Near → Type 0) (before after : Run) (w : BenchWords) (bench : BenchState)
    → StandsForRun before w bench → IsSameBesidesA before after
    → (next : Near) × part (near A bench) next × StandsForNear A after.a after.shared next
    → (next : BenchState) × AtEnd A part bench next × StandsForRun after w next
at_a part before after w bench h same made = (
  with_near A made.0 bench,
  record { next = made.0; step = made.1; is = refl },
  record {
    words = same.words ∙ h.words;
    a = made.2.side_is;
    b = subst (λ s. StandsForSide B s bench.b) (sym same.b) h.b;
    shared = made.2.shared_is;
    text_of_a = same.text_of_a ∙ h.text_of_a;
    text_of_b = same.text_of_b ∙ h.text_of_b;
    ticks = same.ticks ∙ h.ticks;
    closing = same.closing ∙ h.closing;
  },
)

pub at_b : (part : Near → Near → Type 0) (before after : Run) (w : BenchWords) (bench : BenchState)
    → StandsForRun before w bench → IsSameBesidesB before after
    → (next : Near) × part (near B bench) next × StandsForNear B after.b after.shared next
    → (next : BenchState) × AtEnd B part bench next × StandsForRun after w next
at_b part before after w bench h same made = (
  with_near B made.0 bench,
  record { next = made.0; step = made.1; is = refl },
  record {
    words = same.words ∙ h.words;
    a = subst (λ s. StandsForSide A s bench.a) (sym same.a) h.a;
    b = made.2.side_is;
    shared = made.2.shared_is;
    text_of_a = same.text_of_a ∙ h.text_of_a;
    text_of_b = same.text_of_b ∙ h.text_of_b;
    ticks = same.ticks ∙ h.ticks;
    closing = same.closing ∙ h.closing;
  },
)

-- A as it is now, and all else as it stands for
pub with_a : (part : Near → Near → Type 0) (after : Run) (w : BenchWords) (bench : BenchState) → after.words ≡ w
    → StandsForSide B after.b bench.b → after.text_of_a ≡ text_at w A → after.text_of_b ≡ text_at w B
    → after.ticks ≡ bench.ticks
    → after.closing ≡ bench.closing → (next : Near) × part
    (near A bench) next × StandsForNear A after.a after.shared next
    → (next : BenchState) × AtEnd A part bench next × StandsForRun after w next
with_a part after w bench words b text_of_a text_of_b ticks closing made = (
  with_near A made.0 bench,
  record { next = made.0; step = made.1; is = refl },
  record {
    words = words;
    a = made.2.side_is;
    b = b;
    shared = made.2.shared_is;
    text_of_a = text_of_a;
    text_of_b = text_of_b;
    ticks = ticks;
    closing = closing;
  },
)

-- ---- unless something has ended the run

-- a part that comes to pass, since nothing has
pub unless_made : (part : BenchState → BenchState → Type 0) (bench next : BenchState) → bench.common.trouble ≡ None
    → part bench next → Unless part bench next
unless_made part bench next none h = subst (λ f. GoesOn f (part bench next) (next ≡ bench)) (sym none) h

-- and one that does not
pub unless_ended : (part : BenchState → BenchState → Type 0) (bench : BenchState)
    → is_some bench.common.trouble ≡ true → Unless part bench bench
unless_ended part bench is = by bench.common.trouble is
  where
    by : (f : Option Trouble) → is_some f ≡ true → GoesOn f (part bench bench) (bench ≡ bench)
    by None never = absurd (false≢true never)
    by (Some trouble) is = refl

pub none_from : (f : Option Trouble) → is_some f ≡ false → f ≡ None
none_from None is = refl
none_from (Some trouble) is = absurd (false≢true (sym is))

-- what the run stands for, by the test of the code
pub has_ended : (run : Run) (w : BenchWords) (bench : BenchState) (test : Bool) → StandsForRun run w bench
    → test ≡ is_some run.shared.trouble → test ≡ true
    → is_some bench.common.trouble ≡ true
has_ended run w bench test h is true_is = ap is_some (sym h.shared.trouble) ∙ sym is ∙ true_is

pub goes_on : (run : Run) (w : BenchWords) (bench : BenchState) (test : Bool) → StandsForRun run w bench
    → test ≡ is_some run.shared.trouble → test ≡ false
    → bench.common.trouble ≡ None
goes_on run w bench test h is false_is = none_from bench.common.trouble
    (ap is_some (sym h.shared.trouble) ∙ sym is ∙ false_is)

-- what A makes of an end that is A, and B of one that is B
pub moves_at_a : (part : End → Near → Near → Type 0) (end : End) (before after : Run) (w : BenchWords)
    (bench : BenchState) → end ≡ A
    → StandsForRun before w bench → IsSameBesidesA before after
    → (next : Near) × part A (near A bench) next × StandsForNear A after.a after.shared next
    → (next : BenchState) × AtEnd end (part end) bench next × StandsForRun after w next
moves_at_a part end before after w bench is h same made =
    let all = at_a (part A) before after w bench h same made in
    (all.0, subst (λ e. AtEnd e (part e) bench all.0) (sym is) all.1, all.2)

pub moves_at_b : (part : End → Near → Near → Type 0) (end : End) (before after : Run) (w : BenchWords)
    (bench : BenchState) → end ≡ B
    → StandsForRun before w bench → IsSameBesidesB before after
    → (next : Near) × part B (near B bench) next × StandsForNear B after.b after.shared next
    → (next : BenchState) × AtEnd end (part end) bench next × StandsForRun after w next
moves_at_b part end before after w bench is h same made =
    let all = at_b (part B) before after w bench h same made in
    (all.0, subst (λ e. AtEnd e (part e) bench all.0) (sym is) all.1, all.2)

pub made_at_a : (part : End → Near → Near → Type 0) (end : End) (before after : Run) (w : BenchWords)
    (bench : BenchState) → end ≡ A
    → StandsForRun before w bench → IsSameBesidesA before after → bench.common.trouble ≡ None
    → (next : Near) × part A (near A bench) next × StandsForNear A after.a after.shared next
    → (next : BenchState) × Unless (AtEnd end (part end)) bench next × StandsForRun after w next
made_at_a part end before after w bench is h same none made =
    let all = moves_at_a part end before after w bench is h same made in
    (all.0, unless_made (AtEnd end (part end)) bench all.0 none all.1, all.2)

pub made_at_b : (part : End → Near → Near → Type 0) (end : End) (before after : Run) (w : BenchWords)
    (bench : BenchState) → end ≡ B
    → StandsForRun before w bench → IsSameBesidesB before after → bench.common.trouble ≡ None
    → (next : Near) × part B (near B bench) next × StandsForNear B after.b after.shared next
    → (next : BenchState) × Unless (AtEnd end (part end)) bench next × StandsForRun after w next
made_at_b part end before after w bench is h same none made =
    let all = moves_at_b part end before after w bench is h same made in
    (all.0, unless_made (AtEnd end (part end)) bench all.0 none all.1, all.2)

-- a run stands for the same whether memory was refused or not
pub run_remembers : (before : Run) (memory : Memory) (w : BenchWords) (bench : BenchState) → StandsForRun before w bench
    → StandsForRun (record before { memory = memory }) w bench
run_remembers before memory w bench h = record {
  words = h.words;
  a = h.a;
  b = h.b;
  shared = h.shared;
  text_of_a = h.text_of_a;
  text_of_b = h.text_of_b;
  ticks = h.ticks;
  closing = h.closing;
}
