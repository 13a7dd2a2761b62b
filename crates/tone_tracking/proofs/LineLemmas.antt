-- A line of tones with a block of samples more.
use Rattle.tone_tracking.proofs.Common.{◌≡◌, ℕ, ◌+◌, ◌*◌, ◌/◌, ◌%◌, ◌<◌, ℤ, pos, List, length, get_or, ap, sym}
use Rattle.tone_tracking.proofs.Common.{subst, ◌∙◌, arith, Correlations, correlations, past_at}
use Rattle.std.proofs.Common.{◌++◌, drop, length-append}
use Rattle.std.proofs.lemmas.List.{get_or-drop}
use Rattle.tone_tracking.specs.declared.pasts.Pasts.{Pasts}
use Rattle.tone_tracking.specs.declared.place_tones.PlaceTones.{PlaceTones}
use Rattle.tone_tracking.specs.declared.reach.Reach.TheVariants.{Near, Far}
use Rattle.tone_tracking.specs.HeldLine.{HasTaken, HeldLine, decided_in}
use Rattle.tone_tracking.specs.HeldMean.{StandsFor as MeanStandsFor}
use Rattle.tone_tracking.specs.Slots.{AreTonesFrom, ArePastsAt, Decides, HeldSlot, IsPrepared, SlotsHaveDecided}
use Rattle.tone_tracking.specs.Slots.{ahead_of, place_tones}
use Rattle.tone_tracking.specs.WithoutMean.{without_mean}
use Rattle.tone_tracking.proofs.CorrelationLemmas.{correlations-agree}
use Rattle.tone_tracking.proofs.MeanLemmas.{length-without_mean, without_mean_begins}
use Rattle.tone_tracking.proofs.PastLemmas.{past-append}

-- the windows of the last samples are those of all from a place on
pub windows_from : (levels y : List ℤ) (base : ℕ) → levels ≡ drop base y
    → (i : ℕ) → correlations levels i ≡ correlations y (base + i)
windows_from levels y base is i = correlations-agree levels y i (base + i) (λ j below.
    let at : base + (i + j) ≡ base + i + j = omega arith in
    ap (λ l. get_or l (i + j) (pos 0)) is ∙ get_or-drop base y (i + j) (pos 0) ∙ ap (λ n. get_or y n (pos 0)) at)

-- the pasts at a place that the first samples decide, or at one of the seven after it
pub pasts-append : (x block : List ℤ) (pasts : Pasts) (place : ℕ) → place < decided_in (length x) + 8
    → ArePastsAt pasts (correlations (without_mean x)) place
    → ArePastsAt pasts (correlations (without_mean (x ++ block))) place
pasts-append x block pasts place near h =
    let begins = without_mean_begins x block in
    let size = length-without_mean x in
    let all : List ℤ = without_mean x in
    let more : without_mean (x ++ block) ≡ all ++ begins.0 = begins.1 in
    record {
      near = h.near ∙ past-append Near all begins.0 (length all) place (omega arith) (omega arith)
          ∙ ap (λ l. past_at Near (correlations l) place) (sym more);
      far = h.far ∙ past-append Far all begins.0 (length all) place (omega arith) (omega arith)
          ∙ ap (λ l. past_at Far (correlations l) place) (sym more);
    }

-- slots that were prepared for so many places from one on have decided them
module _ (place count : ℕ) (olds ready slots : List HeldSlot) (levels : List ℤ) (windows : ℕ → Correlations)
    (gives : (i : ℕ) → correlations levels i ≡ windows (place + i))
    (prepared : (k : ℕ) (d : HeldSlot) → k < 8 → IsPrepared place count k (get_or olds k d) (get_or ready k d))
    (decided : (k : ℕ) (d : HeldSlot) → k < 8 → Decides levels (get_or ready k d) (get_or slots k d))
    (were : SlotsHaveDecided olds windows place) where
  started : (k : ℕ) (d : HeldSlot) → k < 8
      → ArePastsAt (get_or ready k d).pasts windows (place + (get_or ready k d).first)
  started k d below =
      let p = prepared k d below in
      subst (λ n. ArePastsAt (get_or ready k d).pasts windows (place + n)) (sym p.first)
      (subst (λ pasts. ArePastsAt pasts windows (place + ahead_of place k)) (sym p.pasts) (were k d below))

  pub slots_decided : SlotsHaveDecided slots windows (place + count)
  slots_decided k d below =
      let p = prepared k d below in
      let first = p.first in
      let size = p.count_of in
      let at : place + (get_or ready k d).first + 8 * length (get_or ready k d).tones
      ≡ place + count + ahead_of (place + count) k = omega arith in
      subst (ArePastsAt (get_or slots k d).pasts windows) at
      ((decided k d below).pasts windows place gives (started k d below))

  -- and in a row these are the tones of all places
  pub row_decided : (line : List PlaceTones) → length line ≡ count
      → ((i : ℕ) (d : PlaceTones) (e : HeldSlot) → i < count
      → get_or line i d ≡ get_or (get_or slots ((place % 8 + i) % 8) e).tones (i / 8) d)
      → HeldSlot → AreTonesFrom place line windows
  row_decided line whole row e i d inside =
      let k : ℕ = (place % 8 + i) % 8 in
      let below : k < 8 = omega arith in
      let p = prepared k e below in
      let made = decided k e below in
      let first = p.first in
      let size = p.count_of in
      let same = made.count in
      let at : place + (get_or ready k e).first + 8 * (i / 8) ≡ place + i = omega arith in
      row i d e (omega arith) ∙ made.tones windows place gives (started k e below) (i / 8) d (omega arith)
      ∙ ap (place_tones windows) at

-- the line has taken the block as well
pub line_fed : (old now : HeldLine) (x block : List ℤ) (place count : ℕ) (ready : List HeldSlot) (none : HeldSlot)
    → HasTaken old x → place ≡ decided_in old.count → now.count ≡ old.count + length block → now.first ≡ place
    → length now.line ≡ count → place + count ≡ decided_in now.count
    → MeanStandsFor now.remover (x ++ block) → now.levels ≡ drop place (without_mean (x ++ block))
    → ((k : ℕ) (d : HeldSlot) → k < 8 → IsPrepared place count k (get_or old.slots k d) (get_or ready k d))
    → ((k : ℕ) (d : HeldSlot) → k < 8 → Decides now.levels (get_or ready k d) (get_or now.slots k d))
    → ((i : ℕ) (d : PlaceTones) (e : HeldSlot) → i < count
    → get_or now.line i d ≡ get_or (get_or now.slots ((place % 8 + i) % 8) e).tones (i / 8) d)
    → HasTaken now (x ++ block)
line_fed old now x block place count ready none h place_is more first size whole remover levels prepared decided row =
    let windows : ℕ → Correlations = correlations (without_mean (x ++ block)) in
    let given = windows_from now.levels (without_mean (x ++ block)) place levels in
    let had = h.count in
    let all = length-append x block in
    let here : decided_in (length x) ≡ place = omega arith in
    let end : place + count ≡ decided_in (length (x ++ block)) = omega arith in
    let were : SlotsHaveDecided old.slots windows place = λ k d below.
    subst (λ p. ArePastsAt (get_or old.slots k d).pasts windows (p + ahead_of p k)) here
    (pasts-append x block (get_or old.slots k d).pasts (decided_in (length x) + ahead_of (decided_in (length x)) k)
    (omega arith) (h.slots k d below)) in
    record {
      count = omega arith;
      remover = remover;
      levels = levels ∙ ap (λ n. drop n (without_mean (x ++ block))) (sym first);
      slots = subst (SlotsHaveDecided now.slots windows) end
          (slots_decided place count old.slots ready now.slots now.levels windows given prepared decided were);
      line = subst (λ p. AreTonesFrom p now.line windows) (sym first)
          (row_decided place count old.slots ready now.slots now.levels windows given prepared decided were now.line size
          row none);
    }
