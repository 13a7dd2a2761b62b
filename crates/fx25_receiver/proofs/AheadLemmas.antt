-- Lanes that take eight windows of 64 samples at once, ahead of the others.
use Rattle.fx25_receiver.proofs.Common.{◌≡◌, ℕ, zero, suc, ◌+◌, ◌-◌, ◌*◌, ◌%◌, ◌<◌, ◌≤◌, ℤ, Bool, true, false, List, []}
use Rattle.fx25_receiver.proofs.Common.{◌∷◌, ◌++◌, length, take, drop, replicate, get_or, ap, refl, sym, subst, ◌∙◌, arith}
use Rattle.fx25_receiver.proofs.Common.{inl, inr, cases_eq, append-nil, append_assoc, length-append, take_all, false≢true}
use Rattle.fx25_receiver.proofs.Common.{if◌then◌else◌, bits, bits_of, last_tone, tones_at, windows_in, last_seven}
use Rattle.fx25_receiver.proofs.Common.{certainties, EndsWithBits, Heard, HeldLane, IsHeard, KnowsNumbers, LaneHasTaken}
use Rattle.fx25_receiver.proofs.Common.{LaneStandsFor, Tone}
use Rattle.std.proofs.Common.{set, get_or-set_other, get_or-set_same, length-drop, not}
use Rattle.std.proofs.Math.Seq.{take-append-add}
use Rattle.std.proofs.lemmas.List.{drop-append-le, drop-drop, take-append-drop}
use Rattle.nrzi_bits.specs.Line.{bits_from}
use Rattle.offset_slicers.proofs.WindowLemmas.{length-tones_at, tones_at-append}
use Rattle.offset_slicers.specs.Decision.{tone_of}
unfoldable use Rattle.slicer_bank.specs.Heard.{tones_in}
use Rattle.slicer_bank.proofs.EightLemmas.{bits_begun, bits_more, length-bits_from}
use Rattle.slicer_bank.proofs.OwnLemmas.{next_tone, tones_in-take}
use Rattle.slicer_bank.proofs.SevenLemmas.{last_seven_whole}
use Rattle.fx25_receiver.specs.Ahead.{AreAhead, NothingEndsInTones, taken_by}
use Rattle.fx25_receiver.specs.Held.{AreAfter}
use Rattle.fx25_receiver.proofs.TakenLemmas.{taken_no_more}

-- ---- all lanes wait, or none

pub waits_all : (n offset : ℕ) → get_or (replicate n true) offset true ≡ true
waits_all zero offset = refl
waits_all (suc n) zero = refl
waits_all (suc n) (suc offset) = waits_all n offset

-- at first all wait
pub all_wait : (lanes : List HeldLane) (position : ℕ) (kept : List Heard) (x whole : List ℤ) (given : List Heard)
    → AreAfter lanes position kept x given → AreAhead lanes position kept (replicate 8 true) x whole given
all_wait lanes position kept x whole given after = record {
  count = after.count;
  lanes_stand = λ offset d small.
      subst (λ w. LaneHasTaken (get_or lanes offset d) offset (if w then x else whole))
      (sym (waits_all 8 offset)) (after.lanes_stand offset d small);
  quiet = λ item h past. waits_all 8 item.lane;
  has_heard = after.has_heard;
}

same_either : (waits : Bool) (x : List ℤ) → (if waits then x else x) ≡ x
same_either true x = refl
same_either false x = refl

-- at last all have taken the whole
pub all_caught_up : (lanes : List HeldLane) (position : ℕ) (kept : List Heard) (waiting : List Bool) (x : List ℤ)
    (given : List Heard) → AreAhead lanes position kept waiting x x given → AreAfter lanes position kept x given
all_caught_up lanes position kept waiting x given after = record {
  count = after.count;
  lanes_stand = λ offset d small. subst (λ y. LaneHasTaken (get_or lanes offset d) offset y)
      (same_either (get_or waiting offset true) x) (after.lanes_stand offset d small);
  has_heard = after.has_heard;
}

-- if none waits, nothing is heard of the rest
pub none_waits : (lanes : List HeldLane) (position : ℕ) (kept : List Heard) (waiting : List Bool) (x more : List ℤ)
    (given : List Heard) → ((offset : ℕ) → offset < 8 → get_or waiting offset true ≡ false)
    → AreAhead lanes position kept waiting x (x ++ more) given
    → AreAfter lanes (position + length more) kept (x ++ more) given
none_waits lanes position kept waiting x more given ahead after =
    let count = after.count in
    record {
      count = omega (arith, length-append x more);
      lanes_stand = λ offset d small.
          subst (λ w. LaneHasTaken (get_or lanes offset d) offset (if w then x else x ++ more))
          (ahead offset small) (after.lanes_stand offset d small);
      has_heard = taken_no_more kept given x more after.has_heard
          (λ item h past. false≢true (sym (ahead item.lane h.lane) ∙ after.quiet item h past));
    }

-- ---- one lane takes its eight windows

-- a lane knows the numbers of its bits
abbrev pub LaneKnows : HeldLane → List ℕ → Type 0
LaneKnows held numbers = KnowsNumbers held.reader held.certainties numbers

-- the tones of the next windows
next_tones : (count offset n : ℕ) (z samples : List ℤ) → n + count ≤ windows_in offset (length z)
    → samples ≡ drop (offset + 8 * n) z
    → take n (tones_at offset z) ++ tones_in count samples ≡ take (n + count) (tones_at offset z)
unfolding tones_in
next_tones zero offset n z samples within is =
    let same : n ≡ n + 0 = omega arith in
    append-nil (take n (tones_at offset z)) ∙ ap (λ m. take m (tones_at offset z)) same
next_tones (suc count) offset n z samples within is =
    let tones = next_tone offset n z (take 8 samples) (omega arith) (ap (take 8) is) in
    let next : drop 8 samples ≡ drop (offset + 8 * (n + 1)) z
    = ap (drop 8) is ∙ drop-drop 8 (offset + 8 * n) z ∙ ap (λ m. drop m z) (omega arith) in
    let count_is : (n + 1) + count ≡ n + suc count = omega arith in
    sym (append_assoc (take n (tones_at offset z)) (tone_of (take 8 samples) ∷ []) (tones_in count (drop 8 samples)))
    ∙ ap (λ t. t ++ tones_in count (drop 8 samples)) tones
    ∙ next_tones count offset (n + 1) z (drop 8 samples) (omega arith) next
    ∙ ap (λ m. take m (tones_at offset z)) count_is

-- samples past the last seven of others
past_seven : (x stretch : List ℤ) (first : ℕ) → 7 ≤ length x → last_seven x ≡ take 7 stretch
    → drop (length x - 7 + first) (x ++ drop 7 stretch) ≡ drop first stretch
past_seven x stretch first enough last =
    let z : List ℤ = x ++ drop 7 stretch in
    sym (drop-drop first (length x - 7) z)
    ∙ ap (drop first) (drop-append-le (length x - 7) x (drop 7 stretch) (omega arith)
    ∙ ap (λ xs. xs ++ drop 7 stretch) (sym (last_seven_whole x enough) ∙ last) ∙ take-append-drop 7 stretch)

-- the tones of an offset in 64 samples more
pub eight_more : (x stretch windows : List ℤ) (offset first : ℕ) → 7 ≤ length x → length stretch ≡ 71
    → last_seven x ≡ take 7 stretch → offset < 8 → first < 8 → offset ≡ (length x + 1 + first) % 8
    → windows ≡ take 64 (drop first stretch)
    → tones_at offset x ++ tones_in 8 windows ≡ tones_at offset (x ++ drop 7 stretch)
eight_more x stretch windows offset first enough size last small early place is =
    let z : List ℤ = x ++ drop 7 stretch in
    let n : ℕ = windows_in offset (length x) in
    let more : length z ≡ length x + 64 = length-append x (drop 7 stretch)
    ∙ omega (arith, length-drop 7 stretch) in
    let at : offset + 8 * n ≡ length x - 7 + first = omega arith in
    let within : n + 8 ≡ windows_in offset (length z) = omega arith in
    let samples : drop first stretch ≡ drop (offset + 8 * n) z =
    sym (past_seven x stretch first enough last) ∙ ap (λ m. drop m z) (sym at) in
    ap (λ t. t ++ tones_in 8 windows) (tones_at-append offset x (drop 7 stretch))
    ∙ ap (λ t. take n (tones_at offset z) ++ t) (ap (tones_in 8) is ∙ tones_in-take 8 (drop first stretch))
    ∙ next_tones 8 offset n z (drop first stretch) (omega arith) samples
    ∙ take_all (n + 8) (tones_at offset z) (omega (arith, length-tones_at offset z))

pub eight_tones_in : (w : List ℤ) → length (tones_in 8 w) ≡ 8
unfolding tones_in
eight_tones_in w = refl

-- the first bits of tones and of more
bits_then : (tones more : List Tone) (k : ℕ) → take (length tones + k) (bits_of (tones ++ more)) ≡ bits_of (tones ++ take k more)
bits_then tones more k =
    let size : length (bits_of tones) ≡ length tones = length-bits_from _ tones in
    ap (take (length tones + k)) (bits_more tones more)
    ∙ ap (λ n. take (n + k) (bits_of tones ++ bits_from (last_tone tones) more)) (sym size)
    ∙ take-append-add (bits_of tones) (bits_from (last_tone tones) more) k
    ∙ sym (bits_begun tones more k)

-- and if nothing ends with their bits, the lane hears nothing of the samples
pub eight_quiet : (x more : List ℤ) (eight : List Tone) (offset : ℕ) → offset < 8
    → tones_at offset x ++ eight ≡ tones_at offset (x ++ more) → length eight ≡ 8
    → NothingEndsInTones (tones_at offset x) eight → (item : Heard) → item.lane ≡ offset → IsHeard (x ++ more) item
    → length x < item.end → ⊥
unfolding bits
eight_quiet x more eight offset small tones size quiet item lane h past =
    let n : ℕ = length (tones_at offset x) in
    let count : n ≡ windows_in offset (length x) = length-tones_at offset x in
    let end = h.ends.end_of in
    let within = h.ends.within in
    let whole : length (bits item.lane (x ++ more)) ≡ n + 8 =
    ap (λ o. length (bits o (x ++ more))) lane ∙ length-bits_from _ (tones_at offset (x ++ more))
    ∙ ap length (sym tones) ∙ length-append (tones_at offset x) eight ∙ ap (λ m. n + m) size in
    let k : ℕ = h.index - n in
    let place : h.index + 1 ≡ n + (k + 1) = omega arith in
    let numbers : List ℕ = take (h.index + 1) (certainties item.lane (x ++ more)) in
    quiet k numbers item (omega arith)
    (subst (λ b. EndsWithBits b numbers item)
    (ap (λ o. take (h.index + 1) (bits o (x ++ more))) lane
    ∙ ap (λ t. take (h.index + 1) (bits_of t)) (sym tones)
    ∙ ap (λ m. take m (bits_of (tones_at offset x ++ eight))) place ∙ bits_then (tones_at offset x) eight (k + 1))
    h.ends.ends)

module _ (lanes : List HeldLane) (position : ℕ) (kept : List Heard) (waiting : List Bool) (x more : List ℤ)
    (given : List Heard) (after : AreAhead lanes position kept waiting x (x ++ more) given) where
  -- the other lanes after one of them has tried
  lanes_after : (waits : Bool) (offset : ℕ) (d now : HeldLane) → length lanes ≡ 8 → length waiting ≡ 8 → offset < 8
      → LaneHasTaken now offset (if waits then x else x ++ more)
      → (o : ℕ) (e : HeldLane) → o < 8
      → LaneHasTaken (get_or (set lanes offset now) o e) o (taken_by (set waiting offset waits) o x (x ++ more))
  lanes_after waits offset d now size waiting_size small stands o e below = elim (cases_eq offset o) [
    | inl same ↦
        subst (λ p. LaneHasTaken (get_or (set lanes offset now) p e) p
        (taken_by (set waiting offset waits) p x (x ++ more))) same
        (subst (λ l. LaneHasTaken l offset (taken_by (set waiting offset waits) offset x (x ++ more)))
        (sym (get_or-set_same lanes offset now e (omega arith)))
        (subst (λ w. LaneHasTaken now offset (if w then x else x ++ more))
        (sym (get_or-set_same waiting offset waits true (omega arith))) stands))
    | inr apart ↦
        subst (λ l. LaneHasTaken l o (taken_by (set waiting offset waits) o x (x ++ more)))
        (sym (get_or-set_other lanes offset o now e (λ e. apart (sym e))))
        (subst (λ w. LaneHasTaken (get_or lanes o e) o (if w then x else x ++ more))
        (sym (get_or-set_other waiting offset o waits true (λ e. apart (sym e)))) (after.lanes_stand o e below))
  ]

  -- a lane took its eight windows, or it did not
  pub one_tried : (took : Bool) (offset : ℕ) (d now : HeldLane) (eight : List Tone) → length lanes ≡ 8
      → length waiting ≡ 8 → offset < 8 → get_or waiting offset true ≡ true
      → tones_at offset x ++ eight ≡ tones_at offset (x ++ more) → length eight ≡ 8
      → ((tones : List Tone) → LaneStandsFor (get_or lanes offset d) tones → took ≡ true
      → LaneStandsFor now (tones ++ eight))
      → ((tones : List Tone) → LaneStandsFor (get_or lanes offset d) tones → took ≡ true
      → NothingEndsInTones tones eight)
      → ((tones : List Tone) → LaneStandsFor (get_or lanes offset d) tones → took ≡ false → LaneStandsFor now tones)
      → ((numbers after : List ℕ) → LaneKnows (get_or lanes offset d) numbers → took ≡ true → LaneKnows now after)
      → ((numbers : List ℕ) → LaneKnows (get_or lanes offset d) numbers → took ≡ false → LaneKnows now numbers)
      → AreAhead (set lanes offset now) position kept (set waiting offset (not took)) x (x ++ more) given
  one_tried took offset d now eight size waiting_size small waits tones eight_size taken quiet left knows knows_left =
      let was : LaneHasTaken (get_or lanes offset d) offset x =
      subst (λ w. LaneHasTaken (get_or lanes offset d) offset (if w then x else x ++ more)) waits
      (after.lanes_stand offset d small) in
      record {
        count = after.count;
        lanes_stand = lanes_after (not took) offset d now size waiting_size small (stands took refl was);
        quiet = λ item h past. elim (cases_eq offset item.lane) [
          | inl same ↦
              ap (λ o. get_or (set waiting offset (not took)) o true) (sym same)
              ∙ get_or-set_same waiting offset (not took) true (omega arith) ∙ silent took refl was item same h past
          | inr apart ↦
              get_or-set_other waiting offset item.lane (not took) true (λ e. apart (sym e)) ∙ after.quiet item h past
        ];
        has_heard = after.has_heard;
      }
    where
      stands : (t : Bool) → took ≡ t → LaneHasTaken (get_or lanes offset d) offset x
          → LaneHasTaken now offset (if not t then x else x ++ more)
      stands true is was = record {
        stands = subst (LaneStandsFor now) tones (taken (tones_at offset x) was.stands is);
        knows = knows (certainties offset x) (certainties offset (x ++ more)) was.knows is;
      }
      stands false is was = record {
        stands = left (tones_at offset x) was.stands is;
        knows = knows_left (certainties offset x) was.knows is;
      }

      silent : (t : Bool) → took ≡ t → LaneHasTaken (get_or lanes offset d) offset x → (item : Heard)
          → offset ≡ item.lane → IsHeard (x ++ more) item → length x < item.end → not t ≡ true
      silent true is was item same h past =
          absurd (eight_quiet x more eight offset small tones eight_size (quiet (tones_at offset x) was.stands is) item
          (sym same)
          h past)
      silent false is was item same h past = refl
