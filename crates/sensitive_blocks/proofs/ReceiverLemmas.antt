-- A receiver with one end more, one sample more, and a block more.
use Rattle.sensitive_blocks.proofs.Common.{◌≡◌, ℕ, zero, suc, ◌+◌, ◌-◌, ◌*◌, ◌<◌, ◌≤◌, Bool, true, ℤ, pos, List, [], ◌∷◌, ◌++◌}
use Rattle.sensitive_blocks.proofs.Common.{length, get_or, take, drop, refl, ap, sym, ◌∙◌, subst, arith, inl, inr, cases_lt}
use Rattle.sensitive_blocks.proofs.Common.{append-nil, append_assoc, length-append, added_places, reads, Heard, AreMerged}
use Rattle.sensitive_blocks.proofs.Common.{AreHeardBelow, HeldLane, window_to, ◌⊎◌}
use Rattle.std.proofs.Common.{length-drop, replicate, get_or-append-add}
use Rattle.std.proofs.Math.Seq.{drop-append-add, take-append_seam}
use Rattle.std.proofs.lemmas.List.{drop-append-le, drop-drop, length-replicate, take_all}
use Rattle.sensitive_blocks.specs.declared.readings.Readings.{Readings}
use Rattle.sensitive_blocks.specs.Held.{AreKept, AreKeptBefore, HasTaken, HeldFollower, HeldReceiver, IsLineOf}
use Rattle.sensitive_blocks.specs.Held.{none_known}
unfoldable use Rattle.sensitive_blocks.specs.Held.{known_at, known_of, last_forty}
use Rattle.tone_tracking.specs.Clock.{reads as clock_reads}
use Rattle.tone_tracking.specs.declared.bit_clock.Pull.TheVariants.{Slow, Fast}
use Rattle.tone_tracking.specs.declared.reach.Reach.TheVariants.{Alone, Near, Far}
use Rattle.sensitive_receiver.proofs.LevelLemmas.{clock-append}
use Rattle.sensitive_blocks.proofs.BitLemmas.{delay_bound, place_read}
use Rattle.sensitive_blocks.proofs.FollowerLemmas.{follower-append, known_early, known_late, known_there}
use Rattle.sensitive_blocks.proofs.HeardBelow.{all_below}
use Rattle.sensitive_blocks.proofs.LaneLemmas.{lanes-append}
use Rattle.sensitive_blocks.proofs.TakenLemmas.{taken-append}

-- ---- what is known of places, kept for three delays

-- the oldest goes, and what is known of the newest comes
pub kept_next : (was : List Readings) (known : Readings) (next : ℕ) (x : List ℤ) (d0 : Readings)
    → AreKeptBefore was next x → known ≡ known_at x (next + 2)
    → AreKept (get_or was 1 d0 ∷ get_or was 2 d0 ∷ known ∷ []) next x
kept_next was known next x d0 h is zero d small =
    h 1 d0 (omega arith) ∙ ap (known_at x) (let e : next + 1 - 1 ≡ next + 0 = omega arith in e)
kept_next was known next x d0 h is (suc zero) d small =
    h 2 d0 (omega arith) ∙ ap (known_at x) (let e : next + 2 - 1 ≡ next + 1 = omega arith in e)
kept_next was known next x d0 h is (suc (suc zero)) d small = is
kept_next was known next x d0 h is (suc (suc (suc n))) d small = absurd (omega arith)

pub kept_before : (kept : List Readings) (next : ℕ) (x : List ℤ) → AreKept kept next x → AreKeptBefore kept (next + 1) x
kept_before kept next x h delay d small =
    h delay d small ∙ ap (known_at x) (let e : next + delay ≡ next + 1 + delay - 1 = omega arith in e)

-- what is known of a place of the first samples
known_of-append : (x y : List ℤ) (place : ℕ) → place < added_places (length x) → known_of x place ≡ known_of (x ++ y) place
unfolding known_of
known_of-append x y place decided =
    let a = clock-append x y Slow Near place (omega arith) in
    let b = clock-append x y Slow Far place (omega arith) in
    let c = clock-append x y Fast Near place (omega arith) in
    let d = clock-append x y Slow Alone place (omega arith) in
    λ i. record {
      decided = true;
      slow_near = clock_reads (a i);
      slow_far = clock_reads (b i);
      fast_near = clock_reads (c i);
      slow_alone = clock_reads (d i);
    }

known-append : (x y : List ℤ) (sum : ℕ) → (sum < 8) ⊎ (sum - 8 < added_places (length x)) → known_at x sum ≡ known_at (x ++ y) sum
known-append x y sum (inl early) = known_early x sum early ∙ sym (known_early (x ++ y) sum early)
known-append x y sum (inr decided) = elim (cases_lt sum 8) [
  | inl early ↦ known_early x sum early ∙ sym (known_early (x ++ y) sum early)
  | inr least ↦
      let size = length-append x y in
      known_there x sum least decided ∙ known_of-append x y (sum - 8) decided
      ∙ sym (known_there (x ++ y) sum least (omega arith))
]

kept-append : (kept : List Readings) (next : ℕ) (x y : List ℤ) → next ≤ length x - 32 → AreKeptBefore kept next x
    → AreKeptBefore kept next (x ++ y)
kept-append kept next x y inside h delay d small =
    h delay d small ∙ known-append x y (next + delay - 1) (which (next + delay - 1) (omega arith))
  where
    which : (sum : ℕ) → sum ≤ length x - 32 + 1 → (sum < 8) ⊎ (sum - 8 < added_places (length x))
    which sum few = elim (cases_lt sum 8) [ inl early ↦ inl early | inr least ↦ inr (omega arith) ]

-- ---- the whole receiver

-- lanes that were lent come back as they were left
pub lent_back : (n : ℕ) (lanes before : List HeldLane) → n ≡ length lanes
    → take n (lanes ++ drop (length lanes) before) ≡ lanes
lent_back n lanes before full = ap (λ m. take m (lanes ++ drop (length lanes) before)) full
    ∙ take-append_seam lanes (drop (length lanes) before)

abbrev pub receiver_of : List ℤ → HeldFollower → List Readings → List HeldLane → ℕ → List Heard → Bool → HeldReceiver
receiver_of recent follower readings lanes next kept spent =
    record {
      recent = recent;
      follower = follower;
      readings = readings;
      lanes = lanes;
      next = next;
      kept = kept;
      spent = spent;
    }

-- what it has taken of the first samples it has taken of more
pub taken_more : (held : HeldReceiver) (x y : List ℤ) (given : List Heard) → held.follower.position ≤ length x
    → held.next ≤ length x - 32 → HasTaken held x given → HasTaken held (x ++ y) given
taken_more held x y given position inside h = record {
  follower = follower-append x y held.follower position h.follower;
  readings = kept-append held.readings held.next x y inside h.readings;
  lanes = lanes-append held.lanes x y held.next inside h.lanes;
  has_heard = taken-append x y held.next held.kept given inside h.has_heard;
}

-- ---- the line of a block

-- the last forty samples and those of a block are what stands after as many samples as came before
line_is : (x block : List ℤ) → last_forty x ++ block ≡ drop (length x) (replicate 40 (pos 0) ++ (x ++ block))
unfolding last_forty
line_is x block =
    let silence = replicate 40 (pos 0) in
    let inside : length x ≤ length (silence ++ x) = omega (arith, length-append silence x) in
    sym (drop-append-le (length x) (silence ++ x) block inside) ∙ ap (drop (length x)) (append_assoc silence x block)

-- the eight samples of it that stand 32 places past an end
window_is : (y : List ℤ) (from i : ℕ) → 32 ≤ from + i
    → take 8 (drop i (drop from (replicate 40 (pos 0) ++ y))) ≡ window_to y (from + i - 32)
unfolding window_to
window_is y from i enough =
    let early = replicate 32 (pos 0) in
    let late = replicate 8 (pos 0) ++ y in
    let at : from + i ≡ 32 + (from + i - 32) = omega arith in
    ap (take 8) (drop-drop i from (early ++ late) ∙ ap (λ n. drop n (early ++ late)) at
    ∙ drop-append-add early late (from + i - 32))

pub line_of : (x block line recent : List ℤ) (position : ℕ) → line ≡ recent ++ block → recent ≡ last_forty x
    → position ≡ length x → IsLineOf line block position (x ++ block)
line_of x block line recent position is recent_is at =
    let whole : line ≡ drop (length x) (replicate 40 (pos 0) ++ (x ++ block)) =
    is ∙ ap (λ r. r ++ block) recent_is ∙ line_is x block in
    record {
      size = omega (arith, length-append x block);
      samples = λ i inside. sym (ap (λ n. get_or (x ++ block) (n + i) (pos 0)) at ∙ get_or-append-add x block i (pos 0));
      windows = λ i inside enough.
          ap (λ l. take 8 (drop i l)) whole ∙ window_is (x ++ block) (length x) i (omega arith)
          ∙ ap (λ n. window_to (x ++ block) (n + i - 32)) (sym at);
    }

pub length-last_forty : (x : List ℤ) → length (last_forty x) ≡ 40
unfolding last_forty
length-last_forty x = omega (
  arith,
  length-drop (length x) (replicate 40 (pos 0) ++ x),
  length-append (replicate 40 (pos 0)) x,
  length-replicate 40 (pos 0),
)

-- the last forty samples of the line are those of all samples
pub forty_after : (x block line recent : List ℤ) → line ≡ recent ++ block → recent ≡ last_forty x
    → take (length block + 40 - length block) (drop (length block) line) ≡ last_forty (x ++ block)
unfolding last_forty
forty_after x block line recent is recent_is =
    let silence = replicate 40 (pos 0) in
    let all = silence ++ (x ++ block) in
    let forty : length block + 40 - length block ≡ 40 = omega arith in
    let whole : line ≡ drop (length x) all = is ∙ ap (λ r. r ++ block) recent_is ∙ line_is x block in
    let following : drop (length block) line ≡ drop (length (x ++ block)) all =
    ap (drop (length block)) whole ∙ drop-drop (length block) (length x) all
    ∙ ap (λ n. drop n all) (sym (length-append x block)) in
    let size : length (drop (length (x ++ block)) all) ≡ 40 = omega (
      arith,
      length-drop (length (x ++ block)) all,
      length-append silence (x ++ block),
      length-replicate 40 (pos 0),
    ) in
    ap (λ n. take n (drop (length block) line)) forty ∙ ap (take 40) following
    ∙ take_all 40 (drop (length (x ++ block)) all) (omega arith)

-- the window of an end after all samples have come
pub rest_window : (x recent : List ℤ) (i : ℕ) → recent ≡ last_forty x → 32 ≤ length x + i
    → take 8 (drop i recent) ≡ window_to x (length x + i - 32)
unfolding last_forty
rest_window x recent i is enough =
    ap (λ r. take 8 (drop i r)) is ∙ window_is x (length x) i enough

-- where the tones of the last ends lie
pub rest_back : (x : List ℤ) (i back : ℕ) → back ≡ 2 - (i + 1) → 32 ≤ length x + i
    → (lane : ℕ) → 8 ≤ lane → lane < 26 → reads x lane (length x + i - 32) ≡ true
    → (back + (length x + i - 32) + 31 ≡ length x) × (39 ≤ length x)
rest_back x i back is enough lane added small read =
    let at = place_read x lane (length x + i - 32) added read in
    let least = at.least in
    let decided = at.decided in
    let few = delay_bound lane small in
    (omega arith, omega arith)

-- all that was taken of samples is all that is heard of them
pub merged_all : (held : HeldReceiver) (x : List ℤ) (given : List Heard) → held.next ≡ length x + 1 → HasTaken held x given
    → AreMerged x given
merged_all held x given last h =
    let taken = h.has_heard in
    let number : 65536 * held.next + 0 ≡ 65536 * (length x + 1) = omega arith in
    record {
      heard = taken.heard;
      are = all_below x taken.heard (subst (λ n. AreHeardBelow n x taken.heard) number taken.are);
      is = taken.given_is;
    }

-- ---- one sample after another

-- so many samples of a block were taken
pub record HasFed (initial now : HeldReceiver) (line block : List ℤ) (earlier given : List Heard) (n : ℕ) : Type 0 where
  pub position : now.follower.position ≡ initial.follower.position + n
  pub next : now.next ≡ now.follower.position - 32
  pub taken : (x : List ℤ) (before : List Heard) → HasTaken initial x (before ++ earlier)
      → IsLineOf line block initial.follower.position x → HasTaken now x (before ++ given)
  pub recent : now.recent ≡ initial.recent
  pub spent : now.spent ≡ initial.spent

pub fed_none : (initial : HeldReceiver) (line block : List ℤ) (given : List Heard)
    → initial.next ≡ initial.follower.position - 32 → HasFed initial initial line block given given 0
fed_none initial line block given next = record {
  position = omega arith;
  next = next;
  taken = λ x before h is. h;
  recent = refl;
  spent = refl;
}

pub fed_more : (initial was now : HeldReceiver) (line block : List ℤ) (earlier given more : List Heard) (n : ℕ) (sample : ℤ)
    (window : List ℤ) → HasFed initial was line block earlier given n → n < length block → sample ≡ get_or block n (pos 0)
    → window ≡ take 8 (drop n line)
    → ((x : List ℤ) (before : List Heard) → HasTaken was x (before ++ given) → was.follower.position < length x
    → sample ≡ get_or x was.follower.position (pos 0)
    → (32 ≤ was.follower.position → window ≡ window_to x (was.follower.position - 32))
    → HasTaken now x (before ++ more))
    → now.follower.position ≡ was.follower.position + 1 → now.next ≡ now.follower.position - 32 → now.recent ≡ was.recent
    → now.spent ≡ was.spent → HasFed initial now line block earlier more (n + 1)
fed_more initial was now line block earlier given more n sample window h inside sample_is window_is step position next recent spent =
    let at = h.position in
    record {
      position = omega arith;
      next = next;
      taken = λ x before taken is.
          let size = is.size in
          step x before (h.taken x before taken is) (omega arith)
          (sample_is ∙ is.samples n inside ∙ ap (λ k. get_or x k (pos 0)) (sym at))
          (λ enough. window_is ∙ is.windows n inside (omega arith) ∙ ap (λ k. window_to x (k - 32)) (sym at));
      recent = recent ∙ h.recent;
      spent = spent ∙ h.spent;
    }

-- ---- the rest

-- so many of the last 33 ends were taken
pub record HasEnded (initial now : HeldReceiver) (earlier given : List Heard) (n : ℕ) : Type 0 where
  pub follower : now.follower ≡ initial.follower
  pub next : now.next ≡ initial.follower.position + n - 32
  pub taken : (x : List ℤ) (before : List Heard) → HasTaken initial x (before ++ earlier)
      → initial.follower.position ≡ length x → initial.recent ≡ last_forty x → HasTaken now x (before ++ given)
  pub recent : now.recent ≡ initial.recent
  pub spent : now.spent ≡ initial.spent

pub ended_none : (initial : HeldReceiver) (given : List Heard) (n : ℕ) → initial.next ≡ initial.follower.position - 32
    → n ≡ 32 - initial.follower.position → HasEnded initial initial given given n
ended_none initial given n next first = record {
  follower = refl;
  next = omega arith;
  taken = λ x before h at recent. h;
  recent = refl;
  spent = refl;
}

pub ended_more : (initial was now : HeldReceiver) (earlier given more : List Heard) (n back : ℕ) (window : List ℤ) (known : Readings)
    → HasEnded initial was earlier given n → n < 33 → 32 ≤ initial.follower.position + n → back ≡ 2 - (n + 1)
    → known ≡ none_known → window ≡ take 8 (drop n initial.recent)
    → ((x : List ℤ) (before : List Heard) → HasTaken was x (before ++ given) → was.next ≤ length x
    → known ≡ known_at x (was.next + 2)
    → window ≡ window_to x was.next
    → ((lane : ℕ) → 8 ≤ lane → lane < 26 → reads x lane was.next ≡ true
    → (back + was.next + 31 ≡ was.follower.position) × (39 ≤ was.follower.position))
    → HasTaken now x (before ++ more))
    → now.next ≡ was.next + 1 → now.follower ≡ was.follower → now.recent ≡ was.recent → now.spent ≡ was.spent → HasEnded initial now earlier more (n + 1)
ended_more initial was now earlier given more n back window known h few enough back_is known_is window_is step next follower recent spent =
    let was_next = h.next in
    let same : was.follower.position ≡ initial.follower.position = ap (λ f. f.position) h.follower in
    record {
      follower = follower ∙ h.follower;
      next = omega arith;
      taken = λ x before taken at is.
          let here : was.next ≡ length x + n - 32 = omega arith in
          step x before (h.taken x before taken at is) (omega arith)
          (known_is ∙ sym (known_late x (was.next + 2) (omega arith)))
          (window_is ∙ rest_window x initial.recent n is (omega arith) ∙ ap (window_to x) (sym here))
          (λ lane added small read.
          let told = rest_back x n back back_is (omega arith) lane added small
          (subst (λ e. reads x lane e ≡ true) here read) in
          let one = told.0 in
          let two = told.1 in
          (omega arith, omega arith));
      recent = recent ∙ h.recent;
      spent = spent ∙ h.spent;
    }

-- ---- what a step asks of the end that it takes

-- where the tones of an end lie that has just been settled
pub step_back : (x : List ℤ) (position next : ℕ) → next ≡ position - 32 → 32 ≤ position → (lane : ℕ) → 8 ≤ lane → lane < 26
    → reads x lane next ≡ true → (2 + next + 31 ≡ position + 1) × (39 ≤ position + 1)
step_back x position next is enough lane added small read =
    let least = (place_read x lane next added read).least in
    let few = delay_bound lane small in
    (omega arith, omega arith)

-- a receiver that has taken nothing
pub nothing_known : (x : List ℤ) (kept : List Readings) → ((delay : ℕ) (d : Readings) → delay < 3 → get_or kept delay d ≡ none_known)
    → AreKeptBefore kept 0 x
nothing_known x kept none delay d small = none delay d small ∙ sym (known_early x (0 + delay - 1) (omega arith))

pub last_forty-none : replicate 40 (pos 0) ≡ last_forty []
unfolding last_forty
last_forty-none = sym (append-nil (replicate 40 (pos 0)))
