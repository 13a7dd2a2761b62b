-- The streams of samples that come in pieces, and how many samples they have.
use Rattle.wide_input.proofs.Common.{◌≡◌, ℕ, zero, suc, ◌+◌, ◌-◌, ◌*◌, ◌/◌, ◌<◌, ◌≤◌, ℤ, List, [], ◌∷◌, ◌++◌, length}
use Rattle.wide_input.proofs.Common.{get_or, ◌^◌, take, append-nil, pos, Some, refl, ap, sym, subst, ◌∙◌, arith, OnOk}
use Rattle.wide_input.proofs.Common.{IfOk, option_map, take_more, Candidate, AreCandidatesAfter, HeldBank, stream}
use Rattle.wide_input.proofs.Common.{least_count, AllPast, HeldStream, StreamStandsFor, HasFound, IsAbreast, TakesPart}
use Rattle.wide_input.proofs.Common.{AreAlike, next_skipped}
use Rattle.std.proofs.Common.{Option, None, Result, Ok, Err}
use Rattle.std.specs.Prelude.{OnErr}
use Rattle.std.specs.Result.{result_ok}
use Rattle.std.proofs.lemmas.Option.{none-some, same_Some}
use Rattle.slicer_bank.specs.Held.{StandsFor as BankStandsFor}

-- the stream of samples and more
pub stream-append : (skipped : ℕ) (x y : List ℤ) → stream skipped (x ++ y)
    ≡ stream skipped x ++ stream (next_skipped skipped x) y
stream-append skipped [] y = refl
stream-append zero (sample ∷ x) y = ap (λ t. sample ∷ t) (stream-append 4 x y)
stream-append (suc skipped) (sample ∷ x) y = stream-append skipped x y

pub next_skipped-append : (skipped : ℕ) (x y : List ℤ) → next_skipped skipped (x ++ y)
    ≡ next_skipped (next_skipped skipped x) y
next_skipped-append skipped [] y = refl
next_skipped-append zero (sample ∷ x) y = next_skipped-append 4 x y
next_skipped-append (suc skipped) (sample ∷ x) y = next_skipped-append skipped x y

-- a stream has every fifth sample
pub length-stream : (skipped : ℕ) (x : List ℤ) → skipped ≤ 4 → length (stream skipped x) ≡ (length x + 4 - skipped) / 5
length-stream skipped [] small = omega arith
length-stream zero (sample ∷ x) small = omega (arith, length-stream 4 x (omega arith))
length-stream (suc skipped) (sample ∷ x) small = omega (arith, length-stream skipped x (omega arith))

-- a stream has no more samples than there are
pub stream-few : (skipped : ℕ) (x : List ℤ) → length (stream skipped x) ≤ length x
stream-few skipped [] = omega arith
stream-few zero (sample ∷ x) = omega (arith, stream-few 4 x)
stream-few (suc skipped) (sample ∷ x) = omega (arith, stream-few skipped x)

-- the least stream
pub least_count-is : (x : List ℤ) → least_count x ≡ length x / 5
least_count-is x = omega (arith, length-stream 4 x (omega arith))

-- each stream has as many samples as the least one, or one more
pub stream-least : (number : ℕ) (x : List ℤ) → number < 5 → (least_count x ≤ length (stream number x))
    × (length (stream number x) ≤ least_count x + 1)
stream-least number x small =
    let here = length-stream number x (omega arith) in
    let least = least_count-is x in
    (omega arith, omega arith)

-- with one sample more
pub stream-taken : (skipped : ℕ) (x : List ℤ) (sample : ℤ) → next_skipped skipped x ≡ 0
    → (stream skipped (x ++ sample ∷ []) ≡ stream skipped x ++ sample ∷ [])
    × (next_skipped skipped (x ++ sample ∷ []) ≡ 4)
stream-taken skipped x sample here = (
  stream-append skipped x (sample ∷ []) ∙ ap (λ n. stream skipped x ++ stream n (sample ∷ [])) here,
  next_skipped-append skipped x (sample ∷ []) ∙ ap (λ n. next_skipped n (sample ∷ [])) here,
)

pub stream-skipped : (skipped left : ℕ) (x : List ℤ) (sample : ℤ) → next_skipped skipped x ≡ suc left
    → (stream skipped (x ++ sample ∷ []) ≡ stream skipped x) × (next_skipped skipped (x ++ sample ∷ []) ≡ left)
stream-skipped skipped left x sample here = (
  stream-append skipped x (sample ∷ []) ∙ ap (λ n. stream skipped x ++ stream n (sample ∷ [])) here
      ∙ append-nil (stream skipped x),
  next_skipped-append skipped x (sample ∷ []) ∙ ap (λ n. next_skipped n (sample ∷ [])) here,
)

-- so along a block
pub step_taken : (skipped i : ℕ) (block : List ℤ) (d : ℤ) → i < length block → next_skipped skipped (take i block) ≡ 0
    → (stream skipped (take (i + 1) block) ≡ stream skipped (take i block) ++ get_or block i d ∷ [])
    × (next_skipped skipped (take (i + 1) block) ≡ 4)
step_taken skipped i block d l here =
    let more : take (i + 1) block ≡ take i block ++ get_or block i d ∷ [] = take_more block i d l in
    let step = stream-taken skipped (take i block) (get_or block i d) here in
    (ap (stream skipped) more ∙ step.0, ap (next_skipped skipped) more ∙ step.1)

pub step_skipped : (skipped left i : ℕ) (block : List ℤ) → i < length block
    → next_skipped skipped (take i block) ≡ suc left
    → (stream skipped (take (i + 1) block) ≡ stream skipped (take i block))
    × (next_skipped skipped (take (i + 1) block) ≡ left)
step_skipped skipped left i block l here =
    let more : take (i + 1) block ≡ take i block ++ get_or block i (pos 0) ∷ [] = take_more block i (pos 0) l in
    let step = stream-skipped skipped left (take i block) (get_or block i (pos 0)) here in
    (ap (stream skipped) more ∙ step.0, ap (next_skipped skipped) more ∙ step.1)

-- a stream that took its part of a block and fed it to its bank
pub heard_part : (old : HeldStream) (new : HeldBank) (kept : Option (List Candidate)) (left number : ℕ)
    (x block part : List ℤ) (items : List Candidate)
    → part ≡ stream old.skipped block → left ≡ next_skipped old.skipped block
    → ((s : List ℤ) → BankStandsFor old.bank s → BankStandsFor new (s ++ part)
    × AreCandidatesAfter (length s) (s ++ part) items)
    → StreamStandsFor number old x
    → StreamStandsFor number (record { bank = new; skipped = left; found = kept }) (x ++ block)
    × AreCandidatesAfter (length (stream number x)) (stream number (x ++ block)) items
heard_part old new kept left number x block part items is after fed h =
    let s : List ℤ = stream number x in
    let whole : s ++ part ≡ stream number (x ++ block) = ap (λ t. s ++ t) (is ∙ ap (λ n. stream n block) h.skipped)
    ∙ sym (stream-append number x block) in
    let f = fed s h.bank in (
      record {
        bank = subst (BankStandsFor new) whole f.0;
        skipped = after ∙ ap (λ n. next_skipped n block) h.skipped ∙ sym (next_skipped-append number x block);
      },
      subst (λ t. AreCandidatesAfter (length s) t items) whole f.1,
    )

-- where a bank stands past a block, whether or not it wanted memory
pub position_past : {V E : Type 0} (result : Result V E) (old new count : ℕ) → OnOk result (new ≡ old + count)
    → OnErr result (new ≡ old) → new ≤ old + count
position_past (Ok v) old new count moved stays = omega arith
position_past (Err e) old new count moved stays = omega arith

-- the samples of a stream by place
pub stream-place : (skipped : ℕ) (x : List ℤ) (k : ℕ) (d : ℤ) → k < length (stream skipped x)
    → get_or (stream skipped x) k d ≡ get_or x (5 * k + skipped) d
stream-place skipped [] k d l = absurd (omega arith)
stream-place zero (sample ∷ x) zero d l = refl
stream-place zero (sample ∷ x) (suc k) d l = stream-place 4 x k d (omega arith)
    ∙ ap (λ n. get_or (sample ∷ x) n d) (let e : suc (5 * k + 4) ≡ 5 * suc k + 0 = omega arith in e)
stream-place (suc skipped) (sample ∷ x) k d l = stream-place skipped x k d l
    ∙ ap (λ n. get_or (sample ∷ x) n d) (let e : suc (5 * k + skipped) ≡ 5 * k + suc skipped = omega arith in e)

-- a part of a block has room if the block has it, and ends where the block ends at most
pub part_fits : (inside outside part whole : ℕ) → inside ≡ outside → part ≤ whole → outside + whole < 2 ^ 48
    → inside + part < 2 ^ 48
part_fits inside outside part whole same few room = omega arith

pub part_ends : (inside outside now part whole : ℕ) → inside ≡ outside → part ≤ whole → now ≤ inside + part
    → now ≤ outside + whole
part_ends inside outside now part whole same few past = omega arith

-- ---- no stream falls after the least one

-- what a stream takes of a block, and what it skips past it
pub taken-skipped : (skipped : ℕ) (x : List ℤ) → length x + next_skipped skipped x
    ≡ skipped + 5 * length (stream skipped x)
taken-skipped skipped [] = omega arith
taken-skipped zero (sample ∷ x) = omega (arith, taken-skipped 4 x)
taken-skipped (suc skipped) (sample ∷ x) = omega (arith, taken-skipped skipped x)

-- with its part of a block a stream stays abreast
pub abreast_more : (position : ℕ) (was now : HeldStream) (block : List ℤ)
    → now.skipped ≡ next_skipped was.skipped block
    → now.bank.position ≡ was.bank.position + length (stream was.skipped block)
    → IsAbreast position was → IsAbreast (position + length block) now
abreast_more position was now block after moved h = omega (arith, taken-skipped was.skipped block)

-- if it had memory for what it heard
pub stays_abreast : {V E : Type 0} (result : Result V E) (was now : HeldStream) (block : List ℤ)
    → now.skipped ≡ next_skipped was.skipped block
    → OnOk result (now.bank.position ≡ was.bank.position + length (stream was.skipped block))
    → OnOk result ((position : ℕ) → IsAbreast position was → IsAbreast (position + length block) now)
stays_abreast (Ok v) was now block after moved = λ position h. abreast_more position was now block after moved h
stays_abreast (Err e) was now block after moved = tt

-- what it keeps of what it heard changes nothing of that
pub abreast_alike : (position : ℕ) (was now : HeldStream) → AreAlike now was → IsAbreast position was
    → IsAbreast position now
abreast_alike position was now alike h =
    let here = ap (λ (bank : HeldBank). bank.position) alike.bank in
    let skipped = alike.skipped in
    omega arith

-- and what ends past its bank's position ends past the least stream's
pub takes_part : (position count : ℕ) (was now : HeldStream) → IsAbreast position was
    → ((found : List Candidate) → now.found ≡ Some found → AllPast was.bank.position found)
    → (HasFound now → IsAbreast (position + count) now) → TakesPart position count now
takes_part position count was now h past more = record {
  past = λ found is k d l. let ends = past found is k d l in omega arith;
  abreast = more;
}

-- so a stream that keeps what it heard, or nothing if it wanted memory
pub kept_part : {V E : Type 0} (items : V → List Candidate) (result : Result V E) (kept : Option V) (count : ℕ)
    (was after now : HeldStream) → kept ≡ result_ok result → now.found ≡ option_map items kept → AreAlike now after
    → IfOk result (λ found. AllPast was.bank.position (items found))
    → OnOk result ((position : ℕ) → IsAbreast position was → IsAbreast (position + count) after)
    → (position : ℕ) → IsAbreast position was → TakesPart position count now
kept_part items (Ok v) kept count was after now is keeps alike past more position h =
    let there : now.found ≡ Some (items v) = keeps ∙ ap (option_map items) is in
    takes_part position count was now h
    (λ found found_is. subst (AllPast was.bank.position) (same_Some (items v) found (sym there ∙ found_is)) past)
    (λ has. abreast_alike (position + count) after now alike (more position h))
kept_part items (Err e) kept count was after now is keeps alike past more position h =
    let none : now.found ≡ None = keeps ∙ ap (option_map items) is in
    takes_part position count was now h
    (λ found found_is. absurd (none-some found (sym none ∙ found_is)))
    (λ has. absurd (none-some has.0 (sym none ∙ has.1)))
