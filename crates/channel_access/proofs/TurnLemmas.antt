-- What is kept of what has happened so far.
use Rattle.channel_access.proofs.Common.{◌≡◌, ℕ, ◌+◌, ◌≤◌, ◌<◌, Bool, true, false, not, ◌&&◌, cond, leb, List, ◌∷◌}
use Rattle.channel_access.proofs.Common.{refl, ap}
use Rattle.channel_access.proofs.Common.{◌∙◌, ◌||◌, sym, arith, inl, inr, cond-true, cond-false, lt-ltb, ltb}
use Rattle.channel_access.proofs.Common.{le-leb}
use Rattle.std.proofs.lemmas.Bool.{le-ltb, cases_lt}
use Rattle.channel_access.specs.declared.listening.Listening.{Listening}
use Rattle.channel_access.specs.HeldTurns.{kept, listening_of}
use Rattle.channel_access.specs.Happenings.{Happening}
use Rattle.channel_access.specs.Happenings.Happening.{Ticked}
use Rattle.channel_access.specs.Turns.{quiet_ticks, quiet_before, becomes_busy}

kept_small : (n : ℕ) → n < 255 → kept n ≡ n
kept_small n small = cond-true (ltb n 255) n 255 (lt-ltb n 255 small)

kept_large : (n : ℕ) → 255 ≤ n → kept n ≡ 255
kept_large n large = cond-false (ltb n 255) n 255 (le-ltb n 255 large)

-- a count that is kept counts on as the count itself
kept_more : (n : ℕ) → kept (kept n + 1) ≡ kept (n + 1)
kept_more n =
    elim (cases_lt n 255) [
      | inl small ↦ ap (λ k. kept (k + 1)) (kept_small n small)
      | inr large ↦
          ap (λ k. kept (k + 1)) (kept_large n large) ∙ sym (kept_large (n + 1) (omega arith))
    ]

-- and a slot is longer than the one exactly if it is longer than the other
pub kept_slot : (slot n : ℕ) → slot < 256 → leb slot (kept n) ≡ leb slot n
kept_slot slot n fits =
    elim (cases_lt n 255) [
      | inl small ↦ ap (leb slot) (kept_small n small)
      | inr large ↦
          ap (leb slot) (kept_large n large) ∙ le-leb slot 255 (omega arith)
          ∙ sym (le-leb slot n (omega arith))
    ]

quiet_more : (loud : Bool) (n : ℕ) → cond loud 0 (kept (kept n + 1)) ≡ kept (cond loud 0 (n + 1))
quiet_more true n = refl
quiet_more false n = kept_more n

before_more : (becomes : Bool) (quiet before : ℕ) → cond becomes (kept quiet) (kept before)
    ≡ kept (cond becomes quiet before)
before_more true quiet before = refl
before_more false quiet before = refl

-- a listening after a tick
abbrev pub listened : Bool → Bool → Bool → Listening → Listening
listened busy began own l =
    let becomes = busy && not l.busy in
    record {
      spoken_to = l.spoken_to && not (began || becomes);
      busy = busy;
      own = own;
      quiet = cond (busy || own) 0 (kept (l.quiet + 1));
      before = cond becomes l.quiet l.before;
    }

pub listens : (busy began own : Bool) (past : List Happening) (l : Listening) → l ≡ listening_of past
    → listened busy began own l ≡ listening_of (Ticked busy began own ∷ past)
listens busy began own past l is =
    let kept_so : Listening = listening_of (Ticked busy began own ∷ past) in
    ap (listened busy began own) is
    ∙ ap (λ n. record (listened busy began own (listening_of past)) { quiet = n })
    (quiet_more (busy || own) (quiet_ticks past))
    ∙ ap (λ n. record kept_so { before = n })
    (before_more (becomes_busy busy past) (quiet_ticks past) (quiet_before past))
