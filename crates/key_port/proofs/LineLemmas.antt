-- The last connection by its index, and calls of a script by theirs.
use Rattle.std.proofs.Common.{◌≡◌, ◌≢◌, ◌<◌, ℕ, ◌+◌, zero, suc, List, [], ◌∷◌, length, get_or, set, drop}
use Rattle.std.proofs.Common.{refl, ap, ◌∙◌, arith}
use Rattle.std.proofs.Math.Seq.{drop-cons}
use Rattle.std.proofs.lemmas.Bool.{eq-eqb, ne_eqb}
use Rattle.std.proofs.lemmas.List.{append-nil}
use Rattle.std.specs.Prelude.{not, ◌||◌, Bool, true, false, if◌then◌else◌, Option, Some, Result, Ok, Err}
use Rattle.std.specs.Prelude.{OnOk}
use Rattle.keying.specs.declared.line.End.{End}
use Rattle.key_port.specs.declared.mem_key.KeyOutcome.{KeyOutcome}
use Rattle.key_port.specs.KeyLines.{KeyLine, with_last, is_open, after_read, is_closed}
use Rattle.key_port.specs.KeyScripts.{scripted}

pub with_last-at : (change : KeyLine → KeyLine) (lines : List KeyLine) (k : ℕ) (d : KeyLine) → k + 1 ≡ length lines
    → with_last change lines ≡ set lines k (change (get_or lines k d))
with_last-at change [] k d e = absurd (omega arith)
with_last-at change (line ∷ []) zero d e = refl
with_last-at change (line ∷ []) (suc k) d e = absurd (omega arith)
with_last-at change (line ∷ next ∷ lines) zero d e = absurd (omega arith)
with_last-at change (line ∷ next ∷ lines) (suc k) d e =
    ap (λ ls. line ∷ ls) (with_last-at change (next ∷ lines) k d (omega arith))

pub is_open-at : (lines : List KeyLine) (k : ℕ) (d : KeyLine) → k + 1 ≡ length lines
    → is_open lines ≡ not (get_or lines k d).dropped
is_open-at [] k d e = absurd (omega arith)
is_open-at (line ∷ []) zero d e = refl
is_open-at (line ∷ []) (suc k) d e = absurd (omega arith)
is_open-at (line ∷ next ∷ lines) zero d e = absurd (omega arith)
is_open-at (line ∷ next ∷ lines) (suc k) d e = is_open-at (next ∷ lines) k d (omega arith)

-- no connection
pub none_last : (change : KeyLine → KeyLine) (lines : List KeyLine) → length lines ≡ 0
    → with_last change lines ≡ lines
none_last change [] e = refl
none_last change (line ∷ lines) e = absurd (omega arith)

-- a change that changes nothing
pub same_last : (change : KeyLine → KeyLine) (lines : List KeyLine) → ((line : KeyLine) → change line ≡ line)
    → with_last change lines ≡ lines
same_last change [] same = refl
same_last change (line ∷ []) same = ap (λ l. l ∷ []) (same line)
same_last change (line ∷ next ∷ lines) same = ap (λ ls. line ∷ ls) (same_last change (next ∷ lines) same)

or_false : (b : Bool) → (b || false) ≡ b
or_false true = refl
or_false false = refl

-- a read that brings nothing and is no end
pub read_nothing : (now : ℕ) (end : Option End) (lines : List KeyLine) → is_closed end ≡ false
    → with_last (after_read now [] end) lines ≡ lines
read_nothing now end lines e = same_last (after_read now [] end) lines
    (λ line. ap (λ steps. record line { steps = steps; ended = line.ended || is_closed end }) (append-nil line.steps)
    ∙ ap (λ ended. record line { ended = ended }) (ap (λ b. line.ended || b) e ∙ or_false line.ended))

-- what holds of an Ok
pub on_ok : {T E : Type 0} {P Q : Type 0} → (r : Result T E) → (P → Q) → OnOk r P → OnOk r Q
on_ok (Ok v) f h = f h
on_ok (Err x) f h = h

-- ---- the script

pub scripted_here : (script : List (ℕ × KeyOutcome)) (i call : ℕ) (d : ℕ × KeyOutcome) → i < length script
    → (get_or script i d).0 ≡ call → scripted call (drop i script) ≡ Some (get_or script i d).1
scripted_here script i call d lt e =
    ap (scripted call) (drop-cons script i d lt)
    ∙ ap (λ b. if b then Some (get_or script i d).1 else scripted call (drop (suc i) script)) (eq-eqb _ _ e)

pub scripted_later : (script : List (ℕ × KeyOutcome)) (i call : ℕ) (d : ℕ × KeyOutcome) → i < length script
    → (get_or script i d).0 ≢ call → scripted call (drop i script) ≡ scripted call (drop (i + 1) script)
scripted_later script i call d lt ne =
    ap (scripted call) (drop-cons script i d lt)
    ∙ ap (λ b. if b then Some (get_or script i d).1 else scripted call (drop (suc i) script)) (ne_eqb _ _ ne)
    ∙ (let e : suc i ≡ i + 1 = omega arith in ap (λ k. scripted call (drop k script)) e)
