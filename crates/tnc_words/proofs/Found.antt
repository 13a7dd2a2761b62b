-- What clap found for an option.
use Rattle.tnc_words.proofs.Common.{◌≡◌, Bool, true, false, ◌&&◌, Option, Some, None, refl, ap, ◌∙◌, sym, subst, IfOk}
use Rattle.tnc_words.proofs.Common.{bytes_eq, App, Row, Text, is_simple_and_free, rows_of}
use Rattle.std.proofs.Common.{true≢false, find}
use Rattle.std.specs.Prelude.{option_map, option_and_then, Result, IfSome, IsNone, IsErrAnd, IsErrOf, is_ok, ok_or}
use Rattle.clap.specs.Matches.{matched_of}
use Rattle.clap.specs.Walk.{row_of}
use Rattle.clap.specs.Facts.{Entry}
use Rattle.clap.specs.Words.{is_simple}
use Rattle.clap.specs.declared.parser.matches.Found.{Found}
use Rattle.clap.specs.declared.parser.matches.MatchedArg.{MatchedArg}
use Rattle.clap.proofs.WalkLemmas.{find_row}

-- where a value came from, by the rows
pub source-rows : (found : Found) (name : Text)
    → option_and_then (λ (a : MatchedArg). a.source) (matched_of found name)
    ≡ option_and_then (λ (row : Row). row.source) (find (λ row. bytes_eq row.id name) (rows_of found))
source-rows found name =
    go (find (λ e. bytes_eq e.0.now name) found.entries.items)
    ∙ ap (option_and_then (λ (row : Row). row.source)) (sym (find_row found.entries.items name))
  where
    go : (o : Option Entry) → option_and_then (λ (a : MatchedArg). a.source) (option_map (λ e. e.1) o)
        ≡ option_and_then (λ (row : Row). row.source) (option_map row_of o)
    go None = refl
    go (Some e) = refl

and_left : (a b : Bool) → (a && b) ≡ true → a ≡ true
and_left true b h = refl
and_left false b h = h

-- a command whose options have no rule on one another is simple
pub is_simple-free : (app : App) → is_simple_and_free app ≡ true → is_simple app ≡ true
is_simple-free app h = and_left (is_simple app) _ h

-- an error that was passed on is the one that came
pub passed_on : {T E : Type 0} (r : Result T E) (e f : E) → IsErrOf r f → IsErrAnd r (λ x. x ≡ e) → e ≡ f
passed_on r e f h k = let same : f ≡ e = subst (λ q. IsErrAnd q (λ x. x ≡ e)) h k in sym same

-- an answer that is there or else an error: what it is
pub chosen : {T E : Type 0} (o : Option T) (r : Result T E) (e : E) (Q : T → Type 0) {P : T → Type 0} → r ≡ ok_or o e
    → ((x : T) → P x → Q x) → IfSome o P → IfOk r Q
chosen (Some x) r e Q is f h = subst (λ q. IfOk q Q) (sym is) (f x h)
chosen None r e Q is f h = subst (λ q. IfOk q Q) (sym is) tt

-- and that there was none
pub not_chosen : {T E : Type 0} (o : Option T) (r : Result T E) (e f : E) → r ≡ ok_or o e → IsErrOf r f → IsNone o
not_chosen (Some x) r e f is h = absurd (true≢false (ap is_ok (sym is ∙ h)))
not_chosen None r e f is h = refl

-- there is no answer
pub is_none : {T : Type 0} (o : Option T) → o ≡ None → IsNone o
is_none o is = subst IsNone (sym is) refl
