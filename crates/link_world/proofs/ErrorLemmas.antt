-- Errors that are passed on.
use Rattle.link_world.proofs.Common.{◌≡◌, sym, ◌∙◌, ap, Result, Err, ◌↔◌}

-- a result has one error
error_is : {T E : Type 0} (r : Result T E) (f e : E) → r ≡ Err f → r ≡ Err e → f ≡ e
error_is r f e h k = let same : Err f ≡ Err e = sym h ∙ k in cc

-- what says when a result is an error says so of the result that passes it on
pub same_error :
    {S T E P : Type 0} (r : Result S E) (q : Result T E) (f e : E) → r ≡ Err f → q ≡ Err f → ((r ≡ Err e) ↔ P) →
    ((q ≡ Err e) ↔ P)
same_error r q f e h k both =
    (λ x. both.0 (h ∙ ap Err (error_is q f e k x)), λ p. k ∙ ap Err (error_is r f e h (both.1 p)))
