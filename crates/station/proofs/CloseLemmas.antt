-- The ids of the connections that are there, when some of them are closed.
use Rattle.station.proofs.Common.{◌≡◌, ℕ, List, [], ◌∷◌, ◌++◌, refl, sym, ◌∙◌, ap, Parts, ids_in, without_ids, Out}
use Rattle.station.proofs.Common.{Result, Ok, Err, OnOk}
use Rattle.station.specs.Held.{ClosesIds}

-- nothing is closed
pub closes_none : (parts now : Parts) (out gave : Out) → ids_in now ≡ ids_in parts → gave.closed ≡ out.closed
    → ClosesIds parts out now gave
closes_none parts now out gave same closed = λ ids is.
    same ∙ is ∙ ap (λ gone. without_ids gone ids) (sym closed)

-- one closing after another
closed_twice : (first second ids : List ℕ)
    → without_ids (first ++ second) ids ≡ without_ids second (without_ids first ids)
closed_twice [] second ids = refl
closed_twice (id ∷ first) second ids = closed_twice first second _

-- one connection is closed
pub closes_one : (parts now : Parts) (out gave : Out) (id : ℕ)
    → ids_in now ≡ without_ids (id ∷ []) (ids_in parts) → gave.closed ≡ out.closed ++ id ∷ []
    → ClosesIds parts out now gave
closes_one parts now out gave id left closed = λ ids is.
    left ∙ ap (without_ids (id ∷ [])) is ∙ sym (closed_twice out.closed (id ∷ []) ids)
    ∙ ap (λ gone. without_ids gone ids) (sym closed)

-- one act after another
pub closes_more : (first then last : Parts) (out given gave : Out) → ClosesIds first out then given
    → ClosesIds then given last gave → ClosesIds first out last gave
closes_more first then last out given gave one two = λ ids is. two ids (one ids is)

-- what follows from two clauses
pub on_ok_both : {T E P Q R : Type 0} (r : Result T E) → (P → Q → R) → OnOk r P → OnOk r Q → OnOk r R
on_ok_both (Ok x) f p q = f p q
on_ok_both (Err e) f p q = tt
