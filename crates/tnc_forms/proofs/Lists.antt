-- Lists in parts.
use Rattle.tnc_forms.proofs.Common.{◌≡◌, ℕ, List, ◌++◌, length, drop, sym, ap, ◌∙◌}
use Rattle.std.proofs.Math.Seq.{drop-append_seam}

-- what is left after the first part
pub drop-parts : {X : Type 0} (whole part rest : List X) (n : ℕ) → whole ≡ part ++ rest → length part ≡ n
    → drop n whole ≡ rest
drop-parts whole part rest n is sized =
    ap (drop n) is ∙ ap (λ k. drop k (part ++ rest)) (sym sized) ∙ drop-append_seam part rest
