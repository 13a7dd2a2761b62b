use Rattle.reed_solomon.proofs.Common.{◌≡◌, ℕ, get_or, replicate, ◌∙◌, arith, inl, inr, cases_lt, get_or-set_other}
use Rattle.reed_solomon.proofs.Common.{length-replicate}
use Rattle.std.proofs.lemmas.List.{get_or-replicate, get_or_past}
use Rattle.reed_solomon.proofs.kernel.unit.Goals as goal

zeros-at : (n u : ℕ) → get_or {A = ℕ} (replicate n 0) u 0 ≡ 0
zeros-at n u =
    elim (cases_lt u n) [
      | inl below ↦ get_or-replicate n u 0 0 below
      | inr past ↦ get_or_past (replicate n 0) u 0 (omega (arith, length-replicate {A = ℕ} n 0))
    ]

pub returns-clause-elsewhere : goal.returns-clause-elsewhere
returns-clause-elsewhere c = λ u other.
    get_or-set_other (replicate 33 0) c.args.place u 1 0 other ∙ zeros-at 33 u
