use Rattle.hf_tracking.proofs.Common.{◌∙◌, FitsSigned, w64, rules, to_z-of_z, Mark, Space, decided, if◌then◌else◌, int_le}
use Rattle.hf_tracking.proofs.decision.decide.Goals as goal

pub returns : goal.returns
unfolding decided
returns c =
    let fits_mark : FitsSigned w64 c.total_gain-mark.result = search rules in
    let fits_space : FitsSigned w64 c.total_gain-space.result = search rules in
    let better = simp to_z-of_z at c.better.ensures in
    let mark = c.total_gain-mark.ensures in
    let space = c.total_gain-space.ensures in
    better ∙ (λ i. if int_le (space i) (mark i) then Mark else Space)
