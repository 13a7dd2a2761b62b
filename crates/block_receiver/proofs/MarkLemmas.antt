-- Marks that are all at one position.
use Rattle.std.proofs.Common.{◌≡◌, ℕ, ◌-◌, ◌^◌, ◌≤◌, List, length, replicate, suc, zero, ap, ◌∙◌, arith}
use Rattle.std.proofs.lemmas.List.{length-replicate}
use Rattle.frame_merge.specs.Held.{least}
use Rattle.frame_merge.proofs.Taking.{least-one}

least_of : (lanes mark : ℕ) → 1 ≤ lanes → mark ≤ 2 ^ 64 - 1 → least (replicate lanes mark) ≡ mark
least_of zero mark some le = absurd (omega arith)
least_of (suc n) mark some le = least-one n mark le

-- the least of marks that were all set to one
pub least_is : (lanes low mark : ℕ) (old put marked : List ℕ) → old ≡ replicate lanes low → 1 ≤ lanes
    → mark ≤ 2 ^ 64 - 1 → put ≡ old → marked ≡ replicate (length put) mark → least marked ≡ mark
least_is lanes low mark old put marked was some le kept is =
    ap least is
    ∙ ap (λ n. least (replicate n mark)) (ap length (kept ∙ was) ∙ length-replicate lanes low)
    ∙ least_of lanes mark some le
