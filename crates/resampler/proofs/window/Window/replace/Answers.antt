use Rattle.resampler.proofs.Common.{◌≡◌, ◌++◌, ◌∙◌, ℤ, List, length, take, drop, ap, sym}
use Rattle.std.proofs.Math.Seq.{take-append_seam}
use Rattle.resampler.proofs.window.Window.replace.Goals as goal

pub returns : goal.returns
returns c =
    let kept : List ℤ = c.copy_from_slice.new.self in
    let rest : List ℤ = drop 31 c.self.inside.samples in
    let size : length kept ≡ 31 = ap length c.copy_from_slice.ensures.after ∙ c.told-samples in
    ap (λ n. take n (kept ++ rest)) (sym size) ∙ take-append_seam kept rest ∙ c.copy_from_slice.ensures.after
