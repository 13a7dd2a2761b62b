use Rattle.std.proofs.Common.{[], ◌∷◌}
use Rattle.tnc_encode.specs.Windows.{windows_of}
use Rattle.tnc_encode.proofs.windows.windows_of.Goals as goal

pub returns : goal.returns
unfolding windows_of
returns c = λ i.
    c.window.ensures i ∷ (c.window-2.ensures i ∷ (c.window-3.ensures i ∷ (c.window-4.ensures i ∷ (c.window-5.ensures i
    ∷ (c.window-6.ensures i ∷ [])))))
