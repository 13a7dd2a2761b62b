use Rattle.hf_modem.proofs.Common.{◌∙◌, ◌∷◌, [], ◌++◌, length, set, drop, ap, sym, to_z-of_z, w16}
use Rattle.hf_modem.proofs.LastWindow.{shifted, length-last_window, last_window-push}
use Rattle.hf_modem.proofs.recent.Recent.push.Goals as goal

pub returns : goal.returns
returns c = λ x is.
    ap (λ z. set c.copy_within.new.self 31 z) (to_z-of_z w16 c.args.sample c.ranges.sample)
    ∙ shifted c.self.inside.window c.copy_within.new.self c.args.sample (ap length (c.self.view_is ∙ is)
    ∙ length-last_window x) c.copy_within.ensures.len c.copy_within.ensures.after
    ∙ ap (λ w. drop 1 w ++ c.args.sample ∷ []) (c.self.view_is ∙ is)
    ∙ sym (last_window-push x c.args.sample)
