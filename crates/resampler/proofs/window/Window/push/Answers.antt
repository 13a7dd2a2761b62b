use Rattle.resampler.proofs.Common.{◌≡◌, ◌≤◌, ◌<◌, ◌∙◌, ◌∷◌, [], ◌++◌, ◌+◌, length, take, drop, set, ap, sym, arith, rules}
use Rattle.resampler.proofs.Common.{to_z-of_z, w16}
use Rattle.resampler.proofs.WindowLemmas.{slid_on, slid_back, last_window-push}
use Rattle.resampler.proofs.window.Window.push.Goals as goal

pub returns-then-self-lt-LAST : goal.returns-then-self-lt-LAST
returns-then-self-lt-LAST c = λ x is.
    let inside : c.self.inside.begin + 31 < length c.self.inside.samples = search rules in
    ap (λ z. take 31 (drop (c.self.inside.begin + 1) (set c.self.inside.samples (c.self.inside.begin + 31) z)))
    (to_z-of_z w16 c.args.sample c.ranges.sample)
    ∙ slid_on c.self.inside.samples c.self.inside.begin c.args.sample inside
    ∙ ap (λ w. drop 1 w ++ c.args.sample ∷ []) (c.self.view_is ∙ is)
    ∙ sym (last_window-push x c.args.sample)

pub returns-else-self-lt-LAST : goal.returns-else-self-lt-LAST
returns-else-self-lt-LAST c = λ x is.
    let most = c.self.invariant in
    let past = c.if-self-lt-LAST.false in
    let at : 481 ≡ c.self.inside.begin = omega arith in
    let whole : length c.self.inside.samples ≡ 512 = search rules in
    ap (λ z. take 31 (set c.copy_within.new.self 30 z)) (to_z-of_z w16 c.args.sample c.ranges.sample)
    ∙ slid_back c.self.inside.samples c.copy_within.new.self c.args.sample whole c.copy_within.ensures.len
    c.copy_within.ensures.after
    ∙ ap (λ n. drop 1 (take 31 (drop n c.self.inside.samples)) ++ c.args.sample ∷ []) at
    ∙ ap (λ w. drop 1 w ++ c.args.sample ∷ []) (c.self.view_is ∙ is)
    ∙ sym (last_window-push x c.args.sample)
