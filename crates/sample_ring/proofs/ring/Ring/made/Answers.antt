use Rattle.sample_ring.proofs.Common.{◌≡◌, sym, ◌∙◌, subst, [], replicate, ◌+◌, opening, Holds, first_view}
use Rattle.std.proofs.Common.{rules}
use Rattle.sample_ring.proofs.Stepping.{opens}
use Rattle.sample_ring.proofs.ring.Ring.made.Goals as goal

pub of_words-requires : goal.of_words-requires
of_words-requires c =
    let zeros : c.in_ok-words.words.items ≡ replicate (c.args.len + 1) 0 = search rules in
    subst (λ words. Holds c.args.len (opening words [] (first_view c.args.len)))
    (sym (c.as_slice.ensures.value ∙ zeros)) (opens c.args.len c.requires.0)
