use Rattle.wide_input.proofs.Common.{◌≡◌, ◌++◌, ℤ, List, length, take, sym, subst, IfOk, IfOk-weaker, Candidate}
use Rattle.wide_input.proofs.Common.{AreWideRest}
use Rattle.resampler.specs.Filtered.{filtered}
use Rattle.wide_input.specs.MergedItems.{settled_ends}
use Rattle.wide_input.specs.HeldDecoder.{HeldDecoder, StandsFor}
use Rattle.wide_input.proofs.DecoderLemmas.{end_given}
use Rattle.wide_input.proofs.wide_decoder.WideDecoder.finish.Goals as goal

pub returns-clause-rest : goal.returns-clause-rest
returns-clause-rest c =
    let part : List ℤ = take c.finish-count.result c.finish-count.new.out in
    let items : List Candidate = c.in_ok-items.items.items in
    let rest : List Candidate = c.in_ok-rest.rest.items in
    let P : HeldDecoder → Type 0 = λ old. IfOk c.join.result (λ joined. (x : List ℤ) → StandsFor old x
    → AreWideRest (settled_ends (length x)) (filtered x) joined.items) in
    subst P c.self.view_is (IfOk-weaker c.join.result
    (λ joined. joined.items ≡ items ++ rest)
    (λ joined. (x : List ℤ) → StandsFor (record { filter = c.self.inside.filter; bank = c.self.inside.bank }) x
    → AreWideRest (settled_ends (length x)) (filtered x) joined.items)
    (λ joined is x h. subst (λ (l : List Candidate). AreWideRest (settled_ends (length x)) (filtered x) l) (sym is)
    (end_given c.self.inside.filter c.self.inside.bank c.block.new.self part items rest c.finish-count.ensures.rest
    c.in_ok-items.ensures.given c.in_ok-rest.ensures.rest x h))
    c.join.ensures)
