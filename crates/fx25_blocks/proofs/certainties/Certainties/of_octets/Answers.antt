use Rattle.fx25_blocks.proofs.Common.{◌≡◌, ℕ, ◌-◌, ◌*◌, List, length, drop, subst, ◌∙◌, arith}
use Rattle.fx25_blocks.specs.UnsureBlocks.{AreOctetCertainties}
use Rattle.fx25_blocks.proofs.CertaintyLemmas.{last_are}
use Rattle.fx25_blocks.proofs.certainties.Certainties.of_octets.Goals as goal

pub returns-clause-certainties : goal.returns-clause-certainties
returns-clause-certainties c = λ numbers stands within.
    let held = c.args.self.now in
    let items = c.last_numbers-numbers.result.items in
    let last : c.as_slice.result.now ≡ drop (length numbers - 8 * c.args.count) numbers =
    c.as_slice.ensures.value
    ∙ last_are held.numbers numbers items held.next (8 * c.args.count) stands.next_is stands.kept (omega (arith, c.requires))
    within c.last_numbers-numbers.ensures.size c.last_numbers-numbers.ensures.each in
    let P : List ℕ → Type 0 = λ ns. AreOctetCertainties ns c.least_of_octets.result.items in
    subst P last c.least_of_octets.ensures.certainties
