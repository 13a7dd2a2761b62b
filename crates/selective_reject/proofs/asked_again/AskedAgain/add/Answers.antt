use Rattle.std.proofs.Common.{◌≡◌, ◌++◌, ◌∷◌, length, nat_lt, filter, ap, sym, ◌∙◌, subst, arith}
use Rattle.selective_reject.specs.Again.{RisesBelow, with_number}
use Rattle.selective_reject.proofs.AgainLemmas.{rises_with, room_with}
use Rattle.selective_reject.proofs.asked_again.AskedAgain.add.Goals as goal

pub invariant_of-self : goal.invariant_of-self
invariant_of-self c =
    let n = c.args.number in
    let old = c.self.inside.numbers.items in
    let is : c.joined-numbers.result.items ≡ with_number n old = c.joined-numbers.ensures.numbers
    ∙ ap (λ t. t ++ n ∷ c.above-rest.result.items) c.below-first.ensures.numbers
    ∙ ap (λ t. filter (λ m. nat_lt m n) old ++ n ∷ t) c.above-rest.ensures.numbers in
    subst (RisesBelow 0 127) (sym is) (rises_with 127 n old c.requires c.self.invariant)

pub joined-numbers-requires : goal.joined-numbers-requires
joined-numbers-requires c =
    let n = c.args.number in
    let old = c.self.inside.numbers.items in
    let first : length c.below-first.result.items ≡ length (filter (λ m. nat_lt m n) old) =
    ap length c.below-first.ensures.numbers in
    let rest : length c.above-rest.result.items ≡ length (filter (nat_lt n) old) = ap length c.above-rest.ensures.numbers
    in
    let room = room_with 127 n old c.requires c.self.invariant in
    omega (arith, first, rest, room)
