use Rattle.station.proofs.Common.{◌≡◌, ◌<◌, ℕ, length, Bool, true, option_map, Option, Some, sym, ◌∙◌, ap, arith}
use Rattle.station.proofs.Common.{get_or, is_same_call, Registration}
use Rattle.station.proofs.Searches.{find_at, find_none}
use Rattle.station.proofs.parts.Parts.registrar.Goals as goal

pub returns-then-eq : goal.returns-then-eq
returns-then-eq c =
    let items = c.args.self.now.registrations.items in
    let i = c.loop-registration.registration-index in
    let item = c.registration-item.result in
    let test : Registration → Bool = λ registration. is_same_call registration.call c.args.call.now in
    let owner : Option Registration → Option ℕ = option_map (λ (registration : Registration). registration.id) in
    let given : c.deref-registration-items.result.now ≡ items = c.deref-registration-items.ensures.value in
    let is : item ≡ get_or items i item = c.registration-item.is ∙ ap (λ xs. get_or xs i item) given in
    let here : test (get_or items i item) ≡ true = ap test (sym is) ∙ sym c.eq.ensures ∙ c.if-eq.true in
    let within : i < length items = omega (arith, c.loop-registration-test.true, ap length given) in
    sym (ap owner (find_at test items i item within (λ j less. c.loop-registration.invariant j item less) here)
    ∙ ap (λ (registration : Registration). Some registration.id) (sym is))

pub returns : goal.returns
returns c =
    let items = c.args.self.now.registrations.items in
    let d : Registration = record { call = c.args.call.now; id = 0 } in
    let test : Registration → Bool = λ registration. is_same_call registration.call c.args.call.now in
    let owner : Option Registration → Option ℕ = option_map (λ (registration : Registration). registration.id) in
    sym (ap owner (find_none test items d (λ j less. c.loop-registration.invariant j d
    (omega (arith, less, ap length c.deref-registration-items.ensures.value)))))
