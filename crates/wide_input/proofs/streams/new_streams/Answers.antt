use Rattle.wide_input.proofs.Common.{◌≤◌, ◌+◌, ◌∷◌, [], ℕ, ap, sym, subst, ◌∙◌, arith, length, get_or, All, All-append}
use Rattle.wide_input.proofs.Common.{All-nil, HeldStream, StreamStandsFor, IsAbreast}
use Rattle.std.proofs.lemmas.List.{length_push}
use Rattle.std.proofs.lemmas.List.Elements.{All-cons}
use Rattle.wide_input.proofs.Visits.{each_push}
use Rattle.wide_input.proofs.streams.new_streams.Goals as goal

pub loop-number-preserved : goal.loop-number-preserved
loop-number-preserved c =
    let before = c.loop-number.invariant in
    let n : ℕ = c.loop-number.number in
    let made : HeldStream = c.in_ok-new.field-0 in
    let items = c.in_ok-push.ensures.items in
    let P : HeldStream → Type 0 = λ held. held.bank.position ≤ 0 in
    record {
      count = ap length items ∙ length_push c.loop-number.streams.items made ∙ ap (λ k. k + 1) before.count;
      stand_for = λ k d l. subst (λ held. StreamStandsFor k held []) (sym (ap (λ t. get_or t k d) items))
          (each_push (λ k held. StreamStandsFor k held []) c.loop-number.streams.items n made before.count
          before.stand_for c.in_ok-new.ensures.stands_for k d l);
      positions = subst (All P) (sym items) (All-append P c.loop-number.streams.items (made ∷ []) before.positions
          (All-cons P made [] (let at = c.in_ok-new.ensures.position in omega arith) (All-nil P)));
      abreast = subst (All (IsAbreast 0)) (sym items) (All-append (IsAbreast 0) c.loop-number.streams.items (made ∷ [])
          before.abreast (All-cons (IsAbreast 0) made [] c.in_ok-new.ensures.abreast (All-nil (IsAbreast 0))));
    }
