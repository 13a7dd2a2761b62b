use Rattle.std.proofs.Common.{◌≡◌, ◌≤◌, ◌++◌, ◌∷◌, [], length, ap, sym, ◌∙◌, arith}
use Rattle.std.specs.Prelude.{slice_get}
use Rattle.std.specs.Option.{option_copied}
use Rattle.circular_buffer.specs.Buffer.{keep_last}
use Rattle.selective_reject.proofs.Copies.{kept_next, none_next}
use Rattle.selective_reject.proofs.place.Places.copy.Goals as goal
use Rattle.selective_reject.proofs.place.Places.copy.Goals.{in-Some+in_ok-copy+in-None-1}
use Rattle.selective_reject.proofs.place.Places.copy.Goals.{in-Some+in_ok-copy+in-Some+in-None-1}
use Rattle.selective_reject.proofs.place.Places.copy.Goals.{in-Some+in_ok-copy+in-Some+in-Some-push_back-2, in_default}

pub loop-place-preserved : goal.loop-place-preserved
loop-place-preserved c =
    let xs = c.args.self.now in
    let place = c.loop-place.place in
    let ps = c.loop-place.places.items in
    let most = c.loop-place.places.capacity in
    let same : c.self.inside.places.items ≡ xs = c.self.view_is in
    let fits : length xs ≤ most = let room = c.self.invariant.1 in let size = ap length same in let capacity =
    c.loop-place.invariant.1 in omega arith in
    elim c.match-get.branch [
      | in-Some+in_ok-copy+in-None-1 w ↦ (
        ap (λ b. b.items) (w.places-is ∙ w.push_back.ensures.items)
            ∙ ap (λ x. keep_last most (ps ++ x ∷ [])) w.in_ok-copy.ensures
            ∙ kept_next most place ps xs w.in-Some.place.now c.loop-place.invariant.0
            (ap (λ ys. slice_get ys place) (sym same) ∙ sym c.get.ensures ∙ ap option_copied w.in-Some.is) fits,
        ap (λ b. b.capacity) (w.places-is ∙ w.push_back.ensures.items) ∙ c.loop-place.invariant.1,
      )
      | in-Some+in_ok-copy+in-Some+in-None-1 w ↦ (
        ap (λ b. b.items) (w.places-is ∙ w.push_back.ensures.items)
            ∙ ap (λ x. keep_last most (ps ++ x ∷ [])) w.in_ok-copy.ensures
            ∙ kept_next most place ps xs w.in-Some.place.now c.loop-place.invariant.0
            (ap (λ ys. slice_get ys place) (sym same) ∙ sym c.get.ensures ∙ ap option_copied w.in-Some.is) fits,
        ap (λ b. b.capacity) (w.places-is ∙ w.push_back.ensures.items) ∙ c.loop-place.invariant.1,
      )
      | in-Some+in_ok-copy+in-Some+in-Some-push_back-2 w ↦ (
        ap (λ b. b.items) (w.places-is ∙ w.push_back.ensures.items)
            ∙ ap (λ x. keep_last most (ps ++ x ∷ [])) w.in_ok-copy.ensures
            ∙ kept_next most place ps xs w.in-Some.place.now c.loop-place.invariant.0
            (ap (λ ys. slice_get ys place) (sym same) ∙ sym c.get.ensures ∙ ap option_copied w.in-Some.is) fits,
        ap (λ b. b.capacity) (w.places-is ∙ w.push_back.ensures.items) ∙ c.loop-place.invariant.1,
      )
      | in_default w ↦
          let end = c.len-place-end.ensures.len in
          let before = c.loop-place-test.true in
          let size = ap length same in
          absurd (none_next xs place (omega arith)
          (ap (λ ys. slice_get ys place) (sym same) ∙ sym c.get.ensures ∙ ap option_copied w.in_default.is))
    ]
