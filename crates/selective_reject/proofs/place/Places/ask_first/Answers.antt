use Rattle.std.proofs.Common.{◌≡◌, ℕ, ◌+◌, ◌%◌, ◌<◌, true, false, length, map, get_or, ap, sym, ◌∙◌, arith}
use Rattle.selective_reject.specs.Places.{empty_place, misses, is_missing, with_asked}
use Rattle.selective_reject.proofs.PlaceLemmas.{missing-none, asked-none, length-asked, get_or-asked, asked-more}
use Rattle.selective_reject.proofs.PlaceLemmas.{numbers-more}
use Rattle.selective_reject.proofs.place.Places.ask_first.Goals as goal
use Rattle.selective_reject.proofs.place.Places.ask_first.Goals.{then-ask, else-ask}

pub loop-place-init : goal.loop-place-init
loop-place-init c =
    let f : ℕ → ℕ = λ k. (c.args.vr + k) % c.args.modulus in
    record {
      places = sym (asked-none c.args.self.now);
      numbers = c.new-numbers.ensures ∙ ap (map f) (sym (missing-none c.args.self.now));
      room = let none = ap length c.new-numbers.ensures in omega arith;
    }

pub ask-requires : goal.ask-requires
ask-requires c =
    let same : length c.loop-place.self ≡ length c.args.self.now = ap length c.loop-place.invariant.places
    ∙ length-asked c.args.self.now c.loop-place.place in
    omega arith

pub loop-place-preserved : goal.loop-place-preserved
loop-place-preserved c =
    let old = c.args.self.now in
    let place = c.loop-place.place in
    let inv = c.loop-place.invariant in
    let f : ℕ → ℕ = λ k. (c.args.vr + k) % c.args.modulus in
    let within : place < length old = omega arith in
    let is : c.ask.result ≡ is_missing old place = c.ask.ensures.asked
    ∙ ap (λ t. misses (get_or t place empty_place)) inv.places ∙ ap misses (get_or-asked old place empty_place) in
    record {
      places = c.ask.ensures.places ∙ ap (λ t. with_asked t place) inv.places ∙ asked-more old place within;
      numbers = elim c.if-ask.branch [
        | then-ask w ↦ ap (λ t. t.items) w.numbers-is ∙ w.push.ensures.items
            ∙ numbers-more f old place true c.loop-place.numbers.items (sym w.if-ask.true ∙ is) inv.numbers
        | else-ask w ↦ ap (λ t. t.items) w.numbers-is ∙ numbers-more f old place false c.loop-place.numbers.items
            (sym w.if-ask.false ∙ is) inv.numbers
      ];
      room = elim c.if-ask.branch [
        | then-ask w ↦ let same = ap (λ t. length t.items) w.numbers-is in omega (arith, w.push.ensures.len)
        | else-ask w ↦ let same = ap (λ t. length t.items) w.numbers-is in omega arith
      ];
    }
