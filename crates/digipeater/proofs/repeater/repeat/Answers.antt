use Rattle.std.proofs.Common.{◌≡◌, ℕ, refl, ap, sym, ◌∙◌, get_or}
use Rattle.std.proofs.lemmas.List.{get_or_read}
use Rattle.std.proofs.lemmas.Bool.{false≢true}
use Rattle.ax25_address.specs.declared.path.Hop.{Hop}
use Rattle.digipeater.specs.Repeated.{IsTurnOf, repeated}
use Rattle.digipeater.proofs.Turns.{IsNextRepeater-same, none_is_next, turn_of_read, other_call, same_call}
use Rattle.digipeater.proofs.Turns.{IsTurnOf-read}
use Rattle.digipeater.proofs.repeater.repeat.Goals as goal

pub returns-in_default-next_repeater : goal.returns-in_default-next_repeater
returns-in_default-next_repeater c =
    let none : (k : ℕ) → IsTurnOf c.args.call.now c.args.octets.now k → ⊥ = λ k turn.
    let t = turn_of_read _ _ _ _ _ _ c.as_slice-hops.ensures.value c.in-Ok.ensures.each_path turn in
    none_is_next c.as_slice-hops.result.now k c.in_default-next_repeater.ensures.none t.0 in
    record {
      turn = (λ no. absurd (false≢true no), λ turn. absurd (none turn.0 turn.1));
      repeated = λ k turn. absurd (none k turn);
      unchanged = refl;
    }

pub returns-then-ne : goal.returns-then-ne
returns-then-ne c =
    let hops = c.as_slice-hops.result.now in
    let hop = c.index-hops-k.result in
    let none : (k : ℕ) → IsTurnOf c.args.call.now c.args.octets.now k → ⊥ = λ k turn.
    let t = turn_of_read _ _ _ _ _ _ c.as_slice-hops.ensures.value c.in-Ok.ensures.each_path turn in
    let here : c.in-Some.k ≡ k = IsNextRepeater-same c.as_slice-hops.result.now _ _ c.in-Some.ensures.next t.0 in
    other_call (get_or hops c.in-Some.k hop).call c.args.call.now (sym c.if-ne.ensures)
    (ap (λ j. (get_or hops j hop).call) here ∙ t.1 hop) in
    record {
      turn = (λ no. absurd (false≢true no), λ turn. absurd (none turn.0 turn.1));
      repeated = λ k turn. absurd (none k turn);
      unchanged = refl;
    }

pub returns : goal.returns
returns c =
    let hops = c.as_slice-hops.result.now in
    let hop = c.index-hops-k.result in
    let yes : IsTurnOf c.args.call.now c.args.octets.now c.in-Some.k =
    IsTurnOf-read _ _ _ _ _ _ hop c.as_slice-hops.ensures.value c.in-Ok.ensures.path c.in-Some.ensures.next
    (λ d. sym (get_or_read hops c.in-Some.k hop c.in-Some.ensures.next.within c.index-hops-k.is d))
    (ap (λ (h : Hop). h.call) c.index-hops-k.is ∙ same_call (get_or hops c.in-Some.k hop).call c.args.call.now
    (sym c.if-ne.ensures)) in
    record {
      turn = (λ _. (c.in-Some.k, yes), λ _. refl);
      repeated = λ k turn.
          let t = turn_of_read _ _ _ _ _ _ c.as_slice-hops.ensures.value c.in-Ok.ensures.each_path turn in
          ap (λ j. repeated c.args.octets.now j)
          (IsNextRepeater-same c.as_slice-hops.result.now _ _ c.in-Some.ensures.next t.0);
      unchanged = tt;
    }
