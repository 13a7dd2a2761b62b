use Rattle.slicer_bank.proofs.Common.{◌≡◌, ◌∙◌, ◌+◌, ◌∷◌, ◌++◌, [], List, Tone, length, take, get_or, ap, sym, subst, refl}
use Rattle.slicer_bank.proofs.Common.{arith, append_assoc, append-nil, take_more, take_all, length-take-le, LaneStandsFor}
use Rattle.tone_table.specs.declared.tone.Tone.TheVariants.{Mark}
use Rattle.slicer_bank.specs.Heard.{AddsAll}
use Rattle.slicer_bank.proofs.EightLemmas.{adds_more}
use Rattle.slicer_bank.proofs.window_hearing.hear_tones.Goals as goal

pub loop-tone-init : goal.loop-tone-init
loop-tone-init c = record {
  at = omega arith;
  heard = λ x s. (subst (LaneStandsFor c.args.lane.now) (sym (append-nil x)) s, refl);
  bounds = λ position under each. each;
  asks = refl;
}

pub loop-tone-preserved : goal.loop-tone-preserved
loop-tone-preserved c =
    let xs : List Tone = c.args.tones.now in
    let i = c.loop-tone.tone-index in
    let inv = c.loop-tone.invariant in
    let inside = c.loop-tone-test.true in
    let place = inv.at in
    let next : take (i + 1) xs ≡ take i xs ++ get_or xs i Mark ∷ [] = take_more xs i Mark (omega (arith, c.told-tones)) in
    let size : length (take i xs) ≡ i = length-take-le i xs (omega (arith, c.told-tones)) in
    record {
      at = omega arith;
      heard = λ x s.
          let before = inv.heard x s in (
            subst (LaneStandsFor c.hear_tone.new.lane) (append_assoc x (take i xs) (get_or xs i Mark ∷ [])
                ∙ ap (λ y. x ++ y) (sym next)) (c.in_ok-hear_tone.ensures.stands_for (x ++ take i xs) before.0),
            subst (λ ts. AddsAll c.args.offset c.args.end x ts c.args.found.now.items c.hear_tone.new.found.items)
                (sym next)
                (adds_more (take i xs) (get_or xs i Mark) c.args.offset c.args.end c.loop-tone.at x
                c.args.found.now.items c.loop-tone.found.items c.hear_tone.new.found.items (omega (arith, size, place))
                before.1 (c.in_ok-hear_tone.ensures.found (x ++ take i xs) before.0)),
          );
      bounds = λ position under each. c.in_ok-hear_tone.ensures.bounds position (omega (arith, place))
          (inv.bounds position under each);
      asks = c.in_ok-hear_tone.ensures.asks ∙ inv.asks;
    }

pub returns-clause-heard : goal.returns-clause-heard
returns-clause-heard c = λ x s.
    let xs : List Tone = c.args.tones.now in
    let i = c.loop-tone.tone-index in
    let past = c.loop-tone-test.false in
    let all : take i xs ≡ xs = take_all i xs (omega (arith, c.told-tones)) in
    let heard = c.loop-tone.invariant.heard x s in (
      subst (λ t. LaneStandsFor c.loop-tone.lane (x ++ t)) all heard.0,
      subst (λ t. AddsAll c.args.offset c.args.end x t c.args.found.now.items c.loop-tone.found.items) all heard.1,
    )
