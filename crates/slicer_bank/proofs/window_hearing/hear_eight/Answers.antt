use Rattle.slicer_bank.proofs.Common.{◌≡◌, ◌++◌, ℤ, List, Tone, length, take, ap, subst, refl, arith}
use Rattle.slicer_bank.proofs.Common.{bits_of, EndsFrame, HeldLane, LaneStandsFor}
use Rattle.std.proofs.Common.{add-one}
use Rattle.std.proofs.lemmas.Result.{on_ok_weaker}
use Rattle.slicer_bank.specs.Heard.{AddsAll}
unfoldable use Rattle.slicer_bank.specs.Heard.{tones_in}
use Rattle.slicer_bank.proofs.EightLemmas.{adds_none}
use Rattle.slicer_bank.proofs.window_hearing.hear_eight.Goals as goal

eight_tones_in : (w : List ℤ) → length (tones_in 8 w) ≡ 8
unfolding tones_in
eight_tones_in w = refl

pub returns-then-push_eight-clause-heard : goal.returns-then-push_eight-clause-heard
returns-then-push_eight-clause-heard c = λ tones s.
    let same = c.tones_of-tones.ensures in
    let eight : List Tone = c.tones_of-tones.result in (
      subst (λ t. LaneStandsFor c.push_eight.new.self (tones ++ t)) same
          (c.push_eight.ensures.taken tones s c.if-push_eight.true),
      subst (λ t. AddsAll c.args.offset c.args.end tones t c.args.found.now.items c.args.found.now.items) same
          (adds_none eight c.args.offset c.args.end tones c.args.found.now.items
          (λ k octets below. subst (λ n. ¬ EndsFrame (bits_of (tones ++ take n eight)) octets) (add-one k)
          (c.push_eight.ensures.quiet tones k octets s c.if-push_eight.true
          (omega (arith, ap length c.tones_of-tones.ensures, eight_tones_in c.args.windows.now))))),
    )

pub returns-clause-heard : goal.returns-clause-heard
returns-clause-heard c =
    let Heard : List Tone → HeldLane → Type 0 = λ eight before. (x : List Tone) → LaneStandsFor before x
    → LaneStandsFor c.hear_tones.new.lane (x ++ eight)
    × AddsAll c.args.offset c.args.end x eight c.args.found.now.items c.hear_tones.new.found.items in
    let so : Heard c.tones_of-tones.result c.push_eight.new.self → Heard (tones_in 8 c.args.windows.now) c.args.lane.now
    = λ heard x s.
    let same = c.tones_of-tones.ensures in
    let all = heard x (c.push_eight.ensures.left x s c.if-push_eight.false) in (
      subst (λ t. LaneStandsFor c.hear_tones.new.lane (x ++ t)) same all.0,
      subst (λ t. AddsAll c.args.offset c.args.end x t c.args.found.now.items c.hear_tones.new.found.items) same all.1,
    ) in
    on_ok_weaker c.hear_tones.result so c.hear_tones.ensures.heard
