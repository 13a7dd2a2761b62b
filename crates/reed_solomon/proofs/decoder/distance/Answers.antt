use Rattle.reed_solomon.proofs.Common.{◌≡◌, ℕ, ◌+◌, ◌++◌, [], ◌∷◌, cond, eqb, get_or, take, ap, ◌∙◌, refl, arith}
use Rattle.reed_solomon.proofs.Common.{eq-eqb, ne_eqb, take_more, length-take, distance}
use Rattle.reed_solomon.proofs.DistanceLemmas.{distance-push}
use Rattle.reed_solomon.proofs.decoder.distance.Goals.{then-word-i, else-word-i}
use Rattle.reed_solomon.proofs.decoder.distance.Goals as goal

abbrev unit : ℕ
unit = 1

abbrev nothing : ℕ
nothing = 0

pub loop-i-init : goal.loop-i-init
unfolding distance
loop-i-init c = record { value = refl; most = omega arith }

pub loop-i-preserved : goal.loop-i-preserved
loop-i-preserved c =
    let xs = c.args.word.now in
    let ys = c.args.other.now in
    let i = c.loop-i.i in
    let x = get_or xs i 0 in
    let y = get_or ys i 0 in
    let before = c.loop-i.invariant.value in
    let more = ap (λ zs. distance zs (take (i + 1) ys)) (take_more xs i 0 (omega arith))
    ∙ ap (distance (take i xs ++ x ∷ [])) (take_more ys i 0 (omega arith))
    ∙ distance-push (take i xs) (take i ys) x y (omega (arith, length-take i xs, length-take i ys)) in
    elim c.if-word-i.branch [
      | then-word-i w ↦
          let one : cond (eqb x y) 0 1 ≡ unit = ap (λ t. cond t nothing unit) (ne_eqb x y w.if-word-i.true) in
          record {
            value = omega (arith, before, more, one, w.count-is);
            most = omega (arith, c.loop-i.invariant.most, w.count-is);
          }
      | else-word-i w ↦
          let none : cond (eqb x y) 0 1 ≡ nothing = ap (λ t. cond t nothing unit) (eq-eqb x y w.if-word-i.false) in
          record {
            value = omega (arith, before, more, none, w.count-is);
            most = omega (arith, c.loop-i.invariant.most, w.count-is);
          }
    ]
