use Rattle.reed_solomon.proofs.Common.{◌≡◌, length, get_or, map, bit_xor, ap, sym, ◌∙◌, arith, ext_get_or, length-map}
use Rattle.reed_solomon.proofs.Common.{product, added}
use Rattle.std.proofs.lemmas.List.{get_or-map}
use Rattle.reed_solomon.proofs.ValueLemmas.{length-added, get_or-added}
use Rattle.reed_solomon.proofs.add_multiple.add_multiple.Goals as goal

pub returns : goal.returns
returns c =
    let old = c.args.octets.now in
    let others = c.args.others.now in
    let scaled = map (product c.args.factor) others in
    let same : length old ≡ length scaled = omega (arith, length-map others (product c.args.factor)) in
    ext_get_or 0 c.loop-i.octets (added old scaled) (omega (arith, length-added old scaled same)) (λ k below.
    c.loop-i.invariant.done k (omega arith)
    ∙ ap (bit_xor (get_or old k 0)) (sym (get_or-map (product c.args.factor) others k 0 0 (omega arith)))
    ∙ sym (get_or-added old scaled k same))
