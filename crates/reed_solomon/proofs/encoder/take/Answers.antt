use Rattle.reed_solomon.proofs.Common.{◌≡◌, [], ◌∷◌, ◌++◌, length, get_or, drop, map, bit_xor, ap, ◌∙◌, product, added}
use Rattle.reed_solomon.proofs.Common.{taken}
use Rattle.std.proofs.lemmas.List.{get_or_read}
use Rattle.reed_solomon.proofs.RegisterLemmas.{refill_all}
use Rattle.reed_solomon.proofs.encoder.take.Goals as goal

pub returns : goal.returns
unfolding taken
returns c =
    let old = c.args.register.now.items in
    let g = c.args.generator.now in
    let octet = c.args.octet in
    let h = c.remove.result in
    let front : h ≡ get_or old 0 0 = get_or_read old 0 h c.requires.some c.remove.ensures.value 0 in
    let moved : c.as_mut_slice.result.now ≡ drop 1 old ++ 0 ∷ [] =
    c.as_mut_slice.ensures.value ∙ c.push.ensures.items ∙ ap (λ xs. xs ++ 0 ∷ []) c.remove.ensures.items in
    refill_all _ c.push.new.self.items c.add_multiple.new.octets
    (c.add_multiple.auto.octets ∙ ap length c.as_mut_slice.ensures.value)
    ∙ c.add_multiple.ensures ∙ ap (λ xs. added xs (map (product (bit_xor octet h)) g)) moved
    ∙ ap (λ n. added (drop 1 old ++ 0 ∷ []) (map (product (bit_xor octet n)) g)) front
