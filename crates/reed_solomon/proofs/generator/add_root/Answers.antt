use Rattle.reed_solomon.proofs.Common.{◌≡◌, [], ◌∷◌, ◌++◌, length, map, ap, ◌∙◌, product, added, with_root}
use Rattle.reed_solomon.proofs.RegisterLemmas.{refill_all}
use Rattle.reed_solomon.proofs.generator.add_root.Goals as goal

pub returns-clause-items : goal.returns-clause-items
unfolding with_root
returns-clause-items c =
    let old = c.args.rest.now.items in
    let all : c.as_slice-2.result.now ≡ 1 ∷ old =
    c.as_slice-2.ensures.value ∙ c.with_highest-before.ensures ∙ ap (λ xs. 1 ∷ xs) c.as_slice.ensures.value in
    let longer : c.as_mut_slice.result.now ≡ old ++ 0 ∷ [] = c.as_mut_slice.ensures.value ∙ c.push.ensures.items in
    refill_all _ c.push.new.self.items c.add_multiple.new.octets
    (c.add_multiple.auto.octets ∙ ap length c.as_mut_slice.ensures.value)
    ∙ c.add_multiple.ensures
    ∙ ap (λ xs. added xs (map (product c.args.root) c.as_slice-2.result.now)) longer
    ∙ ap (λ xs. added (old ++ 0 ∷ []) (map (product c.args.root) xs)) all
