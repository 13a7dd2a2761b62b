use Rattle.station.proofs.Common.{ℕ, List, [], ◌∷◌, ◌∙◌, ap, Params}
use Rattle.channel_access.specs.declared.parameters.Parameters.{Parameters}
use Rattle.station.proofs.HearLemmas.{links_counted}
use Rattle.station.proofs.parts.Parts.capabilities.Goals as goal

pub returns : goal.returns
returns c = λ s parts.
    let told : Parameters → Params → ℕ → List ℕ = λ set params count.
    0 ∷ 255 ∷ set.tx_delay ∷ set.tx_tail ∷ set.persist ∷ set.slot_time ∷ params.window ∷ count ∷ 1 ∷ 0 ∷ 0 ∷ 0 ∷ [] in
    ap (λ (set : Parameters). told set c.get.result c.len.result)
    (c.parameters-set.ensures s.channel parts.channel)
    ∙ ap (λ (params : Params). told s.channel.parameters params c.len.result)
    (c.get.ensures.value ∙ parts.parameters)
    ∙ ap (λ (count : ℕ). told s.channel.parameters s.parameters count) (c.len.ensures.count
    ∙ links_counted c.args.self.now.links s.links parts.links)
