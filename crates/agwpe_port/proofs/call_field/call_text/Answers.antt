use Rattle.std.proofs.Common.{◌≡◌, ℕ, List, ◌++◌, length, drop, replicate, ap, ◌∙◌}
use Rattle.std.proofs.lemmas.List.{drop-replicate}
use Rattle.ax25_address.specs.CallText.{text_of_call}
use Rattle.agwpe_port.proofs.call_field.call_text.Goals as goal

pub returns : goal.returns
returns c =
    let text : List ℕ = text_of_call c.args.call.now in
    let octets : List ℕ = c.as_bytes-octets.result.now in
    let same : octets ≡ text = c.as_bytes-octets.ensures.value ∙ c.as_str.ensures.value ∙ c.text-text.ensures.text in
    ap (λ xs. xs ++ drop (length octets) (replicate 10 0)) (c.copy_from_slice.ensures.after ∙ same)
    ∙ ap (λ xs. text ++ drop (length xs) (replicate 10 0)) same
    ∙ ap (λ xs. text ++ xs) (drop-replicate (length text) 10 0)
