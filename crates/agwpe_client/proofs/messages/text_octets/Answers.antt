use Rattle.agwpe_client.proofs.Common.{ℕ, List, ◌++◌, ap, ◌∙◌, sym, flat_map, range_with_len, spelling, data_message}
use Rattle.agwpe_client.proofs.Common.{piece_at}
use Rattle.agwpe_client.proofs.ListLemmas.{flat_map_range_more}
use Rattle.agwpe_client.proofs.messages.text_octets.Goals as goal

pub loop-place-preserved : goal.loop-place-preserved
loop-place-preserved c =
    let f : ℕ → List ℕ = λ k. spelling (data_message c.args.own.now c.args.remote.now (piece_at c.args.text.now k)) in
    c.in_ok-extend_from_slice.ensures.items
    ∙ ap (λ xs. xs ++ c.as_slice.result.now) c.loop-place.invariant
    ∙ ap (λ xs. flat_map f (range_with_len 0 c.loop-place.place) ++ xs)
    (c.as_slice.ensures.list ∙ c.in_ok-message.ensures)
    ∙ sym (flat_map_range_more f c.loop-place.place)
