use Rattle.agwpe_client.proofs.Common.{◌∷◌, ◌++◌, length, take, ap, ◌∙◌, sym, arith, length-append, flat_map}
use Rattle.agwpe_client.proofs.Common.{call_field}
use Rattle.agwpe_client.proofs.ListLemmas.{flat_map_more}
use Rattle.agwpe_client.proofs.messages.via_body.Goals as goal

pub loop-call-preserved : goal.loop-call-preserved
loop-call-preserved c = record {
  body = c.in_ok-extend_from_slice.ensures.items
      ∙ ap (λ xs. xs ++ c.call_text.result) c.loop-call.invariant.body
      ∙ ap (λ field. length c.args.via.now ∷ (flat_map call_field (take c.loop-call.call-index c.args.via.now)
      ++ field))
      c.call_text.ensures
      ∙ ap (λ xs. length c.args.via.now ∷ xs)
      (sym (flat_map_more call_field c.args.via.now c.loop-call.call-index c.call-item.result c.loop-call-test.true
      c.call-item.is));
  size = ap length c.in_ok-extend_from_slice.ensures.items
      ∙ omega (arith, length-append c.loop-call.body.items c.call_text.result, c.call_text.type_inv);
}
