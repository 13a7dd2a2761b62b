use Rattle.fx25_blocks.proofs.Common.{◌≡◌, ◌+◌, ◌*◌, ◌++◌, take, length, ap, sym, ◌∙◌, arith, octet_bits, sent_bits}
use Rattle.fx25_blocks.proofs.Common.{length_push}
use Rattle.std.proofs.Math.Seq.{take-add}
use Rattle.hdlc_framer.proofs.BitLemmas.{sent_bits-push}
use Rattle.fx25_blocks.proofs.packing.pack.Goals as goal

pub loop-place-preserved : goal.loop-place-preserved
loop-place-preserved c =
    let place = c.loop-place.place in
    let word = c.loop-place.word.items in
    let bits = c.args.bits.now in
    let next : 8 * place + 8 ≡ 8 * (place + 1) = omega arith in
    record {
      bits = ap sent_bits c.push.ensures.items ∙ sent_bits-push word c.octet_at.result
          ∙ ap (λ xs. xs ++ octet_bits c.octet_at.result) c.loop-place.invariant.bits
          ∙ ap (λ xs. take (8 * place) bits ++ xs) c.octet_at.ensures ∙ sym (take-add (8 * place) 8 bits)
          ∙ ap (λ n. take n bits) next;
      count = ap length c.push.ensures.items ∙ length_push word c.octet_at.result
          ∙ ap (λ n. n + 1) c.loop-place.invariant.count;
    }
