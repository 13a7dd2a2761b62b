use Rattle.ax25_address.proofs.Common.{◌≡◌, ◌+◌, ◌++◌, List, length, ap, arith, ◌∙◌, sym, eqb, get_or, field_octets}
use Rattle.ax25_address.proofs.Common.{repeater_count, Hop}
use Rattle.std.proofs.lemmas.List.{get_or_read}
use Rattle.ax25_address.proofs.Written.{AreWrittenSoFar-two, AreWrittenSoFar-push, IsWrittenPath-so_far}
use Rattle.ax25_address.proofs.Written.{BeginsWithPath-written}
use Rattle.ax25_address.proofs.spelling.write_path.Goals as goal

pub loop-k-init : goal.loop-k-init
loop-k-init c =
    let path = c.args.path.now in
    AreWrittenSoFar-two path c.new-octets.result.items _ _ _ _ _ c.push_field.ensures.valid c.push_field-2.ensures.valid
    c.new-octets.ensures c.c_bits-dest_bit.ensures.dest c.c_bits-dest_bit.ensures.source
    (c.is_empty.ensures ∙ ap (λ (xs : List Hop). eqb (length xs) 0) c.as_slice-hops.ensures.value)
    c.push_field.ensures.octets c.push_field-2.ensures.octets

pub loop-k-preserved : goal.loop-k-preserved
loop-k-preserved c =
    let path = c.args.path.now in
    let hop = c.index-hops-k.result in
    let e : c.push_field-in-loop-k.new.octets.items ≡ c.loop-k.octets.items
    ++ field_octets hop.call hop.done 3 (eqb (c.loop-k.k + 1) (repeater_count path)) =
    c.push_field-in-loop-k.ensures.octets
    ∙ ap (λ (xs : List Hop). c.loop-k.octets.items ++ field_octets hop.call hop.done 3
    (eqb (c.loop-k.k + 1) (length xs))) c.as_slice-hops.ensures.value in
    let here : (d : Hop) → get_or path.repeaters.items c.loop-k.k d ≡ hop =
    λ d. ap (λ xs. get_or xs c.loop-k.k d) (sym c.as_slice-hops.ensures.value)
    ∙ sym (get_or_read c.as_slice-hops.result.now c.loop-k.k hop (omega arith) c.index-hops-k.is d) in
    rw e (AreWrittenSoFar-push path c.loop-k.octets.items c.loop-k.k hop.call hop.done
    c.push_field-in-loop-k.ensures.valid (λ d. ap (λ (h : Hop). h.call) (here d))
    (λ d. ap (λ (h : Hop). h.done) (here d)) c.loop-k.invariant)

pub returns-clause-written : goal.returns-clause-written
returns-clause-written c =
    let n : length c.as_slice-hops.result.now ≡ repeater_count c.args.path.now =
    ap length c.as_slice-hops.ensures.value in
    IsWrittenPath-so_far c.args.path.now c.loop-k.octets.items c.loop-k.k (omega arith) (omega arith) c.loop-k.invariant

pub returns-clause-read_again : goal.returns-clause-read_again
returns-clause-read_again c = λ rest. BeginsWithPath-written c.args.path.now c.loop-k.octets.items rest
    (returns-clause-written c)
