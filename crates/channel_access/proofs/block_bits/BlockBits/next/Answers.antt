use Rattle.channel_access.proofs.Common.{◌≡◌, ◌≤◌, ◌<◌, ◌+◌, ◌*◌, ◌/◌, ◌%◌, ◌^◌, eqb, bit_and, get_or, ltb, length, arith, ap, sym, ◌∙◌}
use Rattle.channel_access.proofs.Common.{Some, leb-false, lt-ltb, cond-true, false}
use Rattle.std.proofs.Common.{rules}
use Rattle.channel_access.specs.Held.{block_bits, block_over}
use Rattle.channel_access.proofs.BlockLemmas.{length-block_bits, block_bit}
use Rattle.channel_access.proofs.block_bits.BlockBits.next.Goals as goal

pub bounds-self-from : goal.bounds-self-from
bounds-self-from c =
    let b = c.args.self in
    let size : length b.octets ≡ 263 = search rules in
    let most : b.length ≤ 255 = omega arith in
    let going : block_over b ≡ false = sym c.is_over.ensures ∙ c.if-is_over.false in
    let within : b.place < length (block_bits b) = leb-false (length (block_bits b)) b.place going in
    omega (arith, length-block_bits b size most, c.from.ensures)

pub overflow_add-result : goal.overflow_add-result
overflow_add-result c =
    let b = c.args.self in
    let size : length b.octets ≡ 263 = search rules in
    let most : b.length ≤ 255 = omega arith in
    let going : block_over b ≡ false = sym c.is_over.ensures ∙ c.if-is_over.false in
    let within : b.place < length (block_bits b) = leb-false (length (block_bits b)) b.place going in
    omega (arith, length-block_bits b size most)

pub returns : goal.returns
returns c =
    let b = c.args.self in
    let size : length b.octets ≡ 263 = search rules in
    let most : b.length ≤ 255 = omega arith in
    let going : block_over b ≡ false = sym c.is_over.ensures ∙ c.if-is_over.false in
    let within : b.place < length (block_bits b) = leb-false (length (block_bits b)) b.place going in
    let inside : b.place < 8 * (8 + b.length) = omega (arith, length-block_bits b size most) in
    ap (λ i. Some (eqb (bit_and (get_or b.octets i 0 / 2 ^ (b.place % 8)) 1) 1, record b { place = b.place + 1 }))
    c.from.ensures
    ∙ ap (λ bit. Some (bit, record b { place = b.place + 1 })) (sym (block_bit b size most inside))
    ∙ sym (cond-true (ltb b.place (length (block_bits b))) _ _ (lt-ltb b.place (length (block_bits b)) within))
