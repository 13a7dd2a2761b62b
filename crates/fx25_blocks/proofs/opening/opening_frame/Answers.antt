use Rattle.fx25_blocks.proofs.Common.{◌≡◌, ◌-◌, ◌*◌, drop, ap, subst, sym, ◌∙◌, arith, sent_bits}
use Rattle.fx25_blocks.proofs.Common.{BeginsWithFrame}
use Rattle.std.proofs.lemmas.List.{take_rest}
use Rattle.fx25_blocks.proofs.LeadingFlags.{begins_after, opens_before}
use Rattle.fx25_blocks.proofs.opening.opening_frame.Goals as goal

pub returns-then-count-eq0-clause-none : goal.returns-then-count-eq0-clause-none
returns-then-count-eq0-clause-none c = λ frame over opens.
    let told = begins_after c.args.octets.now c.leading_flags-count.result frame over
    c.leading_flags-count.ensures.range c.leading_flags-count.ensures.leading opens in
    omega (arith, told.0, c.if-count-eq0.true)

pub returns-in-None-clause-none : goal.returns-in-None-clause-none
returns-in-None-clause-none c = λ frame over opens.
    let octets = c.args.octets.now in
    let count = c.leading_flags-count.result in
    let bits : c.as_slice.result.now ≡ sent_bits (drop count octets) = c.as_slice.ensures.value ∙ c.unpack-bits.ensures
    ∙ ap sent_bits (take_rest octets count) in
    let told = begins_after octets count frame over c.leading_flags-count.ensures.range
    c.leading_flags-count.ensures.leading opens in
    c.in-None.ensures.none frame (over - 8 * count)
    (subst (λ xs. BeginsWithFrame xs frame (over - 8 * count)) (sym bits) told.1)

pub returns-in-Some-clause-frame : goal.returns-in-Some-clause-frame
returns-in-Some-clause-frame c =
    let octets = c.args.octets.now in
    let count = c.leading_flags-count.result in
    let found = c.in-Some.found in
    let bits : c.as_slice.result.now ≡ sent_bits (drop count octets) = c.as_slice.ensures.value ∙ c.unpack-bits.ensures
    ∙ ap sent_bits (take_rest octets count) in
    opens_before octets count found.octets.items found.over (omega (arith, c.if-count-eq0.false))
    c.leading_flags-count.ensures.leading
    (subst (λ xs. BeginsWithFrame xs found.octets.items found.over) bits c.in-Some.ensures.frame)
