use Rattle.fx25_receiver.proofs.Common.{◌≡◌, ◌++◌, sym, subst, arith, append-nil}
use Rattle.hdlc_framer.specs.BitOrder.{low_bits}
unfoldable use Rattle.hdlc_framer.specs.BitOrder.{octet_bits}
use Rattle.fx25_receiver.specs.Ahead.{NoBlockEnds}
use Rattle.fx25_receiver.specs.Resting.{RestsAt}
use Rattle.fx25_receiver.proofs.QuietLemmas.{far_more}
use Rattle.fx25_receiver.proofs.resting_reader.far_after.Goals as goal

pub loop-place-init : goal.loop-place-init
loop-place-init c = λ reader b s.
    (subst (RestsAt c.args.register reader) (sym (append-nil b)) s, λ k tag numbers frame over below. absurd (omega arith))

pub loop-place-preserved : goal.loop-place-preserved
loop-place-preserved c = λ reader b s.
    far_more reader c.loop-place.last c.shifted-last.result c.near_tag.result c.loop-place.place c.args.octet b
    (omega arith) c.shifted-last.ensures c.if-near_tag-ne0.false c.near_tag.ensures.near (c.loop-place.invariant reader b s)

pub returns : goal.returns
unfolding octet_bits
returns c = λ reader b s.
    let eight : c.loop-place.place ≡ 8 = omega arith in
    let so_far = c.loop-place.invariant reader b s in (
      subst (λ n. RestsAt c.loop-place.last reader (b ++ low_bits n c.args.octet)) eight so_far.0,
      subst (λ n. NoBlockEnds n b c.args.octet) eight so_far.1,
    )
