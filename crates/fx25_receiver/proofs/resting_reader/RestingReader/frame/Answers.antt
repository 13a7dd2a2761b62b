use Rattle.fx25_receiver.proofs.Common.{ℕ, ◌+◌, ◌*◌, ◌≤◌, List, ◌++◌, ◌<◌, length, ap, sym, arith, drop, block_length}
use Rattle.fx25_receiver.proofs.Common.{length-append}
use Rattle.fx25_blocks.proofs.OptionLemmas.{none_from, some_from}
use Rattle.fx25_blocks.proofs.ReaderLemmas.{tag_and_block_within}
use Rattle.fx25_blocks.proofs.UnsureLaws.{unsure_told}
use Rattle.fx25_blocks.specs.UnsureBlocks.{EndsUnsureBlock}
use Rattle.hdlc_framer.proofs.BitLemmas.{length-sent_bits}
use Rattle.hdlc_framer.specs.BitOrder.{sent_bits}
use Rattle.fx25_receiver.proofs.KnownLemmas.{all_kept, count_enough, kept_enough, same_numbers}
use Rattle.fx25_receiver.proofs.RestingLemmas.{awake_for_unsure, unsure_inside, unsure_outside, unsure_rest}
use Rattle.fx25_receiver.proofs.resting_reader.RestingReader.frame.Goals as goal

pub returns-then-self-eq0-clause-none : goal.returns-then-self-eq0-clause-none
returns-then-self-eq0-clause-none c = λ b numbers s known frame over ends.
    let rests = c.if-self-eq0.true in
    let awake = awake_for_unsure c.args.self.now b s numbers c.args.tag frame over ends in
    omega arith

pub returns-clause-frame : goal.returns-clause-frame
returns-clause-frame c = λ b numbers s known.
    let tag = c.args.tag in
    let held = c.args.self.now in
    let sure = c.args.certainties.now in
    let rests = c.if-self-eq0.false in
    let awake : 0 < held.awake = omega arith in
    let reads = s.reads awake in
    let line = drop reads.0 b in
    let all = all_kept held sure numbers known in
    let enough = count_enough held sure numbers known line tag c.requires awake reads.1.reader_stands in
    some_from c.unsure_frame.result (λ found. EndsUnsureBlock line all tag found.octets.items found.over)
    (λ found. EndsUnsureBlock b numbers tag found.octets.items found.over)
    (λ found ends. unsure_outside numbers all reads.0 b tag found.octets.items found.over
    (same_numbers held sure numbers known line tag c.requires
    (enough (tag_and_block_within tag line (unsure_told tag line all found.octets.items found.over ends).0))) ends)
    (c.unsure_frame.ensures.frame line all reads.1.reader_stands known.kept
    (λ fits. kept_enough held sure numbers known line tag c.requires (enough fits)))

pub returns-clause-none : goal.returns-clause-none
returns-clause-none c = λ b numbers s known.
    let tag = c.args.tag in
    let held = c.args.self.now in
    let sure = c.args.certainties.now in
    let rests = c.if-self-eq0.false in
    let awake : 0 < held.awake = omega arith in
    let reads = s.reads awake in
    let line = drop reads.0 b in
    let all = all_kept held sure numbers known in
    let enough = count_enough held sure numbers known line tag c.requires awake reads.1.reader_stands in
    none_from c.unsure_frame.result ((frame : List ℕ) → (over : ℕ) → ¬ EndsUnsureBlock line all tag frame over)
    ((frame : List ℕ) → (over : ℕ) → ¬ EndsUnsureBlock b numbers tag frame over)
    (λ none frame over ends.
    let rest = unsure_rest held b s numbers reads.0 tag frame over reads.1 ends in
    let fits : 64 + 8 * block_length tag ≤ length line = omega (
      arith,
      ap length rest,
      length-append (drop reads.0 ends.before) (ends.heard ++ sent_bits ends.word),
      length-append ends.heard (sent_bits ends.word),
      length-sent_bits ends.word,
      ends.size,
      ends.near_tag.size,
    ) in
    none frame over (unsure_inside held b s numbers all reads.0 tag frame over reads.1
    (sym (same_numbers held sure numbers known line tag c.requires (enough fits))) ends))
    (c.unsure_frame.ensures.none line all reads.1.reader_stands known.kept
    (λ fits. kept_enough held sure numbers known line tag c.requires (enough fits)))
