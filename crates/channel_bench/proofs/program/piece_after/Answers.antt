-- What is left is short, and all of it is taken.
use Rattle.channel_bench.proofs.Common.{◌≡◌, ◌≤◌, ◌-◌, Some, None, length, take, drop, sym, ap, ◌∙◌, arith, take_all}
use Rattle.channel_bench.proofs.Common.{take_rest}
use Rattle.std.proofs.Common.{length-drop}
use Rattle.std.proofs.lemmas.Bool.{cond_below}
use Rattle.channel_bench.proofs.program.piece_after.Goals as goal

pub returns-else-text-given-gt-MOST_OCTETS-clause-piece : goal.returns-else-text-given-gt-MOST_OCTETS-clause-piece
returns-else-text-given-gt-MOST_OCTETS-clause-piece c =
    let text = c.args.text.now in
    let given = c.args.given in
    let short : length (drop given text) ≤ 256 = omega
    (arith, length-drop given text, c.if-text-given-gt-MOST_OCTETS.false) in
    let all : take (length text - given) (drop given text) ≡ take 256 (drop given text) =
    take_rest text given ∙ sym (take_all 256 (drop given text) short) in
    ap Some all ∙ cond_below given (length text) (Some (take 256 (drop given text))) None c.if-given-text.false
