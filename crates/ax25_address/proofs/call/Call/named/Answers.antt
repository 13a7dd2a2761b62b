use Rattle.ax25_address.proofs.Common.{◌<◌, length, arith, nat_tests}
use Rattle.ax25_address.proofs.CallLemmas.{IsFilling-more, IsHeld-filling}
use Rattle.ax25_address.proofs.call.Call.named.Goals as goal

pub loop-index-preserved : goal.loop-index-preserved
loop-index-preserved c =
    IsFilling-more c.args.name.now c.loop-index.characters c.loop-index.index (omega arith) (omega arith)
    (c.is_call_character.ensures.0 c.if-not-is_call_character.false) c.loop-index.invariant

pub from_characters-requires : goal.from_characters-requires
from_characters-requires c =
    let some : 0 < length c.args.name.now = let none = c.if-is_empty.ensures in grind (arith, nat_tests) in
    IsHeld-filling c.args.name.now c.loop-index.characters c.loop-index.index some (omega arith) (omega arith)
    c.loop-index.invariant
