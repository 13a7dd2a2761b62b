use Rattle.sensitive_receiver.proofs.Common.{IfOk-weaker}
use Rattle.sensitive_receiver.proofs.BankLemmas.{piece_heard, row_room}
use Rattle.sensitive_receiver.specs.FiveBanks.{AllReadLine, AreAt}
use Rattle.sensitive_receiver.specs.HeardBlock.{HearsBlock}
use Rattle.sensitive_receiver.specs.HeldLanes.{HeldBank, bank_of}
use Rattle.tone_tracking.specs.HeldLine.{decided_in}
use Rattle.sensitive_receiver.proofs.pieces.feed_block_beside.Goals as goal

pub returns-clause-added : goal.returns-clause-added
returns-clause-added g c =
    let old : HeldBank = bank_of c.args.line.now c.args.banks.now in
    let new : HeldBank = bank_of c.feed_threads.new.self c.read_beside.new.self in
    IfOk-weaker c.read_beside.result
    (λ heard. AllReadLine c.args.banks.now c.read_beside.new.self c.line.result.now heard.1.items)
    (λ heard. HearsBlock old new c.args.block.now heard.1.items)
    (λ heard reads. (piece_heard c.args.line.now c.feed_threads.new.self c.args.banks.now c.read_beside.new.self
    c.line.result.now c.args.block.now heard.1.items
    c.in_ok-feed_threads.ensures c.line.ensures.tones c.line.ensures.length reads c.requires.at).heard)
    c.read_beside.ensures.added

pub returns-clause-at : goal.returns-clause-at
returns-clause-at g c =
    IfOk-weaker c.read_beside.result
    (λ heard. AllReadLine c.args.banks.now c.read_beside.new.self c.line.result.now heard.1.items)
    (λ heard. AreAt (decided_in c.feed_threads.new.self.count) c.read_beside.new.self)
    (λ heard reads. (piece_heard c.args.line.now c.feed_threads.new.self c.args.banks.now c.read_beside.new.self
    c.line.result.now c.args.block.now heard.1.items
    c.in_ok-feed_threads.ensures c.line.ensures.tones c.line.ensures.length reads c.requires.at).at)
    c.read_beside.ensures.added

pub read_beside-requires-clause-room : goal.read_beside-requires-clause-room
read_beside-requires-clause-room g c κs within = row_room c.args.line.now c.feed_threads.new.self c.args.banks.now
    c.line.result.now c.args.block.now c.in_ok-feed_threads.ensures c.line.ensures.length c.requires.room c.requires.at
