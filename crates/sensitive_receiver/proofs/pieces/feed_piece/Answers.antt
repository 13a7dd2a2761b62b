use Rattle.sensitive_receiver.proofs.BankLemmas.{piece_heard, row_room}
use Rattle.sensitive_receiver.proofs.pieces.feed_piece.Goals as goal

pub returns-clause-heard : goal.returns-clause-heard
returns-clause-heard c =
    (piece_heard c.args.line.now c.feed.new.self c.args.banks.now c.read.new.self c.line.result.now c.args.piece.now
    c.in_ok-found.found.items
    c.in_ok-feed.ensures c.line.ensures.tones c.line.ensures.length c.in_ok-found.ensures c.requires.at).heard

pub returns-clause-at : goal.returns-clause-at
returns-clause-at c =
    (piece_heard c.args.line.now c.feed.new.self c.args.banks.now c.read.new.self c.line.result.now c.args.piece.now
    c.in_ok-found.found.items
    c.in_ok-feed.ensures c.line.ensures.tones c.line.ensures.length c.in_ok-found.ensures c.requires.at).at

pub read-requires : goal.read-requires
read-requires c = record {
  room = row_room c.args.line.now c.feed.new.self c.args.banks.now c.line.result.now c.args.piece.now
      c.in_ok-feed.ensures c.line.ensures.length c.requires.room c.requires.at;
}
