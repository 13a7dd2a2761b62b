use Rattle.sensitive_receiver.proofs.Common.{◌≡◌, ◌∙◌, ℤ, List, [], ◌++◌, length, ap, sym, subst, arith}
use Rattle.sensitive_receiver.proofs.Common.{append_assoc, length-append}
use Rattle.std.proofs.Common.{rules}
use Rattle.std.specs.Slice.Iter.{chunks_rest}
use Rattle.sensitive_receiver.specs.HeardBlock.{HearsBlock}
use Rattle.sensitive_receiver.specs.HeldLanes.{HeldBank, bank_of}
use Rattle.sensitive_receiver.proofs.BankLemmas.{HasFed, all_done, fed_more, fed_none}
use Rattle.sensitive_receiver.proofs.pieces.feed_block.Goals as goal

pub loop-piece-init : goal.loop-piece-init
loop-piece-init c =
    let old : HeldBank = bank_of c.args.line.now c.args.banks.now in (
      search rules,
      search rules,
      search rules,
      [],
      search rules,
      subst (λ items. HasFed old old [] items) (sym c.new-found.ensures.items) (fed_none old c.requires.at),
    )

-- what was given so far, and how far that is, with a piece more
pub loop-piece-preserved : goal.loop-piece-preserved
loop-piece-preserved c =
    let piece : List ℤ = c.in-Some.piece.now in
    let rest : List ℤ = chunks_rest c.next.new.self in
    let before = c.loop-piece.invariant in
    let done : List ℤ = before.3 in
    let steps = c.in-Some.ensures.steps in
    let whole : done ++ (piece ++ rest) ≡ c.args.block.now = ap (λ t. done ++ t) (sym steps.1.0) ∙ before.4 in
    let old : HeldBank = bank_of c.args.line.now c.args.banks.now in
    let was : HeldBank = bank_of c.loop-piece.line c.loop-piece.banks in
    let now : HeldBank = bank_of c.feed_piece.new.line c.feed_piece.new.banks in (
      search rules,
      tt,
      steps.0 ∙ before.2,
      done ++ piece,
      append_assoc done piece rest ∙ whole,
      subst (HasFed old now (done ++ piece)) (sym c.in_ok-append.ensures.items)
          (fed_more old was now done piece c.loop-piece.found.items c.in_ok-more.more.items before.5
          (record { heard = c.in_ok-more.ensures.heard; at = c.in_ok-more.ensures.at })),
    )

-- the whole block is done
pub returns-clause-heard : goal.returns-clause-heard
returns-clause-heard c =
    let before = c.loop-piece.invariant in
    let whole = all_done before.3 (chunks_rest c.loop-piece.piece-iterator) c.args.block.now before.4
    c.in-None.ensures.steps.1.0 in
    let old : HeldBank = bank_of c.args.line.now c.args.banks.now in
    let now : HeldBank = bank_of c.loop-piece.line c.loop-piece.banks in
    subst (λ done. HearsBlock old now done c.loop-piece.found.items) whole before.5.heard

pub returns-clause-at : goal.returns-clause-at
returns-clause-at c = c.loop-piece.invariant.5.at

-- a piece has room, as the block has
pub feed_piece-requires-clause-room : goal.feed_piece-requires-clause-room
feed_piece-requires-clause-room c =
    let piece : List ℤ = c.in-Some.piece.now in
    let rest : List ℤ = chunks_rest c.next.new.self in
    let before = c.loop-piece.invariant in
    let done : List ℤ = before.3 in
    let at = before.5.heard.position in
    let room = c.requires.room in
    let whole : done ++ (piece ++ rest) ≡ c.args.block.now = ap (λ t. done ++ t) (sym c.in-Some.ensures.steps.1.0)
    ∙ before.4 in
    let size : length (done ++ (piece ++ rest)) ≡ length c.args.block.now = ap length whole in
    omega (arith, length-append done (piece ++ rest), length-append piece rest)

pub feed_piece-requires-clause-at : goal.feed_piece-requires-clause-at
feed_piece-requires-clause-at c = c.loop-piece.invariant.5.at
