use Rattle.slicer_bank.proofs.Common.{◌<◌, List, ◌∙◌, refl, sym, subst, arith, length, take_all, RingLane}
use Rattle.std.proofs.lemmas.List.{drop_all}
use Rattle.slicer_bank.proofs.ReaderLemmas.{HaveLanes, have_none, have_more}
use Rattle.slicer_bank.proofs.ring_lanes.new_ring_lanes.Goals as goal

pub loop-offset-preserved : goal.loop-offset-preserved
loop-offset-preserved c =
    let eight = c.requires.eight in
    let within : c.loop-offset.offset < length c.args.readers.now.items = let l = c.loop-offset-test.true in
    omega arith in (
      have_more c.args.readers.now.items c.loop-offset.readers.items c.remove.new.self.items c.loop-offset.lanes.items
          c.push.new.self.items c.args.detection c.loop-offset.offset c.remove.result c.new.result
          c.loop-offset.invariant.0 within c.remove.ensures.value c.remove.ensures.by_index.2 c.new.ensures.reader
          c.new.ensures.listens c.new.ensures.taken c.in_ok-push.ensures.items,
      c.remove.ensures.capacity ∙ c.loop-offset.invariant.1,
    )

pub returns-clause-listen : goal.returns-clause-listen
returns-clause-listen c = λ len lane d l. c.loop-offset.invariant.0.listen lane d
    (let all = c.loop-offset-test.false in omega arith) len

pub loop-offset-init : goal.loop-offset-init
loop-offset-init c = (
  subst (λ (ls : List RingLane). HaveLanes c.args.readers.now.items c.args.readers.now.items ls c.args.detection 0)
      (sym c.in_ok-lanes.ensures.items) (have_none c.args.readers.now.items c.args.detection),
  refl,
)

pub returns-in_err-push-clause-room : goal.returns-in_err-push-clause-room
returns-in_err-push-clause-room c = c.remove.ensures.capacity ∙ c.loop-offset.invariant.1

pub returns-clause-room : goal.returns-clause-room
returns-clause-room c = c.loop-offset.invariant.1

pub returns-clause-empty : goal.returns-clause-empty
returns-clause-empty c =
    let at_least = c.loop-offset-test.false in
    let eight = c.requires.eight in
    c.loop-offset.invariant.0.rest ∙ drop_all c.loop-offset.offset c.args.readers.now.items (omega arith)

pub returns-clause-readers : goal.returns-clause-readers
returns-clause-readers c =
    let at_least = c.loop-offset-test.false in
    let eight = c.requires.eight in
    c.loop-offset.invariant.0.readers ∙ take_all c.loop-offset.offset c.args.readers.now.items (omega arith)

pub returns-clause-taken : goal.returns-clause-taken
returns-clause-taken c = c.loop-offset.invariant.0.taken
