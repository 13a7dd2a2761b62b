use Rattle.std.proofs.Common.{◌≡◌, ℕ, ◌-◌, ◌<◌, List, ◌++◌, ◌∙◌, ap, length, replicate, arith, get_or, subst}
use Rattle.std.proofs.lemmas.List.{get_or-replicate, length-replicate}
use Rattle.frame_merge.specs.declared.candidate.Candidate.{Candidate}
use Rattle.frame_merge.specs.Held.{least}
use Rattle.frame_merge.specs.Merged.{merged, below, not_below}
use Rattle.frame_merge.specs.Order.{in_order}
use Rattle.block_receiver.proofs.MarkLemmas.{least_is}
use Rattle.block_receiver.proofs.merging.merge_found.Goals as goal

pub put_all-requires : goal.put_all-requires
put_all-requires c =
    let lanes = c.requires.marks.0 in
    let low = c.requires.marks.1 in
    let marks = c.requires.marks.2 in
    let items = c.requires.marks.5 in
    let count : length c.args.merger.now.marks ≡ lanes = ap length marks ∙ length-replicate lanes low in
    record {
      items = λ k d l.
          let can = (items k d l).can in
          let lane = can.lane in
          record { lane = omega arith; end = can.end };
      in_time = λ k d l.
          let item : Candidate = get_or c.args.found.items k d in
          let can = items k d l in
          let lane = can.can.lane in
          let end = can.from in
          let mark : get_or c.args.merger.now.marks item.offset 0 ≡ low =
          ap (λ (m : List ℕ). get_or m item.offset 0) marks ∙ get_or-replicate lanes item.offset low 0 lane in
          omega arith;
    }

-- the marks only rise
pub mark_all-requires : goal.mark_all-requires
mark_all-requires c = record {
  position = λ k d l.
      let lanes = c.requires.marks.0 in
      let low = c.requires.marks.1 in
      let rises = c.requires.marks.4 in
      let marks : c.put_all.new.merger.marks ≡ replicate lanes low = c.in_ok-put_all.ensures.marks ∙ c.requires.marks.2 in
      let few : k < lanes = subst (λ n. k < n) (ap length marks ∙ length-replicate lanes low) l in
      let mark : get_or c.put_all.new.merger.marks k d ≡ low
      = ap (λ m. get_or m k d) marks ∙ get_or-replicate lanes k low d few in
      omega arith;
}

pub returns-clause-merged : goal.returns-clause-merged
returns-clause-merged c = λ puts given h.
    let found = c.args.found.items in
    let put = c.mark_all.ensures.stands_for (puts ++ found) given (c.in_ok-put_all.ensures.stands_for puts given h) in
    let at : least c.mark_all.new.self.marks ≡ c.args.mark =
    least_is c.requires.marks.0 c.requires.marks.1 c.args.mark c.args.merger.now.marks c.put_all.new.merger.marks
    c.mark_all.new.self.marks c.requires.marks.2 c.requires.marks.3 (omega arith) c.in_ok-put_all.ensures.marks
    c.mark_all.ensures.marks in
    let step = c.in_ok-items.ensures.ready (puts ++ found) given put in (
      step.0,
      step.1 ∙ ap (λ n. below n (merged (in_order (puts ++ found)))) at,
    )

pub returns-clause-kept : goal.returns-clause-kept
returns-clause-kept c = λ puts given h.
    let found = c.args.found.items in
    let put = c.mark_all.ensures.stands_for (puts ++ found) given (c.in_ok-put_all.ensures.stands_for puts given h) in
    let at : least c.mark_all.new.self.marks ≡ c.args.mark =
    least_is c.requires.marks.0 c.requires.marks.1 c.args.mark c.args.merger.now.marks c.put_all.new.merger.marks
    c.mark_all.new.self.marks c.requires.marks.2 c.requires.marks.3 (omega arith) c.in_ok-put_all.ensures.marks
    c.mark_all.ensures.marks in
    c.in_ok-items.ensures.kept (puts ++ found) given put ∙ ap (λ n. not_below (n - 15) (in_order (puts ++ found))) at
