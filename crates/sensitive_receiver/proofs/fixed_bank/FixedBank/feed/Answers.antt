use Rattle.sensitive_receiver.proofs.Common.{◌≡◌, ◌+◌, ◌++◌, ◌∙◌, List, length, take, drop, sym, subst, arith, All, All-nil}
use Rattle.sensitive_receiver.proofs.Common.{Candidate, HasRoomFrom}
use Rattle.slicer_bank.specs.ToneLanes.{HeldToneLane}
use Rattle.sensitive_receiver.specs.FixedLanes.{FixedReadsLine, HeldFixed, LanesRead}
use Rattle.sensitive_receiver.proofs.FixedLines.{bank_reads}
use Rattle.sensitive_receiver.proofs.ListLemmas.{given_back}
use Rattle.sensitive_receiver.proofs.fixed_bank.FixedBank.feed.Goals as goal

pub returns : goal.returns
returns c =
    let s = c.self.inside in
    let line = c.args.line.now in
    let old : List HeldToneLane = s.lanes.items in
    let new : List HeldToneLane = c.hear_lanes.new.lanes in
    let items : List Candidate = c.hear_lanes.new.found.items in
    let full : s.lanes.len ≡ length new = sym (c.hear_lanes.auto.lanes ∙ c.deref_mut.ensures.len) in
    let lent : List HeldToneLane = take s.lanes.len (new ++ drop (length new) old) in
    let back : lent ≡ new = given_back s.lanes.len new old full in
    let room : Candidate → Type 0 = HasRoomFrom (s.place + 6) in
    let none = c.new-found.ensures.items in
    let read = subst (λ b. LanesRead 8 s.place line old new b items) none
    (subst (λ ls. LanesRead 8 s.place line ls new c.new-found.result.items items) c.deref_mut.ensures.value
    c.in_ok-hear_lanes.ensures.read) in
    let bounds : All room items = c.in_ok-hear_lanes.ensures.bounds (s.place + 6) (omega arith)
    (subst (All room) (sym none) (All-nil room)) in
    let was : HeldFixed = record { place = s.place; lanes = old } in
    record {
      reads = subst (λ b. FixedReadsLine b (record { place = s.place + length line; lanes = lent }) line items)
          c.self.view_is
          (subst (λ ls. FixedReadsLine was (record { place = s.place + length line; lanes = ls }) line items) (sym back)
          (bank_reads s.place line old new items read bounds));
    }
