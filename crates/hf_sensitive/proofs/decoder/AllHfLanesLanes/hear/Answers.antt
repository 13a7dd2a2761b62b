use Rattle.hf_sensitive.proofs.Common.{◌≡◌, ℕ, ◌/◌, ◌≤◌, ℤ, List, ◌++◌, ap, sym, subst, ◌∙◌, arith, length, All, All-append, All-weaker}
use Rattle.hf_sensitive.proofs.Common.{Candidate, AreHeard, settled}
use Rattle.block_receiver.specs.Hearing.{Adds, CanBePutFrom}
use Rattle.hf_sensitive.proofs.MergedLemmas.{adds}
use Rattle.hf_sensitive.proofs.decoder.AllHfLanesLanes.hear.Goals as goal

pub returns-clause-heard : goal.returns-clause-heard
returns-clause-heard c = λ x h.
    let block : List ℤ = c.args.block.now in
    let both = c.in_ok-found.ensures.heard x h.0 in
    let added = c.in_ok-added.ensures.found x h.1 in
    let all = c.in_ok-append.ensures.items in (
      (both.0, c.in_ok-added.ensures.stand_for x h.1),
      subst (Adds AreHeard x (x ++ block)) (sym all)
          (adds x block c.in_ok-found.found.items c.in_ok-added.added.items both.1 added),
    )

pub returns-clause-bounds : goal.returns-clause-bounds
returns-clause-bounds c =
    let low : ℕ = settled c.args.position in
    let P : Candidate → Type 0 = CanBePutFrom 59 low in
    let found : List Candidate = c.in_ok-found.found.items in
    let added : List Candidate = c.in_ok-added.added.items in
    let at = c.requires.at.0 in
    subst (All P) (sym c.in_ok-append.ensures.items) (All-append P found added
    (λ k d l.
    let can = c.in_ok-found.ensures.bounds k d l in
    let lane = can.can.lane in
    let from = can.from in
    record { can = record { lane = omega arith; end = can.can.end }; from = omega arith })
    (λ k d l.
    let can = c.in_ok-added.ensures.bounds k d l in
    let end = can.can.end in
    let from = can.from in
    record { can = record { lane = can.can.lane; end = omega arith }; from = omega arith }))
