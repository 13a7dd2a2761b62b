use Rattle.ring_receiver.proofs.Common.{refl, sym, subst, HasMergedAll}
use Rattle.std.proofs.Common.{◌≡◌, ℕ, ◌-◌, List, ◌++◌, replicate, ◌∙◌, ap, arith, rules}
use Rattle.slicer_bank.specs.RingLanes.{positions_in as positions_of_bank, readers_in as readers_of_bank}
use Rattle.sample_ring.specs.Ends.{position_of}
use Rattle.ring_receiver.proofs.MergeLemmas.{nothing_merged_all, nothing_nine}
use Rattle.ring_receiver.proofs.receiver.RingReceiver.with_added.Goals as goal

pub returns-clause-hears : goal.returns-clause-hears
returns-clause-hears c = λ len. record {
  spent = refl;
  eight = c.in_ok-listening.ensures.listens len;
  added = c.in_ok-new.ensures.listens len;
  merged = subst (HasMergedAll c.in_ok-new-2.field-0)
      (sym (nothing_nine len (readers_of_bank c.in_ok-listening.field-0) c.in_ok-new.field-0.reader
      (c.in_ok-listening.ensures.nothing len) c.in_ok-new.ensures.nothing))
      (nothing_merged_all c.in_ok-new-2.field-0 c.in_ok-new-2.ensures.marks c.in_ok-new-2.ensures.stands_for);
}

pub returns-clause-nothing : goal.returns-clause-nothing
returns-clause-nothing c = λ len.
    nothing_nine len (readers_of_bank c.in_ok-listening.field-0) c.in_ok-new.field-0.reader
    (c.in_ok-listening.ensures.nothing len) c.in_ok-new.ensures.nothing

-- the marks of lanes that have read nothing
start_marks : (marks positions : List ℕ) (position : ℕ) → marks ≡ replicate 26 0 → positions ≡ replicate 8 0
    → position ≡ 0 → marks ≡ positions ++ replicate 18 (position - 32)
start_marks marks positions position is at none =
    is ∙ sym (ap (λ ps. ps ++ replicate 18 (position - 32)) at ∙ ap (λ p. replicate 8 0 ++ replicate 18 (p - 32)) none)

-- the added lanes have heard what their reader has read: nothing
pub invariant_of-result : goal.invariant_of-result
invariant_of-result c = (
  search rules,
  λ _.
      let none = c.in_ok-new.ensures.start in
      record {
        read = c.in_ok-new.ensures.at;
        room = omega (arith, none);
        marks = start_marks c.in_ok-new-2.field-0.marks (positions_of_bank c.in_ok-listening.field-0)
            (position_of c.in_ok-new.field-0.reader) c.in_ok-new-2.ensures.marks c.in_ok-listening.ensures.start none;
      },
)
