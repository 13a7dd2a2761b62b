use Rattle.ring_receiver.proofs.Common.{refl, sym, subst, HasMerged}
use Rattle.slicer_bank.proofs.RingMergingLemmas.{nothing_merged}
use Rattle.ring_receiver.proofs.receiver.RingReceiver.new.Goals as goal

pub returns-clause-hears : goal.returns-clause-hears
returns-clause-hears c = λ len. record {
  spent = refl;
  eight = c.in_ok-listening.ensures.listens len;
  added = tt;
  merged = subst (HasMerged c.in_ok-new.field-0) (sym (c.in_ok-listening.ensures.nothing len))
      (nothing_merged c.in_ok-new.field-0 c.in_ok-new.ensures.marks c.in_ok-new.ensures.stands_for);
}
