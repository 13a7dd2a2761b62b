use Rattle.hf_sensitive.proofs.Common.{[], List, ℤ, sym, subst, heard, first_lane, LaneStandsFor, ◌+◌, arith, places_in}
use Rattle.hf_sensitive.proofs.BankLemmas.{stands_first}
use Rattle.hf_sensitive.proofs.tracking_bank.TrackingBank.new.Goals as goal

pub returns-clause-stands_for : goal.returns-clause-stands_for
returns-clause-stands_for c =
    stands_first c.new.result c.new-2.result c.new-3.result c.new-4.result c.new-5.result c.new-6.result
    c.new.ensures.count (c.new.ensures.has_taken []) c.new-2.ensures.stands_for c.new-3.ensures.stands_for
    c.new-4.ensures.stands_for c.new-5.ensures.stands_for c.new-6.ensures.stands_for
