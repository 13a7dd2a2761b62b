use Rattle.sensitive_blocks.proofs.MergedLists.{given_begins, one_merged, settled_stays, some_merged}
use Rattle.sensitive_blocks.proofs.laws.settled_items_stay.Goals as goal

pub returns-clause-some : goal.returns-clause-some
returns-clause-some c = some_merged

pub returns-clause-one : goal.returns-clause-one
returns-clause-one c = one_merged

pub returns-clause-stay : goal.returns-clause-stay
returns-clause-stay c = λ x y end items whole inside a b.
    let stays = settled_stays x y end items whole inside a b in (
      stays.0,
      stays.1.more,
      stays.2.more,
      stays.1.is,
      stays.2.is,
      stays.1.early,
      stays.1.late,
      stays.2.late,
    )

pub returns-clause-given : goal.returns-clause-given
returns-clause-given c = λ receiver x given items stands h.
    let begins = given_begins receiver x given items stands h in (begins.more, begins.is, begins.early, begins.late)
