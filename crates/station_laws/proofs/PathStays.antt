-- Whatever happens to a link, it stays on its path, and keeps what it was made with.
use Rattle.station_laws.proofs.Common.{◌≡◌, refl, ◌∙◌, Event, Machine, step, begin, Single, acknowledges, forgets}
use Rattle.station_laws.proofs.Common.{exchanges, gives, goes_back, informs, picks, reports, selects, stores, times}
use Rattle.link_machine.specs.Turn.{Turn}
use Rattle.link_steps.proofs.StepActs.{OneAct, along_step}
use Rattle.link_steps.proofs.StepActs.OneAct.{begins, controls, counts, empties, goes, joins, sets_up, tells}

pub record Stays (before after : Turn) : Type 0 where
  pub path : after.now.path ≡ before.now.path
  pub params : after.now.params ≡ before.now.params

single_stays : (t u : Turn) → Single t u → Stays t u
single_stays t u (times c mode) = record { path = refl; params = refl }
single_stays t u (acknowledges n) = record { path = refl; params = refl }
single_stays t u goes_back = record { path = refl; params = refl }
single_stays t u (reports which command flag) = record { path = refl; params = refl }
single_stays t u (picks again) = record { path = refl; params = refl }
single_stays t u (informs poll ahead left keeps) = record { path = refl; params = refl }
single_stays t u (gives packets) = record { path = refl; params = refl }
single_stays t u (stores ahead packet) = record { path = refl; params = refl }
single_stays t u (selects ahead is) = record { path = refl; params = refl }
single_stays t u forgets = record { path = refl; params = refl }
single_stays t u (exchanges command flag own) = record { path = refl; params = refl }

act_stays : (t u : Turn) → OneAct t u → Stays t u
act_stays t u (goes act) = single_stays t u act
act_stays t u (controls c) = record { path = refl; params = refl }
act_stays t u begins = record { path = refl; params = refl }
act_stays t u empties = record { path = refl; params = refl }
act_stays t u (counts modulus known) = record { path = refl; params = refl }
act_stays t u (sets_up which flag) = record { path = refl; params = refl }
act_stays t u (tells item) = record { path = refl; params = refl }
act_stays t u (joins packet short) = record { path = refl; params = refl }

pub step_stays : (m : Machine) (event : Event) → Stays (begin m) (step m event)
step_stays =
    along_step (record {
      same = λ t. record { path = refl; params = refl };
      on = λ t u v h k. record { path = k.path ∙ h.path; params = k.params ∙ h.params };
    }) act_stays
