use Rattle.station.proofs.Common.{◌≡◌, Some, Ok, ◌∙◌, ap, subst, Params, modulus_named, OwnedLink, held_modulus}
use Rattle.link_machine.specs.declared.machine.Machine.{Machine as Held}
use Rattle.link_machine.specs.Machine.{new_machine}
use Rattle.link_machine.specs.StandsFor.{StandsFor}
use Rattle.station.proofs.InsertLemmas.{shows_made}
use Rattle.station.proofs.MemoryLemmas.{if_took}
use Rattle.station.proofs.WindowLemmas.{none_refused}
use Rattle.station.proofs.parts.Parts.make_link.Goals as goal

pub of_fitting_windows-requires : goal.of_fitting_windows-requires
of_fitting_windows-requires c = λ window is.
    none_refused c.get.result window c.get.ensures.fits ((c.new-machine.ensures.bad_window window).0 is)

pub returns-clause-made : goal.returns-clause-made
returns-clause-made c = λ out turn shows.
    let machine : Held = c.in_ok-machine.machine in
    let new : Held → Type 0 = λ link. StandsFor link (new_machine c.args.path c.get.result) in
    let stands : StandsFor machine (new_machine c.args.path c.get.result) =
    if_took new c.new-machine.result machine
    (if_took (λ (link : Held). c.new-machine.result ≡ Ok link) c.of_fitting_windows.result machine
    c.in_ok-machine.ensures.value c.of_fitting_windows.ensures)
    c.new-machine.ensures.stands_for in
    let held : OwnedLink = record {
      local = c.args.local;
      remote = c.args.remote;
      owner = Some c.args.owner;
      pid = c.args.pid;
      machine = machine;
    } in
    let e = c.insert.ensures in
    shows_made c.args.self.now out turn c.insert.result c.args.owner c.args.pid c.args.local c.args.remote c.args.path
    held c.insert.new.self shows e.next e.within e.vacant e.places
    (record {
      local = λ i. c.args.local;
      remote = λ i. c.args.remote;
      owner = λ i. Some c.args.owner;
      pid = λ i. c.args.pid;
      machine = subst (λ (parameters : Params). StandsFor machine (new_machine c.args.path parameters))
          (c.get.ensures.value ∙ shows.holds.parameters) stands;
    })
    e.least

pub returns-clause-modulus : goal.returns-clause-modulus
returns-clause-modulus c =
    let machine : Held = c.in_ok-machine.machine in
    let new : Held → Type 0 = λ link. StandsFor link (new_machine c.args.path c.get.result) in
    let stands : StandsFor machine (new_machine c.args.path c.get.result) =
    if_took new c.new-machine.result machine
    (if_took (λ (link : Held). c.new-machine.result ≡ Ok link) c.of_fitting_windows.result machine
    c.in_ok-machine.ensures.value c.of_fitting_windows.ensures)
    c.new-machine.ensures.stands_for in
    ap held_modulus c.insert.ensures.there
    ∙ ap modulus_named stands.incoming.modulus
