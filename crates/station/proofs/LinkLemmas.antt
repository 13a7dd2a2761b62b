-- What a link makes of a refusal.
use Rattle.station.proofs.Common.{◌≡◌, Bool, true, false, length, Some, Result, Ok, Err, IfOk, OnOk, is_some, ◌⊎◌, refl}
use Rattle.station.proofs.Common.{sym, ◌∙◌, ap, subst, inl, inr, false≢true, OutOfMemory, Done, Event, Machine, step}
use Rattle.station.proofs.Common.{done_of, OwnedLink, stepped_link, Link, StandsForLink}
use Rattle.std.specs.Prelude.{IfErr, OnErr}
use Rattle.std.proofs.Common.{cond}
use Rattle.link_machine.specs.declared.fault.LinkFault.{LinkFault}
use Rattle.link_machine.specs.declared.fault.LinkFault.TheVariants.{WrongState, Full, TooLong, Memory}
use Rattle.link_machine.specs.declared.machine.Machine.{Machine as Held}
use Rattle.link_machine.specs.Requests.{refusal}
use Rattle.link_machine.specs.Step.{refusal_of, settled, row}
use Rattle.link_machine.specs.Turn.{Turn, begin}
use Rattle.link_machine.specs.StandsFor.{StandsFor}
use Rattle.station.specs.LinkRequests.{nothing_done, Passes}

-- a request that is refused changes nothing
pub refused_step : (held : Held) (m : Machine) (event : Event) (fault : LinkFault) → StandsFor held m
    → refusal held.control (length held.outgoing.packets) event ≡ Some fault → step m event ≡ begin m
unfolding step
refused_step held m event fault h refused =
    let same : refusal_of m event ≡ Some fault =
    ap (λ control. refusal control (length m.outgoing.packets) event) (sym h.control)
    ∙ ap (λ packets. refusal held.control (length packets) event) (sym h.outgoing.packets) ∙ refused in
    ap (λ answer. cond (is_some answer) (begin m) (settled (row event (begin m)))) same

is_memory : LinkFault → Bool
is_memory (WrongState state quit) = false
is_memory Full = false
is_memory (TooLong len) = false
is_memory Memory = true

-- what a fault of a link is, if it is not want of memory
refused_by : (held : Held) (event : Event) (fault : LinkFault) → is_memory fault ≡ false
    → ((fault ≡ Memory) ⊎ (refusal held.control (length held.outgoing.packets) event ≡ Some fault))
    → refusal held.control (length held.outgoing.packets) event ≡ Some fault
unfolding is_memory
refused_by held event fault other cause = elim cause [
  | inl memory ↦ absurd (false≢true (sym other ∙ ap is_memory memory))
  | inr refused ↦ refused
]

nothing_by : (held : Held) (m : Machine) (event : Event) (fault : LinkFault) (result : Result Done OutOfMemory)
    → StandsFor held m → refusal held.control (length held.outgoing.packets) event ≡ Some fault
    → result ≡ Ok nothing_done → IfOk result (λ done. done ≡ done_of (step m event))
nothing_by held m event fault result h refused e =
    subst (λ r. IfOk r (λ done. done ≡ done_of (step m event))) (sym e)
    (sym (ap done_of (refused_step held m event fault h refused)))

-- what a link did is what its step does
pub passes_acts : (held : Held) (m : Machine) (event : Event) (answer : Result Done LinkFault)
    (result : Result Done OutOfMemory) → StandsFor held m → IfOk answer (λ done. done ≡ done_of (step m event))
    → IfErr answer (λ fault. (fault ≡ Memory) ⊎ (refusal held.control (length held.outgoing.packets) event
    ≡ Some fault)) → Passes answer result → IfOk result (λ done. done ≡ done_of (step m event))
unfolding is_memory
passes_acts held m event (Ok done) result h ok err p =
    subst (λ r. IfOk r (λ given. given ≡ done_of (step m event))) (sym p) ok
passes_acts held m event (Err (WrongState state quit)) result h ok err p =
    nothing_by held m event (WrongState state quit) result h (refused_by held event (WrongState state quit) refl err) p
passes_acts held m event (Err Full) result h ok err p =
    nothing_by held m event Full result h (refused_by held event Full refl err) p
passes_acts held m event (Err (TooLong len)) result h ok err p =
    nothing_by held m event (TooLong len) result h (refused_by held event (TooLong len) refl err) p
passes_acts held m event (Err Memory) (Ok done) h ok err p = absurd (false≢true p)
passes_acts held m event (Err Memory) (Err fault) h ok err p = tt

stays_by : (held new : Held) (m : Machine) (event : Event) (fault : LinkFault) (result : Result Done OutOfMemory)
    → StandsFor held m → refusal held.control (length held.outgoing.packets) event ≡ Some fault → new ≡ held
    → result ≡ Ok nothing_done → OnOk result (StandsFor new (step m event).now)
stays_by held new m event fault result h refused same e =
    subst (λ r. OnOk r (StandsFor new (step m event).now)) (sym e)
    (subst (λ (turn : Turn). StandsFor new turn.now) (sym (refused_step held m event fault h refused))
    (subst (λ kept. StandsFor kept m) (sym same) h))

-- and it stands for what its step makes of it
pub passes_stands : (held new : Held) (m : Machine) (event : Event) (answer : Result Done LinkFault)
    (result : Result Done OutOfMemory) → StandsFor held m → OnOk answer (StandsFor new (step m event).now)
    → IfErr answer (λ fault. (fault ≡ Memory) ⊎ (refusal held.control (length held.outgoing.packets) event
    ≡ Some fault)) → OnErr answer (new ≡ held) → Passes answer result → OnOk result (StandsFor new (step m event).now)
unfolding is_memory
passes_stands held new m event (Ok done) result h ok err same p =
    subst (λ r. OnOk r (StandsFor new (step m event).now)) (sym p) ok
passes_stands held new m event (Err (WrongState state quit)) result h ok err same p =
    stays_by held new m event (WrongState state quit) result h (refused_by held event (WrongState state quit) refl err)
    same p
passes_stands held new m event (Err Full) result h ok err same p =
    stays_by held new m event Full result h (refused_by held event Full refl err) same p
passes_stands held new m event (Err (TooLong len)) result h ok err same p =
    stays_by held new m event (TooLong len) result h (refused_by held event (TooLong len) refl err) same p
passes_stands held new m event (Err Memory) (Ok done) h ok err same p = absurd (false≢true p)
passes_stands held new m event (Err Memory) (Err fault) h ok err same p = tt

-- a link stands if its machine does
pub link_stands : (held : OwnedLink) (new : Held) (link : Link) (event : Event) (result : Result Done OutOfMemory)
    → StandsForLink held link → OnOk result (StandsFor new (step link.machine event).now)
    → OnOk result (StandsForLink (record held { machine = new }) (stepped_link event link))
link_stands held new link event (Ok done) h stands = record {
  local = h.local;
  remote = h.remote;
  owner = h.owner;
  pid = h.pid;
  machine = stands;
}
link_stands held new link event (Err fault) h stands = tt
