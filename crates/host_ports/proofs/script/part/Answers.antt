use Rattle.host_ports.proofs.Common.{◌≡◌, sym, ap, ◌∙◌, ◌++◌, ◌+◌, [], take, get_or, if◌then◌else◌, HostEvent, given_of}
use Rattle.host_ports.proofs.Common.{waiting_of, has_to_wait}
use Rattle.std.proofs.Common.{Bool, ◌∷◌}
use Rattle.host_ports.proofs.ScriptLemmas.{given_more, waiting_more}
use Rattle.host_ports.proofs.script.part.Goals as goal

pub loop-at-preserved : goal.loop-at-preserved
loop-at-preserved c =
    let due = c.args.due.now in
    let at = c.loop-at.at in
    let paused = c.args.paused.now in
    let d : HostEvent = c.index-due-at.result in
    let copied : HostEvent = c.in_ok-event.event in
    let one : HostEvent = get_or due at d in
    let waits : Bool = c.has_to_wait-waits.result in
    let event : copied ≡ one = c.in_ok-event.ensures ∙ c.index-due-at.is in
    let test : waits ≡ has_to_wait paused (take (at + 1) due) one = c.has_to_wait-waits.ensures
    ∙ ap (has_to_wait paused (take (at + 1) due)) event in
    let given = given_of paused [] (take at due) in
    let waiting = waiting_of paused [] (take at due) in
    record {
      given =
          c.in_ok-add.ensures.given ∙ ap (λ all. all ++ (if waits then [] else copied ∷ [])) c.loop-at.invariant.given
          ∙ ap (λ (e : HostEvent). given ++ (if waits then [] else e ∷ [])) event
          ∙ ap (λ b. given ++ (if b then [] else one ∷ [])) test
          ∙ sym (given_more paused due at d c.loop-at-test.true);
      waiting =
          c.in_ok-add.ensures.waiting ∙ ap (λ all. all ++ (if waits then copied ∷ [] else []))
          c.loop-at.invariant.waiting
          ∙ ap (λ (e : HostEvent). waiting ++ (if waits then e ∷ [] else [])) event
          ∙ ap (λ b. waiting ++ (if b then one ∷ [] else [])) test
          ∙ sym (waiting_more paused due at d c.loop-at-test.true);
    }
