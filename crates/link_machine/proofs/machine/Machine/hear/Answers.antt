use Rattle.link_machine.proofs.Common.{Bool, subst, Idle, Calling, Up, Releasing, hear, Makes}
use Rattle.link_machine.proofs.Events.{makes_hear}
use Rattle.link_machine.proofs.machine.Machine.hear.Goals as goal

pub returns-in-Idle : goal.returns-in-Idle
returns-in-Idle c =
    let kind = c.args.frame.now.kind in
    let P : Bool → Type 0 = λ b. Makes (hear b kind) c.args.self.now c.hear_idle.new.self c.hear_idle.result in
    subst P c.is_heard_as_command-command.ensures
    (makes_hear Idle c.is_heard_as_command-command.result kind c.args.self.now c.hear_idle.new.self c.hear_idle.result
    c.in-Idle.is c.hear_idle.ensures)

pub returns-in-Calling : goal.returns-in-Calling
returns-in-Calling c =
    let kind = c.args.frame.now.kind in
    let P : Bool → Type 0 = λ b. Makes (hear b kind) c.args.self.now c.hear_calling.new.self c.hear_calling.result in
    subst P c.is_heard_as_command-command.ensures
    (makes_hear Calling c.is_heard_as_command-command.result kind c.args.self.now c.hear_calling.new.self
    c.hear_calling.result c.in-Calling.is c.hear_calling.ensures)

pub returns-in-Up : goal.returns-in-Up
returns-in-Up c =
    let kind = c.args.frame.now.kind in
    let P : Bool → Type 0 = λ b. Makes (hear b kind) c.args.self.now c.hear_up.new.self c.hear_up.result in
    subst P c.is_heard_as_command-command.ensures
    (makes_hear Up c.is_heard_as_command-command.result kind c.args.self.now c.hear_up.new.self c.hear_up.result c.in-Up.is
    c.hear_up.ensures)

pub returns-in-Releasing : goal.returns-in-Releasing
returns-in-Releasing c =
    let kind = c.args.frame.now.kind in
    let P : Bool → Type 0 = λ b. Makes (hear b kind) c.args.self.now c.hear_releasing.new.self c.hear_releasing.result
    in
    subst P c.is_heard_as_command-command.ensures
    (makes_hear Releasing c.is_heard_as_command-command.result kind c.args.self.now c.hear_releasing.new.self
    c.hear_releasing.result c.in-Releasing.is c.hear_releasing.ensures)
