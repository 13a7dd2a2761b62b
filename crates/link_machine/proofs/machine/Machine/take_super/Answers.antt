use Rattle.link_machine.proofs.Common.{Bool, sym, subst, ◌&&◌, named, S, hear_rr, hear_rnr, hear_rej, hear_srej}
use Rattle.link_machine.proofs.Common.{Shows}
use Rattle.link_machine.specs.Frames.{hear_supervisory}
use Rattle.link_machine.proofs.machine.Machine.take_super.Goals as goal

pub returns-in-Rr : goal.returns-in-Rr
returns-in-Rr c = λ room t h valid.
    let A : Bool → Bool → Type 0 = λ a b. Shows c.hear_rr.new.self room (hear_rr (named c.args.nr t.now) a b t) in
    let B : Bool → Type 0 = λ b. A (c.args.command && c.args.flag) b in
    let C : Bool → Type 0 = λ a. A a c.is_answering-answers.result in
    let P : S → Type 0 = λ w. Shows c.hear_rr.new.self room
    (hear_supervisory w (named c.args.nr t.now) c.args.command c.args.flag t) in
    subst P (sym c.in-Rr.is) (subst B c.is_answering-answers.ensures (subst C c.is_asking-asks.ensures
    (c.hear_rr.ensures room t h valid)))

pub returns-in-Rnr : goal.returns-in-Rnr
returns-in-Rnr c = λ room t h valid.
    let A : Bool → Bool → Type 0 = λ a b. Shows c.hear_rnr.new.self room (hear_rnr (named c.args.nr t.now) a b t) in
    let B : Bool → Type 0 = λ b. A (c.args.command && c.args.flag) b in
    let C : Bool → Type 0 = λ a. A a c.is_answering-answers.result in
    let P : S → Type 0 = λ w. Shows c.hear_rnr.new.self room
    (hear_supervisory w (named c.args.nr t.now) c.args.command c.args.flag t) in
    subst P (sym c.in-Rnr.is) (subst B c.is_answering-answers.ensures (subst C c.is_asking-asks.ensures
    (c.hear_rnr.ensures room t h valid)))

pub returns-in-Rej : goal.returns-in-Rej
returns-in-Rej c = λ room t h valid.
    let A : Bool → Bool → Type 0 = λ a b. Shows c.hear_rej.new.self room (hear_rej (named c.args.nr t.now) a b t) in
    let B : Bool → Type 0 = λ b. A (c.args.command && c.args.flag) b in
    let C : Bool → Type 0 = λ a. A a c.is_answering-answers.result in
    let P : S → Type 0 = λ w. Shows c.hear_rej.new.self room
    (hear_supervisory w (named c.args.nr t.now) c.args.command c.args.flag t) in
    subst P (sym c.in-Rej.is) (subst B c.is_answering-answers.ensures (subst C c.is_asking-asks.ensures
    (c.hear_rej.ensures room t h valid)))

pub returns-in-Srej : goal.returns-in-Srej
returns-in-Srej c = λ room t h valid.
    let A : Bool → Bool → Type 0 = λ a b. Shows c.hear_srej.new.self room (hear_srej (named c.args.nr t.now) c.args.flag a b t) in
    let B : Bool → Type 0 = λ b. A (c.args.command && c.args.flag) b in
    let C : Bool → Type 0 = λ a. A a c.is_answering-answers.result in
    let P : S → Type 0 = λ w. Shows c.hear_srej.new.self room
    (hear_supervisory w (named c.args.nr t.now) c.args.command c.args.flag t) in
    subst P (sym c.in-Srej.is) (subst B c.is_answering-answers.ensures (subst C c.is_asking-asks.ensures
    (c.hear_srej.ensures room t h valid)))
