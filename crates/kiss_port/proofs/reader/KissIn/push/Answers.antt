use Rattle.std.proofs.Common.{◌≡◌, ℕ, [], ◌∷◌, ◌++◌, subst, sym, ap, ◌∙◌, Result, Ok, Err}
use Rattle.std.specs.Option.{option_to_list}
use Rattle.std.specs.Result.{OnOk, OnErr}
use Rattle.std.proofs.lemmas.Result.{IfOk-weaker, on_ok_weaker}
use Rattle.kiss_port.specs.Items.{items_in}
use Rattle.kiss_port.specs.Held.{Held, StandsFor, StandsForSome, new_held, held_item}
use Rattle.kiss_port.proofs.HeldLemmas.{items_end, items_same, stands_end, stands_octet, some_end, some_octet}
use Rattle.kiss_port.proofs.reader.KissIn.push.Goals as goal

-- what holds of a reader after either answer
either : {T E : Type 0} (P : Held → Type 0) (r : Result T E) (old taken new : Held) → OnOk r (new ≡ taken)
    → OnErr r (new ≡ old) → P taken → P old → P new
either P (Ok x) old taken new is same there here = subst P (sym is) there
either P (Err e) old taken new is same there here = subst P (sym same) here

pub invariant_of-self : goal.invariant_of-self
invariant_of-self c =
    either StandsForSome c.end.result c.self.inside.piece new_held c.end.new.self c.end.ensures.opened
    c.end.ensures.refused (some_end c.self.inside.piece c.self.invariant) c.self.invariant

pub returns-then-octet-eq-FEND-clause-stands_for : goal.returns-then-octet-eq-FEND-clause-stands_for
returns-then-octet-eq-FEND-clause-stands_for c = λ stream stands.
    let P : ℕ → Type 0 = λ octet. StandsFor new_held (stream ++ octet ∷ []) in
    let Q : Held → Type 0 = λ held. StandsFor held (stream ++ c.args.octet ∷ []) in
    on_ok_weaker c.end.result (λ opened. subst Q (sym opened)
    (subst P (sym c.if-octet-eq-FEND.true) (stands_end c.args.self.now stream stands))) c.end.ensures.opened

pub returns-then-octet-eq-FEND-clause-item : goal.returns-then-octet-eq-FEND-clause-item
returns-then-octet-eq-FEND-clause-item c = λ stream stands.
    IfOk-weaker c.end.result (λ item. item ≡ held_item c.self.inside.piece)
    (λ item. items_in (stream ++ c.args.octet ∷ []) ≡ items_in stream ++ option_to_list item)
    (λ item is.
    ap (λ octet. items_in (stream ++ octet ∷ [])) c.if-octet-eq-FEND.true ∙ items_end c.args.self.now stream stands
    ∙ ap (λ i. items_in stream ++ option_to_list i) (ap held_item (sym c.self.view_is) ∙ sym is))
    c.end.ensures.item

pub invariant_of-self-2 : goal.invariant_of-self-2
invariant_of-self-2 c =
    subst StandsForSome (sym c.in_ok-take.ensures.taken)
    (some_octet c.self.inside.piece c.args.octet c.if-octet-eq-FEND.false c.self.invariant)

pub returns-clause-stands_for : goal.returns-clause-stands_for
returns-clause-stands_for c = λ stream stands.
    let Q : Held → Type 0 = λ held. StandsFor held (stream ++ c.args.octet ∷ []) in
    subst Q (sym c.in_ok-take.ensures.taken)
    (stands_octet c.self.inside.piece stream (subst (λ held. StandsFor held stream) (sym c.self.view_is) stands)
    c.args.octet c.if-octet-eq-FEND.false)

pub returns-clause-item : goal.returns-clause-item
returns-clause-item c = λ stream stands. items_same c.args.self.now stream stands c.args.octet c.if-octet-eq-FEND.false
