use Rattle.tnc_forms.proofs.Common.{◌≡◌, ◌++◌, List, ℕ, Some, None, sym, subst, ap, ◌∙◌, option_to_list, IfOk, OnOk}
use Rattle.tnc_forms.proofs.Common.{Input, InputFault, fault_in_line, hex_fault, HeldLine, StandsFor, fault_of}
use Rattle.tnc_forms.proofs.Common.{frame_of, frames_in_lines, Line, frames_so_far}
use Rattle.std.specs.Prelude.{IsErrOf}
use Rattle.tnc_forms.proofs.Ends.{if_ok, map_ok}
use Rattle.tnc_forms.proofs.HeldLineLemmas.{bad_last, frames_last, good_last}
use Rattle.tnc_forms.proofs.hex_in.HexIn.finish.Goals as goal

pub returns-clause-frame : goal.returns-clause-frame
returns-clause-frame c =
    let inside = c.self.inside in
    let view : HeldLine = record { least = inside.least; place = inside.place; part = inside.part.items } in
    let line : List ℕ → Line = λ text. record { place = inside.place; text = text } in
    let P : HeldLine → Type 0 = λ held. (octets : List ℕ) → StandsFor held octets
    → IfOk c.frame_of_line.result (λ frame. frames_in_lines held.least octets
    ≡ frames_so_far held.least octets ++ option_to_list frame) in
    subst P c.self.view_is (λ octets h.
    if_ok c.frame_of_line.result c.frame_of_line.ensures.good c.frame_of_line.ensures.frame
    (λ frame none is. frames_last view octets h (ap (λ t. fault_of inside.least (line t)) (sym c.deref.ensures.value)
    ∙ none)
    ∙ ap (λ f. frames_so_far inside.least octets ++ option_to_list f)
    (ap (λ t. frame_of inside.least (line t)) (sym c.deref.ensures.value) ∙ sym is)))

pub returns-clause-good : goal.returns-clause-good
returns-clause-good c =
    let inside = c.self.inside in
    let view : HeldLine = record { least = inside.least; place = inside.place; part = inside.part.items } in
    let line : List ℕ → Line = λ text. record { place = inside.place; text = text } in
    let P : HeldLine → Type 0 = λ held. (octets : List ℕ) → StandsFor held octets
    → OnOk c.frame_of_line.result (hex_fault held.least octets ≡ None) in
    subst P c.self.view_is (λ octets h.
    map_ok c.frame_of_line.result (λ none. good_last view octets h
    (ap (λ t. fault_of inside.least (line t)) (sym c.deref.ensures.value) ∙ none)) c.frame_of_line.ensures.good)

pub returns-clause-bad : goal.returns-clause-bad
returns-clause-bad c =
    let inside = c.self.inside in
    let view : HeldLine = record { least = inside.least; place = inside.place; part = inside.part.items } in
    let line : List ℕ → Line = λ text. record { place = inside.place; text = text } in
    let P : HeldLine → Type 0 = λ held. (octets : List ℕ) → (fault : InputFault) → StandsFor held octets
    → IsErrOf c.frame_of_line.result (Input fault)
    → (hex_fault held.least octets ≡ Some fault) × (frames_in_lines held.least octets ≡ frames_so_far held.least octets)
    in
    subst P c.self.view_is (λ octets fault h is.
    bad_last view octets h fault (ap (λ t. fault_in_line (fault_of inside.least (line t))) (sym c.deref.ensures.value)
    ∙ c.frame_of_line.ensures.bad fault is))
