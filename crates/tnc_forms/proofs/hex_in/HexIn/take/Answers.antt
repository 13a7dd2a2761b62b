use Rattle.tnc_forms.proofs.Common.{◌≡◌, ◌≤◌, ◌+◌, ◌∷◌, [], ◌++◌, length, take, drop, get_or, Err, Some, sym, subst, ap}
use Rattle.tnc_forms.proofs.Common.{◌∙◌, arith, take_all, take_more, err_from_is_err_and, option_to_list}
use Rattle.tnc_forms.proofs.Common.{strip_carriage_return, Input, HeldLine, StandsFor, is_line_feed, fault_so_far}
use Rattle.tnc_forms.proofs.Common.{frames_so_far}
use Rattle.std.proofs.Common.{append-nil}
use Rattle.tnc_forms.proofs.CutLemmas.{first_inside}
use Rattle.tnc_forms.proofs.Ends.{same_fault}
use Rattle.tnc_forms.proofs.HeldLineLemmas.{bad_end, frames_end, frames_kept, long_more, stands_end, stands_more}
use Rattle.tnc_forms.proofs.LineLemmas.{none_passes}
use Rattle.tnc_forms.proofs.hex_in.HexIn.take.Goals as goal

-- ---- the line ends

pub returns-in_ok-frame-in-Some-clause-stands_for : goal.returns-in_ok-frame-in-Some-clause-stands_for
returns-in_ok-frame-in-Some-clause-stands_for c = λ before h.
    let octets = c.args.octets.now in
    let size = c.in-Some.length in
    let first = first_inside octets size (sym c.in-Some.is ∙ c.line_feed.ensures) in
    subst (λ o. StandsFor c.end_line.new.self (before ++ o)) (sym (take_more octets size 0 first.3))
    (subst (λ s. StandsFor s (before ++ (take size octets ++ get_or octets size 0 ∷ [])))
    (sym c.in_ok-frame-in-Some.ensures.ended)
    (stands_end c.args.self.now before h (take size octets) first.0 (get_or octets size 0)
    first.2 c.in_ok-frame-in-Some.ensures.good))

pub returns-in_ok-frame-in-Some-clause-frame : goal.returns-in_ok-frame-in-Some-clause-frame
returns-in_ok-frame-in-Some-clause-frame c = λ before h.
    let octets = c.args.octets.now in
    let size = c.in-Some.length in
    let held = c.args.self.now in
    let first = first_inside octets size (sym c.in-Some.is ∙ c.line_feed.ensures) in
    ap (λ o. frames_so_far held.least (before ++ o)) (take_more octets size 0 first.3)
    ∙ frames_end held before h (take size octets) first.0 (get_or octets size 0)
    first.2 c.in_ok-frame-in-Some.ensures.good
    ∙ ap (λ f. frames_so_far held.least before ++ option_to_list f) (sym c.in_ok-frame-in-Some.ensures.frame)

pub returns-in_err-frame-in-Some-clause-bad : goal.returns-in_err-frame-in-Some-clause-bad
returns-in_err-frame-in-Some-clause-bad c = λ before fault h is.
    let told = err_from_is_err_and c.from_residual.result c.from_residual.ensures.1 in
    let same : c.in_err-frame-in-Some.field-0.0 ≡ Input fault =
    same_fault _ _ (ap Err (sym told.2) ∙ sym told.1 ∙ is) in
    let octets = c.args.octets.now in
    let size = c.in-Some.length in
    let held = c.args.self.now in
    let first = first_inside octets size (sym c.in-Some.is ∙ c.line_feed.ensures) in
    subst (λ o. (fault_so_far held.least (before ++ o) ≡ Some fault)
    × (frames_so_far held.least (before ++ o) ≡ frames_so_far held.least before)) (sym first.1)
    (bad_end held before h (take size octets) first.0 (get_or octets size 0) first.2 (drop (size + 1) octets) fault
    (c.in_err-frame-in-Some.ensures.bad fault (ap Err same)))

-- ---- the line goes on

pub returns-in_ok-keep-in-None-clause-stands_for : goal.returns-in_ok-keep-in-None-clause-stands_for
returns-in_ok-keep-in-None-clause-stands_for c = λ before h.
    let octets = c.args.octets.now in
    let kept = c.in_ok-keep-in-None.ensures.kept in
    let inside = none_passes is_line_feed octets (sym c.in-None.is ∙ c.line_feed.ensures) in
    subst (λ o. StandsFor c.keep.new.self (before ++ o)) (sym (take_all (length octets) octets (omega arith)))
    (subst (λ s. StandsFor s (before ++ octets)) (sym kept)
    (stands_more c.args.self.now before h octets inside
    (subst (λ (s : HeldLine). length (strip_carriage_return s.part) ≤ 2048) kept c.in_ok-keep-in-None.ensures.short)))

pub returns-in_ok-keep-in-None-clause-frame : goal.returns-in_ok-keep-in-None-clause-frame
returns-in_ok-keep-in-None-clause-frame c = λ before h.
    let octets = c.args.octets.now in
    let held = c.args.self.now in
    let inside = none_passes is_line_feed octets (sym c.in-None.is ∙ c.line_feed.ensures) in
    ap (λ o. frames_so_far held.least (before ++ o)) (take_all (length octets) octets (omega arith))
    ∙ frames_kept held before h octets inside ∙ sym (append-nil (frames_so_far held.least before))

pub returns-in_err-keep-in-None-clause-bad : goal.returns-in_err-keep-in-None-clause-bad
returns-in_err-keep-in-None-clause-bad c = λ before fault h is.
    let told = err_from_is_err_and c.from_residual-in_err-keep-in-None.result
    c.from_residual-in_err-keep-in-None.ensures.1 in
    let same : c.in_err-keep-in-None.field-0.0 ≡ Input fault = same_fault _ _ (ap Err (sym told.2) ∙ sym told.1 ∙ is) in
    let octets = c.args.octets.now in
    let held = c.args.self.now in
    let inside = none_passes is_line_feed octets (sym c.in-None.is ∙ c.line_feed.ensures) in
    let long = c.in_err-keep-in-None.ensures.long fault (ap Err same) in
    (long_more held before h octets inside long.1 ∙ ap Some (sym long.0), frames_kept held before h octets inside)
