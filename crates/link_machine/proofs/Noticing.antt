-- To see whether a poll was passed over changes the variables and what waits, and nothing else.
use Rattle.link_machine.proofs.Common.{◌≡◌, Bool, true, false, if◌then◌else◌, [], ◌∷◌, refl, not, ◌&&◌, Machine, Turn}
use Rattle.link_machine.proofs.Common.{begin, in_order, setting, recover_with, notice_passed, not_passed, left_with}
use Rattle.link_machine.specs.Machine.{with_control}
use Rattle.link_machine.specs.Seizing.{after_passing, asking, poll_anew}

abbrev pub SameBut : Machine → Turn → Type 0
SameBut m t = t ≡ begin (left_with t.now.outgoing (with_control t.now.control m))

same_if : (m : Machine) (b : Bool) (x y : Turn) → SameBut m x → SameBut m y → SameBut m (if b then x else y)
same_if m true x y h k = h
same_if m false x y h k = k

pub noticed : (full : Bool) (m : Machine) → SameBut m (notice_passed full (begin m))
noticed full m =
    let seen = setting not_passed (begin m) in
    same_if m m.control.passed (in_order (setting not_passed ∷ after_passing full ∷ []) (begin m)) (begin m)
    (same_if m (m.control.poll && not full) (poll_anew seen) seen
    (same_if m m.control.by_info (recover_with m.control.rc seen) (setting asking seen) refl refl) refl) refl
