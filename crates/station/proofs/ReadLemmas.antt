-- Octets that cannot be read are no frame.
use Rattle.station.proofs.Common.{◌≡◌, ◌⊎◌, Bool, true, false, List, ℕ, Option, None, Result, Ok, Err, IfOk, refl, sym}
use Rattle.station.proofs.Common.{◌∙◌, ap, subst, inl, inr, false≢true, OutOfMemory, Frame, Modulus, IsReadAs}
use Rattle.ax25_frames.specs.declared.fault.FrameFault.{FrameFault}
use Rattle.ax25_frames.specs.declared.fault.FrameFault.TheVariants.{Address, NoControl, NoPid, UnknownControl}
use Rattle.ax25_frames.specs.declared.fault.FrameFault.TheVariants.{InfoTooLong, StrayInfo, Memory}
use Rattle.ax25_frames.specs.FrameOctets.{IsFrame}
use Rattle.station.specs.HeldFrames.{IsUnread}

is_memory : Result Frame FrameFault → Bool
is_memory (Ok frame) = false
is_memory (Err (Address fault)) = false
is_memory (Err (NoControl at)) = false
is_memory (Err (NoPid at)) = false
is_memory (Err (UnknownControl octet)) = false
is_memory (Err (InfoTooLong len)) = false
is_memory (Err (StrayInfo at)) = false
is_memory (Err Memory) = true

is_read : Result Frame FrameFault → Bool
is_read (Ok frame) = true
is_read (Err fault) = false

none_by : (modulus : Modulus) (octets : List ℕ) (fault : FrameFault) (read : Result Frame FrameFault)
    (answer : Result (Option Frame) OutOfMemory) → read ≡ Err fault
    → ((frame : Frame) → IsFrame frame modulus octets → (read ≡ Ok frame) ⊎ (read ≡ Err Memory))
    → is_memory (Err fault) ≡ false → answer ≡ Ok None → IfOk answer (IsReadAs modulus octets)
unfolding is_memory is_read
none_by modulus octets fault read answer is each other e =
    subst (λ (given : Result (Option Frame) OutOfMemory). IfOk given (IsReadAs modulus octets)) (sym e)
    (λ frame whole. elim (each frame whole) [
      | inl good ↦ false≢true (sym (ap is_read is) ∙ ap is_read good)
      | inr memory ↦ false≢true (sym (ap is_memory is ∙ other) ∙ ap is_memory memory)
    ])

pub unread_none : (modulus : Modulus) (octets : List ℕ) (fault : FrameFault) (read : Result Frame FrameFault)
    (answer : Result (Option Frame) OutOfMemory) → read ≡ Err fault
    → ((frame : Frame) → IsFrame frame modulus octets → (read ≡ Ok frame) ⊎ (read ≡ Err Memory)) → IsUnread fault answer
    → IfOk answer (IsReadAs modulus octets)
unfolding is_memory
unread_none modulus octets (Address fault) read answer is each h =
    none_by modulus octets (Address fault) read answer is each refl h
unread_none modulus octets (NoControl at) read answer is each h =
    none_by modulus octets (NoControl at) read answer is each refl h
unread_none modulus octets (NoPid at) read answer is each h =
    none_by modulus octets (NoPid at) read answer is each refl h
unread_none modulus octets (UnknownControl octet) read answer is each h =
    none_by modulus octets (UnknownControl octet) read answer is each refl h
unread_none modulus octets (InfoTooLong len) read answer is each h =
    none_by modulus octets (InfoTooLong len) read answer is each refl h
unread_none modulus octets (StrayInfo at) read answer is each h =
    none_by modulus octets (StrayInfo at) read answer is each refl h
unread_none modulus octets Memory read (Ok reading) is each h = absurd (false≢true h)
unread_none modulus octets Memory read (Err fault) is each h = tt
