-- Statuses and their codes, and what a status says of a command's end.
use Rattle.tnc_main.proofs.Common.{◌≡◌, ◌≢◌, ◌≤◌, ℕ, List, [], ◌∷◌, get_or, Result, Ok, Err, inl, inr, refl, sym, ap}
use Rattle.tnc_main.proofs.Common.{◌∙◌, arith, subst, true≢false, InputFault, Status, Done, BadWords, BadInput}
use Rattle.tnc_main.proofs.Common.{ReadFault, WriteFault, NoPort, Stop, Input, Stray, NotQuiet, Spent, Memory, Read}
use Rattle.tnc_main.proofs.Common.{Write, code_of, EndsAs, status_of}
use Rattle.std.specs.Prelude.{IsOk}
use Rattle.tnc_main.specs.declared.status.Status.TheVariants.{Memory as NoMemory, Stray as HeardStray}
use Rattle.tnc_main.specs.declared.status.Status.TheVariants.{NotQuiet as FoundNoQuiet, Spent as WasSpent, NoHost}
use Rattle.tnc_main.specs.declared.status.Status.TheVariants.{Refused, HostLost, HostBroke, GaveUp}

-- the statuses by their codes; no status has the code 9
statuses : List Status
statuses =
    Done ∷ BadWords ∷ BadInput ∷ NoMemory ∷ ReadFault ∷ WriteFault ∷ HeardStray ∷ FoundNoQuiet ∷ WasSpent ∷ NoPort
    ∷ NoPort ∷ NoHost ∷ Refused ∷ HostLost ∷ HostBroke ∷ GaveUp ∷ []

-- the status of a code
status_at : ℕ → Status
status_at code = get_or statuses code NoPort

status_at-code : (status : Status) → status_at (code_of status) ≡ status
unfolding statuses status_at
status_at-code Done = refl
status_at-code BadWords = refl
status_at-code BadInput = refl
status_at-code NoMemory = refl
status_at-code ReadFault = refl
status_at-code WriteFault = refl
status_at-code HeardStray = refl
status_at-code FoundNoQuiet = refl
status_at-code WasSpent = refl
status_at-code NoPort = refl
status_at-code NoHost = refl
status_at-code Refused = refl
status_at-code HostLost = refl
status_at-code HostBroke = refl
status_at-code GaveUp = refl

-- a status is known by its code
pub one_status : (status other : Status) → code_of status ≡ code_of other → status ≡ other
one_status status other same = sym (status_at-code status) ∙ ap status_at same ∙ status_at-code other

-- the status of a good end
pub status_done : (end : Result (Unit {0}) Stop) → IsOk end → status_of end ≡ Done
status_done (Ok x) ok = refl
status_done (Err stop) ok = absurd (true≢false (sym ok))

-- a code that neither want of memory nor a write fault has is that of the end
own_code : (end : Result (Unit {0}) Stop) (status : Status) (code : ℕ) → EndsAs end status → code_of status ≡ code
    → code ≢ 3 → code ≢ 5
    → code_of (status_of end) ≡ code
own_code end status code (inl same) is not_three not_five = ap code_of (sym same) ∙ is
own_code end status code (inr (told, inl memory)) is not_three not_five =
    absurd (not_three (sym is ∙ ap code_of memory))
own_code end status code (inr (told, inr write)) is not_three not_five = absurd (not_five (sym is ∙ ap code_of write))

module _ (end : Result (Unit {0}) Stop) (status : Status) (ends : EndsAs end status) where
  pub at_done : code_of status ≡ 0 → IsOk end
  at_done is = go end (own_code end status 0 ends is (λ e. omega arith) (λ e. omega arith))
    where
      go : (r : Result (Unit {0}) Stop) → code_of (status_of r) ≡ 0 → IsOk r
      go (Ok x) e = refl
      go (Err (Input fault)) e = absurd (omega arith)
      go (Err (Stray frame)) e = absurd (omega arith)
      go (Err (NotQuiet index)) e = absurd (omega arith)
      go (Err (Spent ticks)) e = absurd (omega arith)
      go (Err Memory) e = absurd (omega arith)
      go (Err Read) e = absurd (omega arith)
      go (Err Write) e = absurd (omega arith)

  pub at_bad_words : code_of status ≡ 1 → ⊥
  at_bad_words is = go end (own_code end status 1 ends is (λ e. omega arith) (λ e. omega arith))
    where
      go : (r : Result (Unit {0}) Stop) → code_of (status_of r) ≡ 1 → ⊥
      go (Ok x) e = omega arith
      go (Err (Input fault)) e = omega arith
      go (Err (Stray frame)) e = omega arith
      go (Err (NotQuiet index)) e = omega arith
      go (Err (Spent ticks)) e = omega arith
      go (Err Memory) e = omega arith
      go (Err Read) e = omega arith
      go (Err Write) e = omega arith

  pub at_bad_input : code_of status ≡ 2 → (fault : InputFault) × (end ≡ Err (Input fault))
  at_bad_input is = go end (own_code end status 2 ends is (λ e. omega arith) (λ e. omega arith))
    where
      go : (r : Result (Unit {0}) Stop) → code_of (status_of r) ≡ 2 → (fault : InputFault) × (r ≡ Err (Input fault))
      go (Ok x) e = absurd (omega arith)
      go (Err (Input fault)) e = (fault, refl)
      go (Err (Stray frame)) e = absurd (omega arith)
      go (Err (NotQuiet index)) e = absurd (omega arith)
      go (Err (Spent ticks)) e = absurd (omega arith)
      go (Err Memory) e = absurd (omega arith)
      go (Err Read) e = absurd (omega arith)
      go (Err Write) e = absurd (omega arith)

  pub at_read_fault : code_of status ≡ 4 → end ≡ Err Read
  at_read_fault is = go end (own_code end status 4 ends is (λ e. omega arith) (λ e. omega arith))
    where
      go : (r : Result (Unit {0}) Stop) → code_of (status_of r) ≡ 4 → r ≡ Err Read
      go (Ok x) e = absurd (omega arith)
      go (Err (Input fault)) e = absurd (omega arith)
      go (Err (Stray frame)) e = absurd (omega arith)
      go (Err (NotQuiet index)) e = absurd (omega arith)
      go (Err (Spent ticks)) e = absurd (omega arith)
      go (Err Memory) e = absurd (omega arith)
      go (Err Read) e = refl
      go (Err Write) e = absurd (omega arith)

  pub at_no_port : code_of status ≡ 10 → ⊥
  at_no_port is = go end (own_code end status 10 ends is (λ e. omega arith) (λ e. omega arith))
    where
      go : (r : Result (Unit {0}) Stop) → code_of (status_of r) ≡ 10 → ⊥
      go (Ok x) e = omega arith
      go (Err (Input fault)) e = omega arith
      go (Err (Stray frame)) e = omega arith
      go (Err (NotQuiet index)) e = omega arith
      go (Err (Spent ticks)) e = omega arith
      go (Err Memory) e = omega arith
      go (Err Read) e = omega arith
      go (Err Write) e = omega arith

  pub at_stray : code_of status ≡ 6 → (frame : List ℕ) × (end ≡ Err (Stray frame))
  at_stray is = go end (own_code end status 6 ends is (λ e. omega arith) (λ e. omega arith))
    where
      go : (r : Result (Unit {0}) Stop) → code_of (status_of r) ≡ 6 → (frame : List ℕ) × (r ≡ Err (Stray frame))
      go (Ok x) e = absurd (omega arith)
      go (Err (Input fault)) e = absurd (omega arith)
      go (Err (Stray frame)) e = (frame, refl)
      go (Err (NotQuiet index)) e = absurd (omega arith)
      go (Err (Spent ticks)) e = absurd (omega arith)
      go (Err Memory) e = absurd (omega arith)
      go (Err Read) e = absurd (omega arith)
      go (Err Write) e = absurd (omega arith)

  pub at_not_quiet : code_of status ≡ 7 → (index : ℕ) × (end ≡ Err (NotQuiet index))
  at_not_quiet is = go end (own_code end status 7 ends is (λ e. omega arith) (λ e. omega arith))
    where
      go : (r : Result (Unit {0}) Stop) → code_of (status_of r) ≡ 7 → (index : ℕ) × (r ≡ Err (NotQuiet index))
      go (Ok x) e = absurd (omega arith)
      go (Err (Input fault)) e = absurd (omega arith)
      go (Err (Stray frame)) e = absurd (omega arith)
      go (Err (NotQuiet index)) e = (index, refl)
      go (Err (Spent ticks)) e = absurd (omega arith)
      go (Err Memory) e = absurd (omega arith)
      go (Err Read) e = absurd (omega arith)
      go (Err Write) e = absurd (omega arith)

  pub at_spent : code_of status ≡ 8 → (ticks : ℕ) × (end ≡ Err (Spent ticks))
  at_spent is = go end (own_code end status 8 ends is (λ e. omega arith) (λ e. omega arith))
    where
      go : (r : Result (Unit {0}) Stop) → code_of (status_of r) ≡ 8 → (ticks : ℕ) × (r ≡ Err (Spent ticks))
      go (Ok x) e = absurd (omega arith)
      go (Err (Input fault)) e = absurd (omega arith)
      go (Err (Stray frame)) e = absurd (omega arith)
      go (Err (NotQuiet index)) e = absurd (omega arith)
      go (Err (Spent ticks)) e = (ticks, refl)
      go (Err Memory) e = absurd (omega arith)
      go (Err Read) e = absurd (omega arith)
      go (Err Write) e = absurd (omega arith)

-- a command that is not live has one of the first nine codes
own_up_to_eight : (end : Result (Unit {0}) Stop) → code_of (status_of end) ≤ 8
own_up_to_eight (Ok x) = omega arith
own_up_to_eight (Err (Input fault)) = omega arith
own_up_to_eight (Err (Stray frame)) = omega arith
own_up_to_eight (Err (NotQuiet index)) = omega arith
own_up_to_eight (Err (Spent ticks)) = omega arith
own_up_to_eight (Err Memory) = omega arith
own_up_to_eight (Err Read) = omega arith
own_up_to_eight (Err Write) = omega arith

pub up_to_eight : (end : Result (Unit {0}) Stop) (status : Status) → EndsAs end status → code_of status ≤ 8
up_to_eight end status (inl same) = subst (λ s. code_of s ≤ 8) (sym same) (own_up_to_eight end)
up_to_eight end status (inr (told, inl memory)) = subst (λ s. code_of s ≤ 8) (sym memory) (omega arith)
up_to_eight end status (inr (told, inr write)) = subst (λ s. code_of s ≤ 8) (sym write) (omega arith)
