-- What the exit status of a live station says.
use Rattle.tnc_main.proofs.Common.{◌≡◌, ℕ, ◌≤◌, List, length, Option, Some, inl, inr, sym, subst, ap, ◌∙◌, arith, ◌⊎◌}
use Rattle.tnc_main.proofs.Common.{HasRisen, ServeOptions, input_limit, ServeWords, Outside, SourceTold, Status, Done}
use Rattle.tnc_main.proofs.Common.{BadWords, ReadFault, WriteFault, NoPort, RunsLive, Serves, words_of, code_of}
use Rattle.tnc_main.proofs.Common.{IsLiveCode}
use Rattle.tnc_main.specs.declared.status.Status.TheVariants.{Stray, NotQuiet, Spent}
use Rattle.tnc_main.proofs.ServingLemmas.{Ends, WritesFailed, at_done, at_no_port, at_read_fault, at_write_fault}
use Rattle.tnc_main.proofs.ServingLemmas.{ends_well, nothing_spent, nothing_strays, nothing_unquiet, own_status}
use Rattle.tnc_main.proofs.ServingLemmas.{up_to_ten, words_are_good}
use Rattle.tnc_main.proofs.Statuses.{one_status}

module _ (words : ServeWords) (code : ℕ) (input left : SourceTold) (before after : Outside)
    (h : (status : Status) × (code ≡ code_of status) × Serves words status input left before after) where
  status_is : (status : Status) → code ≡ code_of status → h.0 ≡ status
  status_is status is = one_status h.0 status (sym h.1 ∙ is)

  ends : Ends words input left before h.2.between after h.0 h.2.end
  ends = (h.2.served, h.2.told)

  pub faultless : code ≡ 0 → (left.faults ≡ input.faults) × (after.output.faults ≡ before.output.faults)
      × (after.report.faults ≡ before.report.faults)
  faultless is = at_done words input left before h.2.between after h.0 h.2.end ends (status_is Done is)

  pub read_fault : code ≡ 4 → HasRisen input.faults left.faults
  read_fault is = at_read_fault words input left before h.2.between after h.0 h.2.end ends (status_is ReadFault is)

  pub write_fault : code ≡ 5 → WritesFailed before after
  write_fault is = at_write_fault words input left before h.2.between after h.0 h.2.end ends (status_is WriteFault is)

  pub no_port : code ≡ 10 → HasRisen before.ports.faults after.ports.faults
  no_port is = at_no_port words input left before h.2.between after h.0 h.2.end ends (status_is NoPort is)

  pub own : IsLiveCode code
  own = record {
    not_words = λ is. words_are_good h.2.end h.0 h.2.between after h.2.told (status_is BadWords is);
    not_stray = λ is. nothing_strays h.2.end h.0 h.2.between after h.2.told (status_is Stray is);
    not_unquiet = λ is. nothing_unquiet h.2.end h.0 h.2.between after h.2.told (status_is NotQuiet is);
    not_spent = λ is. nothing_spent h.2.end h.0 h.2.between after h.2.told (status_is Spent is);
  }

  pub not_called : code ≤ 10
  not_called = elim (own_status h.2.end h.0 h.2.between after h.2.told) [
    | inl is ↦ subst (λ n. n ≤ 10) (sym (h.1 ∙ ap code_of is)) (up_to_ten h.2.end)
    | inr failed ↦ subst (λ n. n ≤ 10) (sym (h.1 ∙ ap code_of failed)) (omega arith)
  ]

  pub complete : (octets : List ℕ) → input.left ≡ Some octets → length octets ≤ input_limit
      → (HasRisen input.faults left.faults → ⊥) → (HasRisen before.output.faults after.output.faults → ⊥)
      → (HasRisen before.report.faults after.report.faults → ⊥) → (HasRisen before.ports.faults after.ports.faults → ⊥)
      → (code ≡ 0) ⊎ (code ≡ 3)
  complete octets tells few no_read no_write no_report no_port =
      elim (ends_well words input left before h.2.between after h.0 h.2.end ends octets tells few no_read no_write
      no_report no_port) [
        | inl well ↦ inl (h.1 ∙ ap code_of well)
        | inr memory ↦ inr (h.1 ∙ ap code_of memory)
      ]

-- what was served as some words ask for it was served as options that give these words ask for it
pub served_as : (words : ServeWords) (options : ServeOptions) (outer code : ℕ) (input left : SourceTold)
    (before after : Outside) → words ≡ words_of options outer
    → (status : Status) × (code ≡ code_of status) × Serves words status input left before after
    → (status : Status) × (code ≡ code_of status) × Serves (words_of options outer) status input left before after
served_as words options outer code input left before after same h =
    (h.0, h.1, subst (λ w. Serves w h.0 input left before after) same h.2)

-- what holds from an input and an outside on holds from equal ones on
pub rebased : (options : ServeOptions) (outer code : ℕ) (was input left : SourceTold) (stood before after : Outside)
    → was ≡ input → stood ≡ before
    → (status : Status) × (code ≡ code_of status) × Serves (words_of options outer) status was left stood after
    → (status : Status) × (code ≡ code_of status) × RunsLive options outer status input left before after
rebased options outer code was input left stood before after unread untouched h = (
  h.0,
  h.1,
  inr (subst (λ i. Serves (words_of options outer) h.0 i left before after) unread
      (subst (λ o. Serves (words_of options outer) h.0 was left o after) untouched h.2)),
)
