-- How an end was told, and the codes of live commands.
use Rattle.tnc_main.proofs.Common.{◌≡◌, ℕ, ◌≤◌, List, Option, Some, None, inl, inr, ap, arith, ◌⊎◌, HasRisen, SinkTold}
use Rattle.tnc_main.proofs.Common.{Status, IsEndTold, IsLiveCode}
use Rattle.tnc_main.specs.declared.status.Status.TheVariants.{WriteFault as OutputFailed}

-- the status is the end's own, and the report did not fail; or it failed
abbrev pub Settled : Status → Status → SinkTold → SinkTold → Type 0
Settled own status before after =
    ((status ≡ own) × (after.faults ≡ before.faults)) ⊎ ((status ≡ OutputFailed) × HasRisen before.faults after.faults)

pub settled : (line : Option (List ℕ)) (own status : Status) (before after : SinkTold)
    → IsEndTold line own status before after → Settled own status before after
settled None own status before after (is, same) = inl (is, ap (λ (s : SinkTold). s.faults) same)
settled (Some line) own status before after (inl (is, more)) = inl (is, more.faultless)
settled (Some line) own status before after (inr (is, part, rose)) = inr (is, rose)

-- a live command that ended well
pub ended_well : IsLiveCode 0
ended_well = record {
  not_words = λ is. omega arith;
  not_stray = λ is. omega arith;
  not_unquiet = λ is. omega arith;
  not_spent = λ is. omega arith;
}

-- a fault of its input, of memory or of a stream
pub stopped : (code : ℕ) → 2 ≤ code → code ≤ 5 → IsLiveCode code
stopped code low high = record {
  not_words = λ is. omega arith;
  not_stray = λ is. omega arith;
  not_unquiet = λ is. omega arith;
  not_spent = λ is. omega arith;
}

-- one of its own statuses
pub own_code : (code : ℕ) → 10 ≤ code → IsLiveCode code
own_code code low = record {
  not_words = λ is. omega arith;
  not_stray = λ is. omega arith;
  not_unquiet = λ is. omega arith;
  not_spent = λ is. omega arith;
}
