use Rattle.tnc_forms.proofs.Common.{◌≡◌, ◌≤◌, ◌+◌, ◌-◌, List, ℕ, Some, input_limit}
use Rattle.std.proofs.Common.{vec_len}
use Rattle.tnc_forms.proofs.ReadingLemmas.{HasRead}
use Rattle.tnc_forms.proofs.reading.read_all.Given as goal

abbrev pub invariant-reading : goal.invariant-reading
invariant-reading g l = record {
  so_far : (whole : List ℕ) → (g.I.Source.told l.initial.input).left ≡ Some whole
      → HasRead whole l.octets.items (g.I.Source.told l.input).left;
  bound : vec_len l.octets ≤ input_limit + 1;
  faultless : (g.I.Source.told l.input).faults ≡ (g.I.Source.told l.initial.input).faults;
}

abbrev pub decreases-reading : goal.decreases-reading
decreases-reading g l = input_limit + 1 - vec_len l.octets
