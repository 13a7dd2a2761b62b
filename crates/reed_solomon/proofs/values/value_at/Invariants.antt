use Rattle.reed_solomon.proofs.Common.{◌≡◌, take, value_at}
use Rattle.reed_solomon.proofs.values.value_at.Given as goal

abbrev pub invariant-loop-octet : goal.invariant-loop-octet
invariant-loop-octet l = l.value ≡ value_at l.j (take l.octet-index l.octets)
