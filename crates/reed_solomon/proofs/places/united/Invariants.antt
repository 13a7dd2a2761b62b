-- All flags of the first list are set, and those of the second before q.
use Rattle.reed_solomon.proofs.Common.{◌≡◌, ℕ, ◌+◌, ◌<◌, ◌≤◌, true, false, get_or, take, length, count_true}
use Rattle.reed_solomon.proofs.places.united.Given as goal

abbrev pub invariant-loop-q : goal.invariant-loop-q
invariant-loop-q l = record {
  size : length l.united ≡ 255;
  first : (q : ℕ) → get_or l.flags q false ≡ true → get_or l.united q false ≡ true;
  second : (q : ℕ) → q < l.q → get_or l.others q false ≡ true → get_or l.united q false ≡ true;
  count : count_true l.united ≤ count_true l.flags + count_true (take l.q l.others);
}
