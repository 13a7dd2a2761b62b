-- Whether a frame of a link waits.
use Rattle.station.proofs.Common.{◌≡◌, ℕ, Bool, true, List, map, Option, Some, None, IsTrue, range_with_len, ap}
use Rattle.station.proofs.Common.{false≢true, eqb-true, eq-eqb, is_number, most_links, waits, ticking_at, ticking_links}
use Rattle.station.proofs.Common.{Turn, in_order}
use Rattle.std.specs.Prelude.{◌↔◌}
use Rattle.std.proofs.lemmas.Bool.Decides.{same_from_decides}
use Rattle.std.proofs.lemmas.List.Folds.{Any-from_list_any, list_any-from_Any}
use Rattle.channel_access.specs.Waiting.{WaitingFrame, IsWaiting}

-- the number is there if the test says so
pub number_there : (n : ℕ) (number : Option ℕ) → is_number n number ≡ true → number ≡ Some n
number_there n None h = absurd (false≢true h)
number_there n (Some m) h = ap (λ k. Some k) (eqb-true m n h)

pub there_number : (n : ℕ) (number : Option ℕ) → number ≡ Some n → is_number n number ≡ true
there_number n None h = absurd (cc)
there_number n (Some m) h = let same : m ≡ n = cc in eq-eqb m n same

pub waits_told : (told : Bool) (key : ℕ) (waiting : List WaitingFrame) → (IsTrue told ↔ IsWaiting key waiting)
    → told ≡ waits key waiting
waits_told told key waiting h =
    same_from_decides told (waits key waiting) h (
      λ t. let any = Any-from_list_any (λ (frame : WaitingFrame). is_number key frame.link) waiting t in
          (any.0, any.1, any.2, any.3, number_there key any.1.link any.4),
      λ w. list_any-from_Any (λ (frame : WaitingFrame). is_number key frame.link) waiting
          (w.0, w.1, w.2, w.3, there_number key w.1.link w.4),
    )

-- the ticks of all links, up to the number of them
pub all_ticked : (busy : Bool) (n : ℕ) (turn : Turn) → n ≡ most_links
    → in_order (map (ticking_at busy) (range_with_len 0 n)) turn ≡ ticking_links busy turn
unfolding ticking_links
all_ticked busy n turn all = ap (λ k. in_order (map (ticking_at busy) (range_with_len 0 k)) turn) all
