-- The stray candidates of samples: those that are no frame that was sent.
use Rattle.std.specs.Prelude.{ℕ, Option, Bool, not, List, option_map, find}
use Rattle.std.specs.List.{filter}
use Rattle.frame_merge.specs.declared.candidate.Candidate.{Candidate}
use Rattle.clean_signal.specs.declared.true_end.TrueEnd.{TrueEnd}
use Rattle.clean_signal.specs.Stray.{is_sent}

abbrev pub is_stray : List TrueEnd → Candidate → Bool
is_stray ends item = not (is_sent ends item)

-- the stray ones among candidates, in order, if the frames that were sent have these true ends
abbrev pub strays : List TrueEnd → List Candidate → List Candidate
strays ends items = filter (is_stray ends) items

-- the octets of the first stray one
abbrev pub first_stray : List TrueEnd → List Candidate → Option (List ℕ)
first_stray ends items = option_map (λ item. item.octets) (find (is_stray ends) items)
