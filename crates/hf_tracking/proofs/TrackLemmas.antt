-- Tracks, and lists of tracks, within bounds.
use Rattle.hf_tracking.proofs.Common.{ℕ, List, get_or, set, replicate, sym, ap, subst, ◌∙◌, arith, inl, inr}
use Rattle.hf_tracking.proofs.Common.{get_or-set_same, get_or-set_other, get_or-replicate, length-set, cases_eq, All}
use Rattle.hf_tracking.proofs.Common.{Track, no_track, IsBounded}
use Rattle.std.proofs.lemmas.List.{length-replicate}
use Rattle.tone_tracking.proofs.PhasorLemmas.{within_none}

pub bounded_track : IsBounded no_track
bounded_track = record { mark = within_none 800000000; space = within_none 800000000; drift = omega arith }

pub bounded_none : (n : ℕ) → All IsBounded (replicate n no_track)
bounded_none n k d inside =
    let size = length-replicate n no_track in
    subst IsBounded (sym (get_or-replicate n k no_track d (omega arith))) bounded_track

pub bounded_set : (tracks : List Track) (at : ℕ) (track : Track) → All IsBounded tracks → IsBounded track
    → All IsBounded (set tracks at track)
bounded_set tracks at track all one k d inside = elim (cases_eq k at) [
  | inl e ↦ (let size = length-set tracks at track in
      subst IsBounded (sym (ap (λ i. get_or (set tracks at track) i d) e
      ∙ get_or-set_same tracks at track d (omega arith)))
      one)
  | inr ne ↦ (let size = length-set tracks at track in
      subst IsBounded (sym (get_or-set_other tracks at k track d ne)) (all k d (omega arith)))
]
