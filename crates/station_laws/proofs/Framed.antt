-- What the links of a station queue, each frame with whether its step heard SABM, SABME or DISC.
use Rattle.station_laws.proofs.Common.{◌≡◌, ℕ, Bool, List, [], ◌∷◌, ◌++◌, length, map, refl, sym, ap, ◌∙◌, append-nil}
use Rattle.station_laws.proofs.Common.{append_assoc, map-append, length-map, End, A, B, LinkFrame, hears_ask, Step}
use Rattle.station_laws.proofs.Common.{at_end, queued_at}

abbrev pub one_framed : Bool → List ℕ → LinkFrame
one_framed on_ask octets = record { octets = octets; on_ask = on_ask }

abbrev pub framed : Bool → List (List ℕ) → List LinkFrame
framed on_ask queue = map (one_framed on_ask) queue

-- as the links of an end have queued them in a run
abbrev pub frames_at : End → List Step → List LinkFrame
frames_at end [] = []
frames_at end (step ∷ steps) =
    at_end end step.station (framed (hears_ask step.input) step.after.out.queued) ++ frames_at end steps

pub framed-append :
    (on_ask : Bool) (first second : List (List ℕ)) → framed on_ask (first ++ second)
    ≡ framed on_ask first ++ framed on_ask second
framed-append on_ask first second = map-append (one_framed on_ask) first second

pub length-framed : (on_ask : Bool) (queue : List (List ℕ)) → length (framed on_ask queue) ≡ length queue
length-framed on_ask queue = length-map queue (one_framed on_ask)

abbrev pub octets_in : List LinkFrame → List (List ℕ)
octets_in frames = map (λ (f : LinkFrame). f.octets) frames

pub octets_framed : (on_ask : Bool) (queue : List (List ℕ)) → octets_in (framed on_ask queue) ≡ queue
octets_framed on_ask [] = refl
octets_framed on_ask (octets ∷ queue) = ap (λ q. octets ∷ q) (octets_framed on_ask queue)

pub at_end_octets :
    (end station : End) (on_ask : Bool) (queue : List (List ℕ))
    → octets_in (at_end end station (framed on_ask queue)) ≡ at_end end station queue
at_end_octets A A on_ask queue = octets_framed on_ask queue
at_end_octets A B on_ask queue = refl
at_end_octets B A on_ask queue = refl
at_end_octets B B on_ask queue = octets_framed on_ask queue

pub octets_at : (end : End) (steps : List Step) → octets_in (frames_at end steps) ≡ queued_at end steps
octets_at end [] = refl
octets_at end (step ∷ steps) =
    let here = at_end end step.station (framed (hears_ask step.input) step.after.out.queued) in
    map-append (λ (f : LinkFrame). f.octets) here (frames_at end steps)
    ∙ ap (λ q. q ++ octets_in (frames_at end steps)) (at_end_octets end step.station (hears_ask step.input)
    step.after.out.queued)
    ∙ ap (λ q. at_end end step.station step.after.out.queued ++ q) (octets_at end steps)

pub frames_more :
    (e : End) (past : List Step) (step : Step)
    → frames_at e (past ++ step ∷ [])
    ≡ frames_at e past ++ at_end e step.station (framed (hears_ask step.input) step.after.out.queued)
frames_more e [] step = append-nil (at_end e step.station (framed (hears_ask step.input) step.after.out.queued))
frames_more e (first ∷ past) step =
    let here = at_end e first.station (framed (hears_ask first.input) first.after.out.queued) in
    ap (λ q. here ++ q) (frames_more e past step)
    ∙ sym (append_assoc here (frames_at e past) (at_end e step.station
    (framed (hears_ask step.input) step.after.out.queued)))
