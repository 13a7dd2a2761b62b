-- A joint run with one step more: it is a run, and it is heard in order, if the step adds the next pair or none.
-- Whoever makes a run step by step keeps these.
use Rattle.station_laws.proofs.Common.{◌≡◌, ℕ, ◌+◌, ◌<◌, ◌≤◌, List, [], ◌∷◌, ◌++◌, length, take, Some, get_or, refl}
use Rattle.station_laws.proofs.Common.{sym, ap, ◌∙◌, subst, arith, inl, inr, All, slice_get, cases_lt, length-append}
use Rattle.station_laws.proofs.Common.{get_or_append_left, All-contains_itself, All-from_recursion, slice_get-get_or}
use Rattle.station_laws.proofs.Common.{slice_get_within, get_or-append_seam, take-append_seam, End, other, Step}
use Rattle.station_laws.proofs.Common.{Stations, state_of, stepped, IsJointRun, all_stepped, queued_at, AreAlikeButForH}
use Rattle.station_laws.proofs.Common.{Pair, RiseBoth, Callsign, HearsFrameOf, HearsLinkFrame, IsHeardPair, AreHeardInOrder}
use Rattle.std.proofs.lemmas.List.{take-append-le}
use Rattle.std.proofs.lemmas.List.Elements.{All-append, Contains-append_left, Contains-append_right}
use Rattle.std.proofs.lemmas.List.Quantifiers.{all_pairs_push}

-- ---- a run

pub all_stepped_more :
    (steps : List Step) (step : Step) (s : Stations)
    → all_stepped (steps ++ step ∷ []) s ≡ stepped step (all_stepped steps s)
all_stepped_more [] step s = refl
all_stepped_more (first ∷ steps) step s = all_stepped_more steps step (stepped first s)

pub joint_more :
    (steps : List Step) (step : Step) (s : Stations) → IsJointRun s steps
    → step.before ≡ state_of step.station (all_stepped steps s) → IsJointRun s (steps ++ step ∷ [])
joint_more [] step s run before = (before, tt)
joint_more (first ∷ steps) step s run before = (run.0, joint_more steps step (stepped first s) run.1 before)

-- ---- heard in order

get_left :
    (steps : List Step) (step : Step) (k : ℕ) → k < length steps → slice_get (steps ++ step ∷ []) k ≡ slice_get steps k
get_left steps step k within =
    let size = length-append steps (step ∷ []) in
    slice_get-get_or (steps ++ step ∷ []) k step (omega arith)
    ∙ ap Some (get_or_append_left steps (step ∷ []) step k within)
    ∙ sym (slice_get-get_or steps k step within)

get_last : (steps : List Step) (step : Step) → slice_get (steps ++ step ∷ []) (length steps) ≡ Some step
get_last steps step =
    let size = length-append steps (step ∷ []) in
    slice_get-get_or (steps ++ step ∷ []) (length steps) step (omega arith)
    ∙ ap Some (get_or-append_seam steps step [] step)

-- a pair stays one
pair_stays :
    (hearer : End) (steps : List Step) (step : Step) (p : Pair) → IsHeardPair hearer steps p
    → IsHeardPair hearer (steps ++ step ∷ []) p
pair_stays hearer steps step p h =
    let within = slice_get_within steps p.heard h.step h.there in
    let same : take p.heard (steps ++ step ∷ []) ≡ take p.heard steps =
    take-append-le p.heard steps (step ∷ []) (omega arith) in
    record {
      step = h.step;
      octets = h.octets;
      queued = h.queued;
      there = get_left steps step p.heard within ∙ h.there;
      hears = h.hears;
      before = ap (λ xs. slice_get (queued_at (other hearer) xs) p.sent) same ∙ h.before;
      alike = h.alike;
    }

pairs_stay :
    (hearer : End) (steps : List Step) (step : Step) (pairs : List Pair) → All (IsHeardPair hearer steps) pairs
    → All (IsHeardPair hearer (steps ++ step ∷ [])) pairs
pairs_stay hearer steps step pairs h = λ i d within. pair_stays hearer steps step (get_or pairs i d) (h i d within)

-- a step that hears no frame of the link
pub heard_none_more :
    (local remote : Callsign) (hearer : End) (steps : List Step) (step : Step) (pairs : List Pair)
    → AreHeardInOrder local remote hearer steps pairs
    → ((octets : List ℕ) → HearsFrameOf local remote hearer step octets → ⊥)
    → AreHeardInOrder local remote hearer (steps ++ step ∷ []) pairs
heard_none_more local remote hearer steps step pairs order never = record {
  rise = order.rise;
  each = pairs_stay hearer steps step pairs order.each;
  all = λ number found octets is hears. elim (cases_lt number (length steps)) [
    | inl before ↦ order.all number found octets (sym (get_left steps step number before) ∙ is) hears
    | inr not_before ↦
        let past : length steps ≤ number = omega arith in
        absurd (never octets (at_end number found octets is hears past))
  ];
}
  where
    at_end : (number : ℕ) (found : Step) (octets : List ℕ) → slice_get (steps ++ step ∷ []) number ≡ Some found
        → HearsFrameOf local remote hearer found octets → length steps ≤ number
        → HearsFrameOf local remote hearer step octets
    at_end number found octets is hears past =
        let within = slice_get_within (steps ++ step ∷ []) number found is in
        let size = length-append steps (step ∷ []) in
        let last : number ≡ length steps = omega arith in
        let e : Some found ≡ Some step = sym is ∙ ap (slice_get (steps ++ step ∷ [])) last ∙ get_last steps step in
        let same : found ≡ step = cc in
        subst (λ (s : Step). HearsFrameOf local remote hearer s octets) same hears

-- a step that hears the frame of the next pair
pub heard_one_more :
    (local remote : Callsign) (hearer : End) (steps : List Step) (step : Step) (pairs : List Pair)
    (octets queued : List ℕ) (sent : ℕ) → AreHeardInOrder local remote hearer steps pairs → HearsLinkFrame hearer step octets
    → slice_get (queued_at (other hearer) steps) sent ≡ Some queued → AreAlikeButForH octets queued
    → All (λ (p : Pair). p.sent < sent) pairs
    → AreHeardInOrder local remote hearer (steps ++ step ∷ [])
    (pairs ++ (record { heard = length steps; sent = sent }) ∷ [])
heard_one_more local remote hearer steps step pairs octets queued sent order hears there alike above =
    let p : Pair = record { heard = length steps; sent = sent } in
    let new : IsHeardPair hearer (steps ++ step ∷ []) p = record {
      step = step;
      octets = octets;
      queued = queued;
      there = get_last steps step;
      hears = hears;
      before = ap (λ xs. slice_get (queued_at (other hearer) xs) sent) (take-append_seam steps (step ∷ [])) ∙ there;
      alike = alike;
    } in
    record {
      rise = all_pairs_push RiseBoth pairs p order.rise (λ k d within.
          let h = order.each k d within in
          (slice_get_within steps (get_or pairs k d).heard h.step h.there, above k d within));
      each = All-append (IsHeardPair hearer (steps ++ step ∷ [])) pairs (p ∷ [])
          (pairs_stay hearer steps step pairs order.each)
          (All-from_recursion (IsHeardPair hearer (steps ++ step ∷ [])) (p ∷ []) (new, tt));
      all = λ number found other_octets is heard. elim (cases_lt number (length steps)) [
        | inl before ↦
            let old = order.all number found other_octets (sym (get_left steps step number before) ∙ is) heard in
            record {
              pair = old.pair;
              contains = Contains-append_left pairs (p ∷ []) old.pair old.contains;
              is = old.is;
            }
        | inr not_before ↦
            let within = slice_get_within (steps ++ step ∷ []) number found is in
            let size = length-append steps (step ∷ []) in
            let past : length steps ≤ number = omega arith in
            record {
              pair = p;
              contains = Contains-append_right pairs (p ∷ []) p (All-contains_itself (p ∷ []) 0 p (omega arith));
              is = last number (length steps) (length (steps ++ step ∷ [])) within size past;
            }
      ];
    }
  where
    last : (number n size : ℕ) → number < size → size ≡ n + 1 → n ≤ number → n ≡ number
    last number n size within is past = omega arith
