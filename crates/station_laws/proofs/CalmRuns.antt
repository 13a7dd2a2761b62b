-- A step of the station whose hosts never connect nor disconnect: its end stays idle or up, and sends nothing that
-- asks. None of its own asks is in flight and no answer to one, so each event finds a quiet channel, and by the law no
-- N(R) is invalid, for which it would call.
use Rattle.station_laws.proofs.Common.{◌≡◌, ℕ, ◌+◌, true, List, [], ◌∷◌, ◌++◌, sym, ap, ◌∙◌, subst, append_assoc}
use Rattle.station_laws.proofs.Common.{Machine, B, Change, run_changes, AreQuiet, ChangesAreValid, Keeps, Tagged}
use Rattle.station_laws.proofs.Common.{hears_valid, World, seen_from, Pairs, makes, marks_from, event_at_end}
use Rattle.station_laws.proofs.Common.{changes_by, all_changes_by, LinkStep, IsOfNoHost}
use Rattle.std.specs.List.{AllByRecursion as Each}
use Rattle.station_laws.proofs.Along.{makes_near, near_by, AllFollowNear, FollowsNear, by_seen, makes_seen}
use Rattle.station_laws.proofs.Along.{run_changes-append}
use Rattle.station_laws.proofs.Calm.{IsCalm, HearsValid, StaysCalm, calm_step}
use Rattle.station_laws.proofs.CallerQuiet.{quiet_in}
use Rattle.station_laws.proofs.Exchanges.{AsksIn, AsksOut, in_made, in_moves}
use Rattle.station_laws.proofs.NearQuiet.{sends_none}
use Rattle.station_laws.proofs.QuietRuns.{quiet-append, quiet_by}
use Rattle.station_laws.proofs.ValidHearing.{valid_last, valid_seen, heard_valid, made_calm}

-- ---- its events

abbrev pub IsPassive : LinkStep → Type 0
IsPassive step = IsOfNoHost step.event

pub record CalmQuiet (pairs : Pairs) (n : ℕ) (steps : List LinkStep) (w : World) : Type 0 where
  pub quiet : AreQuiet w (all_changes_by B pairs n steps)
  pub asks : AsksOut (run_changes w (all_changes_by B pairs n steps))
  pub calm : IsCalm (run_changes w (all_changes_by B pairs n steps)).b.end.machine.control

pub calm_quiet :
    (start : World) (law : (changes : List Change) → AreQuiet start changes → ChangesAreValid start changes)
    (back : List Tagged) (pairs : Pairs) (n : ℕ) (steps : List LinkStep) (so_far : List Change) (w : World)
    → w ≡ run_changes start so_far → AreQuiet start so_far → IsCalm w.b.end.machine.control → AsksOut w
    → AllFollowNear B back pairs.at_a n steps (seen_from B w) → Each IsPassive steps → CalmQuiet pairs n steps w
calm_quiet start law back pairs n [] so_far w is quiet calm asks follows holds =
    record { quiet = tt; asks = asks; calm = calm }
calm_quiet start law back pairs n (step ∷ steps) so_far w is quiet calm asks follows holds =
    let v = seen_from B w in
    let x = makes_near step.anew v in
    let y = near_by B pairs.at_a n step v in
    let event = event_at_end B step.event in
    let ms = marks_from pairs.at_a (n + step.first) step.joined in
    let changes = changes_by B pairs n step in
    let more = all_changes_by B pairs n steps in
    let next = run_changes w changes in
    let asked : AsksIn x = in_made step.anew v asks in
    let quiet_here : AreQuiet w changes = quiet_by B step.event ms step.anew w (quiet_in B step.event x asked) in
    let quiet_now : AreQuiet start (so_far ++ changes) =
    quiet-append start so_far changes quiet (subst (λ z. AreQuiet z changes) is quiet_here) in
    let next_is : next ≡ run_changes start (so_far ++ changes) =
    ap (λ z. run_changes z changes) is ∙ sym (run_changes-append so_far changes start) in
    let made : run_changes start (so_far ++ makes B step.anew) ≡ run_changes w (makes B step.anew) =
    run_changes-append so_far (makes B step.anew) start ∙ ap (λ z. run_changes z (makes B step.anew)) (sym is) in
    let valid : hears_valid event x ≡ true =
    subst (λ z. hears_valid event z ≡ true) (ap (seen_from B) made ∙ makes_seen B step.anew w)
    (valid_seen B step.event ms (run_changes start (so_far ++ makes B step.anew))
    (valid_last start (so_far ++ makes B step.anew) (Keeps event ms)
    (subst (ChangesAreValid start) (sym (append_assoc so_far (makes B step.anew) (Keeps event ms ∷ [])))
    (law (so_far ++ changes) quiet_now)))) in
    let f : FollowsNear B back step x = follows.0 in
    let stays : StaysCalm step.link.machine step.event =
    calm_step step.link.machine step.event holds.0
    (subst (HearsValid step.event) f.machine (heard_valid B step.event x f.reads valid))
    (subst (λ (m : Machine). IsCalm m.control) f.machine (made_calm step.anew v calm)) in
    let seen : seen_from B next ≡ y = by_seen B pairs n step step.anew w in
    let asks_next : AsksOut next =
    subst AsksIn (sym seen) (in_moves B step.event ms x (sends_none B back step v f stays.none) asked) in
    let calm_next : IsCalm next.b.end.machine.control =
    subst (λ (m : Machine). IsCalm m.control) (sym (ap (λ (z : World). z.a.end.machine) seen ∙ f.next)) stays.calm in
    let rest : CalmQuiet pairs n steps next =
    calm_quiet start law back pairs n steps (so_far ++ changes) next next_is quiet_now calm_next asks_next
    (subst (AllFollowNear B back pairs.at_a n steps) (sym seen) follows.1) holds.1 in
    let after : run_changes w (changes ++ more) ≡ run_changes next more = run_changes-append changes more w in
    record {
      quiet = quiet-append w changes more quiet_here rest.quiet;
      asks = subst AsksOut (sym after) rest.asks;
      calm = subst (λ (z : World). IsCalm z.b.end.machine.control) (sym after) rest.calm;
    }
