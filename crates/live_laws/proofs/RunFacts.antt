-- What a live run is, whole or cut short: steps that follow each other, and an account of each connection.
use Rattle.tnc_ports.proofs.Common.{◌≡◌, ℕ, ◌==◌, Bool, true, false, cond, List, [], ◌∷◌, ◌++◌, refl, sym, ap, ◌∙◌}
use Rattle.tnc_ports.proofs.Common.{subst, inl, inr, append-nil, if◌then◌else◌, Piece, Got, Hosts}
use Rattle.tnc_ports.proofs.Common.{new_hosts, IsLooped, Outside, octets_for}
use Rattle.tnc_ports.specs.declared.serve_words.ServeWords.{ServeWords}
use Rattle.std.specs.List.{AllByRecursion as Each}
use Rattle.std.proofs.lemmas.List.Elements.{All-from_recursion}
use Rattle.link_world.specs.declared.end.End.{End}
use Rattle.link_world.specs.declared.end.End.TheVariants.{A, B}
use Rattle.station_laws.specs.JointRun.{IsJointRun, Stations, Step, at_end, new_stations, state_of, stepped, with_state}
use Rattle.station.specs.State.{new_station}
use Rattle.call_laws.specs.Client.{pieces_for}
use Rattle.tnc_ports.specs.ServedHosts.{AreSentInTurns}
use Rattle.tnc_ports.specs.declared.looping.LoopEnd.{LoopEnd}
use Rattle.tnc_ports.specs.declared.looping.LoopEnd.TheVariants.{Done, Memory, WriteFault}
use Rattle.live_laws.specs.LiveRuns.{LiveRun, own_step, run_of, steps_at}
use Rattle.live_laws.specs.LiveSteps.{OwnStep}
use Rattle.live_laws.specs.RunLaws.{StepsFollow, TakesWhatIsSaid, TwoRunsAreJoint}
use Rattle.live_laws.specs.Taken.{AreSaidIn, IsChain, StaysIn, octets_in}
use Rattle.live_laws.proofs.Accounts.{Account}
use Rattle.live_laws.proofs.Delivering.{IsShort}
use Rattle.live_laws.proofs.Walks.{HasOctetsIn, Walks, cut_run_walks, run_walks}

-- the hosts in the end, as far as the sends leave them
record RunIs (words : ServeWords) (run : LiveRun) : Type 0 where
  hosts : Hosts
  walks : Walks (new_hosts words.config words.seed) hosts run.steps
  sends : AreSentInTurns run.turns hosts

run_is : (words : ServeWords) (loop : LoopEnd) (answers : List (List Got)) (before after : Outside)
    (looped : IsLooped words loop answers before after) → RunIs words (run_of words loop answers before after looped)
run_is words Done answers before after h =
    record { hosts = h.0.hosts; walks = run_walks words h.0 h.1.run; sends = h.1.sends }
run_is words WriteFault answers before after h =
    record { hosts = h.0.hosts; walks = run_walks words h.0 h.1.run; sends = h.1.sends }
run_is words Memory answers before after h = record {
  hosts = h.1.reached;
  walks = cut_run_walks words h.0 h.1.turns h.1.reached h.1.run h.1.asked;
  sends = h.1.sends;
}

-- what is heard in it are octets
pub run_octets :
    (words : ServeWords) (loop : LoopEnd) (answers : List (List Got)) (before after : Outside)
    (looped : IsLooped words loop answers before after)
    → Each HasOctetsIn (run_of words loop answers before after looped).steps
run_octets words loop answers before after looped = (run_is words loop answers before after looped).walks.octets

-- ---- steps that follow each other

pub steps_follow_holds : StepsFollow
steps_follow_holds words loop answers before after looped =
    (run_is words loop answers before after looped).walks.chain

-- a step of one of the stations, and those after it
first_of : (step : Step) (rest_a rest_b : List OwnStep) (e : End) (s : Stations)
    → IsChain s.a (at_end A e (own_step step ∷ []) ++ rest_a) → IsChain s.b (at_end B e (own_step step ∷ []) ++ rest_b)
    → let next = with_state e step.after.now s in
    (step.before ≡ state_of e s) × IsChain next.a rest_a × IsChain next.b rest_b
first_of step rest_a rest_b A s a b = (a.0, a.1, b)
first_of step rest_a rest_b B s a b = (b.0, a, b.1)

joint : (steps : List Step) (s : Stations) → IsChain s.a (steps_at A steps) → IsChain s.b (steps_at B steps)
    → IsJointRun s steps
joint [] s a b = tt
joint (step ∷ steps) s a b =
    let h = first_of step (steps_at A steps) (steps_at B steps) step.station s a b in
    (h.0, joint steps (stepped step s) h.1 h.2)

pub two_runs_are_joint_holds : TwoRunsAreJoint
two_runs_are_joint_holds words_a words_b loop_a loop_b answers_a answers_b before_a after_a before_b after_b looped_a
    looped_b steps order =
    joint steps (new_stations words_a.config words_a.seed words_b.config words_b.seed)
    (subst (IsChain (new_station words_a.config words_a.seed)) (sym order.of_a) (steps_follow_holds words_a loop_a answers_a before_a after_a looped_a))
    (subst (IsChain (new_station words_b.config words_b.seed)) (sym order.of_b) (steps_follow_holds words_b loop_b answers_b before_b after_b looped_b))

-- ---- what a connection takes

octets_same : (id : ℕ) (pieces : List Piece) → octets_for id pieces ≡ octets_in (pieces_for id pieces)
octets_same id [] = refl
octets_same id (piece ∷ pieces) = go (piece.id == id) (octets_same id pieces)
  where
    go : (b : Bool) → octets_for id pieces ≡ octets_in (pieces_for id pieces)
        → (if b then piece.octets else []) ++ octets_for id pieces
        ≡ octets_in (cond b (piece ∷ pieces_for id pieces) (pieces_for id pieces))
    go true rest = ap (λ xs. piece.octets ++ xs) rest
    go false rest = rest

said_in : (id : ℕ) (steps : List OwnStep) (hosts : Hosts) → Account id steps hosts → AreSaidIn id steps hosts.appended
said_in id steps hosts (inl k) = record {
  earlier = steps;
  there = [];
  later = [];
  parts = sym (append-nil steps);
  stays = All-from_recursion (StaysIn id) (steps ++ [])
      (subst (Each (StaysIn id)) (sym (append-nil steps)) k.stays);
  first = ([], sym (ap (λ ps. ps ++ []) k.none));
  short = All-from_recursion IsShort (pieces_for id hosts.appended) (subst (Each IsShort) (sym k.none) tt);
}
said_in id steps hosts (inr (inl k)) = record {
  earlier = k.earlier;
  there = k.since;
  later = [];
  parts = k.parts ∙ ap (λ xs. k.earlier ++ xs) (sym (append-nil k.since));
  stays = All-from_recursion (StaysIn id) (k.earlier ++ k.since) (subst (Each (StaysIn id)) k.parts k.stays);
  first = ([], k.pieces ∙ sym (append-nil (pieces_for id hosts.appended)));
  short = All-from_recursion IsShort (pieces_for id hosts.appended) k.short;
}
said_in id steps hosts (inr (inr k)) = record {
  earlier = k.earlier;
  there = k.since;
  later = k.later;
  parts = k.parts;
  stays = All-from_recursion (StaysIn id) (k.earlier ++ k.since) k.stays;
  first = (k.more, k.pieces);
  short = All-from_recursion IsShort (pieces_for id hosts.appended) k.short;
}

pub takes_what_is_said_holds : TakesWhatIsSaid
takes_what_is_said_holds words loop answers before after looped id =
    let run = run_of words loop answers before after looped in
    let h = run_is words loop answers before after looped in
    let start : Account id [] (new_hosts words.config words.seed) =
    inl (record { unknown = tt; stays = tt; none = refl; absent = refl; new = refl; free = refl }) in
    let sent = h.sends.in_order.first id in
    record {
      appended = h.hosts.appended;
      are_said = said_in id run.steps h.hosts
          (h.walks.accounts id [] start);
      first = (
        sent.rest,
        sym (octets_same id h.hosts.appended) ∙ sent.parts
            ∙ ap (λ xs. xs ++ sent.rest) (h.sends.taken id),
      );
    }
