-- What a station sends a connection in its own steps, and the link of two calls in them.
use Rattle.station_laws.proofs.Common.{◌≡◌, ℕ, zero, suc, Bool, false, List, [], ◌∷◌, ◌++◌, map, Option, None, refl}
use Rattle.station_laws.proofs.Common.{sym, ap, ◌∙◌, subst, map-append, each_append, Machine, new_machine}
use Rattle.station_laws.proofs.Common.{End, A, B, other, Config, Link, most_links, StationState, new_station, Step, at_end}
use Rattle.station_laws.proofs.Common.{Calls, call_at_end, link_at_end, path_between, LinkStep, steps_of, link_steps_at}
use Rattle.station_laws.proofs.Common.{Choice}
use Rattle.std.specs.Prelude.{replicate}
use Rattle.std.specs.List.{flat_map, AllByRecursion as Each}
use Rattle.std.proofs.lemmas.List.{length-replicate}
use Rattle.agwpe_client.specs.CallRun.{CallPlan}
use Rattle.station.specs.declared.host_out.Piece.{Piece}
use Rattle.station_laws.specs.ProgramsTold.{SpeaksAgwpe}
use Rattle.station_laws.proofs.Chains.{last_append, last_machine}
use Rattle.station_laws.proofs.Tables.{NotChosen, none_chosen, one_of_none}
use Rattle.call_laws.specs.Client.{IsBetweenCalls, IsClientStep, pieces_for}
use Rattle.call_laws.proofs.Collect.{FitsItem}
use Rattle.call_laws.proofs.Items.{IsOwnedChain, Item, all_items, items_append, last_owned, messages_append, messages_of}
use Rattle.call_laws.proofs.Items.{owned_append, tells_append, tells_of}
use Rattle.call_laws.proofs.LinkActs.{chain_append, meant}
use Rattle.call_laws.proofs.OwnTables.{IsOwnPlace, IsValidPlace, OwnTable}
use Rattle.call_laws.proofs.Sayings.{HasTen, pieces_both, pieces_with}
use Rattle.call_laws.proofs.Walk.{step_does}
use Rattle.live_laws.specs.LiveRuns.{own_step, steps_at}
use Rattle.live_laws.specs.LiveSteps.{OwnStep}
use Rattle.live_laws.specs.Taken.{IsChain, StaysIn, said, state_after}

-- the link of two calls, as a call has it at an end
abbrev pub plan_at : End → Calls → CallPlan
plan_at end calls = record {
  own = call_at_end calls end;
  remote = call_at_end calls (other end);
  via = [];
  text = [];
  expect = 0;
}

-- ---- the steps of one station

abbrev pub mine : End → List Step → List Step
mine end [] = []
mine end (step ∷ steps) = at_end end step.station (step ∷ []) ++ mine end steps

pub mine_own : (end : End) (steps : List Step) → map own_step (mine end steps) ≡ steps_at end steps
mine_own end [] = refl
mine_own end (step ∷ steps) = go end step.station (mine end steps) ∙ ap (λ xs. at_end end step.station (own_step step ∷ []) ++ xs) (mine_own end steps)
  where
    go : (x e : End) (rest : List Step)
        → map own_step (at_end x e (step ∷ []) ++ rest) ≡ at_end x e (own_step step ∷ []) ++ map own_step rest
    go A A rest = refl
    go A B rest = refl
    go B A rest = refl
    go B B rest = refl

-- what they do to the link
abbrev pub links_in : Choice → List Step → List LinkStep
links_in chosen steps = flat_map (steps_of chosen) steps

pub mine_links : (calls : Calls) (end : End) (steps : List Step)
    → link_steps_at calls end steps ≡ links_in (link_at_end calls end) (mine end steps)
mine_links calls end [] = refl
mine_links calls end (step ∷ steps) =
    ap (λ xs. at_end end step.station (steps_of (link_at_end calls step.station) step) ++ xs)
    (mine_links calls end steps)
    ∙ go end step.station (mine end steps)
  where
    go : (x e : End) (rest : List Step)
        → at_end x e (steps_of (link_at_end calls e) step) ++ links_in (link_at_end calls x) rest
        ≡ links_in (link_at_end calls x) (at_end x e (step ∷ []) ++ rest)
    go A A rest = refl
    go A B rest = refl
    go B A rest = refl
    go B B rest = refl

pub meant_at : (calls : Calls) (end : End) → link_at_end calls end ≡ meant (plan_at end calls)
meant_at calls A = refl
meant_at calls B = refl

pub clients : (id : ℕ) (steps : List Step) → Each (StaysIn id) (map own_step steps)
    → Each (λ (step : OwnStep). SpeaksAgwpe id step.before) (map own_step steps) → Each (IsClientStep id) steps
clients id [] stays speaks = tt
clients id (step ∷ steps) stays speaks =
    (record { speaks = speaks.0; stays = stays.0 }, clients id steps stays.1 speaks.1)

-- ---- what is sent in them

pub record Sends (id : ℕ) (plan : CallPlan) (own : Bool) (m : Machine) (pieces : List Piece) (steps : List LinkStep)
    : Type 0 where
  pub items : List Item
  pub pieces_are : pieces_for id pieces ≡ pieces_with id (messages_of plan.own plan.remote items)
  pub tells : tells_of items ≡ all_items id steps
  pub fits : Each (FitsItem plan) items
  pub ten : Each HasTen (messages_of plan.own plan.remote items)
  pub chain : IsOwnedChain id own m steps

sends_on :
    (id : ℕ) (plan : CallPlan) (own : Bool) (m : Machine) (first second : List Piece) (one two : List LinkStep)
    → Sends id plan own m first one → Sends id plan (last_owned id own one) (last_machine m one) second two
    → Sends id plan own m (first ++ second) (one ++ two)
sends_on id plan own m first second one two h k =
    let a = messages_of plan.own plan.remote h.items in
    let b = messages_of plan.own plan.remote k.items in
    let all = messages_append plan.own plan.remote h.items k.items in
    record {
      items = h.items ++ k.items;
      pieces_are = pieces_both id first second ∙ ap (λ ps. ps ++ pieces_for id second) h.pieces_are
          ∙ ap (λ ps. pieces_with id a ++ ps) k.pieces_are ∙ sym (map-append _ a b)
          ∙ ap (pieces_with id) (sym all);
      tells = tells_append h.items k.items ∙ ap (λ xs. xs ++ tells_of k.items) h.tells
          ∙ ap (λ xs. all_items id one ++ xs) k.tells ∙ sym (items_append id one two);
      fits = each_append (FitsItem plan) h.items k.items h.fits k.fits;
      ten = subst (Each HasTen) (sym all) (each_append HasTen a b h.ten k.ten);
      chain = chain_append id own m one two h.chain k.chain;
    }

pub record SendsOn (id : ℕ) (plan : CallPlan) (own : Bool) (m : Machine) (steps : List Step) (s : StationState)
    : Type 0 where
  pub sends : Sends id plan own m (said (map own_step steps)) (links_in (meant plan) steps)
  pub table :
      OwnTable id (meant plan) (last_owned id own (links_in (meant plan) steps))
      (last_machine m (links_in (meant plan) steps)) (state_after s (map own_step steps)).links

pub own_sends :
    (id : ℕ) (plan : CallPlan) → IsBetweenCalls plan → (steps : List Step) (s : StationState) (own : Bool) (m : Machine)
    → IsChain s (map own_step steps) → Each (IsClientStep id) steps → OwnTable id (meant plan) own m s.links
    → SendsOn id plan own m steps s
own_sends id plan called [] s own m chain client table = record {
  sends = record { items = []; pieces_are = refl; tells = refl; fits = tt; ten = tt; chain = tt };
  table = table;
}
own_sends id plan called (step ∷ steps) s own m chain client table =
    let made = steps_of (meant plan) step in
    let more = links_in (meant plan) steps in
    let h = step_does id plan called step client.0 own m
    (subst (λ (x : StationState). OwnTable id (meant plan) own m x.links) (sym chain.0) table) in
    let rest = own_sends id plan called steps step.after.now (last_owned id own made) (last_machine m made) chain.1
    client.1 h.table in
    let now = (state_after step.after.now (map own_step steps)).links in
    record {
      sends = sends_on id plan own m step.after.out.pieces (said (map own_step steps)) made more
          (record {
            items = h.items;
            pieces_are = h.pieces;
            tells = h.tells;
            fits = h.fits;
            ten = h.ten;
            chain = h.chain;
          }) rest.sends;
      table = subst (λ o. OwnTable id (meant plan) o (last_machine m (made ++ more)) now)
          (sym (owned_append id own made more))
          (subst (λ x. OwnTable id (meant plan) (last_owned id (last_owned id own made) more) x now)
          (sym (last_append m made more)) rest.table);
    }

-- ---- a new station

none_valid : (n : ℕ) → Each IsValidPlace (replicate n None)
none_valid zero = tt
none_valid (suc n) = (tt, none_valid n)

none_meant : (chosen : Choice) (n : ℕ) → chosen None ≡ false → Each (NotChosen chosen) (replicate n None)
none_meant chosen zero is = tt
none_meant chosen (suc n) is = (is, none_meant chosen n is)

abbrev pub first_machine : CallPlan → Config → Machine
first_machine plan c = new_machine (path_between plan.own plan.remote) c.params

pub new_table : (id : ℕ) (plan : CallPlan) (c : Config) (seed : ℕ)
    → OwnTable id (meant plan) false (first_machine plan c) (new_station c seed).links
new_table id plan c seed =
    let places : List (Option Link) = replicate most_links None in
    let none = none_meant (meant plan) most_links refl in
    record {
      size = length-replicate {A = Option Link} most_links None;
      valid = none_valid most_links;
      one = one_of_none (meant plan) places none;
      place = subst (IsOwnPlace id false (first_machine plan c)) (sym (none_chosen (meant plan) places none)) refl;
    }
