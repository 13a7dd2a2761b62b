-- What connections of two live stations got over a link is what the link was given, in octets, set-up by set-up.
use Rattle.station_laws.proofs.Common.{◌≡◌, ℕ, ◌<◌, ◌≤◌, false, List, [], ◌∷◌, ◌++◌, map, length, refl, sym, ap}
use Rattle.station_laws.proofs.Common.{◌∙◌, subst, arith, append_assoc, length-append, recursion_from_All}
use Rattle.station_laws.proofs.Common.{All-from_recursion, AgwMessage, End, A, B, World, seen_from, other, Config}
use Rattle.station_laws.proofs.Common.{StationState, new_station, Step, Stations, all_stepped, new_stations, Calls}
use Rattle.station_laws.proofs.Common.{call_at_end, Pairs, LinkStep, link_steps_at, LinkKeepsOrder, IsJointRun}
use Rattle.station_laws.proofs.Common.{steps_of}
use Rattle.std.specs.Prelude.{fold}
use Rattle.std.specs.List.{flat_map, AllByRecursion as Each}
use Rattle.std.proofs.lemmas.List.Concat.{flat_map-append}
use Rattle.std.proofs.lemmas.List.Sums.{fold-append}
use Rattle.agwpe_client.specs.CallRun.{CallPlan}
use Rattle.agwpe_port.specs.Messages.{header_of, messages_in, spelling}
use Rattle.link_world.specs.Origin.{GotInOrder, GotNothingElse}
use Rattle.link_world.specs.SetUps.{SetUp}
use Rattle.station.specs.declared.host_out.Piece.{Piece}
use Rattle.station_laws.specs.LinkOfCalls.{world_of}
use Rattle.station_laws.specs.ProgramsTold.{SpeaksAgwpe}
use Rattle.station_laws.specs.RunsTell.{told_in}
use Rattle.station_laws.specs.StationsLaw.{StationsLaw}
use Rattle.station_laws.proofs.Chains.{last_machine}
use Rattle.station_laws.proofs.LinkTells.{none_idle}
use Rattle.call_laws.proofs.Collect.{FitsItem}
use Rattle.call_laws.proofs.Items.{last_owned}
use Rattle.call_laws.specs.Client.{IsBetweenCalls, pieces_for}
use Rattle.call_laws.specs.FirstPart.{HasHeader, IsFirstPart}
use Rattle.call_laws.specs.SetUpsTold.{SetUpsAreTold, got_told, told_at}
use Rattle.call_laws.proofs.Items.{IsTale, Item, all_items, chain_tale, items_append, messages_of, tale_of_tells}
use Rattle.call_laws.proofs.Items.{tells_append, tells_of, told_all, told_of_items, told_tells}
use Rattle.call_laws.proofs.Items.Item.{Says, Tells}
use Rattle.call_laws.proofs.LinkActs.{chain_append, meant}
use Rattle.call_laws.proofs.Reading.{first_part_is_read_holds}
use Rattle.call_laws.proofs.Sayings.{HasTen, piece_with, pieces_with}
use Rattle.live_laws.specs.BodiesGiven.{AreGiven, BodiesAreGiven}
use Rattle.live_laws.specs.HostActs.{acts_at}
use Rattle.live_laws.specs.HostData.{after_message, octets_got}
use Rattle.live_laws.specs.HostGives.{octets_given}
use Rattle.live_laws.specs.LiveLaw.{GetsInOrder, LiveLaw, run_at}
use Rattle.live_laws.specs.LiveRuns.{LiveRun, octets_taken, own_step, run_of, steps_at}
use Rattle.live_laws.specs.LiveSteps.{OwnStep}
use Rattle.live_laws.specs.Taken.{IsAgwpe, IsChain, IsTakenIn, StaysIn, octets_in, said, state_after}
use Rattle.live_laws.proofs.Noted.{Front, HasGrown, Noted, fits_first, front, gathers_all, gots_of, grown_items, note}
use Rattle.live_laws.proofs.Noted.{noted_gots, octets_told, tale_first, unheard, unheard_told}
use Rattle.live_laws.proofs.OwnSends.{SendsOn, clients, first_machine, links_in, meant_at, mine, mine_links, mine_own}
use Rattle.live_laws.proofs.OwnSends.{new_table, own_sends, plan_at}
use Rattle.live_laws.proofs.Placing.{gets_in_order, given_in, grown_within}
use Rattle.live_laws.proofs.RunFacts.{steps_follow_holds, takes_what_is_said_holds, two_runs_are_joint_holds}
use Rattle.live_laws.proofs.Speaks.{SpeaksInAll, speaks_in_all}

-- ---- lists

record Split {X Y : Type 0} (f : X → Y) (xs : List X) (first rest : List Y) : Type 0 where
  one : List X
  two : List X
  parts : xs ≡ one ++ two
  one_is : map f one ≡ first
  two_is : map f two ≡ rest

split_map : {X Y : Type 0} (f : X → Y) (xs : List X) (first rest : List Y) → map f xs ≡ first ++ rest
    → Split f xs first rest
split_map f xs [] rest is = record { one = []; two = xs; parts = refl; one_is = refl; two_is = is }
split_map f [] (y ∷ first) rest is = absurd (cc)
split_map f (x ∷ xs) (y ∷ first) rest is =
    let same : f x ≡ y = cc in
    let more : map f xs ≡ first ++ rest = cc in
    let h = split_map f xs first rest more in
    record {
      one = x ∷ h.one;
      two = h.two;
      parts = ap (λ zs. x ∷ zs) h.parts;
      one_is = ap (λ ys. f x ∷ ys) h.one_is ∙ ap (λ z. z ∷ first) same;
      two_is = h.two_is;
    }

each_first : {X : Type 0} (P : X → Type 0) (first second : List X) → Each P (first ++ second) → Each P first
each_first P [] second h = tt
each_first P (x ∷ first) second h = (h.0, each_first P first second h.1)

each_second : {X : Type 0} (P : X → Type 0) (first second : List X) → Each P (first ++ second) → Each P second
each_second P [] second h = h
each_second P (x ∷ first) second h = each_second P first second h.1

chain_first : (s : StationState) (first second : List OwnStep) → IsChain s (first ++ second) → IsChain s first
chain_first s [] second h = tt
chain_first s (step ∷ first) second h = (h.0, chain_first step.after.now first second h.1)

chain_second : (s : StationState) (first second : List OwnStep) → IsChain s (first ++ second)
    → IsChain (state_after s first) second
chain_second s [] second h = h
chain_second s (step ∷ first) second h = chain_second step.after.now first second h.1

told_both : (first second : List Item) → told_of_items (first ++ second) ≡ told_of_items first ++ told_of_items second
told_both [] second = refl
told_both (Tells owned told ∷ first) second = ap (λ xs. told ∷ xs) (told_both first second)
told_both (Says message ∷ first) second = told_both first second

-- ---- the octets that are taken

spelled_short : (message : AgwMessage) → length (spelling message) ≤ 262144 → length message.body < 0x100000000
unfolding spelling
spelled_short message short = omega (arith, short, length-append (header_of message) message.body)

each_header : (id : ℕ) (messages : List AgwMessage) → Each HasTen messages
    → Each (λ (piece : Piece). length piece.octets ≤ 262144) (pieces_with id messages) → Each HasHeader messages
each_header id [] ten short = tt
each_header id (message ∷ messages) ten short = (
  record { from = ten.0.from; to = ten.0.to; body = spelled_short message short.0 },
  each_header id messages ten.1 short.1,
)

octets_with : (id : ℕ) (messages : List AgwMessage) → octets_in (pieces_with id messages) ≡ flat_map spelling messages
octets_with id [] = refl
octets_with id (message ∷ messages) = ap (λ xs. spelling message ++ xs) (octets_with id messages)

-- the messages that are read of what was taken, if these were said
messages_taken : (id : ℕ) (messages : List AgwMessage) (pieces : List Piece) (taken : List ℕ)
    → IsFirstPart pieces (pieces_with id messages) → Each HasTen messages
    → Each (λ (piece : Piece). length piece.octets ≤ 262144) pieces → IsFirstPart taken (octets_in pieces)
    → IsFirstPart (messages_in taken) messages
messages_taken id messages pieces taken part ten short first =
    let s = split_map (piece_with id) messages pieces part.0 part.1 in
    let headers : Each HasHeader s.one =
    each_header id s.one (each_first HasTen s.one s.two (subst (Each HasTen) s.parts ten))
    (subst (Each (λ (piece : Piece). length piece.octets ≤ 262144)) (sym s.one_is) short) in
    let octets : octets_in pieces ≡ flat_map spelling s.one = ap octets_in (sym s.one_is) ∙ octets_with id s.one in
    let read : IsFirstPart (messages_in taken) s.one =
    first_part_is_read_holds s.one taken (All-from_recursion HasHeader s.one headers)
    (first.0, sym octets ∙ first.1) in
    (read.0 ++ s.two, s.parts ∙ ap (λ ms. ms ++ s.two) read.1 ∙ append_assoc (messages_in taken) read.0 s.two)

-- ---- one connection

-- the set-ups that a connection was told of, among those of the link so far, and all of them in the end
record Gathered (calls : Calls) (x : End) (steps : List Step) (gots : List (List ℕ)) : Type 0 where
  noted : List Noted
  later : List Noted
  told : gots ≡ octets_told noted
  grown : HasGrown noted later
  all : gots_of later ≡ fold got_told [] (told_at calls x steps)

told_links : (id : ℕ) (items : List Item) (links : List LinkStep) → tells_of items ≡ all_items id links
    → told_of_items items ≡ flat_map told_in links
told_links id items links tells = sym (told_tells items) ∙ ap told_of_items tells ∙ told_all id links

-- what the link told before the connection joined, while it was there, and afterwards
gathered :
    (id : ℕ) (calls : Calls) (x : End) (steps : List Step) (taken : List ℕ) (earlier items : List Item)
    (links_e links_t links_l : List LinkStep)
    → let plan = plan_at x calls in
    IsTale false false (earlier ++ items) → Each (FitsItem plan) items → tells_of earlier ≡ all_items id links_e
    → tells_of items ≡ all_items id links_t
    → IsFirstPart (messages_in taken) (messages_of plan.own plan.remote items)
    → link_steps_at calls x steps ≡ links_e ++ (links_t ++ links_l)
    → Gathered calls x steps (octets_got plan.own plan.remote taken)
gathered id calls x steps taken earlier items links_e links_t links_l tale fits tells_e tells_t read links = record {
  noted = noted;
  later = later;
  told = ap (λ ms. fold (after_message plan.own plan.remote) [] ms) (sym f.messages_are)
      ∙ gathers_all plan earlier f.first tale_f fits_f;
  grown = grown_items (f.rest ++ all_items id links_l) noted;
  all = gots_are;
}
  where
    plan : CallPlan
    plan = plan_at x calls

    f : Front plan items (messages_in taken)
    f = front plan items (messages_in taken) read.0 read.1

    tale_f : IsTale false false (earlier ++ f.first)
    tale_f =
        tale_first false false (earlier ++ f.first) f.rest
        (subst (IsTale false false) (ap (λ xs. earlier ++ xs) f.parts ∙ sym (append_assoc earlier f.first f.rest)) tale)

    fits_f : Each (FitsItem plan) f.first
    fits_f = fits_first plan f.first f.rest (subst (Each (FitsItem plan)) f.parts fits)

    start : List Noted
    start = fold note [] (map unheard earlier)

    noted : List Noted
    noted = fold note start f.first

    later : List Noted
    later = fold note noted (f.rest ++ all_items id links_l)

    -- all that is told while it is there
    told_t : told_of_items f.first ++ told_of_items f.rest ≡ flat_map told_in links_t
    told_t = sym (told_both f.first f.rest) ∙ ap told_of_items (sym f.parts) ∙ told_links id items links_t tells_t

    all_told : told_at calls x steps
        ≡ flat_map told_in links_e ++ (flat_map told_in links_t ++ flat_map told_in links_l)
    all_told =
        ap (flat_map told_in) links ∙ flat_map-append told_in links_e (links_t ++ links_l)
        ∙ ap (λ xs. flat_map told_in links_e ++ xs) (flat_map-append told_in links_t links_l)

    gots_are : gots_of later ≡ fold got_told [] (told_at calls x steps)
    gots_are =
        noted_gots (f.rest ++ all_items id links_l) noted
        ∙ ap (fold got_told (gots_of noted)) (told_both f.rest (all_items id links_l)
        ∙ ap (λ xs. told_of_items f.rest ++ xs) (told_all id links_l))
        ∙ ap (λ gs. fold got_told gs (told_of_items f.rest ++ flat_map told_in links_l)) (noted_gots f.first start)
        ∙ sym (fold-append got_told (gots_of start) (told_of_items f.first)
        (told_of_items f.rest ++ flat_map told_in links_l))
        ∙ ap (fold got_told (gots_of start))
        (sym (append_assoc (told_of_items f.first) (told_of_items f.rest) (flat_map told_in links_l))
        ∙ ap (λ xs. xs ++ flat_map told_in links_l) told_t)
        ∙ ap (λ gs. fold got_told gs (flat_map told_in links_t ++ flat_map told_in links_l))
        (noted_gots (map unheard earlier) []
        ∙ ap (fold got_told []) (unheard_told earlier ∙ told_links id earlier links_e tells_e))
        ∙ sym (fold-append got_told [] (flat_map told_in links_e)
        (flat_map told_in links_t ++ flat_map told_in links_l))
        ∙ ap (fold got_told []) (sym all_told)

-- the steps of a station before a connection joined, while it is there, and afterwards
gathered_at :
    (x : End) (calls : Calls) (steps : List Step) (c : Config) (seed id : ℕ) (run : List OwnStep) (taken : List ℕ)
    → IsBetweenCalls (plan_at x calls) → steps_at x steps ≡ run → IsChain (new_station c seed) run
    → SpeaksInAll id run → IsTakenIn id run taken
    → Gathered calls x steps (octets_got (call_at_end calls x) (call_at_end calls (other x)) taken)
gathered_at x calls steps c seed id run taken called same chain speaks took =
    gathered id calls x steps taken e.sends.items t.sends.items links_e links_t links_l tale t.sends.fits e.sends.tells
    t.sends.tells read links
  where
    plan : CallPlan
    plan = plan_at x calls

    station : StationState
    station = new_station c seed

    all_mine : List Step
    all_mine = mine x steps

    whole : map own_step all_mine ≡ took.are_said.earlier ++ (took.are_said.there ++ took.are_said.later)
    whole = mine_own x steps ∙ same ∙ took.are_said.parts

    one : Split own_step all_mine took.are_said.earlier (took.are_said.there ++ took.are_said.later)
    one = split_map own_step all_mine took.are_said.earlier (took.are_said.there ++ took.are_said.later) whole

    two : Split own_step one.two took.are_said.there took.are_said.later
    two = split_map own_step one.two took.are_said.there took.are_said.later one.two_is

    links_e : List LinkStep
    links_e = links_in (meant plan) one.one

    links_t : List LinkStep
    links_t = links_in (meant plan) two.one

    links_l : List LinkStep
    links_l = links_in (meant plan) two.two

    links : link_steps_at calls x steps ≡ links_e ++ (links_t ++ links_l)
    links =
        mine_links calls x steps ∙ ap (λ f. links_in f all_mine) (meant_at calls x)
        ∙ ap (links_in (meant plan)) (one.parts ∙ ap (λ xs. one.one ++ xs) two.parts)
        ∙ flat_map-append (steps_of (meant plan)) one.one (two.one ++ two.two)
        ∙ ap (λ xs. links_e ++ xs) (flat_map-append (steps_of (meant plan)) two.one two.two)

    stays : Each (StaysIn id) (took.are_said.earlier ++ took.are_said.there)
    stays = recursion_from_All (StaysIn id) (took.are_said.earlier ++ took.are_said.there) took.are_said.stays

    all_speak : Each (λ (step : OwnStep). SpeaksAgwpe id step.before)
        (took.are_said.earlier ++ (took.are_said.there ++ took.are_said.later))
    all_speak =
        subst (Each (λ (step : OwnStep). SpeaksAgwpe id step.before)) took.are_said.parts
        (recursion_from_All (λ (step : OwnStep). SpeaksAgwpe id step.before) run speaks)

    all_chain : IsChain station (took.are_said.earlier ++ (took.are_said.there ++ took.are_said.later))
    all_chain = subst (IsChain station) took.are_said.parts chain

    e : SendsOn id plan false (first_machine plan c) one.one station
    e =
        own_sends id plan called one.one station false (first_machine plan c)
        (subst (IsChain station) (sym one.one_is)
        (chain_first station took.are_said.earlier (took.are_said.there ++ took.are_said.later) all_chain))
        (clients id one.one
        (subst (Each (StaysIn id)) (sym one.one_is)
        (each_first (StaysIn id) took.are_said.earlier took.are_said.there stays))
        (subst (Each (λ (step : OwnStep). SpeaksAgwpe id step.before)) (sym one.one_is)
        (each_first (λ (step : OwnStep). SpeaksAgwpe id step.before) took.are_said.earlier
        (took.are_said.there ++ took.are_said.later) all_speak)))
        (new_table id plan c seed)

    between : StationState
    between = state_after station (map own_step one.one)

    t : SendsOn id plan (last_owned id false links_e) (last_machine (first_machine plan c) links_e) two.one between
    t =
        own_sends id plan called two.one between (last_owned id false links_e)
        (last_machine (first_machine plan c) links_e)
        (subst (λ xs. IsChain (state_after station xs) (map own_step two.one)) (sym one.one_is)
        (subst (IsChain (state_after station took.are_said.earlier)) (sym two.one_is)
        (chain_first (state_after station took.are_said.earlier) took.are_said.there took.are_said.later
        (chain_second station took.are_said.earlier (took.are_said.there ++ took.are_said.later) all_chain))))
        (clients id two.one
        (subst (Each (StaysIn id)) (sym two.one_is)
        (each_second (StaysIn id) took.are_said.earlier took.are_said.there stays))
        (subst (Each (λ (step : OwnStep). SpeaksAgwpe id step.before)) (sym two.one_is)
        (each_first (λ (step : OwnStep). SpeaksAgwpe id step.before) took.are_said.there took.are_said.later
        (each_second (λ (step : OwnStep). SpeaksAgwpe id step.before) took.are_said.earlier
        (took.are_said.there ++ took.are_said.later) all_speak))))
        e.table

    tells : tells_of (e.sends.items ++ t.sends.items) ≡ all_items id (links_e ++ links_t)
    tells =
        tells_append e.sends.items t.sends.items ∙ ap (λ xs. xs ++ tells_of t.sends.items) e.sends.tells
        ∙ ap (λ xs. all_items id links_e ++ xs) t.sends.tells ∙ sym (items_append id links_e links_t)

    tale : IsTale false false (e.sends.items ++ t.sends.items)
    tale =
        tale_of_tells false false (e.sends.items ++ t.sends.items)
        (subst (IsTale false false) (sym tells)
        (chain_tale id false false false (first_machine plan c) (links_e ++ links_t) none_idle (λ is. refl)
        (chain_append id false (first_machine plan c) links_e links_t e.sends.chain t.sends.chain)))

    pieces : pieces_for id (said took.are_said.there)
        ≡ pieces_with id (messages_of plan.own plan.remote t.sends.items)
    pieces = ap (λ xs. pieces_for id (said xs)) (sym two.one_is) ∙ t.sends.pieces_are

    read : IsFirstPart (messages_in taken) (messages_of plan.own plan.remote t.sends.items)
    read =
        messages_taken id (messages_of plan.own plan.remote t.sends.items) (pieces_for id took.appended) taken
        (took.are_said.first.0, sym pieces ∙ took.are_said.first.1) t.sends.ten
        (recursion_from_All (λ (piece : Piece). length piece.octets ≤ 262144) (pieces_for id took.appended)
        took.are_said.short) took.first

-- ---- both ends

order_at :
    (x : End) (calls : Calls) (pairs : Pairs) (a b : Config) (steps : List Step) (now : Stations)
    → LinkKeepsOrder calls pairs a b steps now
    → let w = seen_from x (world_of calls pairs a.params b.params steps) in GotInOrder w.a.end w.b.end
order_at A calls pairs a b steps now keeps = keeps.got_a
order_at B calls pairs a b steps now keeps = keeps.got_b

-- what was got in set-ups of the link came from their origins
comes_in_order :
    (w : World) (calls : Calls) (x : End) (steps : List Step) (gots : List (List ℕ)) → GotInOrder w.a.end w.b.end
    → map (λ (q : SetUp). q.got) w.a.end.set_ups ≡ fold got_told [] (told_at calls x steps)
    → Gathered calls x steps gots → GetsInOrder (given_in w.b.end.set_ups) w.a.end.set_ups gots
comes_in_order w calls x steps gots order told g =
    subst (GetsInOrder (given_in w.b.end.set_ups) w.a.end.set_ups) (sym g.told)
    (gets_in_order w.b.end.set_ups w.a.end.set_ups g.noted
    (grown_within g.noted g.later w.a.end.set_ups g.grown (told ∙ sym g.all))
    (recursion_from_All (GotNothingElse w.b.end.set_ups) w.a.end.set_ups order.prefixes) order.origins_rise)

-- what the partner's hosts gave
far_given :
    (x : End) (calls : Calls) (steps : List Step) (w : World)
    → AreGiven calls (other x) steps (seen_from (other x) w).a.end.set_ups
    → given_in (seen_from x w).b.end.set_ups ≡ octets_given (acts_at calls (other x) steps)
far_given A calls steps w given = given.octets
far_given B calls steps w given = given.octets

pub live_law_by : StationsLaw → SetUpsAreTold → BodiesAreGiven → LiveLaw
live_law_by law told bodies words_a words_b loop_a loop_b answers_a answers_b before_a after_a before_b after_b looped_a
    looped_b steps calls pairs order call_a call_b heard_a heard_b fits quiet x id agwpe =
    record {
      gets = subst (λ g. GetsInOrder g (seen_from x w).a.end.set_ups gots) (far_given x calls steps w given)
          (comes_in_order (seen_from x w) calls x steps gots
          (order_at x calls pairs words_a.config words_b.config steps
          (all_stepped steps (new_stations words_a.config words_a.seed words_b.config words_b.seed)) keeps)
          (told words_a.config words_b.config words_a.seed words_b.seed steps calls pairs run heard_a heard_b x)
          (at x agwpe));
      bodies = given.bodies;
    }
  where
    run_a : LiveRun
    run_a = run_of words_a loop_a answers_a before_a after_a looped_a

    run_b : LiveRun
    run_b = run_of words_b loop_b answers_b before_b after_b looped_b

    w : World
    w = world_of calls pairs words_a.config.params words_b.config.params steps

    gots : List (List ℕ)
    gots =
        octets_got (call_at_end calls x) (call_at_end calls (other x)) (octets_taken id (run_at x run_a run_b))

    run : IsJointRun (new_stations words_a.config words_a.seed words_b.config words_b.seed) steps
    run =
        two_runs_are_joint_holds words_a words_b loop_a loop_b answers_a answers_b before_a after_a before_b after_b
        looped_a looped_b steps order

    keeps : LinkKeepsOrder calls pairs words_a.config words_b.config steps
        (all_stepped steps (new_stations words_a.config words_a.seed words_b.config words_b.seed))
    keeps =
        law words_a.config words_b.config words_a.seed words_b.seed steps calls pairs run heard_a heard_b fits quiet

    given : AreGiven calls (other x) steps (seen_from (other x) w).a.end.set_ups
    given =
        bodies words_a.config words_b.config words_a.seed words_b.seed steps calls pairs run heard_a heard_b (other x)

    at : (e : End) → IsAgwpe id (run_at e run_a run_b).steps
        → Gathered calls e steps (octets_got (call_at_end calls e) (call_at_end calls (other e))
        (octets_taken id (run_at e run_a run_b)))
    at A joins =
        let chain = steps_follow_holds words_a loop_a answers_a before_a after_a looped_a in
        gathered_at A calls steps words_a.config words_a.seed id run_a.steps (octets_taken id run_a)
        (record { own = call_a; remote = call_b }) order.of_a chain
        (speaks_in_all id words_a.config words_a.seed run_a.steps chain joins)
        (takes_what_is_said_holds words_a loop_a answers_a before_a after_a looped_a id)
    at B joins =
        let chain = steps_follow_holds words_b loop_b answers_b before_b after_b looped_b in
        gathered_at B calls steps words_b.config words_b.seed id run_b.steps (octets_taken id run_b)
        (record { own = call_b; remote = call_a }) order.of_b chain
        (speaks_in_all id words_b.config words_b.seed run_b.steps chain joins)
        (takes_what_is_said_holds words_b loop_b answers_b before_b after_b looped_b id)
