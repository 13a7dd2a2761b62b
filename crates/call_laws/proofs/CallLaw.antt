-- A call whose host is a station of a joint run prints what the partner's host gave in one set-up.
use Rattle.station_laws.proofs.Common.{◌≡◌, ◌≢◌, ℕ, zero, suc, ◌<◌, Bool, false, List, [], ◌∷◌, ◌++◌}
use Rattle.station_laws.proofs.Common.{length, Option, Some, None, refl, sym, ap, ◌∙◌, subst, arith}
use Rattle.station_laws.proofs.Common.{slice_get, append_assoc, length-append, map-append, each_append}
use Rattle.station_laws.proofs.Common.{recursion_from_All, All-from_recursion, AgwMessage, Packet, Machine}
use Rattle.station_laws.proofs.Common.{new_machine, End, A, B, World, seen_from, Config, Link, Links, most_links}
use Rattle.station_laws.proofs.Common.{StationState, new_station, Turn, Step, Stations, IsJointRun, new_stations}
use Rattle.station_laws.proofs.Common.{state_of, with_state, stepped, all_stepped, at_end, Calls, Pairs, link_at_end}
use Rattle.station_laws.proofs.Common.{path_between, LinkStep, steps_of, link_steps_at, LinkKeepsOrder}
use Rattle.station_laws.proofs.Common.{Choice, Idle, RunsIn}
use Rattle.std.specs.Prelude.{fold, replicate}
use Rattle.std.specs.List.{flat_map, AllByRecursion as Each}
use Rattle.std.proofs.lemmas.List.{length-replicate}
use Rattle.std.proofs.lemmas.List.Concat.{flat_map-append}
use Rattle.agwpe_port.specs.Messages.{spelling, header_of, messages_in}
use Rattle.agwpe_client.specs.CallMessages.{disconnect_kind}
use Rattle.agwpe_client.specs.CallRun.{CallPlan, printed_after}
use Rattle.agwpe_client.specs.CallPrints.{PrintsBetween}
use Rattle.agwpe_client.specs.DoneCall.{is_of}
use Rattle.agwpe_client.proofs.PrintLemmas.{prints_its_data_holds}
use Rattle.link_world.specs.Origin.{GotInOrder, GotNothingElse}
use Rattle.link_world.specs.SetUps.{SetUp}
use Rattle.station.specs.Turn.{begin}
use Rattle.station.specs.declared.host_out.Piece.{Piece}
use Rattle.station_laws.specs.StationsLaw.{StationsLaw}
use Rattle.station_laws.specs.LinkOfCalls.{world_of}
use Rattle.station_laws.specs.RunsTell.{told_in}
use Rattle.station_laws.proofs.Chains.{last_machine}
use Rattle.station_laws.proofs.LinkTells.{none_idle}
use Rattle.station_laws.proofs.Tables.{NotChosen, none_chosen, one_of_none}
use Rattle.call_laws.specs.Client.{IsBetweenCalls, IsClientStep, calls_of, pieces_at, pieces_for}
use Rattle.call_laws.specs.FirstPart.{IsFirstPart, HasHeader}
use Rattle.call_laws.specs.PrintsGiven.{PrintsGiven, CallLaw}
use Rattle.call_laws.specs.PrintsTold.{octets_of, PrintsTold, CallToldLaw}
use Rattle.call_laws.specs.SetUpsTold.{got_told, told_at, SetUpsAreTold}
use Rattle.call_laws.proofs.Collect.{FitsItem, finds}
use Rattle.call_laws.proofs.Gots.{gots}
use Rattle.call_laws.proofs.Items.{Item, messages_of, tells_of, messages_append, tells_append, all_items, items_append}
use Rattle.call_laws.proofs.Items.{told_of_items, told_all, told_tells, IsTale, IsOwnedChain, chain_tale, last_owned}
use Rattle.call_laws.proofs.Items.{tale_of_tells}
use Rattle.call_laws.proofs.LinkActs.{Does, chain_append, meant}
use Rattle.call_laws.proofs.OwnTables.{OwnTable, IsOwnPlace, IsValidPlace}
use Rattle.call_laws.proofs.Reading.{first_part_is_read_holds, part_of_part}
use Rattle.call_laws.proofs.Sayings.{HasTen, pieces_both, pieces_with}
use Rattle.call_laws.proofs.Walk.{step_does}

-- ---- all steps of a run

-- what a station sends a connection, and the link of its call
record Sends (id : ℕ) (plan : CallPlan) (own : Bool) (m : Machine) (pieces : List Piece) (steps : List LinkStep)
    : Type 0 where
  items : List Item
  pieces_are : pieces_for id pieces ≡ pieces_with id (messages_of plan.own plan.remote items)
  tells : tells_of items ≡ all_items id steps
  fits : Each (FitsItem plan) items
  ten : Each HasTen (messages_of plan.own plan.remote items)
  chain : IsOwnedChain id own m steps

record SendsInStep (id : ℕ) (plan : CallPlan) (own : Bool) (m : Machine) (pieces : List Piece) (steps : List LinkStep)
    (links : Links) : Type 0 where
  sends : Sends id plan own m pieces steps
  table : OwnTable id (meant plan) (last_owned id own steps) (last_machine m steps) links

sends_nothing : (id : ℕ) (plan : CallPlan) (own : Bool) (m : Machine) → Sends id plan own m [] []
sends_nothing id plan own m =
    record { items = []; pieces_are = refl; tells = refl; fits = tt; ten = tt; chain = tt }

sends_on :
    (id : ℕ) (plan : CallPlan) (own : Bool) (m : Machine) (first second : List Piece) (one two : List LinkStep)
    → Sends id plan own m first one → Sends id plan (last_owned id own one) (last_machine m one) second two
    → Sends id plan own m (first ++ second) (one ++ two)
sends_on id plan own m first second one two h k =
    let a = messages_of plan.own plan.remote h.items in
    let b = messages_of plan.own plan.remote k.items in
    let all = messages_append plan.own plan.remote h.items k.items in
    record {
      items = h.items ++ k.items;
      pieces_are = pieces_both id first second ∙ ap (λ ps. ps ++ pieces_for id second) h.pieces_are
          ∙ ap (λ ps. pieces_with id a ++ ps) k.pieces_are ∙ sym (map-append _ a b)
          ∙ ap (pieces_with id) (sym all);
      tells = tells_append h.items k.items ∙ ap (λ xs. xs ++ tells_of k.items) h.tells
          ∙ ap (λ xs. all_items id one ++ xs) k.tells ∙ sym (items_append id one two);
      fits = each_append (FitsItem plan) h.items k.items h.fits k.fits;
      ten = subst (Each HasTen) (sym all) (each_append HasTen a b h.ten k.ten);
      chain = chain_append id own m one two h.chain k.chain;
    }

meant_at : (plan : CallPlan) (x e : End) → x ≡ e → link_at_end (calls_of x plan) e ≡ meant plan
meant_at plan A A same = refl
meant_at plan B B same = refl
meant_at plan A B same = absurd (cc)
meant_at plan B A same = absurd (cc)

does_sends :
    (id : ℕ) (plan : CallPlan) (own : Bool) (m : Machine) (before : StationState) (after : Turn)
    (steps : List LinkStep) → Does id plan (begin before) steps after → OwnTable id (meant plan) own m before.links
    → SendsInStep id plan own m after.out.pieces steps after.now.links
does_sends id plan own m before after steps does table =
    let h = does own m table in
    record {
      sends = record {
        items = h.items;
        pieces_are = h.pieces;
        tells = h.tells;
        fits = h.fits;
        ten = h.ten;
        chain = h.chain;
      };
      table = h.table;
    }

one_sends :
    (id : ℕ) (plan : CallPlan) (own : Bool) (m : Machine) (x e : End) (s : Stations) (after : Turn)
    (steps : List LinkStep) → (x ≡ e → Does id plan (begin (state_of x s)) steps after)
    → OwnTable id (meant plan) own m (state_of x s).links
    → SendsInStep id plan own m (at_end x e after.out.pieces) (at_end x e steps)
    (state_of x (with_state e after.now s)).links
one_sends id plan own m A A s after steps does table = does_sends id plan own m s.a after steps (does refl) table
one_sends id plan own m B B s after steps does table = does_sends id plan own m s.b after steps (does refl) table
one_sends id plan own m A B s after steps does table =
    record { sends = sends_nothing id plan own m; table = table }
one_sends id plan own m B A s after steps does table =
    record { sends = sends_nothing id plan own m; table = table }

run_sends :
    (id : ℕ) (plan : CallPlan) → IsBetweenCalls plan → (x : End) (steps : List Step) (s : Stations) (own : Bool)
    (m : Machine) → IsJointRun s steps → Each (λ (step : Step). step.station ≡ x → IsClientStep id step) steps
    → OwnTable id (meant plan) own m (state_of x s).links
    → Sends id plan own m (pieces_at x steps) (link_steps_at (calls_of x plan) x steps)
run_sends id plan called x [] s own m run client table = sends_nothing id plan own m
run_sends id plan called x (step ∷ steps) s own m run client table =
    let e = step.station in
    let made = steps_of (link_at_end (calls_of x plan) e) step in
    let does : x ≡ e → Does id plan (begin (state_of x s)) made step.after = λ same.
    let here : step.before ≡ state_of x s = run.0 ∙ ap (λ y. state_of y s) (sym same) in
    subst (λ (st : StationState). Does id plan (begin st) made step.after) here
    (subst (λ f. Does id plan (begin step.before) (steps_of f step) step.after) (sym (meant_at plan x e same))
    (step_does id plan called step (client.0 (sym same)))) in
    let one = one_sends id plan own m x e s step.after made does table in
    sends_on id plan own m (at_end x e step.after.out.pieces) (pieces_at x steps) (at_end x e made)
    (link_steps_at (calls_of x plan) x steps) one.sends
    (run_sends id plan called x steps (stepped step s) (last_owned id own (at_end x e made))
    (last_machine m (at_end x e made)) run.1 client.1 one.table)

-- ---- a new station

none_valid : (n : ℕ) → Each IsValidPlace (replicate n None)
none_valid zero = tt
none_valid (suc n) = (tt, none_valid n)

none_meant : (chosen : Choice) (n : ℕ) → chosen None ≡ false → Each (NotChosen chosen) (replicate n None)
none_meant chosen zero is = tt
none_meant chosen (suc n) is = (is, none_meant chosen n is)

new_table : (id : ℕ) (plan : CallPlan) (c : Config) (seed : ℕ)
    → OwnTable id (meant plan) false (new_machine (path_between plan.own plan.remote) c.params)
    (new_station c seed).links
new_table id plan c seed =
    let places : List (Option Link) = replicate most_links None in
    let none = none_meant (meant plan) most_links refl in
    record {
      size = length-replicate {A = Option Link} most_links None;
      valid = none_valid most_links;
      one = one_of_none (meant plan) places none;
      place = subst (IsOwnPlace id false (new_machine (path_between plan.own plan.remote) c.params))
          (sym (none_chosen (meant plan) places none)) refl;
    }

-- ---- the octets that are sent

spelled_short : (message : AgwMessage) → length (spelling message) < 0x100000000
    → length message.body < 0x100000000
unfolding spelling
spelled_short message short = omega (arith, short, length-append (header_of message) message.body)

each_header :
    (id : ℕ) (messages : List AgwMessage) → Each HasTen messages
    → Each (λ (piece : Piece). length piece.octets < 0x100000000) (pieces_with id messages)
    → Each HasHeader messages
each_header id [] ten short = tt
each_header id (message ∷ messages) ten short = (
  record { from = ten.0.from; to = ten.0.to; body = spelled_short message short.0 },
  each_header id messages ten.1 short.1,
)

octets_with : (id : ℕ) (messages : List AgwMessage)
    → flat_map (λ (piece : Piece). piece.octets) (pieces_with id messages) ≡ flat_map spelling messages
octets_with id [] = refl
octets_with id (message ∷ messages) = ap (λ xs. spelling message ++ xs) (octets_with id messages)

-- ---- the set-up of a place

record AtPlace (set_ups : List SetUp) (number : ℕ) (got : List Packet) : Type 0 where
  own : SetUp
  is_own : slice_get set_ups number ≡ Some own
  got_is : own.got ≡ got

at_place : (set_ups : List SetUp) (number : ℕ) (got : List Packet) → slice_get (gots set_ups) number ≡ Some got
    → AtPlace set_ups number got
at_place [] number got is = absurd (cc)
at_place (q ∷ set_ups) zero got is = record { own = q; is_own = refl; got_is = cc }
at_place (q ∷ set_ups) (suc number) got is =
    let h = at_place set_ups number got is in record { own = h.own; is_own = h.is_own; got_is = h.got_is }

each_place : (P : SetUp → Type 0) (set_ups : List SetUp) (number : ℕ) (q : SetUp) → Each P set_ups
    → slice_get set_ups number ≡ Some q → P q
each_place P [] number q h is = absurd (cc)
each_place P (first ∷ set_ups) zero q h is = let e : first ≡ q = cc in subst P e h.0
each_place P (first ∷ set_ups) (suc number) q h is = each_place P set_ups number q h.1 is

part_none : (xs ys : List ℕ) → [] ≡ xs ++ ys → xs ≡ []
part_none [] ys is = refl
part_none (x ∷ xs) ys is = absurd (cc)

-- what an end got in one of its set-ups was given in its origin
given_in :
    (w : World) (number : ℕ) (got : List Packet) (printed : List ℕ) → GotInOrder w.a.end w.b.end
    → slice_get (gots w.a.end.set_ups) number ≡ Some got → IsFirstPart printed (octets_of got) → printed ≢ []
    → PrintsGiven w printed
given_in w number got printed order is part some =
    let here = at_place w.a.end.set_ups number got is in
    let prefixes = recursion_from_All (GotNothingElse w.b.end.set_ups) w.a.end.set_ups order.prefixes in
    let no_more : here.own.got ≢ [] = λ none.
    some (part_none printed part.0 (sym (ap octets_of (sym here.got_is ∙ none)) ∙ part.1)) in
    let origin = each_place (GotNothingElse w.b.end.set_ups) w.a.end.set_ups number here.own prefixes here.is_own
    no_more in
    let given : octets_of origin.giver.given ≡ octets_of got ++ octets_of origin.prefix.0 =
    ap octets_of (origin.prefix.1 ∙ ap (λ g. g ++ origin.prefix.0) here.got_is)
    ∙ flat_map-append _ got origin.prefix.0 in
    record {
      place = number;
      own = here.own;
      is_own = here.is_own;
      got = subst (λ g. IsFirstPart printed (octets_of g)) (sym here.got_is) part;
      number = origin.number;
      is_origin = origin.is_origin;
      giver = origin.giver;
      is_there = origin.is_there;
      part = part_of_part printed (octets_of got) (octets_of origin.giver.given) part
          (octets_of origin.prefix.0, given);
    }

-- ---- the law

-- the order as an end sees it
order_at :
    (x : End) (calls : Calls) (pairs : Pairs) (a b : Config) (steps : List Step) (now : Stations)
    → LinkKeepsOrder calls pairs a b steps now
    → let w = seen_from x (world_of calls pairs a.params b.params steps) in GotInOrder w.a.end w.b.end
order_at A calls pairs a b steps now keeps = keeps.got_a
order_at B calls pairs a b steps now keeps = keeps.got_b

abbrev config_at : End → Config → Config → Config
config_at A a b = a
config_at B a b = b

start_table :
    (id : ℕ) (plan : CallPlan) (a b : Config) (seed_a seed_b : ℕ) (x : End)
    → OwnTable id (meant plan) false (new_machine (path_between plan.own plan.remote) (config_at x a b).params)
    (state_of x (new_stations a seed_a b seed_b)).links
start_table id plan a b seed_a seed_b A = new_table id plan a seed_a
start_table id plan a b seed_a seed_b B = new_table id plan b seed_b

-- what a call prints was told in one set-up
told_in_one :
    (id : ℕ) (plan : CallPlan) (m : Machine) (pieces : List Piece) (steps : List LinkStep) (stream : List ℕ)
    → m.control.state ≡ Idle
    → Sends id plan false m pieces steps
    → Each (λ (piece : Piece). length piece.octets < 0x100000000) (pieces_for id pieces)
    → IsFirstPart stream (flat_map (λ (piece : Piece). piece.octets) (pieces_for id pieces))
    → printed_after plan stream ≢ []
    → PrintsTold (fold got_told [] (flat_map told_in steps)) (printed_after plan stream)
told_in_one id plan m pieces steps stream idle sends short part some =
    let messages = messages_of plan.own plan.remote sends.items in
    let headers : Each HasHeader messages =
    each_header id messages sends.ten
    (subst (Each (λ (piece : Piece). length piece.octets < 0x100000000)) sends.pieces_are short) in
    let had : flat_map (λ (piece : Piece). piece.octets) (pieces_for id pieces) ≡ flat_map spelling messages =
    ap (flat_map (λ (piece : Piece). piece.octets)) sends.pieces_are ∙ octets_with id messages in
    let read : IsFirstPart (messages_in stream) messages =
    first_part_is_read_holds messages stream (All-from_recursion HasHeader messages headers)
    (part.0, sym had ∙ part.1) in
    let call : PrintsBetween plan (messages_in stream) (printed_after plan stream) =
    prints_its_data_holds plan stream some in
    let order : messages ≡ call.front ++ call.connected ∷ (call.middle ++ (call.rest ++ read.0)) =
    read.1 ∙ ap (λ ms. ms ++ read.0) call.order
    ∙ append_assoc call.front (call.connected ∷ (call.middle ++ call.rest)) read.0
    ∙ ap (λ ms. call.front ++ call.connected ∷ ms) (append_assoc call.middle call.rest read.0) in
    let tale : IsTale false false sends.items =
    tale_of_tells false false sends.items
    (subst (IsTale false false) (sym sends.tells)
    (chain_tale id false false false m steps (subst (RunsIn false) (sym idle)
    none_idle) (λ is. refl) sends.chain)) in
    let told : told_of_items sends.items ≡ flat_map told_in steps =
    sym (told_tells sends.items) ∙ ap told_of_items sends.tells ∙ told_all id steps in
    subst (λ ts. PrintsTold (fold got_told [] ts) (printed_after plan stream)) told
    (subst (PrintsTold (fold got_told [] (told_of_items sends.items))) (sym call.data_between)
    (finds plan sends.items false false [] call.front call.connected call.middle (call.rest ++ read.0) sends.fits tale
    order call.connects
    (recursion_from_All (λ message. is_of disconnect_kind plan message ≡ false)
    call.middle call.stays)))

pub call_told_holds : CallToldLaw
call_told_holds a b seed_a seed_b steps run x plan called id client stream part some =
    let calls = calls_of x plan in
    let m = new_machine (path_between plan.own plan.remote) (config_at x a b).params in
    let sends : Sends id plan false m (pieces_at x steps) (link_steps_at calls x steps) =
    run_sends id plan called x steps (new_stations a seed_a b seed_b) false m run
    (recursion_from_All (λ (step : Step). step.station ≡ x → IsClientStep id step) steps client.each)
    (start_table id plan a b seed_a seed_b x) in
    told_in_one id plan m (pieces_at x steps) (link_steps_at calls x steps) stream refl sends
    (recursion_from_All (λ (piece : Piece). length piece.octets < 0x100000000) (pieces_for id (pieces_at x steps))
    client.short) part some

pub call_law_by : StationsLaw → SetUpsAreTold → CallLaw
call_law_by law told a b seed_a seed_b steps x plan pairs run heard_a heard_b fits called quiet id client stream part
    some =
    let calls = calls_of x plan in
    let keeps = law a b seed_a seed_b steps calls pairs run heard_a heard_b fits quiet in
    let has : PrintsTold (fold got_told [] (told_at calls x steps)) (printed_after plan stream) =
    call_told_holds a b seed_a seed_b steps run x plan called id client stream part some in
    let world = seen_from x (world_of calls pairs a.params b.params steps) in
    let there : slice_get (gots world.a.end.set_ups) has.number ≡ Some has.got =
    ap (λ gs. slice_get gs has.number) (told a b seed_a seed_b steps calls pairs run heard_a heard_b x)
    ∙ has.is_there in
    given_in world has.number has.got (printed_after plan stream)
    (order_at x calls pairs a b steps (all_stepped steps (new_stations a seed_a b seed_b)) keeps) there has.part some
