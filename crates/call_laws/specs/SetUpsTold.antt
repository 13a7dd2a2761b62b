-- What a link tells its owner in each of its set-ups, and that these are the packets of which the law of two stations
-- speaks. Nothing is said of what is given.
use Rattle.std.specs.Prelude.{◌≡◌, ℕ, List, [], ◌∷◌, ◌++◌, fold, map}
use Rattle.std.specs.List.{flat_map}
use Rattle.selective_reject.specs.declared.packet.Packet.{Packet}
use Rattle.link_machine.specs.declared.acts.Told.{Told}
use Rattle.link_machine.specs.declared.acts.Told.TheVariants.{Opened, Given, Ended}
use Rattle.link_world.specs.declared.end.End.{End}
use Rattle.link_world.specs.SetUps.{SetUp}
use Rattle.link_world.specs.World.{seen_from}
use Rattle.station.specs.declared.config.Config.{Config}
use Rattle.station_laws.specs.HeardInOrder.{AreHeardInOrder}
use Rattle.station_laws.specs.JointRun.{Step, new_stations, IsJointRun}
use Rattle.station_laws.specs.LinkOfCalls.{Calls, Pairs, world_of}
use Rattle.station_laws.specs.RunsTell.{told_in}
use Rattle.station_laws.specs.SetUpsSeen.{link_steps_at}
use Rattle.link_world.specs.declared.end.End.TheVariants.{A, B}

-- a packet more for the last of some set-ups
abbrev pub last_given : Packet → List Packet → List (List Packet) → List (List Packet)
last_given packet got [] = (got ++ packet ∷ []) ∷ []
last_given packet got (next ∷ rest) = got ∷ last_given packet next rest

abbrev pub given_last : Packet → List (List Packet) → List (List Packet)
given_last packet [] = []
given_last packet (got ∷ rest) = last_given packet got rest

-- The packets of each set-up so far, after one more item: a set-up begins when the link is told to be open, and data is
-- of the last one.
abbrev pub got_told : List (List Packet) → Told → List (List Packet)
got_told gots (Opened ours) = gots ++ [] ∷ []
got_told gots (Given packet) = given_last packet gots
got_told gots (Ended why) = gots

-- all that the link of two calls tells at one of its stations
abbrev pub told_at : Calls → End → List Step → List Told
told_at calls end steps = flat_map told_in (link_steps_at calls end steps)

-- Over every joint run of two new stations in which the frames of the link are heard in order in both directions, the
-- packets that the set-ups of an end got are those that its link told of in each, in order.
abbrev pub SetUpsAreTold : Type 0
SetUpsAreTold =
    (a b : Config) (seed_a seed_b : ℕ) (steps : List Step) (calls : Calls) (pairs : Pairs)
    → let start = new_stations a seed_a b seed_b in
    IsJointRun start steps → AreHeardInOrder calls.a calls.b A steps pairs.at_a
    → AreHeardInOrder calls.b calls.a B steps pairs.at_b → (end : End)
    → map (λ (q : SetUp). q.got) (seen_from end (world_of calls pairs a.params b.params steps)).a.end.set_ups
    ≡ fold got_told [] (told_at calls end steps)
