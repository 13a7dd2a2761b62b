-- The law of a call in what is seen at the partner's station.
use Rattle.station_laws.proofs.Common.{◌≡◌, ℕ, zero, suc, List, [], ◌∷◌, map, Some, sym, ap, ◌∙◌, slice_get}
use Rattle.station_laws.proofs.Common.{End, A, B, seen_from, other, Config, Calls, Pairs, Step}
use Rattle.link_world.specs.SetUps.{SetUp}
use Rattle.station_laws.specs.LinkOfCalls.{world_of}
use Rattle.station_laws.specs.SetUpsSeen.{AreSetUpsSeen, SetUpsLaw, as_seen, set_ups_seen}
use Rattle.call_laws.specs.Client.{calls_of}
use Rattle.call_laws.specs.PrintsGiven.{CallLaw}
use Rattle.call_laws.specs.PrintsSeen.{CallSeenLaw}

-- a set-up as it is seen
get_seen : (set_ups : List SetUp) (number : ℕ) (q : SetUp) → slice_get set_ups number ≡ Some q
    → slice_get (map as_seen set_ups) number ≡ Some (as_seen q)
get_seen [] number q is = absurd (cc)
get_seen (first ∷ set_ups) zero q is = let e : first ≡ q = cc in ap (λ x. Some (as_seen x)) e
get_seen (first ∷ set_ups) (suc number) q is = get_seen set_ups number q is

-- those of the other end
seen_far :
    (x : End) (calls : Calls) (pairs : Pairs) (a b : Config) (steps : List Step) → AreSetUpsSeen calls pairs a b steps
    → map as_seen (seen_from x (world_of calls pairs a.params b.params steps)).b.end.set_ups
    ≡ set_ups_seen calls (other x) steps
seen_far A calls pairs a b steps seen = seen.at_b
seen_far B calls pairs a b steps seen = seen.at_a

pub call_seen_by : CallLaw → SetUpsLaw → CallSeenLaw
call_seen_by law seen a b seed_a seed_b steps x plan pairs run heard_a heard_b fits called quiet given id client stream
    part some =
    let calls = calls_of x plan in
    let h = law a b seed_a seed_b steps x plan pairs run heard_a heard_b fits called quiet id client stream part some in
    let far = seen_far x calls pairs a b steps (seen a b seed_a seed_b steps calls pairs run heard_a heard_b given) in
    record {
      place = h.place;
      own = h.own;
      is_own = h.is_own;
      got = h.got;
      number = h.number;
      is_origin = h.is_origin;
      giver = as_seen h.giver;
      is_there = ap (λ qs. slice_get qs h.number) (sym far) ∙ get_seen _ h.number h.giver h.is_there;
      part = h.part;
    }
