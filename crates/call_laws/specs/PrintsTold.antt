-- What a call prints whose host is a station of a joint run: data that the link of the call told of in one set-up. What
-- is heard, and in which order, does not matter.
use Rattle.std.specs.Prelude.{◌≡◌, ◌≢◌, ℕ, List, [], fold, slice_get, Some}
use Rattle.std.specs.List.{flat_map}
use Rattle.selective_reject.specs.declared.packet.Packet.{Packet}
use Rattle.agwpe_client.specs.CallRun.{CallPlan, printed_after}
use Rattle.link_world.specs.declared.end.End.{End}
use Rattle.station.specs.declared.config.Config.{Config}
use Rattle.station_laws.specs.JointRun.{Step, new_stations, IsJointRun}
use Rattle.call_laws.specs.Client.{IsClientOf, IsBetweenCalls, calls_of, octets_had}
use Rattle.call_laws.specs.FirstPart.{IsFirstPart}
use Rattle.call_laws.specs.SetUpsTold.{got_told, told_at}

-- the octets of packets, one after another
abbrev pub octets_of : List Packet → List ℕ
octets_of packets = flat_map (λ (packet : Packet). packet.octets) packets

-- what was printed is a first part of the octets of one of these set-ups, each by its packets
pub record PrintsTold (gots : List (List Packet)) (printed : List ℕ) : Type 0 where
  pub number : ℕ
  pub got : List Packet
  pub is_there : slice_get gots number ≡ Some got
  pub part : IsFirstPart printed (octets_of got)

-- Over every joint run of two new stations: a client of one of them that calls the other and has taken a first part of
-- what its station has for it prints nothing, or what the link told of in one set-up, whether the call is done or not.
abbrev pub CallToldLaw : Type 0
CallToldLaw =
    (a b : Config) (seed_a seed_b : ℕ) (steps : List Step) → IsJointRun (new_stations a seed_a b seed_b) steps
    → (end : End) (plan : CallPlan) → IsBetweenCalls plan → (id : ℕ) → IsClientOf id end steps
    → (stream : List ℕ) → IsFirstPart stream (octets_had id end steps) → printed_after plan stream ≢ []
    → PrintsTold (fold got_told [] (told_at (calls_of end plan) end steps)) (printed_after plan stream)
