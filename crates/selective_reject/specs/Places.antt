-- The places of the numbers that a receiver waits for.
use Rattle.std.specs.Prelude.{ℕ, zero, suc, ◌+◌, Bool, false, ◌||◌, not, if◌then◌else◌, List, [], ◌∷◌, ◌++◌, filter, map}
use Rattle.std.specs.Prelude.{take, drop, slice_get, slice_index_or, slice_set, Option, Some, None, is_some}
use Rattle.std.specs.List.{range_with_len}
use Rattle.selective_reject.specs.declared.packet.Packet.{Packet}
use Rattle.selective_reject.specs.declared.place.Place.{Place}

abbrev pub empty_place : Place
empty_place = record { packet = None; asked = false }

abbrev pub place_at : List Place → ℕ → Place
place_at places k = slice_index_or places k empty_place

abbrev pub packet_at : List Place → ℕ → Option Packet
packet_at places k = (place_at places k).packet

-- the packet is there
abbrev pub is_full : List Place → ℕ → Bool
is_full places k = is_some (packet_at places k)

-- a place with its packet
abbrev pub filled_place : Packet → Place → Place
filled_place packet place = record { packet = Some packet; asked = place.asked }

abbrev pub with_packet : List Place → ℕ → Packet → List Place
with_packet places k packet = slice_set places k (filled_place packet (place_at places k))

-- the packet is neither there nor asked for
abbrev pub misses : Place → Bool
misses place = not (place.asked || is_some place.packet)

abbrev pub is_missing : List Place → ℕ → Bool
is_missing places k = misses (place_at places k)

-- a place, asked for if its packet is not there
abbrev pub asked_place : Place → Place
asked_place place = record { packet = place.packet; asked = place.asked || not (is_some place.packet) }

abbrev pub with_asked : List Place → ℕ → List Place
with_asked places k = slice_set places k (asked_place (place_at places k))

-- a place that is not asked for any more
abbrev pub unasked_place : Place → Place
unasked_place place = record { packet = place.packet; asked = false }

abbrev pub with_unasked : List Place → ℕ → List Place
with_unasked places k = slice_set places k (unasked_place (place_at places k))

abbrev pub unasked : List Place → List Place
unasked places = map unasked_place places

-- one past the last place that is full, 0 if none is
abbrev pub end_after : Bool → ℕ → ℕ
end_after full zero = if full then 1 else 0
end_after full (suc rest) = rest + 2

abbrev pub full_end : List Place → ℕ
full_end [] = 0
full_end (place ∷ places) = end_after (is_some place.packet) (full_end places)

-- which of the first n places miss their packets, rising
unfoldable pub missing : List Place → ℕ → List ℕ
missing places n = filter (is_missing places) (range_with_len 0 n)

-- the first place that misses its packet while one further on is there
abbrev pub first_missing : List Place → Option ℕ
first_missing places = slice_get (missing places (full_end places)) 0

-- the first n places are asked for if their packets are not there
unfoldable pub asked : List Place → ℕ → List Place
asked places n = map asked_place (take n places) ++ drop n places
