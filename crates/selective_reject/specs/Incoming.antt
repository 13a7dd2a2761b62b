-- What a receiver keeps of a sender's packets (AX.25 2.2 sections 4.2 and 6.4).
use Rattle.std.specs.Prelude.{◌≡◌, ℕ, ◌+◌, ◌%◌, ◌<◌, ◌==◌, nat_lt, Bool, true, false, if◌then◌else◌, List, [], ◌∷◌}
use Rattle.std.specs.Prelude.{◌++◌, length, map, drop, replicate, Option, Some, None}
use Rattle.selective_reject.specs.declared.packet.Packet.{Packet}
use Rattle.selective_reject.specs.declared.place.Place.{Place}
use Rattle.selective_reject.specs.declared.window.Mode.{Mode}
use Rattle.selective_reject.specs.declared.window.Mode.TheVariants.{Rej, Srej}
use Rattle.selective_reject.specs.declared.incoming.Took.{Took}
use Rattle.selective_reject.specs.declared.incoming.Took.TheVariants.{Next, NotNext, Stored, Again, Outside}
use Rattle.selective_reject.specs.Numbers.{IsModulus, ahead}
use Rattle.selective_reject.specs.Window.{IsWindow}
use Rattle.selective_reject.specs.Places.{empty_place, packet_at, is_full, with_packet, missing, asked, unasked}
use Rattle.selective_reject.specs.Places.{first_missing, with_asked}

-- vr is the number of the next packet in sequence, and place k is that of number vr + k
pub record Incoming : Type 0 where
  pub modulus : ℕ
  pub window : ℕ
  pub mode : Mode
  pub vr : ℕ
  pub places : List Place

abbrev pub empty_incoming : ℕ → ℕ → Mode → Incoming
empty_incoming modulus window mode =
    record { modulus = modulus; window = window; mode = mode; vr = 0; places = replicate window empty_place }

-- what becomes of a packet that is so far ahead of vr, whether its place is full or not
abbrev pub taking_by : Mode → ℕ → ℕ → Bool → Took
taking_by Rej window distance full = if distance == 0 then (if full then Again else Next) else NotNext
taking_by Srej window distance full =
    if nat_lt distance window then (if full then Again else (if distance == 0 then Next else Stored)) else Outside

abbrev pub taking : Incoming → ℕ → Took
taking store distance = taking_by store.mode store.window distance (is_full store.places distance)

-- only these keep the packet
abbrev pub keeps : Took → Bool
keeps Next = true
keeps NotNext = false
keeps Stored = true
keeps Again = false
keeps Outside = false

-- a packet so far ahead of vr comes
abbrev pub after_taking : Incoming → ℕ → Packet → Incoming
after_taking store distance packet =
    if keeps (taking store distance) then record store { places = with_packet store.places distance packet } else store

-- a packet with N(S) comes
abbrev pub took : Incoming → ℕ → Took
took store ns = taking store (ahead store.modulus store.vr ns)

abbrev pub after_accept : Incoming → ℕ → Packet → Incoming
after_accept store ns packet = after_taking store (ahead store.modulus store.vr ns) packet

-- the next packet in sequence, if it is there; its place goes, and one further ahead comes
abbrev pub taken : Incoming → Option Packet
taken store = packet_at store.places 0

abbrev pub after_take : Incoming → Incoming
after_take store =
    if is_full store.places 0 then record store { vr = store.vr + 1; places = drop 1 store.places ++ empty_place ∷ [] }
    else store

-- how many places from vr on stand before the number: none if it is not in the window
abbrev pub before_number : Incoming → ℕ → ℕ
before_number store ns =
    let distance = ahead store.modulus store.vr ns in if nat_lt distance store.window then distance else 0

-- the numbers from vr up to N(S) that are neither there nor asked for, as they are sent
abbrev pub numbers_to_ask : Incoming → ℕ → List ℕ
numbers_to_ask store ns = map (λ k. (store.vr + k) % store.modulus) (missing store.places (before_number store ns))

abbrev pub after_ask : Incoming → ℕ → Incoming
after_ask store ns = record store { places = asked store.places (before_number store ns) }

-- how far ahead of vr the lowest number lies that is neither there nor asked for while one above it is there
abbrev pub next_missing : Incoming → Option ℕ
next_missing store = first_missing store.places

-- that one is asked for, as its number is sent
abbrev pub number_of_missing : Incoming → Option ℕ → Option ℕ
number_of_missing store None = None
number_of_missing store (Some k) = Some ((store.vr + k) % store.modulus)

abbrev pub next_to_ask : Incoming → Option ℕ
next_to_ask store = number_of_missing store (next_missing store)

abbrev pub asked_for : Option ℕ → Incoming → Incoming
asked_for None store = store
asked_for (Some k) store = record store { places = with_asked store.places k }

abbrev pub after_ask_next : Incoming → Incoming
after_ask_next store = asked_for (next_missing store) store

-- nothing is asked for any more
abbrev pub unasked_store : Incoming → Incoming
unasked_store store = record store { places = unasked store.places }

-- what holds of each store that is kept
pub record IsIncoming (held : Incoming) : Type 0 where
  pub modulus : IsModulus held.modulus
  pub window : IsWindow held.modulus held.window held.mode
  pub vr : held.vr < held.modulus
  pub places : length held.places ≡ held.window

-- A store keeps vr modulo the modulus. It stands for each store that is the same but for whole rounds.
pub record StandsForIncoming (held store : Incoming) : Type 0 where
  pub modulus : held.modulus ≡ store.modulus
  pub window : held.window ≡ store.window
  pub mode : held.mode ≡ store.mode
  pub vr : held.vr ≡ store.vr % store.modulus
  pub places : held.places ≡ store.places

-- the same store without whole rounds
abbrev pub reduced_incoming : Incoming → Incoming
reduced_incoming store = record store { vr = store.vr % store.modulus }
