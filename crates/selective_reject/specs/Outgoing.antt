-- What a sender keeps until it is acknowledged (AX.25 2.2 sections 4.2 and 6.4).
use Rattle.std.specs.Prelude.{◌≡◌, ℕ, ◌+◌, ◌-◌, ◌*◌, ◌/◌, ◌%◌, ◌<◌, ◌≤◌, nat_lt, nat_le, min, max, Bool, if◌then◌else◌}
use Rattle.std.specs.Prelude.{List, [], ◌∷◌, ◌++◌, length, drop, slice_get, Option, Some, None, Result, Ok, Err}
use Rattle.selective_reject.specs.declared.packet.Packet.{Packet}
use Rattle.selective_reject.specs.declared.outgoing.BadNr.{BadNr}
use Rattle.selective_reject.specs.Numbers.{ahead}
use Rattle.selective_reject.specs.Again.{with_number, numbers_from}

-- va is the number of the first packet, vs that of the next one to be sent, and top one more than the highest that was
-- sent; again has the numbers from va to below top that SREJ asked for, each by how far it lies ahead of va
pub record Outgoing : Type 0 where
  pub va : ℕ
  pub vs : ℕ
  pub top : ℕ
  pub packets : List Packet
  pub again : List ℕ

abbrev pub empty_outgoing : Outgoing
empty_outgoing = record { va = 0; vs = 0; top = 0; packets = []; again = [] }

abbrev pub after_push : Packet → Outgoing → Outgoing
after_push packet store = record store { packets = store.packets ++ packet ∷ [] }

-- vs is below va plus the window, and below va plus the number of packets
abbrev pub may_send : ℕ → Outgoing → Bool
may_send window store = nat_lt store.vs (store.va + min window (length store.packets))

-- the number of the next packet to be sent, as it is sent
abbrev pub number_to_send : ℕ → ℕ → Outgoing → Option ℕ
number_to_send modulus window store = if may_send window store then Some (store.vs % modulus) else None

abbrev pub after_next : ℕ → Outgoing → Outgoing
after_next window store =
    if may_send window store then record store { vs = store.vs + 1; top = max store.top (store.vs + 1) } else store

-- the packets below a number are removed
abbrev pub acknowledged : ℕ → Outgoing → Outgoing
acknowledged number store = record {
  va = number;
  vs = max store.vs number;
  top = store.top;
  packets = drop (number - store.va) store.packets;
  again = numbers_from (number - store.va) store.again;
}

-- N(R) names a number from va to top
abbrev pub is_named : ℕ → ℕ → Outgoing → Bool
is_named modulus nr store = nat_le (ahead modulus store.va nr) (store.top - store.va)

-- how many packets N(R) acknowledges
abbrev pub acknowledgement : ℕ → ℕ → Outgoing → Result ℕ BadNr
acknowledgement modulus nr store =
    if is_named modulus nr store then Ok (ahead modulus store.va nr)
    else Err (record { va = store.va % modulus; top = store.top % modulus })

abbrev pub after_acknowledge : ℕ → ℕ → Outgoing → Outgoing
after_acknowledge modulus nr store =
    if is_named modulus nr store then acknowledged (store.va + ahead modulus store.va nr) store else store

-- all is sent again from va on
abbrev pub back : Outgoing → Outgoing
back store = record store { vs = store.va; again = [] }

-- a number from va on is to be sent again
abbrev pub asked_again : ℕ → Outgoing → Outgoing
asked_again number store = record store { again = with_number (number - store.va) store.again }

-- no number is asked for any more
abbrev pub unasked_again : Outgoing → Outgoing
unasked_again store = record store { again = [] }

-- how far ahead of va the lowest number lies that was asked for, of those that were sent
abbrev pub within : ℕ → Option ℕ → Option ℕ
within reach None = None
within reach (Some place) = if nat_lt place reach then Some place else None

abbrev pub first_again : Outgoing → Option ℕ
first_again store = within (store.top - store.va) (slice_get store.again 0)

-- that one is sent
abbrev pub after_again : Outgoing → Outgoing
after_again store = record store { again = drop 1 store.again }

-- the packets that stay are counted from 0 again
abbrev pub restarted : Outgoing → Outgoing
restarted store = record { va = 0; vs = 0; top = 0; packets = store.packets; again = [] }

-- the packet that was sent with a number: from va to below top
abbrev pub sent_packet : ℕ → ℕ → Outgoing → Option Packet
sent_packet modulus number store =
    let place = ahead modulus store.va number in
    if nat_lt place (store.top - store.va) then slice_get store.packets place else None

-- the number that SREJ asks for, if it was sent, is to be sent again
abbrev pub after_ask_again : ℕ → ℕ → Outgoing → Outgoing
after_ask_again modulus number store =
    let place = ahead modulus store.va number in
    if nat_lt place (store.top - store.va) then asked_again (store.va + place) store else store

-- what holds of each store that is kept
pub record IsOutgoing (held : Outgoing) : Type 0 where
  pub va : held.va < 128
  pub vs : held.va ≤ held.vs
  pub top : held.vs ≤ held.top
  pub sent : held.top ≤ held.va + length held.packets
  pub under_way : held.top ≤ held.va + 127
  pub room : length held.packets ≤ 1024

-- A store keeps va modulo 128, which both moduli divide. It stands for each store that is the same but for whole
-- rounds.
pub record StandsForOutgoing (held store : Outgoing) : Type 0 where
  pub va : held.va ≡ store.va % 128
  pub vs : held.vs + store.va ≡ store.vs + held.va
  pub top : held.top + store.va ≡ store.top + held.va
  pub packets : held.packets ≡ store.packets
  pub again : held.again ≡ store.again

-- the same store without whole rounds
abbrev pub reduced_outgoing : Outgoing → Outgoing
reduced_outgoing store =
    let rounds = 128 * (store.va / 128) in
    record {
      va = store.va % 128;
      vs = store.vs - rounds;
      top = store.top - rounds;
      packets = store.packets;
      again = store.again;
    }
