-- The calls that host programs have registered (AGWPE, kinds X and x). A call is registered by one connection at most.
use Rattle.std.specs.Prelude.{ℕ, ◌==◌, Bool, true, false, not, ◌&&◌, List, [], ◌∷◌, ◌++◌, filter, find, Option, Some}
use Rattle.std.specs.Prelude.{None, option_map}
use Rattle.ax25_address.specs.Callsign.{Callsign}
use Rattle.ax25_address.specs.SameCall.{is_same_call}
use Rattle.station.specs.declared.registration.Registration.{Registration}

-- the connection that has registered a call
abbrev pub registrar : Callsign → List Registration → Option ℕ
registrar call registrations =
    option_map (λ registration. registration.id)
    (find (λ registration. is_same_call registration.call call) registrations)

-- the number is there, and is this one
abbrev pub is_number : ℕ → Option ℕ → Bool
is_number n None = false
is_number n (Some m) = m == n

-- nobody has registered the call, or this connection has
abbrev pub may_register : ℕ → Option ℕ → Bool
may_register id None = true
may_register id (Some other) = other == id

-- with the call registered by the connection, once
abbrev pub registered : Callsign → ℕ → Option ℕ → List Registration → List Registration
registered call id None registrations = registrations ++ (record { call = call; id = id }) ∷ []
registered call id (Some other) registrations = registrations

-- is it the registration of this call by this connection?
abbrev pub is_registration : Callsign → ℕ → Registration → Bool
is_registration call id registration = is_same_call registration.call call && registration.id == id

-- without the registration of this call by this connection
abbrev pub unregistered : Callsign → ℕ → List Registration → List Registration
unregistered call id registrations = filter (λ registration. not (is_registration call id registration)) registrations

-- without those of a connection
abbrev pub without_registrations : ℕ → List Registration → List Registration
without_registrations id registrations = filter (λ registration. not (registration.id == id)) registrations
