-- The frames of the worked run in octets: those between AAAA and BBBB, and the SABM of a third station, CCCC.
use Rattle.station_laws.proofs.Common.{All, inl, arith, list_all, and_parts, ltb-true, All-from_recursion, Callsign}
use Rattle.station_laws.proofs.Common.{IsCallCharacter, BeginsWithPath, Path, Role, Command, Frame, Setup, Info, Eight}
use Rattle.station_laws.proofs.Common.{Sabm, Disc, Ua, IsFrame}
use Rattle.std.specs.Prelude.{◌≡◌, ℕ, ◌<◌, true, false, nat_lt, List, [], ◌∷◌, ◌++◌, refl}
use Rattle.std.specs.List.{AllByRecursion as Each}
use Rattle.ax25_address.specs.Callsign.{IsCall}
use Rattle.ax25_address.specs.declared.path.Role.TheVariants.{Response}

-- ---- calls

abbrev pub call_of : ℕ → Callsign
call_of c = record { name = c ∷ c ∷ c ∷ c ∷ []; ssid = 0 }

abbrev pub aaaa : Callsign
aaaa = call_of 65

abbrev pub bbbb : Callsign
bbbb = call_of 66

abbrev pub cccc : Callsign
cccc = call_of 67

pub aaaa_valid : IsCall aaaa
aaaa_valid = record {
  name = record {
    shortest = omega arith;
    longest = omega arith;
    characters = All-from_recursion IsCallCharacter (65 ∷ 65 ∷ 65 ∷ 65 ∷ []) (
      inl (omega arith, omega arith),
      (
        inl (omega arith, omega arith),
        (inl (omega arith, omega arith), (inl (omega arith, omega arith), tt)),
      ),
    );
  };
  ssid = omega arith;
}

pub bbbb_valid : IsCall bbbb
bbbb_valid = record {
  name = record {
    shortest = omega arith;
    longest = omega arith;
    characters = All-from_recursion IsCallCharacter (66 ∷ 66 ∷ 66 ∷ 66 ∷ []) (
      inl (omega arith, omega arith),
      (
        inl (omega arith, omega arith),
        (inl (omega arith, omega arith), (inl (omega arith, omega arith), tt)),
      ),
    );
  };
  ssid = omega arith;
}

pub cccc_valid : IsCall cccc
cccc_valid = record {
  name = record {
    shortest = omega arith;
    longest = omega arith;
    characters = All-from_recursion IsCallCharacter (67 ∷ 67 ∷ 67 ∷ 67 ∷ []) (
      inl (omega arith, omega arith),
      (
        inl (omega arith, omega arith),
        (inl (omega arith, omega arith), (inl (omega arith, omega arith), tt)),
      ),
    );
  };
  ssid = omega arith;
}

-- ---- addresses

abbrev pub path_in : Callsign → Callsign → Role → Path
path_in source dest role = record { dest = dest; source = source; repeaters = record { items = [] }; role = role }

abbrev pub to_b : Path
to_b = path_in aaaa bbbb Command

abbrev pub answer_to_b : Path
answer_to_b = path_in aaaa bbbb Response

abbrev pub to_a : Path
to_a = path_in bbbb aaaa Command

abbrev pub answer_to_a : Path
answer_to_a = path_in bbbb aaaa Response

abbrev pub from_third : Path
from_third = path_in cccc bbbb Command

-- an address field of shifted call characters and the two octets of the SSIDs
abbrev addresses : ℕ → ℕ → ℕ → ℕ → List ℕ → List ℕ
addresses dest dest_ssid source source_ssid rest =
    dest ∷ dest ∷ dest ∷ dest ∷ 64 ∷ 64 ∷ dest_ssid ∷ source ∷ source ∷ source ∷ source ∷ 64 ∷ 64 ∷ source_ssid ∷ rest

abbrev pub at_to_b : List ℕ → List ℕ
at_to_b rest = addresses 132 224 130 97 rest

abbrev pub at_answer_to_b : List ℕ → List ℕ
at_answer_to_b rest = addresses 132 96 130 225 rest

abbrev pub at_to_a : List ℕ → List ℕ
at_to_a rest = addresses 130 224 132 97 rest

abbrev pub at_answer_to_a : List ℕ → List ℕ
at_answer_to_a rest = addresses 130 96 132 225 rest

abbrev pub at_from_third : List ℕ → List ℕ
at_from_third rest = addresses 132 224 134 97 rest

pub begins_to_b : (rest : List ℕ) → BeginsWithPath (at_to_b rest) to_b 14
begins_to_b rest = (
  omega arith,
  record {
    count = omega arith;
    size = refl;
    destination = record { valid = bbbb_valid; reserved = 3; two_bits = omega arith; spelling = refl };
    source = record { valid = aaaa_valid; reserved = 3; two_bits = omega arith; spelling = refl };
    repeaters = λ k d below. absurd (omega arith);
  },
)

pub begins_answer_to_b : (rest : List ℕ) → BeginsWithPath (at_answer_to_b rest) answer_to_b 14
begins_answer_to_b rest = (
  omega arith,
  record {
    count = omega arith;
    size = refl;
    destination = record { valid = bbbb_valid; reserved = 3; two_bits = omega arith; spelling = refl };
    source = record { valid = aaaa_valid; reserved = 3; two_bits = omega arith; spelling = refl };
    repeaters = λ k d below. absurd (omega arith);
  },
)

pub begins_to_a : (rest : List ℕ) → BeginsWithPath (at_to_a rest) to_a 14
begins_to_a rest = (
  omega arith,
  record {
    count = omega arith;
    size = refl;
    destination = record { valid = aaaa_valid; reserved = 3; two_bits = omega arith; spelling = refl };
    source = record { valid = bbbb_valid; reserved = 3; two_bits = omega arith; spelling = refl };
    repeaters = λ k d below. absurd (omega arith);
  },
)

pub begins_answer_to_a : (rest : List ℕ) → BeginsWithPath (at_answer_to_a rest) answer_to_a 14
begins_answer_to_a rest = (
  omega arith,
  record {
    count = omega arith;
    size = refl;
    destination = record { valid = aaaa_valid; reserved = 3; two_bits = omega arith; spelling = refl };
    source = record { valid = bbbb_valid; reserved = 3; two_bits = omega arith; spelling = refl };
    repeaters = λ k d below. absurd (omega arith);
  },
)

pub begins_from_third : (rest : List ℕ) → BeginsWithPath (at_from_third rest) from_third 14
begins_from_third rest = (
  omega arith,
  record {
    count = omega arith;
    size = refl;
    destination = record { valid = bbbb_valid; reserved = 3; two_bits = omega arith; spelling = refl };
    source = record { valid = cccc_valid; reserved = 3; two_bits = omega arith; spelling = refl };
    repeaters = λ k d below. absurd (omega arith);
  },
)

-- ---- frames

abbrev pub sabm : List ℕ
sabm = at_to_b (63 ∷ [])

abbrev pub ua : List ℕ
ua = at_answer_to_a (115 ∷ [])

-- B's I frame: N(S) and N(R) 0, no layer 3, and one octet
abbrev pub info_b : List ℕ
info_b = at_to_a (0 ∷ 240 ∷ 105 ∷ [])

-- A's I frame, and how it is sent again: with P, and N(R) 1
abbrev pub info_a : List ℕ
info_a = at_to_b (0 ∷ 240 ∷ 104 ∷ [])

abbrev pub info_again : List ℕ
info_again = at_to_b (48 ∷ 240 ∷ 104 ∷ [])

abbrev pub third : List ℕ
third = at_from_third (63 ∷ [])

abbrev pub disc : List ℕ
disc = at_to_a (83 ∷ [])

abbrev pub last_ua : List ℕ
last_ua = at_answer_to_b (115 ∷ [])

abbrev pub sabm_frame : Frame
sabm_frame = record { path = to_b; kind = Setup Sabm true }

pub sabm_is : IsFrame sabm_frame Eight sabm
sabm_is = record { len = 14; path = begins_to_b (63 ∷ []); kind = record { numbered = tt; fits = tt }; body = refl }

abbrev pub ua_frame : Frame
ua_frame = record { path = answer_to_a; kind = Setup Ua true }

pub ua_is : IsFrame ua_frame Eight ua
ua_is = record { len = 14; path = begins_answer_to_a (115 ∷ []); kind = record { numbered = tt; fits = tt }; body = refl }

abbrev pub third_frame : Frame
third_frame = record { path = from_third; kind = Setup Sabm true }

pub third_is : IsFrame third_frame Eight third
third_is = record { len = 14; path = begins_from_third (63 ∷ []); kind = record { numbered = tt; fits = tt }; body = refl }

abbrev pub disc_frame : Frame
disc_frame = record { path = to_a; kind = Setup Disc true }

pub disc_is : IsFrame disc_frame Eight disc
disc_is = record { len = 14; path = begins_to_a (83 ∷ []); kind = record { numbered = tt; fits = tt }; body = refl }

abbrev pub last_ua_frame : Frame
last_ua_frame = record { path = answer_to_b; kind = Setup Ua true }

pub last_ua_is : IsFrame last_ua_frame Eight last_ua
last_ua_is = record { len = 14; path = begins_answer_to_b (115 ∷ []); kind = record { numbered = tt; fits = tt }; body = refl }

abbrev pub info_b_frame : Frame
info_b_frame = record { path = to_a; kind = Info 0 0 false 240 (105 ∷ []) }

pub info_b_is : IsFrame info_b_frame Eight info_b
info_b_is = record {
  len = 14;
  path = begins_to_a (0 ∷ 240 ∷ 105 ∷ []);
  kind = record { numbered = (omega arith, omega arith); fits = omega arith };
  body = refl;
}

abbrev pub info_a_frame : Frame
info_a_frame = record { path = to_b; kind = Info 0 0 false 240 (104 ∷ []) }

pub info_a_is : IsFrame info_a_frame Eight info_a
info_a_is = record {
  len = 14;
  path = begins_to_b (0 ∷ 240 ∷ 104 ∷ []);
  kind = record { numbered = (omega arith, omega arith); fits = omega arith };
  body = refl;
}

abbrev pub info_again_frame : Frame
info_again_frame = record { path = to_b; kind = Info 0 1 true 240 (104 ∷ []) }

pub info_again_is : IsFrame info_again_frame Eight info_again
info_again_is = record {
  len = 14;
  path = begins_to_b (48 ∷ 240 ∷ 104 ∷ []);
  kind = record { numbered = (omega arith, omega arith); fits = omega arith };
  body = refl;
}

each_low : (octets : List ℕ) → list_all (λ octet. nat_lt octet 256) octets ≡ true → Each (λ octet. octet < 256) octets
each_low [] h = tt
each_low (o ∷ octets) h =
    let both = and_parts (nat_lt o 256) (list_all (λ octet. nat_lt octet 256) octets) h in
    (ltb-true o 256 both.0, each_low octets both.1)

pub low : (octets : List ℕ) → list_all (λ octet. nat_lt octet 256) octets ≡ true → All (λ octet. octet < 256) octets
low octets h = All-from_recursion (λ octet. octet < 256) octets (each_low octets h)
