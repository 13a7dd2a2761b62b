-- Calls that a host program names or a frame carries are calls, and their paths can be written.
use Rattle.station_laws.proofs.Common.{◌≡◌, ℕ, zero, suc, ◌+◌, ◌-◌, ◌==◌, take, drop, ◌*◌, ◌<◌, ◌≤◌, Bool, true, false}
use Rattle.station_laws.proofs.Common.{◌&&◌, nat_lt, nat_le, List, [], ◌∷◌, length, map, cond, if◌then◌else◌, Option}
use Rattle.station_laws.proofs.Common.{Some, None, get_or, refl, sym, ap, ◌∙◌, subst, arith, inl, inr, is_none}
use Rattle.station_laws.proofs.Common.{option_map, ⊤, range_with_len, list_all, and_parts, cond-true, cond-false}
use Rattle.station_laws.proofs.Common.{false≢true, ltb-true, ltb-false, or_cases, length-map, All-from_recursion}
use Rattle.station_laws.proofs.Common.{Callsign, IsCallCharacter, BeginsWithPath, way_back, Hop, Path, Role}
use Rattle.station_laws.proofs.Common.{call_of_text, call_in, Link, Route, repeaters_in, route_in, path_along, Choice}
use Rattle.std.proofs.Common.{reverse}
use Rattle.std.specs.Prelude.{find, position}
use Rattle.std.specs.List.{position_or_len, AllByRecursion as Each}
use Rattle.std.proofs.lemmas.Bool.{leb-true}
use Rattle.std.proofs.lemmas.List.{length-reverse, get_or-reverse}
use Rattle.std.proofs.lemmas.List.Sums.{fails_before_first, passes_at_first}
use Rattle.ax25_address.specs.Callsign.{IsCall, IsName}
use Rattle.std.specs.Str.{bytes_eq}
use Rattle.ax25_address.specs.CallText.{name_part, ssid_part, ssid_suffix}
use Rattle.ax25_address.specs.FramePath.{undone}
use Rattle.station.specs.CallFields.{is_call_character, is_name, told_ssid, named, field_text}
use Rattle.station.specs.Routes.{before_calls, calls_in, route_of, waiting_hop}
use Rattle.station_laws.proofs.Addresses.{IsGoodPath}
use Rattle.station_laws.proofs.Tables.{NotChosen}

-- ---- a text

range_below : (a n bound : ℕ) → a + n ≤ bound → Each (λ k. k < bound) (range_with_len a n)
range_below a zero bound h = tt
range_below a (suc n) bound h = (omega arith, range_below (a + 1) n bound (omega arith))

found_of : {A : Type 0} (P : A → Type 0) (p : A → Bool) (xs : List A) (x : A) → Each P xs → find p xs ≡ Some x → P x
found_of P p [] x h is = absurd (cc)
found_of P p (y ∷ xs) x h is = go (p y) refl (found_of P p xs x h.1)
  where
    go : (b : Bool) → p y ≡ b → (find p xs ≡ Some x → P x) → P x
    go true here rest =
        let same : Some y ≡ Some x = sym (cond-true (p y) (Some y) (find p xs) here) ∙ is in
        let e : y ≡ x = cc in subst P e h.0
    go false here rest = rest (sym (cond-false (p y) (Some y) (find p xs) here) ∙ is)

zero_or_low :
    (b : Bool) (o : Option ℕ) (ssid : ℕ) → ((k : ℕ) → o ≡ Some k → k < 16) → cond b (Some 0) o ≡ Some ssid → ssid < 16
zero_or_low true o ssid low is = let e : 0 ≡ ssid = cc in omega arith
zero_or_low false o ssid low is = low ssid is

ssid_low : (tail : List ℕ) (ssid : ℕ) → told_ssid tail ≡ Some ssid → ssid < 16
ssid_low tail ssid is =
    let test : ℕ → Bool = λ k. bytes_eq tail (ssid_suffix k) in
    zero_or_low (length tail == 0) (find test (range_with_len 0 16)) ssid
    (λ k found. found_of (λ n. n < 16) test (range_with_len 0 16) k (range_below 0 16 16 (omega arith)) found) is

character : (c : ℕ) → is_call_character c ≡ true → IsCallCharacter c
character c is = elim (or_cases (nat_le 65 c && nat_le c 90) (nat_le 48 c && nat_le c 57) is) [
  | inl capital ↦ let both = and_parts (nat_le 65 c) (nat_le c 90) capital in
      inl (leb-true 65 c both.0, leb-true c 90 both.1)
  | inr digit ↦ let both = and_parts (nat_le 48 c) (nat_le c 57) digit in
      inr (leb-true 48 c both.0, leb-true c 57 both.1)
]

characters : (name : List ℕ) → list_all is_call_character name ≡ true → Each IsCallCharacter name
characters [] is = tt
characters (c ∷ name) is =
    let both = and_parts (is_call_character c) (list_all is_call_character name) is in
    (character c both.0, characters name both.1)

name_valid : (name : List ℕ) → is_name name ≡ true → IsName name
name_valid name is =
    let first = and_parts (nat_lt 0 (length name)) (nat_le (length name) 6 && list_all is_call_character name) is in
    let second = and_parts (nat_le (length name) 6) (list_all is_call_character name) first.1 in
    record {
      shortest = ltb-true 0 (length name) first.0;
      longest = leb-true (length name) 6 second.0;
      characters = All-from_recursion IsCallCharacter name (characters name second.1);
    }

named_valid : (name : List ℕ) (o : Option ℕ) (call : Callsign) → IsName name → ((ssid : ℕ) → o ≡ Some ssid → ssid < 16)
    → option_map (named name) o ≡ Some call → IsCall call
named_valid name None call valid low is = absurd (cc)
named_valid name (Some ssid) call valid low is =
    let e : named name ssid ≡ call = cc in
    subst IsCall e (record { name = valid; ssid = low ssid refl })

text_valid : (text : List ℕ) (call : Callsign) → call_of_text text ≡ Some call → IsCall call
unfolding call_of_text
text_valid text call is = go (is_name (name_part text)) refl
  where
    go : (b : Bool) → is_name (name_part text) ≡ b → IsCall call
    go true here =
        named_valid (name_part text) (told_ssid (ssid_part text)) call (name_valid (name_part text) here)
        (ssid_low (ssid_part text)) (sym (cond-true (is_name (name_part text)) _ None here) ∙ is)
    go false here = absurd (let e : None ≡ Some call = sym (cond-false (is_name (name_part text)) _ None here)
        ∙ is in cc)

pub call_valid : (field : List ℕ) (call : Callsign) → call_in field ≡ Some call → IsCall call
call_valid field call is = text_valid (field_text field) call is

-- ---- a route

calls_valid : (count : ℕ) (octets : List ℕ) (calls : List Callsign) → calls_in count octets ≡ Some calls
    → Each IsCall calls × (length calls ≡ count)
calls_valid zero octets calls is =
    let e : [] ≡ calls = cc in subst (λ (cs : List Callsign). Each IsCall cs × (length cs ≡ 0)) e (tt, refl)
calls_valid (suc count) octets calls is =
    go (call_in (take 10 octets)) refl (calls_in count (drop 10 octets)) refl is (calls_valid count (drop 10 octets))
  where
    go : (o : Option Callsign) → call_in (take 10 octets) ≡ o → (r : Option (List Callsign))
        → calls_in count (drop 10 octets) ≡ r → before_calls o r ≡ Some calls
        → ((cs : List Callsign) → calls_in count (drop 10 octets) ≡ Some cs → Each IsCall cs × (length cs ≡ count))
        → Each IsCall calls × (length calls ≡ suc count)
    go None here r there e rest = absurd (cc)
    go (Some call) here None there e rest = absurd (cc)
    go (Some call) here (Some cs) there e rest =
        let same : call ∷ cs ≡ calls = cc in
        let more = rest cs there in
        subst (λ (xs : List Callsign). Each IsCall xs × (length xs ≡ suc count)) same
        ((call_valid (take 10 octets) call here, more.0), ap suc more.1)

-- at most eight repeaters, all calls
abbrev AreFewCalls : Option (List Callsign) → Type 0
AreFewCalls None = ⊤
AreFewCalls (Some calls) = Each IsCall calls × (length calls ≤ 8)

few_calls : (body : List ℕ) → AreFewCalls (repeaters_in body)
few_calls [] = tt
few_calls (count ∷ octets) = go (nat_le count 8) refl (nat_le (10 * count) (length octets)) (calls_in count octets) refl
  where
    few : (r : Option (List Callsign)) → calls_in count octets ≡ r → count ≤ 8 → AreFewCalls r
    few None is low = tt
    few (Some calls) is low =
        let valid = calls_valid count octets calls is in let n = valid.1 in (valid.0, omega arith)

    go : (b : Bool) → nat_le count 8 ≡ b → (room : Bool) → (r : Option (List Callsign)) → calls_in count octets ≡ r
        → AreFewCalls (if b && room then r else None)
    go true low true r is = few r is (leb-true count 8 low)
    go true low false r is = tt
    go false low room r is = tt

pub record IsValidRoute (route : Route) : Type 0 where
  pub local_valid : IsCall route.local
  pub remote_valid : IsCall route.remote
  pub repeaters_valid : Each IsCall route.repeaters
  pub few : length route.repeaters ≤ 8

pub route_valid :
    (from to : List ℕ) (repeaters : Option (List Callsign)) (route : Route) → AreFewCalls repeaters
    → route_in from to repeaters ≡ Some route → IsValidRoute route
route_valid from to repeaters route valid is = go (call_in from) refl (call_in to) refl repeaters valid is
  where
    go : (l : Option Callsign) → call_in from ≡ l → (r : Option Callsign) → call_in to ≡ r
        → (reps : Option (List Callsign)) → AreFewCalls reps → route_of l r reps ≡ Some route → IsValidRoute route
    go None here r there reps low e = absurd (cc)
    go (Some local) here None there reps low e = absurd (cc)
    go (Some local) here (Some remote) there None low e = absurd (cc)
    go (Some local) here (Some remote) there (Some calls) low e =
        let made : Route = record { local = local; remote = remote; repeaters = calls } in
        let same : made ≡ route = cc in
        subst IsValidRoute same (record {
          local_valid = call_valid from local here;
          remote_valid = call_valid to remote there;
          repeaters_valid = low.0;
          few = low.1;
        })

-- no repeaters, or those of a body
pub no_or_few : (b : Bool) (body : List ℕ) → AreFewCalls (if b then repeaters_in body else Some [])
no_or_few true body = few_calls body
no_or_few false body = (tt, omega arith)

waiting_valid : (calls : List Callsign) → Each IsCall calls
    → Each (λ (hop : Hop). IsCall hop.call) (map waiting_hop calls)
waiting_valid [] h = tt
waiting_valid (call ∷ calls) h = (h.0, waiting_valid calls h.1)

pub along_good : (route : Route) → IsValidRoute route → IsGoodPath (path_along route)
along_good route valid = record {
  few = let n = length-map route.repeaters waiting_hop in let low = valid.few in omega arith;
  dest = valid.remote_valid;
  source = valid.local_valid;
  hops = waiting_valid route.repeaters valid.repeaters_valid;
}

-- ---- a path that was heard

hops_valid : (hops : List Hop) → ((k : ℕ) (d : Hop) → k < length hops → IsCall (get_or hops k d).call)
    → Each (λ (hop : Hop). IsCall hop.call) hops
hops_valid [] h = tt
hops_valid (hop ∷ hops) h = (h 0 hop (omega arith), hops_valid hops (λ k d less. h (suc k) d (omega arith)))

undone_valid : (xs : List Hop) → Each (λ (hop : Hop). IsCall hop.call) xs
    → Each (λ (hop : Hop). IsCall hop.call) (map undone xs)
undone_valid [] k = tt
undone_valid (x ∷ xs) k = (k.0, undone_valid xs k.1)

back_valid :
    (hops : List Hop) → ((k : ℕ) (d : Hop) → k < length hops → IsCall (get_or hops k d).call)
    → Each (λ (hop : Hop). IsCall hop.call) (map undone (reverse hops))
back_valid hops h =
    let n : length (reverse hops) ≡ length hops = length-reverse hops in
    undone_valid (reverse hops) (hops_valid (reverse hops) (λ k d less.
    subst (λ (x : Hop). IsCall x.call) (sym (get_or-reverse hops k d (omega (arith, less, n))))
    (h (length hops - 1 - k) d (omega (arith, less, n)))))

pub heard_good :
    (octets : List ℕ) (path : Path) (len : ℕ) (role : Role) → BeginsWithPath octets path len
    → IsGoodPath (way_back path role)
heard_good octets path len role h = record {
  few = let n = length-map (reverse path.repeaters.items) undone in let m = length-reverse path.repeaters.items in
      let low = h.1.count in omega arith;
  dest = h.1.source.valid;
  source = h.1.destination.valid;
  hops = back_valid path.repeaters.items (λ k d less. (h.1.repeaters k d less).valid);
}

-- ---- the first place that is chosen

each_from : (P : Option Link → Type 0) (xs : List (Option Link)) → ((k : ℕ) → k < length xs → P (get_or xs k None))
    → Each P xs
each_from P [] h = tt
each_from P (x ∷ xs) h = (h 0 (omega arith), each_from P xs (λ k less. h (suc k) (omega arith)))

pub none_by_position :
    (chosen : Choice) (places : List (Option Link)) → is_none (position chosen places) ≡ true
    → Each (NotChosen chosen) places
none_by_position chosen places is =
    let far : length places ≤ position_or_len chosen places =
    past (nat_lt (position_or_len chosen places) (length places)) refl is in
    each_from (NotChosen chosen) places (λ k less. fails_before_first chosen places k None (omega arith))
  where
    past : (b : Bool) → nat_lt (position_or_len chosen places) (length places) ≡ b
        → is_none (cond b (Some (position_or_len chosen places)) None) ≡ true
        → length places ≤ position_or_len chosen places
    past true here e = absurd (false≢true e)
    past false here e = let high = ltb-false (position_or_len chosen places) (length places) here in omega arith

pub at_position :
    (chosen : Choice) (places : List (Option Link)) (key : ℕ) → position chosen places ≡ Some key
    → chosen (get_or places key None) ≡ true
at_position chosen places key is = go (nat_lt (position_or_len chosen places) (length places)) refl is
  where
    go : (b : Bool) → nat_lt (position_or_len chosen places) (length places) ≡ b
        → cond b (Some (position_or_len chosen places)) None ≡ Some key → chosen (get_or places key None) ≡ true
    go true here e =
        let same : position_or_len chosen places ≡ key = cc in
        subst (λ k. chosen (get_or places k None) ≡ true) same
        (passes_at_first chosen places None (ltb-true (position_or_len chosen places) (length places) here))
    go false here e = absurd (cc)
