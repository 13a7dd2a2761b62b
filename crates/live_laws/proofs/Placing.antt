-- Set-ups of which a connection was told stand among those of the link's end, in order: what it got of each comes from
-- the origin of that one.
use Rattle.station_laws.proofs.Common.{◌≡◌, ◌≢◌, ℕ, suc, ◌<◌, Bool, true, false, List, [], ◌∷◌, ◌++◌, cond, map}
use Rattle.station_laws.proofs.Common.{Option, Some, None, refl, sym, ap, ◌∙◌, subst, arith, ⊤}
use Rattle.station_laws.proofs.Common.{All, AllPairs, All-from_recursion, recursion_from_All, Packet}
use Rattle.std.specs.Prelude.{filter, option_map}
use Rattle.std.specs.List.{AllByRecursion as Each, cons_option}
use Rattle.std.proofs.lemmas.List.Concat.{flat_map-append}
use Rattle.std.proofs.lemmas.List.Kept.{AllPairs-cons}
use Rattle.std.proofs.lemmas.Option.{slice_get-map}
use Rattle.link_world.specs.Origin.{GotNothingElse, GotPrefix, RiseStrictly, origin, origins}
use Rattle.link_world.specs.SetUps.{SetUp}
use Rattle.call_laws.specs.FirstPart.{IsFirstPart}
use Rattle.call_laws.specs.PrintsTold.{octets_of}
use Rattle.call_laws.proofs.Reading.{part_of_part}
use Rattle.live_laws.specs.LiveLaw.{ComesBefore, GetsInOrder, IsGotFrom, Placed, has_octets}
use Rattle.live_laws.proofs.Noted.{HasGrown, Noted, gots_of, octets_told, octets_with}

-- ---- numbers that rise

abbrev Rising : List ℕ → Type 0
Rising [] = ⊤
Rising (n ∷ numbers) = Each (λ m. n < m) numbers × Rising numbers

pub rising_of : (numbers : List ℕ) → RiseStrictly numbers → Rising numbers
rising_of [] h = tt
rising_of (n ∷ numbers) h =
    let above : All (λ m. n < m) numbers = λ j d within. h 0 (suc j) d (omega arith) (omega arith) in (
      recursion_from_All (λ m. n < m) numbers above,
      rising_of numbers (λ i j d lt within. h (suc i) (suc j) d (omega arith) (omega arith)),
    )

abbrev Ordered : List Placed → Type 0
Ordered [] = ⊤
Ordered (p ∷ placed) = Each (ComesBefore p) placed × Ordered placed

pairs_of : (placed : List Placed) → Ordered placed → AllPairs ComesBefore placed
pairs_of [] h = λ i j d lt within. absurd (omega arith)
pairs_of (p ∷ placed) h =
    AllPairs-cons ComesBefore p placed (All-from_recursion (ComesBefore p) placed h.0) (pairs_of placed h.1)

-- ---- one place on

abbrev on_one : Placed → Placed
on_one p = record p { place = suc p.place }

on_got : (placed : List Placed) → map (λ (p : Placed). p.got) (map on_one placed) ≡ map (λ (p : Placed). p.got) placed
on_got [] = refl
on_got (p ∷ placed) = ap (λ gs. p.got ∷ gs) (on_got placed)

on_each : (given : List (List ℕ)) (ours : List SetUp) (q : SetUp) (placed : List Placed)
    → Each (IsGotFrom given ours) placed → Each (IsGotFrom given (q ∷ ours)) (map on_one placed)
on_each given ours q [] h = tt
on_each given ours q (p ∷ placed) h = (
  record {
    own = h.0.own;
    is_own = h.0.is_own;
    is_origin = h.0.is_origin;
    theirs = h.0.theirs;
    is_there = h.0.is_there;
    part = h.0.part;
  },
  on_each given ours q placed h.1,
)

next_less : (m n : ℕ) → m < n → suc m < suc n
next_less m n lt = omega (arith, lt)

on_before : (p : Placed) (placed : List Placed) → Each (ComesBefore p) placed
    → Each (ComesBefore (on_one p)) (map on_one placed)
on_before p [] h = tt
on_before p (q ∷ placed) h = ((next_less p.place q.place h.0.0, h.0.1), on_before p placed h.1)

on_ordered : (placed : List Placed) → Ordered placed → Ordered (map on_one placed)
on_ordered [] h = tt
on_ordered (p ∷ placed) h = (on_before p placed h.0, on_ordered placed h.1)

on_from : (P : ℕ → Type 0) (placed : List Placed) → Each (λ (p : Placed). P p.origin) placed
    → Each (λ (p : Placed). P p.origin) (map on_one placed)
on_from P [] h = tt
on_from P (p ∷ placed) h = (h.0, on_from P placed h.1)

after_first : (n : ℕ) (got : List ℕ) (placed : List Placed) → Each (λ (p : Placed). n < p.origin) placed
    → Each (ComesBefore (record { got = got; place = 0; origin = n })) (map on_one placed)
after_first n got [] h = tt
after_first n got (p ∷ placed) h = ((omega arith, h.0), after_first n got placed h.1)

-- ---- the set-ups of an end

-- each set-up that is noted is one of the end's, and got no more
abbrev pub AreWithin : List Noted → List SetUp → Type 0
AreWithin [] ours = ⊤
AreWithin (x ∷ noted) [] = ⊥
AreWithin (x ∷ noted) (q ∷ ours) = IsFirstPart x.got q.got × AreWithin noted ours

pub grown_within : (noted later : List Noted) (ours : List SetUp) → HasGrown noted later
    → map (λ (q : SetUp). q.got) ours ≡ gots_of later → AreWithin noted ours
grown_within [] later ours h is = tt
grown_within (x ∷ noted) [] ours h is = absurd h
grown_within (x ∷ noted) (y ∷ later) [] h is = absurd (cc)
grown_within (x ∷ noted) (y ∷ later) (q ∷ ours) h is =
    let same : q.got ≡ y.got = cc in
    let rest : map (λ (r : SetUp). r.got) ours ≡ gots_of later = cc in
    (subst (IsFirstPart x.got) (sym same) h.0, grown_within noted later ours h.1 rest)

-- what was given in each set-up, in octets
abbrev pub given_in : List SetUp → List (List ℕ)
given_in theirs = map (λ (q : SetUp). octets_of q.given) theirs

record Found (theirs ours : List SetUp) (noted : List Noted) : Type 1 where
  placed : List Placed
  same : map (λ (p : Placed). p.got) placed ≡ filter has_octets (octets_told noted)
  each : Each (IsGotFrom (given_in theirs) ours) placed
  ordered : Ordered placed
  from : (P : ℕ → Type 0) → Each P (origins ours) → Each (λ (p : Placed). P p.origin) placed

each_after : (P : ℕ → Type 0) (o : Option ℕ) (numbers : List ℕ) → Each P (cons_option o numbers) → Each P numbers
each_after P None numbers h = h
each_after P (Some n) numbers h = h.1

rising_after : (o : Option ℕ) (numbers : List ℕ) → Rising (cons_option o numbers) → Rising numbers
rising_after None numbers h = h
rising_after (Some n) numbers h = h.1

-- a set-up of which nothing is told
skips : (theirs ours : List SetUp) (q : SetUp) (noted more : List Noted) → Found theirs ours noted
    → filter has_octets (octets_told more) ≡ filter has_octets (octets_told noted) → Found theirs (q ∷ ours) more
skips theirs ours q noted more h same = record {
  placed = map on_one h.placed;
  same = on_got h.placed ∙ h.same ∙ sym same;
  each = on_each (given_in theirs) ours q h.placed h.each;
  ordered = on_ordered h.placed h.ordered;
  from = λ P all. on_from P h.placed (h.from P (each_after P (origin q) (origins ours) all));
}

octets_grow : (first got : List Packet) → IsFirstPart first got → IsFirstPart (octets_of first) (octets_of got)
octets_grow first got part = (octets_of part.0, ap octets_of part.1 ∙ flat_map-append _ first part.0)

part_none : (xs ys : List Packet) → [] ≡ xs ++ ys → xs ≡ []
part_none [] ys is = refl
part_none (x ∷ xs) ys is = absurd (cc)

-- one in which the connection got octets
takes : (theirs ours : List SetUp) (q : SetUp) (noted : List Noted) (got : List Packet) (octet : ℕ) (octets : List ℕ)
    → octets_of got ≡ octet ∷ octets → IsFirstPart got q.got → GotNothingElse theirs q → Rising (origins (q ∷ ours))
    → Found theirs ours noted → Found theirs (q ∷ ours) (record { told = true; got = got } ∷ noted)
takes theirs ours q noted got octet octets some part nothing_else rising h = record {
  placed = first ∷ map on_one h.placed;
  same = ap (λ gs. octets_of got ∷ gs) (on_got h.placed ∙ h.same)
      ∙ sym (ap (λ b. cond b (octets_of got ∷ filter has_octets (octets_told noted))
      (filter has_octets (octets_told noted))) (ap has_octets some));
  each = (
    record {
      own = q;
      is_own = refl;
      is_origin = from.is_origin;
      theirs = octets_of from.giver.given;
      is_there = slice_get-map (λ (x : SetUp). octets_of x.given) theirs from.number
          ∙ ap (option_map (λ (x : SetUp). octets_of x.given)) from.is_there;
      part = given;
    },
    on_each (given_in theirs) ours q h.placed h.each,
  );
  ordered = (
    after_first from.number (octets_of got) h.placed (h.from (λ m. from.number < m) above),
    on_ordered h.placed h.ordered,
  );
  from = λ P all.
      let these : Each P (from.number ∷ origins ours) =
      subst (λ o. Each P (cons_option o (origins ours))) from.is_origin all in
      (these.0, on_from P h.placed (h.from P these.1));
}
  where
    got_some : q.got ≢ []
    got_some none =
        let nothing : got ≡ [] = part_none got part.0 (sym none ∙ part.1) in
        absurd (let e : octet ∷ octets ≡ [] = sym some ∙ ap octets_of nothing in cc)

    from : GotPrefix theirs q
    from = nothing_else got_some

    first : Placed
    first = record { got = octets_of got; place = 0; origin = from.number }

    given : IsFirstPart (octets_of got) (octets_of from.giver.given)
    given =
        part_of_part (octets_of got) (octets_of q.got) (octets_of from.giver.given) (octets_grow got q.got part)
        (octets_grow q.got from.giver.given (from.prefix.0, from.prefix.1))

    above : Each (λ m. from.number < m) (origins ours)
    above =
        let all : Rising (from.number ∷ origins ours) =
        subst (λ o. Rising (cons_option o (origins ours))) from.is_origin rising in
        all.0

finds : (theirs ours : List SetUp) (noted : List Noted) → AreWithin noted ours → Each (GotNothingElse theirs) ours
    → Rising (origins ours) → Found theirs ours noted
finds theirs ours [] within nothing_else rising = record {
  placed = [];
  same = refl;
  each = tt;
  ordered = tt;
  from = λ P all. tt;
}
finds theirs [] (x ∷ noted) within nothing_else rising = absurd within
finds theirs (q ∷ ours) (x ∷ noted) within nothing_else rising =
    by_told (finds theirs ours noted within.1 nothing_else.1 (rising_after (origin q) (origins ours) rising)) x.told refl
  where
    by_octets : Found theirs ours noted → (octets : List ℕ) → octets_of x.got ≡ octets
        → Found theirs (q ∷ ours) (record { told = true; got = x.got } ∷ noted)
    by_octets rest [] none =
        skips theirs ours q noted (record { told = true; got = x.got } ∷ noted) rest
        (ap (λ xs. filter has_octets (xs ∷ octets_told noted)) none)
    by_octets rest (octet ∷ octets) some =
        takes theirs ours q noted x.got octet octets some within.0 nothing_else.0 rising rest

    by_told : Found theirs ours noted → (b : Bool) → x.told ≡ b → Found theirs (q ∷ ours) (x ∷ noted)
    by_told rest true is =
        subst (λ b. Found theirs (q ∷ ours) (record { told = b; got = x.got } ∷ noted)) (sym is)
        (by_octets rest (octets_of x.got) refl)
    by_told rest false is =
        skips theirs ours q noted (x ∷ noted) rest
        (ap (λ b. filter has_octets (octets_with b x.got (octets_told noted))) is)

pub gets_in_order : (theirs ours : List SetUp) (noted : List Noted) → AreWithin noted ours
    → Each (GotNothingElse theirs) ours → RiseStrictly (origins ours)
    → GetsInOrder (given_in theirs) ours (octets_told noted)
gets_in_order theirs ours noted within nothing_else rise =
    let h = finds theirs ours noted within nothing_else (rising_of (origins ours) rise) in
    record {
      placed = h.placed;
      same = h.same;
      each = All-from_recursion (IsGotFrom (given_in theirs) ours) h.placed h.each;
      rise = pairs_of h.placed h.ordered;
    }
