-- From packets to octets: set-ups of a link's ends that got packets in order, as host programs see them, got octets in
-- order.
use Rattle.channel_bench.proofs.Common.{◌≡◌, ◌≢◌, ℕ, suc, ◌<◌, List, [], ◌∷◌, map, cond, Option, Some, None, refl, sym, ap, ◌∙◌}
use Rattle.channel_bench.proofs.Common.{subst, arith, All, filter, option_map, slice_get, flat_map-append}
use Rattle.channel_bench.proofs.Common.{All-from_recursion, recursion_from_All, slice_get-map, Packet, GotNothingElse}
use Rattle.channel_bench.proofs.Common.{RecordedEnd, SetUp, octets_in, set_up_of, AreGotFrom, GotInOrder, as_seen}
use Rattle.std.specs.Prelude.{AllPairs}
use Rattle.std.specs.List.{AllByRecursion as Each, cons_option}
use Rattle.std.proofs.lemmas.List.Kept.{AllPairs-cons}
use Rattle.link_world.specs.Origin.{GotPrefix, GotInOrder as PacketsInOrder, RiseStrictly, origin, origin_of, origins}
use Rattle.link_world.specs.SetUps.{SetUp as LinkSetUp}
use Rattle.channel_bench.specs.KeepsOrder.{IsGotFrom, got_octets, has_octets, octets_origins}

-- ---- numbers that rise

abbrev Rising : List ℕ → Type 0
Rising [] = Unit {0}
Rising (n ∷ numbers) = Each (λ m. n < m) numbers × Rising numbers

rising_of : (numbers : List ℕ) → RiseStrictly numbers → Rising numbers
rising_of [] h = tt
rising_of (n ∷ numbers) h =
    let above : All (λ m. n < m) numbers = λ j d within. h 0 (suc j) d (omega arith) (omega arith) in (
      recursion_from_All (λ m. n < m) numbers above,
      rising_of numbers
          (λ i j d lt within. h (suc i) (suc j) d (omega arith) (omega arith)),
    )

pairs_of : (numbers : List ℕ) → Rising numbers → AllPairs (λ m n. m < n) numbers
pairs_of [] h = λ i j d lt within. absurd (omega arith)
pairs_of (n ∷ numbers) h =
    AllPairs-cons (λ a b. a < b) n numbers (All-from_recursion (λ m. n < m) numbers h.0) (pairs_of numbers h.1)

-- ---- a set-up of an end, as its host program saw it

abbrev pub seen_as : LinkSetUp → SetUp
seen_as q = set_up_of (as_seen q)

there_too :
    (theirs : List LinkSetUp) (number : ℕ) (q : LinkSetUp) → slice_get theirs number ≡ Some q
    → slice_get (map seen_as theirs) number ≡ Some (seen_as q)
there_too theirs number q is = slice_get-map seen_as theirs number ∙ ap (option_map seen_as) is

got_from :
    (theirs : List LinkSetUp) (q : LinkSetUp) (h : GotPrefix theirs q)
    → IsGotFrom (map seen_as theirs) h.number (seen_as q)
got_from theirs q h = record {
  giver = seen_as h.giver;
  is_there = there_too theirs h.number h.giver h.is_there;
  first_part = (
    octets_in h.prefix.0,
    ap octets_in h.prefix.1 ∙ flat_map-append (λ (packet : Packet). packet.octets) q.got h.prefix.0,
  );
}

-- ---- all set-ups of an end

-- the origins of those that got octets are among the origins of those that got packets
record Ordered (theirs : List SetUp) (ours : List LinkSetUp) (numbers : List ℕ) : Type 0 where
  got : AreGotFrom theirs (octets_origins ours) (filter got_octets (map seen_as ours))
  rise : Rising (octets_origins ours)
  among : (low : ℕ) → Each (λ m. low < m) numbers → Each (λ m. low < m) (octets_origins ours)

-- those of a set-up and of the others
abbrev origins_with : List ℕ → Option ℕ → List ℕ → List ℕ
origins_with octets from rest = cons_option (cond (has_octets octets) from None) rest

abbrev sides_with : List ℕ → SetUp → List SetUp → List SetUp
sides_with octets q rest = cond (has_octets octets) (q ∷ rest) rest

ordered :
    (theirs ours : List LinkSetUp) → Each (GotNothingElse theirs) ours → Rising (origins ours)
    → Ordered (map seen_as theirs) ours (origins ours)
ordered theirs [] prefixes rise = record { got = tt; rise = tt; among = λ P h. tt }
ordered theirs (q ∷ ours) prefixes rise = by_packets q.got refl (λ above. ordered theirs ours prefixes.1 above)
  where
    others : List SetUp
    others = filter got_octets (map seen_as ours)

    -- what holds of all, by the octets of this set-up and its origin
    as_it_is :
        (octets : List ℕ) (from : Option ℕ) (numbers : List ℕ) → octets_in q.got ≡ octets → origin q ≡ from
        → AreGotFrom (map seen_as theirs) (origins_with octets from (octets_origins ours))
        (sides_with octets (seen_as q) others)
        → Rising (origins_with octets from (octets_origins ours))
        → ((low : ℕ) → Each (λ m. low < m) numbers
        → Each (λ m. low < m) (origins_with octets from (octets_origins ours)))
        → Ordered (map seen_as theirs) (q ∷ ours) numbers
    as_it_is octets from numbers are is got above among =
        let same : octets_origins (q ∷ ours) ≡ origins_with octets from (octets_origins ours) =
        ap (λ o. origins_with o (origin q) (octets_origins ours)) are
        ∙ ap (λ f. origins_with octets f (octets_origins ours)) is in
        let sides : filter got_octets (map seen_as (q ∷ ours)) ≡ sides_with octets (seen_as q) others =
        ap (λ o. sides_with o (seen_as q) others) are in
        record {
          got = subst (λ os. AreGotFrom (map seen_as theirs) os (filter got_octets (map seen_as (q ∷ ours)))) (sym same)
              (subst (AreGotFrom (map seen_as theirs) (origins_with octets from (octets_origins ours))) (sym sides) got);
          rise = subst Rising (sym same) above;
          among = λ low all. subst (Each (λ m. low < m)) (sym same) (among low all);
        }

    -- it got a packet, but perhaps no octet
    with_packets :
        (h : GotPrefix theirs q) (octets : List ℕ) → octets_in q.got ≡ octets → Rising (h.number ∷ origins ours)
        → Ordered (map seen_as theirs) ours (origins ours)
        → Ordered (map seen_as theirs) (q ∷ ours) (h.number ∷ origins ours)
    with_packets h [] none above rest =
        as_it_is [] (Some h.number) (h.number ∷ origins ours) none h.is_origin rest.got rest.rise
        (λ low all. rest.among low all.1)
    with_packets h (octet ∷ octets) some above rest =
        as_it_is (octet ∷ octets) (Some h.number) (h.number ∷ origins ours) some h.is_origin
        (got_from theirs q h, rest.got) (rest.among h.number above.0, rest.rise)
        (λ low all. (all.0, rest.among low all.1))

    by_packets :
        (packets : List Packet) → q.got ≡ packets
        → (Rising (origins ours) → Ordered (map seen_as theirs) ours (origins ours))
        → Ordered (map seen_as theirs) (q ∷ ours) (origins (q ∷ ours))
    by_packets [] none others_kept =
        let no_origin : origins (q ∷ ours) ≡ origins ours =
        ap (λ got. cons_option (origin_of got q.accepted) (origins ours)) none in
        let rest = others_kept (subst Rising no_origin rise) in
        subst (Ordered (map seen_as theirs) (q ∷ ours)) (sym no_origin)
        (as_it_is [] (origin q) (origins ours) (ap octets_in none) refl rest.got rest.rise rest.among)
    by_packets (packet ∷ packets) some others_kept =
        let got_packets : q.got ≢ [] = λ none. absurd (cc) in
        let h = prefixes.0 got_packets in
        let has_origin : origins (q ∷ ours) ≡ h.number ∷ origins ours = ap
        (λ o. cons_option o (origins ours)) h.is_origin in
        let above : Rising (h.number ∷ origins ours) = subst Rising has_origin rise in
        subst (Ordered (map seen_as theirs) (q ∷ ours)) (sym has_origin)
        (with_packets h (octets_in q.got) refl above (others_kept above.1))

pub octets_in_order :
    (near far : RecordedEnd) → PacketsInOrder near far
    → GotInOrder (octets_origins near.set_ups) (map seen_as far.set_ups) (map seen_as near.set_ups)
octets_in_order near far h =
    let all = ordered far.set_ups near.set_ups (recursion_from_All (GotNothingElse far.set_ups) near.set_ups h.prefixes)
    (rising_of (origins near.set_ups) h.origins_rise) in
    record { got = all.got; rise = pairs_of (octets_origins near.set_ups) all.rise }
