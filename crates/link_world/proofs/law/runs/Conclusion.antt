-- What holds of a world, in its own words: what a set-up got is a prefix of what was given in its origin, and origins
-- rise.
use Rattle.link_world.proofs.Common.{◌≡◌, ℕ, zero, suc, ◌<◌, List, [], ◌∷◌, length, Option, Some, None, IfSome, refl}
use Rattle.link_world.proofs.Common.{sym, ap, ◌∙◌, subst, arith, ⊤, All-from_recursion, Packet, SetUp, RecordedEnd}
use Rattle.link_world.proofs.Common.{World, Params}
use Rattle.std.proofs.Common.{◌≢◌, get_or, All}
use Rattle.std.specs.List.{AllByRecursion as Each, cons_option}
use Rattle.std.proofs.lemmas.Option.{slice_get-get_or}
use Rattle.link_world.proofs.law.reduced.Core.{End, SetUp as CoreSetUp, given_in, modulus_in, set_ups}
use Rattle.link_world.proofs.law.reduced.CoreLaw.{GotBy, GotOf, OriginBelow, OriginsRise, OriginAlike}
use Rattle.link_world.specs.Origin.{origin_of, origin, origins, GotPrefix, GotNothingElse, RiseStrictly}
use Rattle.link_world.proofs.law.Each.{each_weaker, each_both}
use Rattle.link_world.proofs.law.showing.Shown.{core_set_up, core_set_ups, length_core, Shown}
use Rattle.link_world.proofs.law.showing.Shown.Shown.{ShownIdle, ShownCalling, ShownUp, ShownReleasing}
use Rattle.link_world.proofs.law.up.Settling.{all_of_last}
use Rattle.link_world.proofs.law.runs.WorldSteps.{ShowsWorld}

shown_set_ups : {r : RecordedEnd} {x : End} → Shown r x → set_ups x ≡ core_set_ups r.set_ups
shown_set_ups (ShownIdle state packets waiting) = refl
shown_set_ups (ShownCalling state waiting) = refl
shown_set_ups (ShownUp ended last is state waiting) = sym (ap core_set_ups is ∙ all_of_last ended last)
shown_set_ups (ShownReleasing state packets waiting) = refl

each_of_map : (P : CoreSetUp → Type 0) (qs : List SetUp) → Each P (core_set_ups qs) → Each (λ q. P (core_set_up q)) qs
each_of_map P [] h = tt
each_of_map P (q ∷ qs) h = (h.0, each_of_map P qs h.1)

given_at :
    (theirs : List SetUp) (n : ℕ) (d : SetUp) → n < length theirs
    → given_in (core_set_ups theirs) n ≡ (get_or theirs n d).given
given_at [] n d within = absurd (omega arith)
given_at (q ∷ theirs) zero d within = refl
given_at (q ∷ theirs) (suc n) d within = given_at theirs n d (omega arith)

modulus_at :
    (theirs : List SetUp) (n : ℕ) (d : SetUp) → n < length theirs
    → modulus_in (core_set_ups theirs) n ≡ (get_or theirs n d).modulus
modulus_at [] n d within = absurd (omega arith)
modulus_at (q ∷ theirs) zero d within = refl
modulus_at (q ∷ theirs) (suc n) d within = modulus_at theirs n d (omega arith)

origin_of_got : (got : List Packet) (accepted : Option ℕ) → got ≢ [] → origin_of got accepted ≡ accepted
origin_of_got [] accepted some = absurd (some refl)
origin_of_got (p ∷ got) accepted some = refl

-- a set-up that got something
got_prefix :
    (theirs : List SetUp) (q : SetUp) (accepted : Option ℕ) → q.accepted ≡ accepted
    → GotBy (core_set_ups theirs) q.got accepted → IfSome accepted (λ n. modulus_in (core_set_ups theirs) n ≡ q.modulus)
    → q.got ≢ [] → GotPrefix theirs q
got_prefix theirs q None is none alike some = absurd (some none)
got_prefix theirs q (Some n) is h alike some =
    let within : n < length theirs = subst (λ k. n < k) (length_core theirs) h.0 in
    let giver = get_or theirs n q in
    record {
      number = n;
      is_origin = origin_of_got q.got q.accepted some ∙ is;
      giver = giver;
      is_there = slice_get-get_or theirs n q within;
      prefix = (h.1.rest, sym (given_at theirs n q within) ∙ h.1.is);
      same_modulus = sym (modulus_at theirs n q within) ∙ alike;
    }

-- each of them
pub prefixes_hold :
    (theirs ours : List SetUp) → Each (GotOf (core_set_ups theirs)) (core_set_ups ours)
    → Each (OriginAlike (core_set_ups theirs)) (core_set_ups ours) → All (GotNothingElse theirs) ours
prefixes_hold theirs ours h alike = All-from_recursion (GotNothingElse theirs) ours
    (each_both _ _ _ (λ q g a some. got_prefix theirs q q.accepted refl g a some)
    ours (each_of_map (GotOf (core_set_ups theirs)) ours h)
    (each_of_map (OriginAlike (core_set_ups theirs)) ours alike))

-- numbers that rise, by recursion
Rising : List ℕ → Type 0
Rising [] = ⊤
Rising (n ∷ ns) = Each (λ m. n < m) ns × Rising ns

pairs_rise : (ns : List ℕ) → Rising ns → (i j d : ℕ) → i < j → j < length ns → get_or ns i d < get_or ns j d
unfolding Rising
pairs_rise [] h i j d less within = absurd (omega arith)
pairs_rise (n ∷ ns) h zero zero d less within = absurd (omega arith)
pairs_rise (n ∷ ns) h zero (suc j) d less within = All-from_recursion (λ m. n < m) ns h.0 j d (omega arith)
pairs_rise (n ∷ ns) h (suc i) zero d less within = absurd (omega arith)
pairs_rise (n ∷ ns) h (suc i) (suc j) d less within = pairs_rise ns h.1 i j d (omega arith) (omega arith)

-- the origin of a set-up that got something is that of its first accepted frame
some_origin :
    (got : List Packet) (accepted : Option ℕ) (P : ℕ → Type 0) → IfSome accepted P → IfSome (origin_of got accepted) P
some_origin [] accepted P h = tt
some_origin (p ∷ got) accepted P h = h

above_all : (n : ℕ) (qs : List SetUp) → Each (λ q. IfSome (origin q) (λ m. n < m)) qs → Each (λ m. n < m) (origins qs)
above_all n [] h = tt
above_all n (q ∷ qs) h = go (origin q) h.0 (above_all n qs h.1)
  where
    go : (o : Option ℕ) → IfSome o (λ m. n < m) → Each (λ m. n < m) (origins qs)
        → Each (λ m. n < m) (cons_option o (origins qs))
    go None here rest = rest
    go (Some m) here rest = (here, rest)

rises_by :
    (o : Option ℕ) (qs : List SetUp) → IfSome o (λ a. Each (λ q. IfSome (origin q) (λ m. a < m)) qs)
    → Rising (origins qs) → Rising (cons_option o (origins qs))
unfolding Rising
rises_by None qs h rest = rest
rises_by (Some a) qs h rest = (above_all a qs h, rest)

below_each : (q : SetUp) (qs : List SetUp) → Each (OriginBelow (core_set_up q)) (core_set_ups qs)
    → IfSome (origin q) (λ a. Each (λ p. IfSome (origin p) (λ m. a < m)) qs)
below_each q qs h =
    some_origin q.got q.accepted (λ a. Each (λ p. IfSome (origin p) (λ m. a < m)) qs) (go q.accepted refl)
  where
    go : (o : Option ℕ) → q.accepted ≡ o → IfSome o (λ a. Each (λ p. IfSome (origin p) (λ m. a < m)) qs)
    go None is = tt
    go (Some a) is = each_weaker _ _ (λ p b. some_origin p.got p.accepted (λ m. a < m)
        (subst (λ o. IfSome o (λ c. IfSome p.accepted (λ m. c < m))) is b))
        qs (each_of_map (OriginBelow (core_set_up q)) qs h)

rising_of : (qs : List SetUp) → OriginsRise (core_set_ups qs) → Rising (origins qs)
unfolding Rising
rising_of [] h = tt
rising_of (q ∷ qs) h = rises_by (origin q) qs (below_each q qs h.0) (rising_of qs h.1)

-- origins rise strictly
pub origins_hold : (qs : List SetUp) → OriginsRise (core_set_ups qs) → RiseStrictly (origins qs)
origins_hold qs h = λ i j d less within. pairs_rise (origins qs) (rising_of qs h) i j d less within

-- so each end got in order what the other was given
pub record GotPrefixes (near far : RecordedEnd) : Type 0 where
  pub prefixes : All (GotNothingElse far.set_ups) near.set_ups
  pub origins_rise : RiseStrictly (origins near.set_ups)

pub near_got : {a b : Params} {w : World} → ShowsWorld a b w → GotPrefixes w.a.end w.b.end
near_got {w} s =
    let ours = shown_set_ups s.near in
    let theirs = shown_set_ups s.far in
    record {
      prefixes = prefixes_hold w.b.end.set_ups w.a.end.set_ups
          (rw (← theirs) (subst (λ qs. Each (GotOf (set_ups s.y)) qs) ours s.holds.x_hears.packets.prefixes))
          (rw (← theirs) (subst (λ qs. Each (OriginAlike (set_ups s.y)) qs) ours s.holds.x_hears.moduli.origins));
      origins_rise = origins_hold w.a.end.set_ups (subst OriginsRise ours s.holds.x_hears.packets.origins);
    }
