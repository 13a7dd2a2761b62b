-- A pump that publishes the samples of each read before the next one.
use Rattle.tnc_ports.proofs.Common.{ℤ, ◌⊎◌, List, ◌∷◌, Option, Some, None, sym, ap, ◌∙◌, subst, append_assoc}
use Rattle.tnc_ports.proofs.Common.{inl, inr, flat_map-append, append-nil, samples, Step, Publishes, odd_octet}
use Rattle.std.specs.Prelude.{◌≡◌, ℕ, [], ◌++◌, map, refl}
use Rattle.sound_rate.specs.declared.incoming.Incoming.{Incoming}
use Rattle.sound_rate.specs.declared.rate.Rate.{Rate}
use Rattle.sound_rate.specs.HeldRates.{HasReceived}
use Rattle.sound_rate.specs.Rates.{received, settled_at}
use Rattle.sound_rate.proofs.Nothing.{none_settled}
use Rattle.tnc_ports.specs.HeldPump.{HasTaken, IsFed, PacesOn}
use Rattle.tnc_ports.specs.Inlet.{octets_of_step, samples_of_step, octets_read, samples_published, AreSettledPublished}
use Rattle.tnc_ports.specs.Inlet.{KeepsPace}
use Rattle.tnc_ports.specs.Inlet.Step.{Reads}
use Rattle.tnc_ports.proofs.PumpLemmas.{taken_none}

-- ---- where a read stands

-- no read is after the samples of the one before it
read_before : (xs : List ℤ) (steps before after : List Step) (octets : List ℕ)
    → steps ++ map Publishes xs ≡ before ++ Reads octets ∷ after
    → (between : List Step) × (steps ≡ before ++ Reads octets ∷ between)
read_before [] [] [] after octets e = absurd (cc)
read_before [] [] (step ∷ before) after octets e = absurd (cc)
read_before (x ∷ xs) [] [] after octets e = absurd (cc)
read_before (x ∷ xs) [] (step ∷ before) after octets e =
    let tail : map Publishes xs ≡ before ++ Reads octets ∷ after = cc in
    let rest = read_before xs [] before after octets tail in
    absurd (none_there before rest.0 octets rest.1)
  where
    none_there : (before between : List Step) (octets : List ℕ) → [] ≡ before ++ Reads octets ∷ between → ⊥
    none_there [] between octets e = cc
    none_there (step ∷ before) between octets e = cc
read_before xs (step ∷ steps) [] after octets e =
    let head : step ≡ Reads octets = cc in (steps, ap (λ s. s ∷ steps) head)
read_before xs (step ∷ steps) (other ∷ before) after octets e =
    let head : step ≡ other = cc in
    let tail : steps ++ map Publishes xs ≡ before ++ Reads octets ∷ after = cc in
    let rest = read_before xs steps before after octets tail in
    (rest.0, ap (λ s. s ∷ steps) head ∙ ap (λ l. other ∷ l) rest.1)

-- a read is the last one or stands before it
read_or_last : (steps before between : List Step) (piece octets : List ℕ)
    → steps ++ Reads piece ∷ [] ≡ before ++ Reads octets ∷ between
    → (before ≡ steps) ⊎ ((after : List Step) × (steps ≡ before ++ Reads octets ∷ after))
read_or_last [] [] between piece octets e = inl refl
read_or_last [] (step ∷ []) between piece octets e = absurd (cc)
read_or_last [] (step ∷ other ∷ before) between piece octets e = absurd (cc)
read_or_last (step ∷ steps) [] between piece octets e =
    let head : step ≡ Reads octets = cc in inr (steps, ap (λ s. s ∷ steps) head)
read_or_last (step ∷ steps) (other ∷ before) between piece octets e =
    let head : step ≡ other = cc in
    let tail : steps ++ Reads piece ∷ [] ≡ before ++ Reads octets ∷ between = cc in
    elim (read_or_last steps before between piece octets tail) [
      | inl same ↦ inl (ap (λ s. s ∷ before) (sym head) ∙ ap (λ l. step ∷ l) same)
      | inr rest ↦ inr (rest.0, ap (λ s. s ∷ steps) head ∙ ap (λ l. other ∷ l) rest.1)
    ]

-- ---- the steps so far

pub paces_first : (rate : Rate) (before : List Step) (now : Option (List Step)) (published : List ℤ)
    (incoming : Incoming) → now ≡ Some before → published ≡ [] → HasReceived rate incoming []
    → PacesOn rate before now published incoming None
paces_first rate before now published incoming told none fresh = record {
  more = [];
  told = told ∙ ap Some (sym (append-nil before));
  all = none;
  received = fresh;
  odd = refl;
  pace = record {
    at_reads = λ first after octets e. absurd (nothing first after octets e);
    now = none_settled rate;
  };
}
  where
    nothing : (first after : List Step) (octets : List ℕ) → [] ≡ first ++ Reads octets ∷ after → ⊥
    nothing [] after octets e = cc
    nothing (step ∷ first) after octets e = cc

published_all : (xs : List ℤ) → samples_published (map Publishes xs) ≡ xs
published_all [] = refl
published_all (x ∷ xs) = ap (λ l. x ∷ l) (published_all xs)

read_none : (xs : List ℤ) → octets_read (map Publishes xs) ≡ []
read_none [] = refl
read_none (x ∷ xs) = read_none xs

-- samples that are published after some steps
published_then : (steps : List Step) (new : List ℤ)
    → samples_published (steps ++ map Publishes new) ≡ samples_published steps ++ new
published_then steps new =
    flat_map-append samples_of_step steps (map Publishes new)
    ∙ ap (λ o. samples_published steps ++ o) (published_all new)

read_then : (steps : List Step) (new : List ℤ) → octets_read (steps ++ map Publishes new) ≡ octets_read steps
read_then steps new =
    flat_map-append octets_of_step steps (map Publishes new)
    ∙ ap (λ o. octets_read steps ++ o) (read_none new) ∙ append-nil (octets_read steps)

-- a read, and then the samples that it settles
pub paces_more : (rate : Rate) (before : List Step) (now read_on then_on : Option (List Step)) (published more : List ℤ)
    (old fed : Incoming) (low next : Option ℕ) (piece : List ℕ) (new : List ℤ)
    → PacesOn rate before now published old low
    → ((steps : List Step) → now ≡ Some steps → read_on ≡ Some (steps ++ Reads piece ∷ []))
    → ((steps : List Step) → read_on ≡ Some steps → then_on ≡ Some (steps ++ map Publishes new))
    → more ≡ published ++ new
    → ((x : List ℤ) → IsFed rate old published x → HasTaken rate x low piece next fed more)
    → PacesOn rate before then_on more fed next
paces_more rate before now read_on then_on published more old fed low next piece new h reads publishes grown takes =
    let longer : List Step = h.more ++ Reads piece ∷ [] in
    let steps : List Step = longer ++ map Publishes new in
    let octets : octets_read steps ≡ octets_read h.more ++ piece =
    read_then longer new ∙ flat_map-append octets_of_step h.more (Reads piece ∷ [])
    ∙ ap (λ o. octets_read h.more ++ o) (append-nil piece) in
    let all : samples_published steps ≡ samples_published h.more ++ new =
    published_then longer new
    ∙ ap (λ o. o ++ new) (flat_map-append samples_of_step h.more (Reads piece ∷ [])
    ∙ append-nil (samples_published h.more)) in
    let t = takes (samples (octets_read h.more)) (record { received = h.received; settled = h.all ∙ h.pace.now }) in
    let ends = t.read (octets_read h.more) refl h.odd in
    let same : more ≡ samples_published steps = grown ∙ ap (λ o. o ++ new) h.all ∙ sym all in
    let is = ends.0 ∙ ap samples (sym octets) in
    record {
      more = steps;
      told =
          publishes ((before ++ h.more) ++ Reads piece ∷ []) (reads (before ++ h.more) h.told)
          ∙ ap (λ l. Some (l ++ map Publishes new)) (append_assoc before h.more (Reads piece ∷ []))
          ∙ ap Some (append_assoc before longer (map Publishes new));
      all = same;
      received = subst (HasReceived rate fed) is t.fed.received;
      odd = ends.1 ∙ ap odd_octet (sym octets);
      pace = record {
        at_reads = λ first after other e.
            let is_before = read_before new longer first after other e in
            elim (read_or_last h.more first is_before.0 piece other is_before.1) [
              | inl last ↦ subst (AreSettledPublished rate) (sym last) h.pace.now
              | inr earlier ↦ h.pace.at_reads first earlier.0 other earlier.1
            ];
        now = sym same ∙ t.fed.settled ∙ ap (settled_at rate) is;
      };
    }

-- a read that brings nothing
pub paces_on_nothing : (rate : Rate) (before : List Step) (now read_on : Option (List Step)) (published : List ℤ)
    (incoming : Incoming) (low : Option ℕ) (piece : List ℕ) → piece ≡ []
    → PacesOn rate before now published incoming low
    → ((steps : List Step) → now ≡ Some steps → read_on ≡ Some (steps ++ Reads piece ∷ []))
    → PacesOn rate before read_on published incoming low
paces_on_nothing rate before now read_on published incoming low piece none h reads =
    paces_more rate before now read_on read_on published published incoming incoming low low piece [] h reads
    (λ steps e. e ∙ ap Some (sym (append-nil steps))) (sym (append-nil published))
    (λ x fed. subst (λ p. HasTaken rate x low p low incoming published) (sym none)
    (taken_none rate x low incoming published fed))

-- the same, as it was told
pub paces_same : (rate : Rate) (before : List Step) (now again : Option (List Step)) (published all : List ℤ)
    (incoming : Incoming) (low : Option ℕ) → again ≡ now → all ≡ published
    → PacesOn rate before now published incoming low → PacesOn rate before again all incoming low
paces_same rate before now again published all incoming low told same h = record {
  more = h.more;
  told = told ∙ h.told;
  all = same ∙ h.all;
  received = h.received;
  odd = h.odd;
  pace = h.pace;
}

-- ---- the end

-- the samples are published that are left
pub keeps_pace : (rate : Rate) (before : List Step) (now then_on : Option (List Step)) (published all : List ℤ)
    (incoming : Incoming) (low : Option ℕ) (new : List ℤ) → PacesOn rate before now published incoming low
    → all ≡ published ++ new
    → ((steps : List Step) → now ≡ Some steps → then_on ≡ Some (steps ++ map Publishes new))
    → ((x : List ℤ) → IsFed rate incoming published x → all ≡ received rate x)
    → (more : List Step) × (then_on ≡ Some (before ++ more)) × KeepsPace rate more
keeps_pace rate before now then_on published all incoming low new h grown publishes rest =
    let steps : List Step = h.more ++ map Publishes new in
    let read : List ℤ = samples (octets_read h.more) in (
      steps,
      publishes (before ++ h.more) h.told ∙ ap Some (append_assoc before h.more (map Publishes new)),
      record {
        at_reads = λ first after other e.
            let earlier = read_before new h.more first after other e in
            h.pace.at_reads first earlier.0 other earlier.1;
        at_end =
            published_then h.more new ∙ ap (λ o. o ++ new) (sym h.all) ∙ sym grown
            ∙ rest read (record { received = h.received; settled = h.all ∙ h.pace.now })
            ∙ ap (λ (o : List ℕ). received rate (samples o)) (sym (read_then h.more new));
      },
    )
