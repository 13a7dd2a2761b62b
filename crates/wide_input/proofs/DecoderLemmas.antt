-- A decoder with a block more, and at its end.
use Rattle.wide_input.proofs.Common.{◌≡◌, ℤ, List, ◌++◌, length, sym, subst, ◌∙◌, Candidate, least_count, HeldWide}
use Rattle.wide_input.proofs.Common.{AreWideMergedBetween, AreWideRest}
use Rattle.resampler.specs.Filtered.{filtered, settled}
use Rattle.resampler.specs.Held.{HeldFilter, StandsFor as FilterStandsFor}
use Rattle.wide_input.specs.MergedItems.{settled_ends}
use Rattle.wide_input.specs.Held.{StandsFor as BankStandsFor}
use Rattle.wide_input.specs.HeldDecoder.{StandsFor}
use Rattle.wide_input.proofs.FilteredLemmas.{given_filtered, rest_filtered}

-- what a bank gives of the samples that a block settles
pub block_given : (filter fed : HeldFilter) (bank new : HeldWide) (block part : List ℤ) (items : List Candidate)
    → ((x : List ℤ) → FilterStandsFor filter x → FilterStandsFor fed (x ++ block))
    → ((x : List ℤ) → FilterStandsFor filter x → settled (x ++ block) ≡ settled x ++ part)
    → ((u : List ℤ) → BankStandsFor bank u → BankStandsFor new (u ++ part)
    × AreWideMergedBetween (least_count u) (least_count (u ++ part)) (u ++ part) items)
    → (x : List ℤ) → StandsFor (record { filter = filter; bank = bank }) x
    → StandsFor (record { filter = fed; bank = new }) (x ++ block)
    × AreWideMergedBetween (settled_ends (length x)) (settled_ends (length (x ++ block))) (filtered (x ++ block)) items
block_given filter fed bank new block part items stands settles gives x h =
    let whole : settled x ++ part ≡ settled (x ++ block) = sym (settles x h.filter) in
    let g = gives (settled x) h.bank in (
      record { filter = stands x h.filter; bank = subst (BankStandsFor new) whole g.0 },
      given_filtered x block items
          (subst (λ (u : List ℤ). AreWideMergedBetween (least_count (settled x)) (least_count u) u items) whole g.1),
    )

-- what it gives of the last filtered samples, and at the end
pub end_given : (filter : HeldFilter) (bank new : HeldWide) (part : List ℤ) (items rest : List Candidate)
    → ((x : List ℤ) → FilterStandsFor filter x → filtered x ≡ settled x ++ part)
    → ((u : List ℤ) → BankStandsFor bank u → BankStandsFor new (u ++ part)
    × AreWideMergedBetween (least_count u) (least_count (u ++ part)) (u ++ part) items)
    → ((u : List ℤ) → BankStandsFor new u → AreWideRest (least_count u) u rest)
    → (x : List ℤ) → StandsFor (record { filter = filter; bank = bank }) x
    → AreWideRest (settled_ends (length x)) (filtered x) (items ++ rest)
end_given filter bank new part items rest ends gives last x h =
    let u : List ℤ = settled x ++ part in
    let g = gives (settled x) h.bank in
    rest_filtered x u items rest (ends x h.filter) g.1 (last u g.0)
