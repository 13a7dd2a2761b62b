-- A receiver with a block more, and at its end.
use Rattle.std.proofs.Common.{◌≡◌, ℕ, ◌-◌, ◌^◌, ◌<◌, ℤ, List, [], ◌++◌, length, ap, ◌∙◌, arith, subst}
use Rattle.frame_merge.specs.declared.candidate.Candidate.{Candidate}
use Rattle.frame_merge.specs.Held.{Held as HeldMerger, StandsFor as MergerStandsFor}
use Rattle.frame_merge.specs.Merged.{merged, below, not_below}
use Rattle.frame_merge.specs.Order.{in_order}
use Rattle.block_receiver.specs.Hearing.{Hearing, IsHearing, Adds}
use Rattle.block_receiver.specs.HeldReceiver.{HasMerged}
use Rattle.block_receiver.specs.MergedItems.{AreMergedBetween}
use Rattle.block_receiver.proofs.MergedLemmas.{block_gives, end_gives, nothing_kept}

module _ {Lanes : Type 0} (hearing : Hearing Lanes) (laws : IsHearing hearing) where
  pub merged_none : (merger : HeldMerger) → MergerStandsFor merger [] [] → HasMerged hearing merger []
  merged_none merger h = record { puts = []; are = laws.none; so_far = h; kept = h.items }

  -- a merger that was given what a block adds, and gave what is settled then
  pub merged_more : (x y : List ℤ) (was now : HeldMerger) (found ready : List Candidate) (mark : ℕ)
      → HasMerged hearing was x → Adds hearing.Heard x (x ++ y) found → mark ≡ hearing.settled (length (x ++ y))
      → ((puts given : List Candidate) → MergerStandsFor was puts given
      → MergerStandsFor now (puts ++ found) (given ++ ready)
      × (given ++ ready ≡ below mark (merged (in_order (puts ++ found)))))
      → ((puts given : List Candidate) → MergerStandsFor was puts given
      → now.items ≡ not_below (mark - 15) (in_order (puts ++ found)))
      → HasMerged hearing now (x ++ y)
      × AreMergedBetween hearing.Heard (hearing.settled (length x)) (hearing.settled (length (x ++ y))) (x ++ y) ready
  merged_more x y was now found ready mark h adds at gives keeps =
      let given : List Candidate = below (hearing.settled (length x)) (merged (in_order h.puts)) in
      let all : List Candidate = h.puts ++ found in
      let whole : hearing.Heard (x ++ y) (in_order all) = adds h.puts h.are in
      let step = gives h.puts given h.so_far in
      let total : given ++ ready ≡ below (hearing.settled (length (x ++ y))) (merged (in_order all))
      = step.1 ∙ ap (λ n. below n (merged (in_order all))) at in (
        record {
          puts = all;
          are = whole;
          so_far = subst (MergerStandsFor now all) total step.0;
          kept = keeps h.puts given h.so_far ∙ ap (λ n. not_below (n - 15) (in_order all)) at;
        },
        block_gives hearing laws x y (in_order h.puts) (in_order all) ready h.are whole total,
      )

  -- what is left
  pub gives_rest : (x : List ℤ) (was : HeldMerger) (rest : List Candidate) → HasMerged hearing was x
      → ((puts given : List Candidate) → MergerStandsFor was puts given → given ++ rest ≡ merged (in_order puts))
      → AreMergedBetween hearing.Heard (hearing.settled (length x)) (hearing.past (length x)) x rest
  gives_rest x was rest h last =
      end_gives hearing laws x (in_order h.puts) rest h.are
      (last h.puts (below (hearing.settled (length x)) (merged (in_order h.puts))) h.so_far)

  pub keeps_nothing : (x : List ℤ) (was : HeldMerger) (items : List Candidate) → length x < 2 ^ 48
      → HasMerged hearing was x
      → ((puts given : List Candidate) → MergerStandsFor was puts given
      → items ≡ not_below (2 ^ 64 - 16) (in_order puts))
      → items ≡ []
  keeps_nothing x was items room h keeps =
      keeps h.puts (below (hearing.settled (length x)) (merged (in_order h.puts))) h.so_far
      ∙ nothing_kept hearing laws x (in_order h.puts) (2 ^ 64 - 16) h.are (omega arith)
