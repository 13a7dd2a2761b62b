-- A transmission that begins draws a word, and may be lost.
use Rattle.channel_bench.proofs.Common.{◌≡◌, ℕ, ◌+◌, Bool, true, false, cond, sym, ap, ◌∙◌, subst, End, A, B, Shared}
use Rattle.channel_bench.proofs.Common.{Side, Run, BenchWords, BenchState, Common, Near, near, with_near, EarStandsFor}
use Rattle.channel_bench.proofs.Common.{StandsForCommon, StandsForNear, StandsForRun, StandsForSide, is_lost, with_loss}
use Rattle.channel_bench.proofs.Common.{with_losses, with_transmission, text_at, after_word}
use Rattle.channel_bench.proofs.SideLemmas.{KeepsStation, stands_kept}

-- none begins
pub loss_none : (loss : ℕ) (n : Near) → n.side.air.began ≡ false → with_loss loss n ≡ n
unfolding with_loss
loss_none loss n is = ap (λ b. cond b (with_transmission (is_lost loss n.common.draws) n) n) is

loss_yes : (loss : ℕ) (n : Near) → n.side.air.began ≡ true
    → with_loss loss n ≡ with_transmission (is_lost loss n.common.draws) n
unfolding with_loss
loss_yes loss n is = ap (λ b. cond b (with_transmission (is_lost loss n.common.draws) n) n) is

-- what both stations share, with one transmission more
counts : (before after : Shared) (common : Common) (lost : Bool) → StandsForCommon before common
    → after ≡ record before {
      draws = after_word before.draws;
      transmissions = before.transmissions + 1;
      lost = cond
          lost (before.lost + 1) before.lost;
    }
    → StandsForCommon after
    (record common {
      draws = after_word common.draws;
      transmissions = common.transmissions + 1;
      lost = cond lost
          (common.lost + 1) common.lost;
    })
counts before after common lost h is =
    subst (λ s. StandsForCommon s
    (record common {
      draws = after_word common.draws;
      transmissions = common.transmissions + 1;
      lost = cond lost
          (common.lost + 1) common.lost;
    }))
    (sym is) (record {
      flight = h.flight;
      draws = ap after_word h.draws;
      transmissions = ap (λ n. n + 1) h.transmissions;
      lost = ap (λ n. cond lost (n + 1) n) h.lost;
      trouble = h.trouble;
    })

-- one begins
pub loss_drawn : (end : End) (loss : ℕ) (n : Near) (before after : Side) (shared then : Shared) (lost : Bool)
    → StandsForNear end before shared n
    → before.air.began ≡ true → KeepsStation before after → after.ear ≡ before.ear → after.towards ≡ before.towards
    → after.matched ≡ before.matched
    → after.silenced ≡ lost → lost ≡ is_lost loss shared.draws
    → then ≡ record shared {
      draws = after_word shared.draws;
      transmissions = shared.transmissions + 1;
      lost = cond
          lost (shared.lost + 1) shared.lost;
    }
    → StandsForNear end after then (with_loss loss n)
loss_drawn end loss n before after shared then lost h began same ear towards matched silenced drawn counted =
    let is : lost ≡ is_lost loss n.common.draws = drawn ∙ ap (is_lost loss) h.shared_is.draws in
    subst (λ m. StandsForNear end after then m) (sym (loss_yes loss n (ap (λ a. a.began) (sym h.side_is.air) ∙ began)))
    (subst (λ b. StandsForNear end after then (with_transmission b n)) is (record {
      side_is = stands_kept end before after n.side h.side_is same n.side.samples n.side.towards n.side.matched lost
          (subst (λ e. EarStandsFor e n.side.blocks n.side.samples) (sym ear) h.side_is.ear)
          (ap (λ t. t.items) towards ∙ h.side_is.towards)
          (matched ∙ h.side_is.matched) silenced;
      shared_is = counts shared then n.common lost h.shared_is counted;
    }))

-- both are drawn, A's first
pub both_lost : (before after : Run) (w : BenchWords) (bench : BenchState) → StandsForRun before w bench
    → StandsForSide A after.a (with_loss before.words.loss (near A bench)).side
    → StandsForNear B after.b after.shared
    (with_loss before.words.loss (near B (with_near A (with_loss before.words.loss (near A bench)) bench)))
    → after.words ≡ before.words → after.text_of_a ≡ text_at w A → after.text_of_b ≡ text_at w B
    → after.ticks ≡ bench.ticks → after.closing ≡ bench.closing
    → StandsForRun after w (with_losses w.loss bench)
unfolding with_losses
both_lost before after w bench h a b words text_of_a text_of_b ticks closing =
    let first : BenchState = with_near A (with_loss before.words.loss (near A bench)) bench in
    subst (λ l. StandsForRun after w (with_losses l bench)) (ap (λ (v : BenchWords). v.loss) h.words) (record {
      words = words ∙ h.words;
      a = a;
      b = b.side_is;
      shared = b.shared_is;
      text_of_a = text_of_a;
      text_of_b = text_of_b;
      ticks = ticks;
      closing = closing;
    })
