-- A sends d, or C again, or neither.
use Rattle.channel_bench.proofs.Common.{◌≡◌, Bool, true, false, refl, sym, subst, MatchBool, ◌↔◌, IsTrue, BenchWords}
use Rattle.channel_bench.proofs.Common.{BenchState, AcceptsProgram, IsAsked, IsAskedOrCalled, IsCalled, is_complete}

module _ (w : BenchWords) (before after : BenchState) (accepts : Bool)
    (exactly : IsTrue accepts ↔ AcceptsProgram before.a) where
  -- by each of the tests
  sent_by : (completes calls : Bool) → is_complete w before ≡ completes → before.a.program.calls ≡ calls
      → accepts ≡ true
      → MatchBool completes (IsAsked before after) (MatchBool calls (IsCalled before after) (after ≡ before))
      → IsAskedOrCalled w before after
  sent_by completes calls complete called takes h = record {
    accepts = accepts;
    exactly = exactly;
    sent = subst (λ b. MatchBool b
        (MatchBool (is_complete w before) (IsAsked before after)
        (MatchBool before.a.program.calls (IsCalled before after) (after ≡ before)))
        (after ≡ before)) (sym takes)
        (subst (λ b. MatchBool b (IsAsked before after)
        (MatchBool before.a.program.calls (IsCalled before after) (after ≡ before))) (sym complete)
        (subst (λ b. MatchBool completes (IsAsked before after)
        (MatchBool b (IsCalled before after) (after ≡ before))) (sym called) h));
  }

  pub asked : accepts ≡ true → is_complete w before ≡ true → IsAsked before after → IsAskedOrCalled w before after
  asked takes complete h = sent_by true before.a.program.calls complete refl takes h

  pub called : accepts ≡ true → is_complete w before ≡ false → before.a.program.calls ≡ true → IsCalled before after
      → IsAskedOrCalled w before after
  called takes complete calls h = sent_by false true complete calls takes h

  pub neither : accepts ≡ true → is_complete w before ≡ false → before.a.program.calls ≡ false → after ≡ before
      → IsAskedOrCalled w before after
  neither takes complete calls h = sent_by false false complete calls takes h

  -- A's station does not take it
  pub not_taken : accepts ≡ false → after ≡ before → IsAskedOrCalled w before after
  not_taken refuses h = record {
    accepts = accepts;
    exactly = exactly;
    sent = subst (λ b. MatchBool b
        (MatchBool (is_complete w before) (IsAsked before after)
        (MatchBool before.a.program.calls (IsCalled before after) (after ≡ before)))
        (after ≡ before)) (sym refuses) h;
  }
