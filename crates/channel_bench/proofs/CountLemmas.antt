-- What is counted in a run grows with its ticks: 96 samples reach a station in each, and at most two transmissions
-- begin.
use Rattle.channel_bench.proofs.Common.{◌≡◌, ℕ, zero, suc, ◌+◌, ◌*◌, ◌≤◌, ◌==◌, Bool, true, false, List, [], ◌∷◌}
use Rattle.channel_bench.proofs.Common.{◌++◌, length, cond, Option, Some, None, refl, sym, ap, ◌∙◌, subst, arith}
use Rattle.channel_bench.proofs.Common.{MatchBool, Candidate, End, A, B, each_append, Trouble, BenchWords, AreTicks}
use Rattle.channel_bench.proofs.Common.{AtEnd, BenchState, Near, near, with_near, AreHeardAt, GoesOn}
use Rattle.channel_bench.proofs.Common.{IsHeardAs, IsHeardAt, IsStep, IsTicking, IsTold, number_of, with_matched}
use Rattle.channel_bench.proofs.Common.{ArePartsMade, IsAsked, IsCalled, IsGiven, IsGivenPiece}
use Rattle.channel_bench.proofs.Common.{IsListening, IsPart, IsTick, Part, beginning, each_tick, is_complete, joins}
use Rattle.channel_bench.proofs.Common.{sets_duplex, sets_full_duplex, with_asking, with_calling, with_giving}
use Rattle.channel_bench.proofs.Common.{AsksOrCalls, Closes, Gives, Listens, Sounds, Tells, Ticks, acts, carried}
use Rattle.channel_bench.proofs.Common.{is_lost, sounding, ticked, with_loss, with_losses, with_transmission}
use Rattle.channel_bench.proofs.Common.{next_piece, text_at, Input, FromHost, OfClock}
use Rattle.std.specs.List.{AllByRecursion as Each}
use Rattle.channel_bench.specs.HeldBench.{IsCounted}
use Rattle.channel_bench.proofs.InTime.{step_facts}
use Rattle.channel_bench.proofs.RunOfParts.{IsCalm, parted}
use Rattle.channel_bench.proofs.TimedRun.{run_in_time}

-- ---- at one station

pub record NearKeeps (before after : Near) : Type 0 where
  pub samples : after.side.samples ≡ before.side.samples
  pub transmissions : after.common.transmissions ≡ before.common.transmissions
  pub lost : after.common.lost ≡ before.common.lost

same_near : (before after : Near) → after ≡ before → NearKeeps before after
same_near before after is = record {
  samples = ap (λ (n : Near). n.side.samples) is;
  transmissions = ap (λ (n : Near). n.common.transmissions) is;
  lost = ap (λ (n : Near). n.common.lost) is;
}

near_twice : (a b c : Near) → NearKeeps a b → NearKeeps b c → NearKeeps a c
near_twice a b c h k = record {
  samples = k.samples ∙ h.samples;
  transmissions = k.transmissions ∙ h.transmissions;
  lost = k.lost ∙ h.lost;
}

step_keeps : (end : End) (input : Input) (m : Option ℕ) (before after : Near) → IsStep end input m before after
    → NearKeeps before after
step_keeps end input m before after h = record {
  samples = (step_facts end input m before after h).samples;
  transmissions = ap (λ (n : Near). n.common.transmissions) h.is;
  lost = ap (λ (n : Near). n.common.lost) h.is;
}

may_keep : (may : Bool) (P : Near → Near → Type 0) (before after : Near) → (P before after → NearKeeps before after)
    → MatchBool may (P before after) (after ≡ before) → NearKeeps before after
may_keep true P before after keeps h = keeps h
may_keep false P before after keeps h = same_near before after h

piece_keeps : (end : End) (piece : Option (List ℕ)) (before after : Near) → IsGivenPiece end piece before after
    → NearKeeps before after
piece_keeps end None before after h = same_near before after h
piece_keeps end (Some piece) before after h =
    let kept = step_keeps end _ None (with_giving piece before) after h in
    record { samples = kept.samples; transmissions = kept.transmissions; lost = kept.lost }

heard_as_keeps : (end : End) (number : Option ℕ) (octets : List ℕ) (before after : Near)
    → IsHeardAs end number octets before after → NearKeeps before after
heard_as_keeps end None octets before after h = record {
  samples = ap (λ (n : Near). n.side.samples) h;
  transmissions = ap (λ (n : Near). n.common.transmissions) h;
  lost = ap (λ (n : Near). n.common.lost) h;
}
heard_as_keeps end (Some number) octets before after h =
    let kept = step_keeps end _ (Some number) (with_matched number before) after h in
    record { samples = kept.samples; transmissions = kept.transmissions; lost = kept.lost }

heard_keep : (end : End) (items : List Candidate) (before after : Near) → AreHeardAt end items before after
    → NearKeeps before after
heard_keep end [] before after h = same_near before after h
heard_keep end (item ∷ items) before after h =
    go before.common.trouble (λ between others. heard_keep end items between after others) h
  where
    go : (t : Option Trouble)
        → ((between : Near) → AreHeardAt end items between after → NearKeeps between after)
        → GoesOn t ((between : Near) × IsHeardAt end item before between × AreHeardAt end items between after)
        (after ≡ before) → NearKeeps before after
    go None others on =
        near_twice before on.0 after
        (heard_as_keeps end (number_of end item before) item.octets before on.0 on.1)
        (others on.0 on.2)
    go (Some trouble) others over = same_near before after over

-- ---- the bench

pub record Keeps (before after : BenchState) : Type 0 where
  pub a : after.a.samples ≡ before.a.samples
  pub b : after.b.samples ≡ before.b.samples
  pub transmissions : after.common.transmissions ≡ before.common.transmissions
  pub lost : after.common.lost ≡ before.common.lost
  pub ticks : after.ticks ≡ before.ticks

same_bench : (before after : BenchState) → after ≡ before → Keeps before after
same_bench before after is = record {
  a = ap (λ (s : BenchState). s.a.samples) is;
  b = ap (λ (s : BenchState). s.b.samples) is;
  transmissions = ap (λ (s : BenchState). s.common.transmissions) is;
  lost = ap (λ (s : BenchState). s.common.lost) is;
  ticks = ap (λ (s : BenchState). s.ticks) is;
}

twice : (x y z : BenchState) → Keeps x y → Keeps y z → Keeps x z
twice x y z h k = record {
  a = k.a ∙ h.a;
  b = k.b ∙ h.b;
  transmissions = k.transmissions ∙ h.transmissions;
  lost = k.lost ∙ h.lost;
  ticks = k.ticks ∙ h.ticks;
}

end_keeps : (end : End) (part : Near → Near → Type 0) (before after : BenchState)
    → ((n next : Near) → part n next → NearKeeps n next) → AtEnd end part before after → Keeps before after
end_keeps A part before after keeps h =
    let kept = keeps (near A before) h.next h.step in
    record {
      a = ap (λ (s : BenchState). s.a.samples) h.is ∙ kept.samples;
      b = ap (λ (s : BenchState). s.b.samples) h.is;
      transmissions = ap (λ (s : BenchState). s.common.transmissions) h.is ∙ kept.transmissions;
      lost = ap (λ (s : BenchState). s.common.lost) h.is ∙ kept.lost;
      ticks = ap (λ (s : BenchState). s.ticks) h.is;
    }
end_keeps B part before after keeps h =
    let kept = keeps (near B before) h.next h.step in
    record {
      a = ap (λ (s : BenchState). s.a.samples) h.is;
      b = ap (λ (s : BenchState). s.b.samples) h.is ∙ kept.samples;
      transmissions = ap (λ (s : BenchState). s.common.transmissions) h.is ∙ kept.transmissions;
      lost = ap (λ (s : BenchState). s.common.lost) h.is ∙ kept.lost;
      ticks = ap (λ (s : BenchState). s.ticks) h.is;
    }

asked_keeps : (before after : BenchState) → IsAsked before after → Keeps before after
asked_keeps before after h =
    let kept = end_keeps A _ (with_asking before) after (λ n next s. step_keeps A _ None n next s) h in
    record { a = kept.a; b = kept.b; transmissions = kept.transmissions; lost = kept.lost; ticks = kept.ticks }

called_keeps : (before after : BenchState) → IsCalled before after → Keeps before after
called_keeps before after h =
    let kept = end_keeps A _ (with_calling before) after (λ n next s. step_keeps A _ None n next s) h in
    record { a = kept.a; b = kept.b; transmissions = kept.transmissions; lost = kept.lost; ticks = kept.ticks }

asks_keep : (accepts complete calls : Bool) (before after : BenchState)
    → MatchBool accepts
    (MatchBool complete (IsAsked before after) (MatchBool calls (IsCalled before after) (after ≡ before)))
    (after ≡ before) → Keeps before after
asks_keep true true calls before after h = asked_keeps before after h
asks_keep true false true before after h = called_keeps before after h
asks_keep true false false before after h = same_bench before after h
asks_keep false complete calls before after h = same_bench before after h

-- the parts of which none sounds or closes
abbrev pub IsQuiet : Part → Type 0
IsQuiet (Tells end event) = Unit {0}
IsQuiet (Gives end) = Unit {0}
IsQuiet AsksOrCalls = Unit {0}
IsQuiet (Ticks end) = Unit {0}
IsQuiet Sounds = ⊥
IsQuiet (Listens end) = Unit {0}
IsQuiet Closes = ⊥

part_keeps : (w : BenchWords) (part : Part) (before after : BenchState) → IsQuiet part → IsPart w part before after
    → Keeps before after
part_keeps w (Tells end event) before after quiet h =
    end_keeps end (IsTold end event) before after
    (λ n next t.
    may_keep t.may (λ x y. IsStep end (FromHost event) None x y) n next (step_keeps end (FromHost event) None n next)
    t.told) h
part_keeps w (Gives end) before after quiet h =
    end_keeps end (IsGiven w end) before after
    (λ n next t.
    let piece = next_piece (text_at w end) n.side.program.running in
    may_keep t.accepts (λ x y. IsGivenPiece end piece x y) n next (piece_keeps end piece n next) t.given) h
part_keeps w AsksOrCalls before after quiet h =
    asks_keep h.accepts (is_complete w before) before.a.program.calls before after h.sent
part_keeps w (Ticks end) before after quiet h =
    end_keeps end (IsTicking end) before after
    (λ n next t.
    let kept = step_keeps end (OfClock t.busy) None n t.next t.step in
    record {
      samples = ap (λ (x : Near). x.side.samples) t.is ∙ kept.samples;
      transmissions = ap (λ (x : Near). x.common.transmissions) t.is ∙ kept.transmissions;
      lost = ap (λ (x : Near). x.common.lost) t.is ∙ kept.lost;
    }) h
part_keeps w Sounds before after quiet h = absurd quiet
part_keeps w (Listens end) before after quiet h =
    end_keeps end (IsListening end) before after (λ n next t. heard_keep end t.items n next t.heard) h
part_keeps w Closes before after quiet h = absurd quiet

pub parts_keep : (w : BenchWords) (parts : List Part) (before after : BenchState) → Each IsQuiet parts
    → ArePartsMade w parts before after → Keeps before after
parts_keep w [] before after quiet made = same_bench before after made
parts_keep w (part ∷ parts) before after quiet made =
    go before.common.trouble (λ between others. parts_keep w parts between after quiet.1 others) made
  where
    go : (t : Option Trouble)
        → ((between : BenchState) → ArePartsMade w parts between after → Keeps between after)
        → GoesOn t ((between : BenchState) × IsPart w part before between × ArePartsMade w parts between after)
        (after ≡ before) → Keeps before after
    go None others on =
        twice before on.0 after (part_keeps w part before on.0 quiet.0 on.1) (others on.0 on.2)
    go (Some trouble) others over = same_bench before after over

pub counted_kept : (before after : BenchState) → Keeps before after → IsCounted before → IsCounted after
counted_kept before after kept h = record {
  a = let size = ap length kept.a in omega (arith, h.a, size, kept.ticks);
  b = let size = ap length kept.b in omega (arith, h.b, size, kept.ticks);
  transmissions = omega (arith, h.transmissions, kept.transmissions, kept.ticks);
  lost = omega (arith, h.lost, kept.lost, kept.transmissions);
}

-- what hosts and stations do
pub acts_counted : (w : BenchWords) (before after : BenchState) → ArePartsMade w acts before after → IsCounted before
    → IsCounted after
acts_counted w before after made h =
    counted_kept before after (parts_keep w acts before after (tt, (tt, (tt, (tt, (tt, tt))))) made) h

duplex_quiet : (end : End) → Each IsQuiet (sets_full_duplex end)
unfolding sets_full_duplex
duplex_quiet end = (tt, (tt, tt))

joins_quiet : (end : End) → Each IsQuiet (joins end)
unfolding joins
joins_quiet end = (tt, (tt, tt))

beginning_quiet : (w : BenchWords) → Each IsQuiet (beginning w)
unfolding beginning sets_duplex
beginning_quiet w =
    each_append IsQuiet _ _ (duplex w.full)
    (each_append IsQuiet (joins A) _ (joins_quiet A) (each_append IsQuiet (joins B) _ (joins_quiet B) (tt, tt)))
  where
    duplex : (b : Bool) → Each IsQuiet (cond b (sets_full_duplex A ++ sets_full_duplex B) [])
    duplex true = each_append IsQuiet (sets_full_duplex A) (sets_full_duplex B) (duplex_quiet A) (duplex_quiet B)
    duplex false = tt

pub beginning_counted : (w : BenchWords) (before after : BenchState) → ArePartsMade w (beginning w) before after
    → IsCounted before → IsCounted after
beginning_counted w before after made h =
    counted_kept before after (parts_keep w (beginning w) before after (beginning_quiet w) made) h

-- ---- transmissions

pub record AddsOne (before after : Near) : Type 0 where
  pub transmissions : after.common.transmissions ≤ before.common.transmissions + 1
  pub lost : before.common.lost ≤ before.common.transmissions → after.common.lost ≤ after.common.transmissions

loss_adds : (loss : ℕ) (n : Near) → AddsOne n (with_loss loss n)
unfolding with_loss
loss_adds loss n = go n.side.air.began
  where
    lost_or_not : (lost : Bool) → AddsOne n (with_transmission lost n)
    lost_or_not true = record { transmissions = omega arith; lost = λ h. omega (arith, h) }
    lost_or_not false = record { transmissions = omega arith; lost = λ h. omega (arith, h) }

    go : (began : Bool) → AddsOne n (cond began (with_transmission (is_lost loss n.common.draws) n) n)
    go true = lost_or_not (is_lost loss n.common.draws)
    go false = record { transmissions = omega arith; lost = λ h. h }

pub record AddsTwo (before after : BenchState) : Type 0 where
  pub transmissions : after.common.transmissions ≤ before.common.transmissions + 2
  pub lost : before.common.lost ≤ before.common.transmissions → after.common.lost ≤ after.common.transmissions
  pub ticks : after.ticks ≡ before.ticks

sounding_adds : (w : BenchWords) (bench : BenchState) → AddsTwo bench (sounding w bench)
unfolding sounding carried with_losses
sounding_adds w bench =
    let first = with_near A (with_loss w.loss (near A bench)) bench in
    let one = loss_adds w.loss (near A bench) in
    let two = loss_adds w.loss (near B first) in
    record {
      transmissions = omega (arith, one.transmissions, two.transmissions);
      lost = λ h. two.lost (one.lost h);
      ticks = refl;
    }

-- ---- a run

abbrev Few : BenchState → Type 0
Few bench = (bench.common.transmissions ≤ 2 * bench.ticks) × (bench.common.lost ≤ bench.common.transmissions)

few_kept : (before after : BenchState) → Keeps before after → Few before → Few after
few_kept before after kept h = (
  omega (arith, h.0, kept.transmissions, kept.ticks),
  omega (arith, h.1, kept.lost, kept.transmissions),
)

few_after : (w : BenchWords) (before after : BenchState) → ArePartsMade w
    (Gives A ∷ AsksOrCalls ∷ Gives B ∷ Ticks A ∷ Ticks B ∷ Sounds ∷ Listens A ∷ Listens B ∷ Closes ∷ []) before after
    → IsCalm after → Few before → Few after
unfolding ticked
few_after w before after made calm h =
    let p1 = parted w (Gives A)
    (AsksOrCalls ∷ Gives B ∷ Ticks A ∷ Ticks B ∷ Sounds ∷ Listens A ∷ Listens B ∷ Closes ∷ []) before after made calm in
    let h1 = few_kept before p1.between (part_keeps w (Gives A) before p1.between tt p1.first) h in
    let p2 = parted w AsksOrCalls
    (Gives B ∷ Ticks A ∷ Ticks B ∷ Sounds ∷ Listens A ∷ Listens B ∷ Closes ∷ []) p1.between after p1.rest calm in
    let h2 = few_kept p1.between p2.between (part_keeps w AsksOrCalls p1.between p2.between tt p2.first) h1 in
    let p3 = parted w (Gives B)
    (Ticks A ∷ Ticks B ∷ Sounds ∷ Listens A ∷ Listens B ∷ Closes ∷ []) p2.between after p2.rest calm in
    let h3 = few_kept p2.between p3.between (part_keeps w (Gives B) p2.between p3.between tt p3.first) h2 in
    let p4 = parted w (Ticks A)
    (Ticks B ∷ Sounds ∷ Listens A ∷ Listens B ∷ Closes ∷ []) p3.between after p3.rest calm in
    let h4 = few_kept p3.between p4.between (part_keeps w (Ticks A) p3.between p4.between tt p4.first) h3 in
    let p5 = parted w (Ticks B) (Sounds ∷ Listens A ∷ Listens B ∷ Closes ∷ []) p4.between after p4.rest calm in
    let h5 = few_kept p4.between p5.between (part_keeps w (Ticks B) p4.between p5.between tt p5.first) h4 in
    let p6 = parted w Sounds (Listens A ∷ Listens B ∷ Closes ∷ []) p5.between after p5.rest calm in
    let adds = subst (λ (b : BenchState). AddsTwo p5.between b) (sym p6.first) (sounding_adds w p5.between) in
    let p7 = parted w (Listens A) (Listens B ∷ Closes ∷ []) p6.between after p6.rest calm in
    let k7 = part_keeps w (Listens A) p6.between p7.between tt p7.first in
    let p8 = parted w (Listens B) (Closes ∷ []) p7.between after p7.rest calm in
    let k8 = part_keeps w (Listens B) p7.between p8.between tt p8.first in
    let p9 = parted w Closes [] p8.between after p8.rest calm in
    let last : after ≡ ticked p8.between = p9.rest ∙ p9.first in
    let sent = ap (λ (b : BenchState). b.common.transmissions) last in
    let lost = ap (λ (b : BenchState). b.common.lost) last in
    let ticks = ap (λ (b : BenchState). b.ticks) last in (
      omega (
        arith,
        h5.0,
        adds.transmissions,
        adds.ticks,
        k7.transmissions,
        k7.ticks,
        k8.transmissions,
        k8.ticks,
        sent,
        ticks,
      ),
      (let below = adds.lost h5.1 in omega (
        arith,
        below,
        k7.transmissions,
        k7.lost,
        k8.transmissions,
        k8.lost,
        sent,
        lost,
      )),
    )

quiet_then : (w : BenchWords) (parts rest : List Part) → Each IsQuiet parts
    → ((b a : BenchState) → ArePartsMade w rest b a → IsCalm a → Few b → Few a)
    → (before after : BenchState) → ArePartsMade w (parts ++ rest) before after → IsCalm after → Few before → Few after
quiet_then w [] rest quiet go before after made calm h = go before after made calm h
quiet_then w (part ∷ parts) rest quiet go before after made calm h =
    let p = parted w part (parts ++ rest) before after made calm in
    quiet_then w parts rest quiet.1 go p.between after p.rest calm
    (few_kept before p.between (part_keeps w part before p.between quiet.0 p.first) h)

few_in_tick : (w : BenchWords) (before after : BenchState) → IsTick w before after → IsCalm after → Few before
    → Few after
unfolding IsTick each_tick
few_in_tick w before after made calm h = go (before.ticks == 0) made
  where
    tail : List Part
    tail = Gives A ∷ AsksOrCalls ∷ Gives B ∷ Ticks A ∷ Ticks B ∷ Sounds ∷ Listens A ∷ Listens B ∷ Closes ∷ []

    go : (b : Bool) → ArePartsMade w (cond b (beginning w ++ tail) tail) before after → Few after
    go true m = quiet_then w (beginning w) tail (beginning_quiet w) (few_after w) before after m calm h
    go false m = few_after w before after m calm h

few_in_run : (w : BenchWords) (count : ℕ) (bench : BenchState) → AreTicks w count bench → IsCalm bench → Few bench
few_in_run w zero bench made calm = subst Few (sym made) (omega arith, omega arith)
few_in_run w (suc count) bench made calm =
    few_in_tick w made.0 bench made.3 calm (few_in_run w count made.0 made.1 made.2.no_trouble)

pub run_counted : (w : BenchWords) (count : ℕ) (bench : BenchState) → AreTicks w count bench → IsCalm bench
    → IsCounted bench
run_counted w count bench made calm =
    let rest = run_in_time w count bench made calm in
    let few = few_in_run w count bench made calm in
    record { a = omega (arith, rest.size_a); b = omega (arith, rest.size_b); transmissions = few.0; lost = few.1 }
