-- Parts of a tick one after another.
use Rattle.channel_bench.proofs.Common.{◌≡◌, List, [], ◌∷◌, ◌++◌, Option, Some, None, refl, sym, ap, ◌∙◌, subst}
use Rattle.channel_bench.proofs.Common.{Trouble, BenchWords, BenchState, GoesOn, Part, IsPart, ArePartsMade, Unless}

-- once something has ended the run, nothing more comes to pass
over : (f : Option Trouble) (trouble : Trouble) (on stay : Type 0) → f ≡ Some trouble → GoesOn f on stay → stay
over f trouble on stay is h = subst (λ g. GoesOn g on stay) is h

stays : (f : Option Trouble) (trouble : Trouble) (on stay : Type 0) → f ≡ Some trouble → stay → GoesOn f on stay
stays f trouble on stay is h = subst (λ g. GoesOn g on stay) (sym is) h

parts_over : (w : BenchWords) (parts : List Part) (bench next : BenchState) (trouble : Trouble)
    → bench.common.trouble ≡ Some trouble → ArePartsMade w parts bench next → next ≡ bench
parts_over w [] bench next trouble is h = h
parts_over w (part ∷ parts) bench next trouble is h =
    over bench.common.trouble trouble ((between : BenchState) × IsPart w part bench between
    × ArePartsMade w parts between next) (next ≡ bench) is h

pub parts_stop : (w : BenchWords) (parts : List Part) (bench : BenchState) (trouble : Trouble)
    → bench.common.trouble ≡ Some trouble → ArePartsMade w parts bench bench
parts_stop w [] bench trouble is = refl
parts_stop w (part ∷ parts) bench trouble is =
    stays bench.common.trouble trouble ((between : BenchState) × IsPart w part bench between
    × ArePartsMade w parts between bench) (bench ≡ bench) is refl

-- a part, and then others
pub parts_cons : (w : BenchWords) (part : Part) (parts : List Part) (bench between next : BenchState)
    → Unless (IsPart w part) bench between → ArePartsMade w parts between next
    → ArePartsMade w (part ∷ parts) bench next
parts_cons w part parts bench between next h rest = go bench.common.trouble refl h
  where
    go : (f : Option Trouble) → bench.common.trouble ≡ f → GoesOn f (IsPart w part bench between) (between ≡ bench)
        → GoesOn f ((middle : BenchState) × IsPart w part bench middle × ArePartsMade w parts middle next)
        (next ≡ bench)
    go None is made = (between, made, rest)
    go (Some trouble) is same = parts_over w parts between next trouble
        (ap (λ (b : BenchState). b.common.trouble) same ∙ is) rest ∙ same

append_by : (w : BenchWords) (part : Part) (parts others : List Part) (bench between next : BenchState)
    → ((middle : BenchState) → ArePartsMade w parts middle between → ArePartsMade w (parts ++ others) middle next)
    → ArePartsMade w others between next → (t : Option Trouble) → bench.common.trouble ≡ t
    → GoesOn t ((middle : BenchState) × IsPart w part bench middle × ArePartsMade w parts middle between)
    (between ≡ bench)
    → GoesOn t ((middle : BenchState) × IsPart w part bench middle × ArePartsMade w (parts ++ others) middle next)
    (next ≡ bench)
append_by w part parts others bench between next again rest None is made = (made.0, made.1, again made.0 made.2)
append_by w part parts others bench between next again rest (Some trouble) is same =
    parts_over w others between next trouble (ap (λ (b : BenchState). b.common.trouble) same ∙ is) rest ∙ same

-- parts, and then others
pub parts_append : (w : BenchWords) (parts others : List Part) (bench between next : BenchState)
    → ArePartsMade w parts bench between → ArePartsMade w others between next
    → ArePartsMade w (parts ++ others) bench next
parts_append w [] others bench between next h rest = subst (λ b. ArePartsMade w others b next) h rest
parts_append w (part ∷ parts) others bench between next h rest =
    append_by w part parts others bench between next
    (λ middle made. parts_append w parts others middle between next made rest) rest
    bench.common.trouble refl h

-- one part
pub parts_one : (w : BenchWords) (part : Part) (bench next : BenchState) → Unless (IsPart w part) bench next
    → ArePartsMade w (part ∷ []) bench next
parts_one w part bench next h = parts_cons w part [] bench next next h refl
