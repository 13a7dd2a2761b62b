use Rattle.sensitive_blocks.proofs.Common.{◌≡◌, ℕ, ℤ, List, ◌+◌, ◌-◌, ◌%◌, ◌≤◌, ◌∙◌, ◌&&◌, ◌==◌, sym, ap, arith, get_or, delay_of}
use Rattle.sensitive_blocks.proofs.Common.{le-leb, lt-leb}
use Rattle.sensitive_blocks.specs.declared.readings.Readings.{Readings}
use Rattle.sensitive_blocks.specs.Held.{AreKept, known_at, none_known}
use Rattle.sensitive_blocks.proofs.MomentLemmas.{alone_told, far_told, fast_told, fixed_lane_told, near_told, window_told}
use Rattle.sensitive_blocks.proofs.readings.reads.Goals as goal

-- what is known of the place that a lane reads
told : (kept : List Readings) (x : List ℤ) (end lane delay index : ℕ) → AreKept kept end x → index ≡ delay
    → delay ≡ delay_of lane → delay ≤ 2 → get_or kept index none_known ≡ known_at x (end + delay_of lane)
told kept x end lane delay index h same is few =
    h index none_known (omega arith) ∙ ap (λ n. known_at x (end + n)) (same ∙ is)

pub returns-then-end-ge8 : goal.returns-then-end-ge8
returns-then-end-ge8 c = λ x kept within.
    ap (λ n. c.args.end % 8 == n) c.from.ensures
    ∙ ap (λ b. b && (c.args.end % 8 == c.args.lane)) (sym (le-leb 8 c.args.end c.if-end-ge8.true))
    ∙ window_told x c.args.lane c.args.end c.if-lane-lt-FIRST.true within

pub returns-else-end-ge8 : goal.returns-else-end-ge8
returns-else-end-ge8 c = λ x kept within.
    let early = lt-leb 8 c.args.end c.if-end-ge8.false in
    early ∙ ap (λ b. b && (c.args.end % 8 == c.args.lane)) (sym early)
    ∙ window_told x c.args.lane c.args.end c.if-lane-lt-FIRST.true within

pub returns-then-told : goal.returns-then-told
returns-then-told c = λ x kept within.
    let is = told c.args.kept.now x c.args.end c.args.lane c.delay_of.result c.from-2.result kept c.from-2.ensures
    c.delay_of.ensures.delay c.delay_of.ensures.bound in
    ap (λ n. c.args.end % 8 == n) c.from-then-told.ensures
    ∙ ap (λ b. b && (c.args.end % 8 == c.args.lane - 8)) (sym c.if-told.true)
    ∙ fixed_lane_told x c.args.lane c.args.end c.if-lane-lt-FIRST.false _ is c.if-lane-lt16.true

pub returns-else-told : goal.returns-else-told
returns-else-told c = λ x kept within.
    let is = told c.args.kept.now x c.args.end c.args.lane c.delay_of.result c.from-2.result kept c.from-2.ensures
    c.delay_of.ensures.delay c.delay_of.ensures.bound in
    c.if-told.false ∙ ap (λ b. b && (c.args.end % 8 == c.args.lane - 8)) (sym c.if-told.false)
    ∙ fixed_lane_told x c.args.lane c.args.end c.if-lane-lt-FIRST.false _ is c.if-lane-lt16.true

pub returns-then-lane-lt19 : goal.returns-then-lane-lt19
returns-then-lane-lt19 c = λ x kept within.
    near_told x c.args.lane c.args.end c.if-lane-lt-FIRST.false _
    (told c.args.kept.now x c.args.end c.args.lane c.delay_of.result c.from-2.result kept c.from-2.ensures
    c.delay_of.ensures.delay c.delay_of.ensures.bound) c.if-lane-lt16.false c.if-lane-lt19.true

pub returns-then-lane-lt22 : goal.returns-then-lane-lt22
returns-then-lane-lt22 c = λ x kept within.
    far_told x c.args.lane c.args.end c.if-lane-lt-FIRST.false _
    (told c.args.kept.now x c.args.end c.args.lane c.delay_of.result c.from-2.result kept c.from-2.ensures
    c.delay_of.ensures.delay c.delay_of.ensures.bound) c.if-lane-lt19.false c.if-lane-lt22.true

pub returns-then-lane-lt23 : goal.returns-then-lane-lt23
returns-then-lane-lt23 c = λ x kept within.
    fast_told x c.args.lane c.args.end c.if-lane-lt-FIRST.false _
    (told c.args.kept.now x c.args.end c.args.lane c.delay_of.result c.from-2.result kept c.from-2.ensures
    c.delay_of.ensures.delay c.delay_of.ensures.bound) c.if-lane-lt22.false c.if-lane-lt23.true

pub returns-else-lane-lt23 : goal.returns-else-lane-lt23
returns-else-lane-lt23 c = λ x kept within.
    alone_told x c.args.lane c.args.end c.if-lane-lt-FIRST.false _
    (told c.args.kept.now x c.args.end c.args.lane c.delay_of.result c.from-2.result kept c.from-2.ensures
    c.delay_of.ensures.delay c.delay_of.ensures.bound) c.if-lane-lt23.false
