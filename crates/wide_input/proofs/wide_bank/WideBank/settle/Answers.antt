use Rattle.wide_input.proofs.Common.{◌≡◌, ◌+◌, ◌/◌, ◌≤◌, ◌<◌, ◌++◌, ◌∙◌, ℕ, ℤ, List, ap, sym, subst, length}
use Rattle.wide_input.proofs.Common.{length-append, get_or, take, drop, replicate, false, arith, All, least_count}
use Rattle.wide_input.proofs.Common.{AreWideMergedBetween, HeldStream, HeldWide, HearsBlock, IsAbreast, TakesPart}
use Rattle.wide_input.proofs.Common.{KeepsInTime, HaveTaken, StandsFor}
use Rattle.wide_input.proofs.Visits.{given_back, all_marks, all_in_time}
use Rattle.wide_input.proofs.wide_bank.WideBank.settle.Goals as goal

pub merge_found-requires-clause-marks : goal.merge_found-requires-clause-marks
merge_found-requires-clause-marks c =
    let marks = subst (λ (h : HeldWide). h.merger.marks ≡ replicate 40 (h.position / 5)) (sym c.self.view_is)
    c.requires.marks in
    all_marks 40 (c.self.inside.progress.position / 5) ((c.self.inside.progress.position + c.args.count) / 5)
    c.self.inside.merger.marks
    (omega arith) marks

pub merge_found-requires-clause-in_time : goal.merge_found-requires-clause-in_time
merge_found-requires-clause-in_time c =
    let was = c.self.inside in
    let marks = subst (λ (h : HeldWide). h.merger.marks ≡ replicate 40 (h.position / 5)) (sym c.self.view_is)
    c.requires.marks in
    let part = subst (λ (h : HeldWide). All (TakesPart h.position c.args.count) h.streams) (sym c.self.view_is)
    c.requires.part in
    subst (All (KeepsInTime was.merger.marks)) (sym c.deref_mut.ensures.value)
    (all_in_time was.progress.position c.args.count was.merger.marks was.streams.items marks part)

pub invariant_of-self-2 : goal.invariant_of-self-2
invariant_of-self-2 c =
    let new : List HeldStream = c.merge_found.new.streams in
    let full : c.self.inside.streams.len ≡ length new = sym (c.merge_found.auto.streams ∙ c.deref_mut.ensures.len) in
    let lent : List HeldStream
    = take c.self.inside.streams.len (new ++ drop (length new) c.self.inside.streams.items) in
    let back : lent ≡ new = given_back c.self.inside.streams.len new c.self.inside.streams.items full in
    let most : ℕ = c.self.inside.progress.position + c.args.count in
    let P : HeldStream → Type 0 = λ held. held.bank.position ≤ most in
    let before : All P c.self.inside.streams.items
    = subst (λ (h : HeldWide). All (λ (held : HeldStream). held.bank.position ≤ h.position + c.args.count) h.streams)
    (sym c.self.view_is) c.requires.positions in
    let part : All (TakesPart c.self.inside.progress.position c.args.count) c.self.inside.streams.items
    = subst (λ (h : HeldWide). All (TakesPart h.position c.args.count) h.streams) (sym c.self.view_is) c.requires.part
    in (
      ap length back ∙ c.merge_found.ensures.streams,
      λ unspent unfinished. (
        subst (λ (n : ℕ). All (λ (held : HeldStream). held.bank.position ≤ n) lent) (sym c.take.ensures.position)
            (subst (All P) (sym back) (c.in_ok-items.ensures.positions most
            (subst (All P) (sym c.deref_mut.ensures.value) before))),
        subst (λ (n : ℕ). All (IsAbreast n) lent) (sym c.take.ensures.position)
            (subst (All (IsAbreast most)) (sym back)
            (c.in_ok-items.ensures.abreast c.self.inside.progress.position c.args.count
            (subst (All (TakesPart c.self.inside.progress.position c.args.count)) (sym c.deref_mut.ensures.value)
            part))),
        c.in_ok-items.ensures.marks ∙ ap (λ n. replicate 40 (n / 5)) (sym c.take.ensures.position),
      ),
    )

pub returns-clause-given : goal.returns-clause-given
returns-clause-given c =
    let new : List HeldStream = c.merge_found.new.streams in
    let full : c.self.inside.streams.len ≡ length new = sym (c.merge_found.auto.streams ∙ c.deref_mut.ensures.len) in
    let lent : List HeldStream
    = take c.self.inside.streams.len (new ++ drop (length new) c.self.inside.streams.items) in
    let back : lent ≡ new = given_back c.self.inside.streams.len new c.self.inside.streams.items full in
    let now : HeldWide
    = record {
      streams = lent;
      merger = c.merge_found.new.merger;
      position = c.take.new.self.position;
      finished = c.take.new.self.finished;
      spent = c.take.new.self.spent;
    } in
    let P : HeldWide → Type 0 = λ old. (before : List HeldStream) (x y : List ℤ) → old.finished ≡ false
    → length x ≡ old.position → length y ≡ c.args.count
    → ((number : ℕ) (d : HeldStream) → number < 5 → HearsBlock y (get_or before number d) (get_or old.streams number d))
    → HaveTaken before old.merger x
    → StandsFor now (x ++ y) × AreWideMergedBetween (least_count x) (least_count (x ++ y)) (x ++ y)
    c.in_ok-items.items.items in
    subst P c.self.view_is (λ before x y unfinished size more heard h.
    let whole : length (x ++ y) ≡ c.self.inside.progress.position + c.args.count
    = length-append x y ∙ ap (λ n. n + length y) size ∙ ap (λ n. c.self.inside.progress.position + n) more in
    let taken = c.in_ok-items.ensures.given before x y whole
    (λ number d small. subst (λ (s : List HeldStream). HearsBlock y (get_or before number d) (get_or s number d))
    (sym c.deref_mut.ensures.value) (heard number d small)) h in (
      record {
        spent = c.take.ensures.spent;
        finished = c.take.ensures.finished ∙ unfinished;
        count = c.take.ensures.position ∙ sym whole;
        taken = subst (λ (s : List HeldStream). HaveTaken s c.merge_found.new.merger (x ++ y)) (sym back) taken.0;
      },
      taken.1,
    ))
