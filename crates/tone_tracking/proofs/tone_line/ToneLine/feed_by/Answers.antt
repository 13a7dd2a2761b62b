use Rattle.tone_tracking.proofs.Common.{◌≡◌, ◌+◌, ◌-◌, ◌/◌, ◌%◌, ℕ, ℤ, List, [], length, get_or, ap, refl, subst}
use Rattle.tone_tracking.proofs.Common.{sym, ◌∙◌, arith, none}
use Rattle.std.proofs.Common.{◌++◌, drop}
use Rattle.std.proofs.lemmas.List.{with_items_is}
use Rattle.std.specs.Vec.{with_items}
use Rattle.tone_tracking.specs.declared.place_tones.PlaceTones.{PlaceTones}
use Rattle.tone_tracking.specs.HeldLine.{HasTaken, HeldLine, decided_in}
use Rattle.tone_tracking.specs.Slots.{Decides, HeldSlot, IsPrepared}
use Rattle.tone_tracking.specs.WithoutMean.{without_mean}
use Rattle.tone_tracking.proofs.LineLemmas.{line_fed}
use Rattle.tone_tracking.proofs.MeanLemmas.{length-without_mean}
use Rattle.tone_tracking.proofs.tone_line.ToneLine.feed_by.Goals as goal

pub returns : goal.returns
returns g c =
    let s = c.self.inside in
    let block : List ℤ = c.args.block.now in
    let ready : List HeldSlot = c.prepare.new.slots in
    let slots : List HeldSlot = c.decide.new.slots in
    let line : List PlaceTones = c.put_in_row.new.line in
    let lent : c.deref_mut.result.now ≡ s.slots.items = c.deref_mut.ensures.value in
    let ready_kept = with_items_is s.slots ready
    (c.prepare.auto.slots ∙ c.deref_mut.ensures.len) in
    let ready_lent : c.deref_mut-2.result.now ≡ ready = c.deref_mut-2.ensures.value ∙ ready_kept in
    let slots_kept = with_items_is (with_items s.slots ready) slots
    (c.decide.auto.slots ∙ c.deref_mut-2.ensures.len) in
    let slots_lent : c.deref-2.result.now ≡ slots = c.deref-2.ensures.value ∙ slots_kept in
    let line_lent : c.deref_mut-3.result.now ≡ c.prepare.new.line.items = c.deref_mut-3.ensures.value in
    let line_kept = with_items_is c.prepare.new.line line (c.put_in_row.auto.line ∙ c.deref_mut-3.ensures.len) in
    let place : ℕ = c.saturating_sub-place.result in
    let made = c.in_default.ensures in
    let count : ℕ = length c.prepare.new.levels.items - 23 in
    let now : HeldLine = record {
      count = s.count + length block;
      remover = c.prepare.new.remover;
      levels = c.prepare.new.levels.items;
      slots = (with_items (with_items s.slots ready) slots).items;
      first = decided_in (s.count + length block) - length (with_items c.prepare.new.line line).items;
      line = (with_items c.prepare.new.line line).items;
    } in
    let long : length now.line ≡ count = ap length line_kept ∙ c.put_in_row.ensures.length ∙ ap length line_lent
    ∙ made.line in
    let row_size : length c.deref_mut-3.result.now ≡ count = ap length line_lent ∙ made.line in
    let here : place ≡ decided_in s.count = c.saturating_sub-place.ensures in
    let left = c.self.invariant.0 in
    let least = c.self.invariant.1 in
    let size = c.self.invariant.2 in
    let more = made.levels in
    let P : HeldLine → Type 0 = λ old. (x : List ℤ) → HasTaken old x → HasTaken now (x ++ block) in
    record {
      count = ap (λ (h : HeldLine). h.count + length block) c.self.view_is;
      first = (let same : s.count ≡ c.args.self.now.count = ap (λ (h : HeldLine). h.count) c.self.view_is in omega arith);
      has_taken = subst P c.self.view_is (λ x h.
          let old : HeldLine = record {
            count = s.count;
            remover = s.remover;
            levels = s.levels.items;
            slots = s.slots.items;
            first = decided_in s.count - length s.line.items;
            line = s.line.items;
          } in
          let had = h.count in
          let all = length-without_mean x in
          let taken = made.taken x old.first h.remover (omega arith) h.levels in
          let at : old.first + (length s.levels.items - 23) ≡ place = omega arith in
          line_fed old now x block place count ready
          (record { first = 0; pasts = record { near = none; far = none }; tones = [] })
          h here refl (omega arith) long (omega arith) taken.0
          (taken.1 ∙ ap (λ n. drop n (without_mean (x ++ block))) at)
          (λ k d below. subst (λ (l : List HeldSlot). IsPrepared place count k (get_or l k d) (get_or ready k d)) lent
          (made.prepared k d below))
          (λ k d below. subst (λ (l : List HeldSlot). Decides now.levels (get_or ready k d) (get_or l k d)) (sym slots_kept)
          (subst (λ (l : List HeldSlot). Decides now.levels (get_or l k d) (get_or slots k d)) ready_lent
          (subst (λ (l : List ℤ). Decides l (get_or c.deref_mut-2.result.now k d) (get_or slots k d)) c.deref.ensures.value
          (c.decide.ensures.decided k d below))))
          (λ i d e below. ap (λ (l : List PlaceTones). get_or l i d) line_kept
          ∙ c.put_in_row.ensures.row i d e (omega arith)
          ∙ ap (λ (l : List HeldSlot). get_or (get_or l ((place % 8 + i) % 8) e).tones (i / 8) d) c.deref-2.ensures.value));
    }
