use Rattle.wide_input.proofs.Common.{◌≡◌, ◌+◌, ◌≤◌, ◌++◌, ◌∙◌, ℕ, ℤ, List, ap, sym, subst, length, IfOk, OnOk}
use Rattle.wide_input.proofs.Common.{option_map, IfOk-weaker, AreCandidatesAfter, AllPast, stream, HeldStream}
use Rattle.wide_input.proofs.Common.{StreamStandsFor, IsAbreast}
use Rattle.slicer_bank.specs.Held.{StandsFor as BankStandsFor}
use Rattle.wide_input.proofs.StreamLemmas.{heard_part, position_past, stays_abreast, stream-few, part_fits, part_ends}
use Rattle.wide_input.proofs.stream.Stream.hear_part.Goals as goal

pub feed-requires : goal.feed-requires
feed-requires c =
    let part : c.deref.result.now ≡ stream c.self.inside.skipped c.args.block.now
    = c.deref.ensures.value ∙ c.in_ok-self-inside.ensures.part
    ∙ ap (λ t. t ++ stream c.self.inside.skipped c.args.block.now) c.clear.ensures.items in
    let few : length c.deref.result.now ≤ length c.args.block.now
    = subst (λ t. length t ≤ length c.args.block.now) (sym part) (stream-few c.self.inside.skipped c.args.block.now) in
    part_fits c.self.inside.bank.position c.args.self.now.bank.position (length c.deref.result.now)
    (length c.args.block.now) (ap (λ (h : HeldStream). h.bank.position) c.self.view_is) few c.requires.room

pub returns-clause-heard : goal.returns-clause-heard
returns-clause-heard c =
    let block : List ℤ = c.args.block.now in
    let part : c.deref.result.now ≡ stream c.self.inside.skipped block
    = c.deref.ensures.value ∙ c.in_ok-self-inside.ensures.part
    ∙ ap (λ t. t ++ stream c.self.inside.skipped block) c.clear.ensures.items in
    let was : HeldStream = record {
      bank = c.self.inside.bank;
      skipped = c.self.inside.skipped;
      found = option_map (λ v. v.items) c.self.inside.found;
    } in
    let now : HeldStream = record {
      bank = c.feed.new.self;
      skipped = c.in_ok-self-inside.field-0;
      found = option_map (λ v. v.items) c.self.inside.found;
    } in
    let P : HeldStream → Type 0 = λ old. IfOk c.feed.result (λ found. (number : ℕ) (x : List ℤ)
    → StreamStandsFor number old x
    → StreamStandsFor number now (x ++ block) × AreCandidatesAfter (length (stream number x))
    (stream number (x ++ block)) found.items) in
    subst P c.self.view_is (IfOk-weaker c.feed.result
    (λ found. (s : List ℤ) → BankStandsFor c.self.inside.bank s
    → BankStandsFor c.feed.new.self (s ++ c.deref.result.now)
    × AreCandidatesAfter (length s) (s ++ c.deref.result.now) found.items)
    (λ found. (number : ℕ) (x : List ℤ) → StreamStandsFor number was x
    → StreamStandsFor number now (x ++ block) × AreCandidatesAfter (length (stream number x))
    (stream number (x ++ block)) found.items)
    (λ found fed number x h. heard_part was c.feed.new.self now.found c.in_ok-self-inside.field-0 number x block
    c.deref.result.now found.items part c.in_ok-self-inside.ensures.skipped fed h)
    c.feed.ensures.found)

pub returns-clause-position : goal.returns-clause-position
returns-clause-position c =
    let part : c.deref.result.now ≡ stream c.self.inside.skipped c.args.block.now
    = c.deref.ensures.value ∙ c.in_ok-self-inside.ensures.part
    ∙ ap (λ t. t ++ stream c.self.inside.skipped c.args.block.now) c.clear.ensures.items in
    let few : length c.deref.result.now ≤ length c.args.block.now
    = subst (λ t. length t ≤ length c.args.block.now) (sym part) (stream-few c.self.inside.skipped c.args.block.now) in
    let past : c.feed.new.self.position ≤ c.self.inside.bank.position + length c.deref.result.now
    = position_past c.feed.result c.self.inside.bank.position c.feed.new.self.position (length c.deref.result.now)
    c.feed.ensures.position c.feed.ensures.stays in
    part_ends c.self.inside.bank.position c.args.self.now.bank.position c.feed.new.self.position
    (length c.deref.result.now) (length c.args.block.now) (ap (λ (h : HeldStream). h.bank.position) c.self.view_is) few
    past

pub returns-clause-past : goal.returns-clause-past
returns-clause-past c =
    subst (λ (old : HeldStream). IfOk c.feed.result (λ found. AllPast old.bank.position found.items)) c.self.view_is
    c.feed.ensures.past

pub returns-clause-abreast : goal.returns-clause-abreast
returns-clause-abreast c =
    let block : List ℤ = c.args.block.now in
    let part : c.deref.result.now ≡ stream c.self.inside.skipped block
    = c.deref.ensures.value ∙ c.in_ok-self-inside.ensures.part
    ∙ ap (λ t. t ++ stream c.self.inside.skipped block) c.clear.ensures.items in
    let was : HeldStream = record {
      bank = c.self.inside.bank;
      skipped = c.self.inside.skipped;
      found = option_map (λ v. v.items) c.self.inside.found;
    } in
    let now : HeldStream = record {
      bank = c.feed.new.self;
      skipped = c.in_ok-self-inside.field-0;
      found = option_map (λ v. v.items) c.self.inside.found;
    } in
    subst (λ (old : HeldStream). OnOk c.feed.result ((position : ℕ) → IsAbreast position old
    → IsAbreast (position + length block) now)) c.self.view_is
    (stays_abreast c.feed.result was now block c.in_ok-self-inside.ensures.skipped
    (subst (λ t. OnOk c.feed.result (c.feed.new.self.position ≡ c.self.inside.bank.position + length t)) part
    c.feed.ensures.position))
