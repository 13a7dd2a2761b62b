use Rattle.sensitive_blocks.proofs.Common.{◌≡◌, ◌+◌, ◌++◌, ◌∙◌, ◌≤◌, ℕ, List, length, take, drop, sym, subst}
use Rattle.sensitive_blocks.proofs.Common.{HeldLane, reads, true, ◌<◌, ◌∷◌, [], get_or, window_to}
use Rattle.std.proofs.lemmas.Result.{on_ok_weaker}
use Rattle.sensitive_blocks.specs.declared.hearing.Moment.{Moment}
use Rattle.sensitive_blocks.specs.Held.{HasTaken, HeldReceiver, LanesHaveRead, known_at, none_known}
use Rattle.sensitive_blocks.specs.Moments.{IsAt}
use Rattle.sensitive_blocks.proofs.ReceiverLemmas.{kept_before, kept_next, lent_back}
use Rattle.sensitive_blocks.proofs.receiver.SensitiveBlocksReceiver.hear_next.Goals as goal

pub returns-clause-taken : goal.returns-clause-taken
returns-clause-taken c =
    let s = c.self.inside in
    let new : List HeldLane = c.hear_lanes.new.lanes in
    let full : s.lanes.len ≡ length new = sym (c.hear_lanes.auto.lanes ∙ c.deref_mut.ensures.len) in
    let lent : List HeldLane = take s.lanes.len (new ++ drop (length new) s.lanes.items) in
    let back_is : lent ≡ new = lent_back s.lanes.len new s.lanes.items full in
    let moment : Moment = record {
      readings = get_or s.readings 1 none_known ∷ get_or s.readings 2 none_known ∷ c.args.known ∷ [];
      window = c.args.window;
      back = c.args.back;
    } in
    on_ok_weaker c.hear_lanes.result (λ heard x before h within known window back.
    let given = before ++ c.args.given.now.items in
    let here = subst (λ (held : HeldReceiver). HasTaken held x given) (sym c.self.view_is) h in
    let inside = subst (λ (held : HeldReceiver). held.next ≤ length x) (sym c.self.view_is) within in
    let told = subst (λ (held : HeldReceiver). c.args.known ≡ known_at x (held.next + 2)) (sym c.self.view_is) known in
    let kept = kept_next s.readings c.args.known s.next x none_known here.readings told in
    let at : IsAt moment s.follower s.next x = record {
      within = inside;
      readings = kept;
      window = subst (λ (held : HeldReceiver). c.args.window ≡ window_to x held.next) (sym c.self.view_is) window;
      taken = here.follower;
      back = subst (λ (held : HeldReceiver). (lane : ℕ) → 8 ≤ lane → lane < 26 → reads x lane held.next ≡ true
          → (c.args.back + held.next + 31 ≡ held.follower.position) × (39 ≤ held.follower.position)) (sym c.self.view_is) back;
    } in
    let r = heard x before at (subst (λ ls. LanesHaveRead ls s.next x) (sym c.deref_mut.ensures.value) here.lanes)
    here.has_heard in
    record {
      follower = here.follower;
      readings = kept_before moment.readings s.next x kept;
      lanes = subst (λ ls. LanesHaveRead ls (s.next + 1) x) (sym back_is) r.0;
      has_heard = r.1;
    })
    c.hear_lanes.ensures.heard
