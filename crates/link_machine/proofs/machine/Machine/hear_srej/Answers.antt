use Rattle.link_machine.proofs.Common.{◌<◌, ℕ, false, refl, subst, IsModulus, named, changing, setting, heard_busy}
use Rattle.link_machine.proofs.Common.{acknowledged_by_srej, picked_out, Holds, Shows}
use Rattle.link_machine.proofs.Showing.{shows_control, shows_changing}
use Rattle.link_machine.proofs.KeptByActs.{srej_path, named_again, picked_path}
use Rattle.link_machine.proofs.machine.Machine.hear_srej.Goals as goal

pub returns : goal.returns
returns c = λ room t h valid.
    let n = named c.args.nr t.now in
    let hears = heard_busy false c.args.answers in
    let heard = shows_control hears c.args.self.now c.hear_busy.new.self room t c.hear_busy.ensures h in
    let t1 = setting hears t in
    let t2 = changing (acknowledged_by_srej n c.args.flag) t1 in
    let acked : Shows c.acknowledge_by_srej.new.self room t2 =
    shows_changing (acknowledged_by_srej n c.args.flag) _ c.acknowledge_by_srej.new.self room t1
    (srej_path n c.args.flag t1.now) heard (c.acknowledge_by_srej.ensures.holds t1.now heard.holds valid) in
    let known : IsModulus t.now.incoming.modulus =
    subst IsModulus h.holds.stands.incoming.modulus h.holds.formed.incoming.modulus in
    let Below : ℕ → Type 0 = λ k. c.args.nr < k in
    let small : c.args.nr < t.now.incoming.modulus = subst Below h.holds.stands.incoming.modulus c.requires in
    let P : ℕ → Type 0 = λ k. Holds c.pick_out.new.self (picked_out k t2.now) in
    let picked = shows_changing (picked_out n) _ c.pick_out.new.self room t2 (picked_path n t2.now) acked
    (subst P (named_again n c.args.nr c.args.flag t1.now known small refl) (c.pick_out.ensures t2.now acked.holds)) in
    c.recover.ensures room _ (c.hear_poll.ensures room _ picked)
