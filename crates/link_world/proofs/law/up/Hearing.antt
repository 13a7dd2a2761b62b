-- A link that is up hears an S frame.
use Rattle.link_world.proofs.Common.{◌≡◌, ℕ, ◌+◌, ◌-◌, ◌%◌, ◌<◌, ◌≤◌, Bool, true, false, ◌&&◌, not, List, [], ◌∷◌}
use Rattle.link_world.proofs.Common.{refl, sym, subst, cond-true, le-leb, S, Rr, Rnr, ahead, Machine, is_valid, named}
use Rattle.link_world.proofs.Common.{Turn, changing, setting, acknowledged, polled, none_again, recover, gone_back}
use Rattle.link_world.proofs.Common.{hear_up}
use Rattle.ax25_frames.specs.declared.frame.S.TheVariants.{Rej as RejFrame, Srej as SrejFrame}
use Rattle.ax25_frames.specs.declared.frame.Kind.TheVariants.{Super as SuperKind}
use Rattle.link_machine.specs.Acts.{picked_out, watching}
use Rattle.link_machine.specs.Frames.{hear_supervisory, heard_busy, acknowledged_by_srej}
use Rattle.link_world.proofs.law.reduced.Core.{Tagged, Numbered}
use Rattle.link_world.proofs.law.reduced.Core.Numbered.{Super}
use Rattle.link_world.proofs.law.reduced.CoreMoves.{numbered_to}
use Rattle.link_world.proofs.law.reduced.CoreOf.{super_of, end_following}
use Rattle.link_world.proofs.law.numbers.Deciding.{nr_of, nr_is_named}
use Rattle.link_world.proofs.law.up.Acts.{setting_keeps, again_keeps, picked_keeps, gone_back_keeps}
use Rattle.link_world.proofs.law.up.Acts.{acknowledged_keeps, polled_keeps, recover_keeps, passed_over}
use Rattle.link_world.proofs.law.up.Progress.{IsUp, Progress}

-- S frames whose number is the true one
rr_keeps :
    {tag k nr : ℕ} {rest : List Tagged} {g : Progress} {turn : Turn} (busy asks answers : Bool)
    → IsUp (numbered_to tag k (Super nr) ∷ rest) g turn → IsUp (numbered_to tag k (Super nr) ∷ rest) g
    (recover answers (polled asks (changing (acknowledged nr) (setting (heard_busy busy answers) turn))))
rr_keeps {nr} busy asks answers h = recover_keeps answers (polled_keeps asks (acknowledged_keeps nr refl
    (setting_keeps (heard_busy busy answers) (λ c. refl) h)))

rej_keeps :
    {tag k nr : ℕ} {rest : List Tagged} {g : Progress} {turn : Turn} (asks answers : Bool)
    → IsUp (numbered_to tag k (Super nr) ∷ rest) g turn → IsUp (numbered_to tag k (Super nr) ∷ rest) g
    (recover answers (polled asks (changing gone_back (changing none_again
    (changing (acknowledged nr) (setting (heard_busy false answers) turn))))))
rej_keeps {nr} asks answers h =
    recover_keeps answers (polled_keeps asks (gone_back_keeps (again_keeps [] (acknowledged_keeps nr refl
    (setting_keeps (heard_busy false answers) (λ c. refl) h)))))

-- an SREJ, which acknowledges with F = 1 alone
srej_keeps :
    {tag k : ℕ} (nr : ℕ) {rest : List Tagged} {g : Progress} {turn : Turn} (flag asks answers : Bool)
    → IsUp (numbered_to tag k (super_of SrejFrame nr flag) ∷ rest) g turn
    → IsUp (numbered_to tag k (super_of SrejFrame nr flag) ∷ rest) g (recover answers (polled asks
    (changing (picked_out nr) (changing (acknowledged_by_srej nr flag) (setting (heard_busy false answers) turn)))))
srej_keeps nr true asks answers h =
    recover_keeps answers (polled_keeps asks (picked_keeps nr (acknowledged_keeps nr refl
    (setting_keeps (heard_busy false answers) (λ c. refl) h))))
srej_keeps nr false asks answers h = recover_keeps answers (polled_keeps asks (picked_keeps nr
    (setting_keeps (heard_busy false answers) (λ c. refl) h)))

supervisory_keeps :
    {tag k : ℕ} (nr : ℕ) {rest : List Tagged} {g : Progress} {turn : Turn} (which : S) (command flag : Bool)
    → IsUp (numbered_to tag k (super_of which nr flag) ∷ rest) g turn
    → IsUp (numbered_to tag k (super_of which nr flag) ∷ rest) g (hear_supervisory which nr command flag turn)
supervisory_keeps nr Rr command flag h = rr_keeps false (command && flag) (not command && flag) h
supervisory_keeps nr Rnr command flag h = setting_keeps watching (λ c. refl)
    (rr_keeps true (command && flag) (not command && flag) h)
supervisory_keeps nr RejFrame command flag h = rej_keeps (command && flag) (not command && flag) h
supervisory_keeps nr SrejFrame command flag h = srej_keeps nr flag (command && flag) (not command && flag) h

pub nr_of_super : (which : S) (nr : ℕ) (flag : Bool) → nr_of (super_of which nr flag) ≡ nr
nr_of_super Rr nr flag = refl
nr_of_super Rnr nr flag = refl
nr_of_super RejFrame nr flag = refl
nr_of_super SrejFrame nr true = refl
nr_of_super SrejFrame nr false = refl

-- what N(R) of the front frame says on the air
pub record IsRead (m : Machine) (nr : ℕ) : Type 0 where
  pub valid : is_valid (nr % m.incoming.modulus) m ≡ true
  pub named_is : named (nr % m.incoming.modulus) m ≡ nr

pub nr_is_read :
    {tag k : ℕ} {n : Numbered} {nr : ℕ} {rest : List Tagged} {g : Progress} {turn : Turn} → nr_of n ≡ nr
    → turn.now.incoming.window < turn.now.incoming.modulus → IsUp (numbered_to tag k n ∷ rest) g turn
    → IsRead turn.now nr
nr_is_read {g} {turn} is fits h =
    let m = turn.now in
    let x = end_following m g.ended in
    let named_by = subst (λ t. (ahead m.incoming.modulus m.outgoing.va (t % m.incoming.modulus) ≤ m.outgoing.top -
    m.outgoing.va) × (m.outgoing.va + ahead m.incoming.modulus m.outgoing.va (t % m.incoming.modulus) ≡ t)) is
    (nr_is_named m.incoming.modulus x fits h.holds) in
    record { valid = le-leb _ _ named_by.0; named_is = named_by.1 }

-- an S frame as it is heard
pub hear_super_keeps :
    {tag k : ℕ} (nr : ℕ) {rest : List Tagged} {g : Progress} {turn : Turn} (which : S) (command flag : Bool)
    → turn.now.incoming.window < turn.now.incoming.modulus
    → IsUp (numbered_to tag k (super_of which nr flag) ∷ rest) g turn
    → IsUp rest g (hear_up command (SuperKind which (nr % turn.now.incoming.modulus) flag) turn)
hear_super_keeps nr {rest} {g} {turn} which command flag fits h =
    let read = nr_is_read (nr_of_super which nr flag) fits h in
    subst (λ t. IsUp rest g t) (sym (cond-true _
    (hear_supervisory which (named (nr % turn.now.incoming.modulus) turn.now) command flag turn) _ read.valid))
    (rw read.named_is (passed_over (supervisory_keeps nr which command flag h)))
