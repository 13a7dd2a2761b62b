-- A link that is up hears an I frame.
use Rattle.link_world.proofs.Common.{◌≡◌, ℕ, ◌+◌, ◌-◌, ◌%◌, ◌<◌, ◌≤◌, Bool, true, false, ◌&&◌, ◌||◌, not, nat_lt, ◌==◌}
use Rattle.link_world.proofs.Common.{if◌then◌else◌, List, ◌∷◌, refl, sym, subst, arith, inl, inr, cond-true}
use Rattle.link_world.proofs.Common.{eqb-true, eqb-false, ltb-true, and_parts, cases_lt, Packet, Mode, is_full}
use Rattle.link_world.proofs.Common.{Incoming, keeps, taking_by, took, named, Turn, changing, setting}
use Rattle.link_world.proofs.Common.{with_rej, run_with, give, stored, hear_up}
use Rattle.std.proofs.lemmas.Bool.{not-true}
use Rattle.ax25_frames.specs.declared.frame.Kind.TheVariants.{Info as InfoKind}
use Rattle.selective_reject.specs.declared.window.Mode.TheVariants.{Rej as RejMode, Srej as SrejMode}
use Rattle.link_machine.specs.Machine.{ahead_of_vr}
use Rattle.link_machine.specs.Acts.{owing}
use Rattle.link_machine.specs.Frames.{heard, hear_info, hear_info_by, hear_info_by_rej, hear_info_by_srej}
use Rattle.link_machine.specs.Frames.{lies_ahead, out_of_sequence, take_in_sequence}
use Rattle.link_world.proofs.law.reduced.Core.{End, Tagged}
use Rattle.link_world.proofs.law.reduced.Core.Numbered.{Info}
use Rattle.link_world.proofs.law.reduced.CoreMoves.{numbered_to}
use Rattle.link_world.proofs.law.reduced.CoreOf.{end_following}
use Rattle.link_world.proofs.law.numbers.Deciding.{ns_by_rej, ns_by_srej}
use Rattle.link_world.proofs.law.showing.PlacesFit.{IsFit}
use Rattle.link_world.proofs.law.up.Acts.{setting_keeps, acknowledged_keeps, polled_keeps, state_by}
use Rattle.link_world.proofs.law.up.Progress.{IsUp, Progress}
use Rattle.link_world.proofs.law.up.Hearing.{IsRead, nr_is_read}
use Rattle.link_world.proofs.law.up.Keeping.{kept_by_rej, kept_by_srej}
use Rattle.link_world.proofs.law.up.Accepting.{HasHeard, heard_nothing, heard_then, sequence_heard, run_heard}
use Rattle.link_world.proofs.law.up.Accepting.{stored_heard}

-- the windows of a hearer in this mode, and of the sender, fit the modulus
pub record WindowsOf (i : Incoming) (y : End) : Type 0 where
  pub own : i.window < i.modulus
  pub sender : y.windows i.modulus < i.modulus
  pub halves : i.mode ≡ SrejMode
      → (i.window + i.window ≤ i.modulus) × (y.windows i.modulus + y.windows i.modulus ≤ i.modulus)

-- V(R) is to be told
then_owing :
    {rest : List Tagged} {tag : ℕ} {accepts : Bool} {g : Progress} {turn : Turn}
    → HasHeard rest tag accepts g turn → HasHeard rest tag accepts g (setting owing turn)
then_owing h = heard_then (λ p up. setting_keeps owing (λ c. refl) up) h

-- by REJ
by_rej_heard :
    {tag c ns nr : ℕ} {packet : Packet} {rest : List Tagged} {g : Progress} {turn : Turn}
    → WindowsOf turn.now.incoming g.partner → turn.now.incoming.mode ≡ RejMode
    → IsUp (numbered_to tag c (Info ns nr packet) ∷ rest) g turn
    → HasHeard rest tag (ahead_of_vr (ns % turn.now.incoming.modulus) turn.now == 0) g
    (hear_info_by_rej (ns % turn.now.incoming.modulus) packet turn)
by_rej_heard {tag} {c} {ns} {nr} {packet} {rest} {g} {turn} windows mode h = go (distance == 0) refl
  where
    i : Incoming
    i = turn.now.incoming

    distance : ℕ
    distance = ahead_of_vr (ns % turn.now.incoming.modulus) turn.now

    is_ahead : Bool
    is_ahead = lies_ahead (ns % turn.now.incoming.modulus) turn.now

    go : (b : Bool) → (distance == 0) ≡ b → HasHeard rest tag b g
        (if b then take_in_sequence packet turn else setting (out_of_sequence is_ahead) turn)
    go true is =
        let named_by = ns_by_rej i.modulus (end_following turn.now g.ended) windows.sender h.holds in
        then_owing (heard_then (λ p up. setting_keeps (with_rej false) (λ c. refl) up)
        (sequence_heard mode h.so_far.sound.fit (named_by.0 (eqb-true distance 0 is)) h))
    go false is = heard_nothing (setting_keeps (out_of_sequence is_ahead) (λ c. state_by is_ahead c (with_rej true c)
        (owing c) refl refl) h)

-- by SREJ
by_srej_heard :
    {tag c ns nr : ℕ} {packet : Packet} {rest : List Tagged} {g : Progress} {turn : Turn}
    → WindowsOf turn.now.incoming g.partner → turn.now.incoming.mode ≡ SrejMode
    → IsUp (numbered_to tag c (Info ns nr packet) ∷ rest) g turn
    → let k = ahead_of_vr (ns % turn.now.incoming.modulus) turn.now in
    HasHeard rest tag ((k == 0) || (nat_lt k turn.now.incoming.window && not
    (is_full turn.now.incoming.places k))) g (hear_info_by_srej (ns % turn.now.incoming.modulus) packet turn)
by_srej_heard {tag} {c} {ns} {nr} {packet} {rest} {g} {turn} windows mode h = go (k == 0) refl
  where
    i : Incoming
    i = turn.now.incoming

    fit : IsFit i
    fit = h.so_far.sound.fit

    k : ℕ
    k = ahead_of_vr (ns % turn.now.incoming.modulus) turn.now

    fits : Bool
    fits = nat_lt k i.window && not (is_full i.places k)

    named_by : (i.vr ≤ ns → k ≡ ns - i.vr) × (ns < i.vr → i.window ≤ k)
    named_by = ns_by_srej i.modulus (end_following turn.now g.ended) (windows.halves mode).0 (windows.halves mode).1
        h.holds

    in_window : k < i.window → ns ≡ i.vr + k
    in_window within = elim (cases_lt ns i.vr) [
      | inl below ↦ let outside = named_by.1 below in absurd (omega arith)
      | inr from ↦ let distance = named_by.0 from in omega arith
    ]

    go : (b : Bool) → (k == 0) ≡ b → HasHeard rest tag (b || fits) g
        (setting owing (if b then give (run_with packet turn.now) turn
        else if fits then changing (stored k packet) turn else turn))
    go true is =
        let zero_is : k ≡ 0 = eqb-true k 0 is in
        let positive = fit.positive in
        let place = in_window (omega arith) in
        then_owing (run_heard mode fit (omega arith) h)
    go false is = by_fit fits refl
      where
        by_fit : (c : Bool) → fits ≡ c → HasHeard rest tag c g
            (setting owing (if c then changing (stored k packet) turn else turn))
        by_fit true ok =
            let parts = and_parts (nat_lt k i.window) (not (is_full i.places k)) ok in
            let within : k < i.window = ltb-true k i.window parts.0 in
            let some : k ≡ 0 → ⊥ = eqb-false k 0 is in
            then_owing (stored_heard k mode fit (in_window within) (omega arith) within
            (not-true (is_full i.places k) parts.1) h)
        by_fit false ok = then_owing (heard_nothing h)

-- by either
by_mode_heard :
    {tag c ns nr : ℕ} {packet : Packet} {rest : List Tagged} {g : Progress} {turn : Turn}
    (mode : Mode) → WindowsOf turn.now.incoming g.partner → turn.now.incoming.mode ≡ mode
    → IsUp (numbered_to tag c (Info ns nr packet) ∷ rest) g turn
    → let k = ahead_of_vr (ns % turn.now.incoming.modulus) turn.now in
    HasHeard rest tag (keeps (taking_by mode turn.now.incoming.window k (is_full turn.now.incoming.places k))) g
    (hear_info_by mode (ns % turn.now.incoming.modulus) packet turn)
by_mode_heard {tag} {ns} {packet} {rest} {g} {turn} RejMode windows mode h =
    subst (λ b. HasHeard rest tag b g (hear_info_by_rej (ns % turn.now.incoming.modulus) packet turn))
    (sym (kept_by_rej (ahead_of_vr (ns % turn.now.incoming.modulus) turn.now) h.so_far.sound.fit))
    (by_rej_heard windows mode h)
by_mode_heard {tag} {ns} {packet} {rest} {g} {turn} SrejMode windows mode h =
    subst (λ b. HasHeard rest tag b g (hear_info_by_srej (ns % turn.now.incoming.modulus) packet turn))
    (sym (kept_by_srej (ahead_of_vr (ns % turn.now.incoming.modulus) turn.now) h.so_far.sound.fit))
    (by_srej_heard windows mode h)

-- An I frame as it is heard.
pub hear_info_heard :
    {tag c ns nr : ℕ} {packet : Packet} {rest : List Tagged} {g : Progress} {turn : Turn}
    (command flag : Bool) → WindowsOf turn.now.incoming g.partner
    → IsUp (numbered_to tag c (Info ns nr packet) ∷ rest) g turn → let i = turn.now.incoming in
    HasHeard rest tag (keeps (took i (ns % i.modulus))) g
    (hear_up command (InfoKind (ns % i.modulus) (nr % i.modulus) flag packet.pid packet.octets) turn)
hear_info_heard {tag} {ns} {nr} {packet} {rest} {g} {turn} command flag windows h =
    let m = turn.now in
    let i = m.incoming in
    let accepts = keeps (took i (ns % i.modulus)) in
    let read : IsRead m nr = nr_is_read refl windows.own h in
    let acked = acknowledged_keeps nr refl (setting_keeps (heard false) (λ c. refl) h) in
    subst (λ t. HasHeard rest tag accepts g t)
    (sym (cond-true _ (hear_info (named (nr % i.modulus) m) (ns % i.modulus) flag packet turn) _ read.valid))
    (rw read.named_is (heard_then (λ p up. polled_keeps flag up) (by_mode_heard i.mode windows refl acked)))
