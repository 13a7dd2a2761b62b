-- A link that is up takes, stores or passes over the packet of an I frame.
use Rattle.link_world.proofs.Common.{◌≡◌, ℕ, ◌+◌, ◌<◌, ◌≤◌, Bool, true, false, if◌then◌else◌, List, [], ◌∷◌, ◌++◌}
use Rattle.link_world.proofs.Common.{length, map, refl, sym, ap, ◌∙◌, subst, arith, append-nil, Packet, is_full}
use Rattle.link_world.proofs.Common.{Given, Turn, changing, run_with, moved_on, give, stored}
use Rattle.selective_reject.specs.declared.window.Mode.TheVariants.{Rej as RejMode, Srej as SrejMode}
use Rattle.link_world.proofs.law.reduced.Core.{Stored, Tagged, between}
use Rattle.link_world.proofs.law.reduced.Core.Numbered.{Info}
use Rattle.link_world.proofs.law.reduced.CoreMoves.{numbered_to, first_origin, storing}
use Rattle.link_world.proofs.law.reduced.CoreOf.{cores_sent, running_of, end_following, up_end}
use Rattle.link_world.proofs.law.moves.UpSending.{UpInvariant}
use Rattle.link_world.proofs.law.moves.Receiving.{store_front_keeps}
use Rattle.link_world.proofs.law.showing.PlacesStored.{IsPlaced, place_filled}
use Rattle.link_world.proofs.law.showing.PlacesFit.{IsFit, fit_after_run, fit_after_one, fit_with, sound_same}
use Rattle.link_world.proofs.law.up.Taking.{got_by, one_taken, run_with_taken}
use Rattle.link_world.proofs.law.invariant.Invariant.{Invariant}
use Rattle.link_world.proofs.law.up.Acts.{passed_over}
use Rattle.link_world.proofs.law.up.Progress.{IsUp, Progress}

-- what has come of the progress once an I frame is heard: packets that were got, and perhaps an origin
abbrev pub progress_after : List Packet → Bool → ℕ → Progress → Progress
progress_after packets accepts tag g = record g {
  open_now = got_by packets (if accepts then first_origin g.open_now.origin tag else g.open_now.origin) g.open_now;
  told = g.told ++ map Given packets;
}

pub record HasHeard (rest : List Tagged) (tag : ℕ) (accepts : Bool) (g : Progress) (turn : Turn) : Type 0 where
  pub packets : List Packet
  pub up : IsUp rest (progress_after packets accepts tag g) turn

-- nothing is got
pub heard_nothing :
    {f : Tagged} {rest : List Tagged} {tag : ℕ} {g : Progress} {turn : Turn} → IsUp (f ∷ rest) g turn
    → HasHeard rest tag false g turn
heard_nothing {g} h =
    let following = passed_over h in
    let q = g.open_now in
    record {
      packets = [];
      up = record {
        state = following.state;
        so_far = record {
          told_is = following.so_far.told_is ∙ sym (append-nil g.told);
          params_are = following.so_far.params_are;
          sound = following.so_far.sound;
          modulus_is = following.so_far.modulus_is;
        };
        fits = following.fits;
        holds = rw (append-nil q.got) following.holds;
      };
    }

-- what follows keeps it
pub heard_then :
    {rest : List Tagged} {tag : ℕ} {accepts : Bool} {g : Progress} {turn following : Turn}
    → ((p : Progress) → IsUp rest p turn → IsUp rest p following)
    → HasHeard rest tag accepts g turn → HasHeard rest tag accepts g following
heard_then {tag} {accepts} {g} keeps h = record {
  packets = h.packets;
  up = keeps (progress_after h.packets accepts tag g) h.up;
}

-- V(R) moves on past packets that are given
given_to :
    {fs rest : List Tagged} {tag : ℕ} {g : Progress} {turn : Turn} (packets : List Packet) → IsUp fs g turn
    → IsFit (moved_on (length packets) turn.now.incoming)
    → Invariant (between (up_end (record turn.now { incoming = moved_on (length packets) turn.now.incoming }) g.ended
    (got_by packets (first_origin g.open_now.origin tag) g.open_now)) g.partner rest
    (g.before ++ cores_sent g.answers (length g.ended) turn.sent)) → HasHeard rest tag true g (give packets turn)
given_to {turn} packets h fit holds = record {
  packets = packets;
  up = record {
    state = h.state;
    so_far = record {
      told_is = ap (λ t. t ++ map Given packets) h.so_far.told_is;
      params_are = h.so_far.params_are;
      sound = sound_same fit refl refl h.so_far.sound;
      modulus_is = h.so_far.modulus_is;
    };
    fits = h.fits;
    holds = holds;
  };
}

-- by REJ: the next in sequence
pub sequence_heard :
    {tag c nr : ℕ} {packet : Packet} {rest : List Tagged} {g : Progress} {turn : Turn} {ns : ℕ}
    → turn.now.incoming.mode ≡ RejMode → IsFit turn.now.incoming → ns ≡ turn.now.incoming.vr
    → IsUp (numbered_to tag c (Info ns nr packet) ∷ rest) g turn → HasHeard rest tag true g (give (packet ∷ []) turn)
sequence_heard {tag} {c} {nr} {packet} {rest} {g} {turn} mode fit is h =
    let front = subst (λ n. Invariant (between (up_end turn.now g.ended g.open_now) g.partner
    (numbered_to tag c (Info n nr packet) ∷ rest) (g.before ++ cores_sent g.answers (length g.ended) turn.sent))) is
    h.holds in
    given_to (packet ∷ []) h (fit_after_one mode fit) (one_taken turn.now g.ended g.open_now fit.first front)

-- by SREJ: the next in sequence, and those stored that follow it
pub run_heard :
    {tag c nr : ℕ} {packet : Packet} {rest : List Tagged} {g : Progress} {turn : Turn} {ns : ℕ}
    → turn.now.incoming.mode ≡ SrejMode → IsFit turn.now.incoming → ns ≡ turn.now.incoming.vr
    → IsUp (numbered_to tag c (Info ns nr packet) ∷ rest) g turn
    → HasHeard rest tag true g (give (run_with packet turn.now) turn)
run_heard {tag} {c} {nr} {packet} {rest} {g} {turn} mode fit is h =
    let front = subst (λ n. Invariant (between (up_end turn.now g.ended g.open_now) g.partner
    (numbered_to tag c (Info n nr packet) ∷ rest) (g.before ++ cores_sent g.answers (length g.ended) turn.sent))) is
    h.holds in
    given_to (run_with packet turn.now) h (fit_after_run packet mode fit)
    (run_with_taken turn.now g.ended g.open_now fit.first front)

-- by SREJ: a packet that comes before its turn is stored
pub stored_heard :
    {tag c nr : ℕ} {packet : Packet} {rest : List Tagged} {g : Progress} {turn : Turn} {ns : ℕ} (k : ℕ)
    → turn.now.incoming.mode ≡ SrejMode → IsFit turn.now.incoming → ns ≡ turn.now.incoming.vr + k → 1 ≤ k
    → k < turn.now.incoming.window → is_full turn.now.incoming.places k ≡ false
    → IsUp (numbered_to tag c (Info ns nr packet) ∷ rest) g turn
    → HasHeard rest tag true g (changing (stored k packet) turn)
stored_heard {tag} {packet} {rest} {g} {turn} k mode fit is some within empty h =
    let m = turn.now in
    let i = m.incoming in
    let x = end_following m g.ended in
    let q = g.open_now in
    let r = running_of m q in
    let under_way = g.before ++ cores_sent g.answers (length g.ended) turn.sent in
    let length_is = fit.places in
    let pl : IsPlaced i.vr k packet i.places = place_filled i.vr k i.places (omega arith) empty in
    let s : Stored = record { number = i.vr + k; packet = packet } in
    let front = subst
    (λ n. UpInvariant x g.partner (storing (pl.before ++ record { number = n; packet = packet } ∷ pl.after)
    (first_origin q.origin tag) r) rest under_way) is (store_front_keeps x pl.before pl.after pl.was h.holds) in
    let with_got = subst (λ t. UpInvariant x g.partner (record r
    { stored = pl.before ++ s ∷ pl.after; set_up = record q { got = t; origin = first_origin q.origin tag } })
    rest under_way) (sym (append-nil q.got)) front in
    record {
      packets = [];
      up = record {
        state = h.state;
        so_far = record {
          told_is = h.so_far.told_is ∙ sym (append-nil g.told);
          params_are = h.so_far.params_are;
          sound = sound_same (fit_with k packet mode some fit) refl refl h.so_far.sound;
          modulus_is = h.so_far.modulus_is;
        };
        fits = h.fits;
        holds = subst (λ ss. UpInvariant x g.partner
            (record r { stored = ss; set_up = got_by [] (first_origin q.origin tag) q }) rest under_way) (sym pl.is)
            with_got;
      };
    }
