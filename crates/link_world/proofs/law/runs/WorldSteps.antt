-- Each event of a quiet run keeps what holds of a world.
use Rattle.link_world.proofs.Common.{◌≡◌, ℕ, zero, suc, ◌+◌, ◌<◌, ◌≤◌, Some, Bool, true, false, ◌==◌, List, [], ◌∷◌}
use Rattle.link_world.proofs.Common.{◌++◌, map, ◌⊎◌, inl, inr, refl, sym, ap, ◌∙◌, subst, arith, append-nil, eqb-true}
use Rattle.link_world.proofs.Common.{map-append, Frame, Mode, IsWindow, Params, mode_in, window_in, HasWindows, Sent}
use Rattle.link_world.proofs.Common.{SentIn}
use Rattle.link_world.proofs.Common.{sent_kind, InfoSent, SuperSent, SetupSent, Tagged, asks, asks_in, answers_in}
use Rattle.link_world.proofs.Common.{RecordedEnd, Happening, seen, hears_ask, following, tagged, Hears, World, read_in}
use Rattle.link_world.proofs.Common.{is_alone, WindowsFit, AreHalves, IsHalf, XidSent}
use Rattle.std.proofs.Common.{cond}
use Rattle.std.specs.List.{AllByRecursion as Each, remove}
use Rattle.std.proofs.lemmas.Bool.{or_cases}
use Rattle.std.proofs.lemmas.List.Sums.{sum_by-cons}
use Rattle.ax25_frames.specs.declared.frame.U.TheVariants.{Sabm as SabmFrame, Sabme as SabmeFrame, Disc as DiscFrame}
use Rattle.ax25_frames.specs.declared.frame.U.TheVariants.{Dm as DmFrame, Ua as UaFrame}
use Rattle.selective_reject.specs.declared.window.Mode.TheVariants.{Rej as RejMode, Srej as SrejMode}
use Rattle.link_machine.specs.declared.state.LinkState.TheVariants.{Idle as IdleState}
use Rattle.link_machine.specs.Step.{step as link_step}
use Rattle.link_world.proofs.law.reduced.Core.{End, between}
use Rattle.link_world.proofs.law.reduced.CoreMoves.{asks as core_asks, answers as core_answers, sabms, ask_of}
use Rattle.link_world.proofs.law.reduced.CoreMoves.{answer_of}
use Rattle.link_world.proofs.law.reduced.CoreOf.{cores_sent, kind_of}
use Rattle.link_world.specs.Quiet.{is_sabm}
use Rattle.link_world.proofs.law.Each.{each_append, each_removed}
use Rattle.link_world.proofs.law.invariant.Exchanges.{sabms_are_asks}
use Rattle.link_world.proofs.law.showing.PlacesFit.{IsSound, IsModulus}
use Rattle.link_world.proofs.law.moves.Losing.{lose_keeps}
use Rattle.link_world.proofs.law.invariant.Invariant.{Invariant}
use Rattle.link_world.proofs.law.up.Info.{WindowsOf}
use Rattle.link_world.proofs.law.showing.Shown.{core_flight, core_tagged, Shown, IsWritten, AnswersAsSent}
use Rattle.link_world.proofs.law.showing.Shown.Shown.{ShownIdle, ShownCalling, ShownUp, ShownReleasing}
use Rattle.link_world.proofs.law.showing.Outcome.{IsAlone, Keeps}
use Rattle.link_world.proofs.law.runs.EndSteps.{HearsNothing, CalledAlone, stands, hears_keeps, asks_keep}

-- what holds of a world
pub record ShowsWorld (a b : Params) (w : World) : Type 0 where
  pub x : End
  pub y : End
  pub near : Shown w.a.end x
  pub far : Shown w.b.end y
  pub near_params : w.a.end.machine.params ≡ a
  pub far_params : w.b.end.machine.params ≡ b
  pub near_sound : IsSound w.a.end.machine.params w.a.end.machine.incoming
  pub far_sound : IsSound w.b.end.machine.params w.b.end.machine.incoming
  pub holds : Invariant (between x y (core_flight w.a.towards) (core_flight w.b.towards))
  pub near_written : Each IsWritten w.a.towards
  pub far_written : Each IsWritten w.b.towards

-- the same from the other end
pub shows_mirror : {a b : Params} {w : World} → ShowsWorld a b w → ShowsWorld b a (record { a = w.b; b = w.a })
shows_mirror s = record {
  x = s.y;
  y = s.x;
  near = s.far;
  far = s.near;
  near_params = s.far_params;
  far_params = s.near_params;
  near_sound = s.far_sound;
  far_sound = s.near_sound;
  holds = record { x_hears = s.holds.y_hears; y_hears = s.holds.x_hears };
  near_written = s.far_written;
  far_written = s.near_written;
}

shown_window :
    {r : RecordedEnd} {x : End} → Shown r x → x.window ≡ x.windows x.modulus
    → r.machine.incoming.window ≡ window_in r.machine.incoming.modulus r.machine.params
shown_window (ShownIdle state packets waiting) is = is
shown_window (ShownCalling state waiting) is = is
shown_window (ShownUp ended last l state waiting) is = is
shown_window (ShownReleasing state packets waiting) is = is

shown_windows :
    {r : RecordedEnd} {x : End} → Shown r x → (modulus : ℕ) → x.windows modulus ≡ window_in modulus r.machine.params
shown_windows (ShownIdle state packets waiting) modulus = refl
shown_windows (ShownCalling state waiting) modulus = refl
shown_windows (ShownUp ended last is state waiting) modulus = refl
shown_windows (ShownReleasing state packets waiting) modulus = refl

-- a window is below its modulus
below : (modulus window : ℕ) (mode : Mode) → 1 ≤ modulus → IsWindow modulus window mode → window < modulus
below modulus window RejMode some h = let high = h.1 in omega arith
below modulus window SrejMode some h = let high = h.1 in omega arith

-- so is that which a link has in a modulus
window_below : (p : Params) (modulus : ℕ) → IsModulus modulus → HasWindows p → window_in modulus p < modulus
window_below p modulus (inl is) h = subst (λ m. window_in m p < m) (sym is) (below 8 p.window p.mode (omega arith) h.0)
window_below p modulus (inr is) h = subst (λ m. window_in m p < m) (sym is)
    (below 128 p.wide_window p.wide_mode (omega arith) h.1)

-- and perhaps at most half of it
window_half :
    (p : Params) (modulus : ℕ) → IsModulus modulus → IsHalf modulus p
    → window_in modulus p + window_in modulus p ≤ modulus
window_half p modulus (inl is) h =
    let half : p.window ≤ 4 = subst (λ m. IsHalf m p) is h in
    subst (λ m. window_in m p + window_in m p ≤ m) (sym is) (omega arith)
window_half p modulus (inr is) h =
    let half : p.wide_window ≤ 64 = subst (λ m. IsHalf m p) is h in
    subst (λ m. window_in m p + window_in m p ≤ m) (sym is) (omega arith)

-- in the modulus that a link has
halves_in : {a b : Params} (modulus : ℕ) → IsModulus modulus → WindowsFit a b → AreHalves modulus a b
halves_in {a} {b} modulus (inl is) fit = subst (λ m. AreHalves m a b) (sym is) fit.narrow
halves_in {a} {b} modulus (inr is) fit = subst (λ m. AreHalves m a b) (sym is) fit.wide

-- the windows of the two ends fit
pub windows_of :
    {a b : Params} {w : World} → WindowsFit a b → (s : ShowsWorld a b w) → WindowsOf w.a.end.machine.incoming s.y
windows_of {a} {b} {w} fit s =
    let i = w.a.end.machine.incoming in
    let is : IsModulus i.modulus = s.near_sound.modulus in
    let own : i.window ≡ window_in i.modulus a =
    shown_window s.near s.holds.x_hears.moduli.window ∙ ap (window_in i.modulus) s.near_params in
    let sender = shown_windows s.far i.modulus ∙ ap (window_in i.modulus) s.far_params in
    record {
      own = subst (λ k. k < i.modulus) (sym own) (window_below a i.modulus is fit.of_a);
      sender = subst (λ k. k < i.modulus) (sym sender) (window_below b i.modulus is fit.of_b);
      halves = λ mode. let half = halves_in i.modulus is fit (inl (sym (s.near_sound.mode
          ∙ ap (mode_in i.modulus) s.near_params) ∙ mode)) in (
            subst (λ k. k + k ≤ i.modulus) (sym own) (window_half a i.modulus is half.0),
            subst (λ k. k + k ≤ i.modulus) (sym sender) (window_half b i.modulus is half.1),
          );
    }

alone_of : (n ahead : ℕ) → is_alone n ahead ≡ true → (n ≡ 0) ⊎ (ahead ≡ 0)
alone_of zero ahead h = inl refl
alone_of (suc n) ahead h = elim (or_cases (suc n == 0) (suc n + ahead == 1) h) [
  | inl none ↦ let e = eqb-true (suc n) 0 none in absurd (omega arith)
  | inr one ↦ let e = eqb-true (suc n + ahead) 1 one in inr (omega arith)
]

-- asks as they are written and as they are sent
ask_same :
    (modulus : ℕ) (answers : Bool) (s : Sent) → cond (asks (sent_kind modulus s)) 1 0
    ≡ ask_of (kind_of answers modulus s)
ask_same modulus answers (InfoSent number nr poll packet) = refl
ask_same modulus answers (SuperSent which command nr flag) = refl
ask_same modulus answers (SetupSent SabmFrame flag) = refl
ask_same modulus answers (SetupSent SabmeFrame flag) = refl
ask_same modulus answers (SetupSent DiscFrame flag) = refl
ask_same modulus answers (SetupSent DmFrame flag) = refl
ask_same modulus answers (SetupSent UaFrame flag) = refl
ask_same modulus answers (XidSent command flag own) = refl

pub asks_sent :
    (on_ask : Bool) (r : RecordedEnd) (sent : List SentIn)
    → asks_in (map (tagged on_ask r) sent) ≡ core_asks (cores_sent false 0 sent)
asks_sent on_ask r [] = refl
asks_sent on_ask r (s ∷ sent) =
    sum_by-cons (λ (f : Tagged). cond (asks f.frame.kind) 1 0) (tagged on_ask r s) (map (tagged on_ask r) sent)
    ∙ ap (λ n. n + asks_in (map (tagged on_ask r) sent)) (ask_same s.modulus false s.frame)
    ∙ ap (λ n. ask_of (kind_of false s.modulus s.frame) + n) (asks_sent on_ask r sent)

asks_flying : (fs : List Tagged) → Each IsWritten fs → asks_in fs ≡ core_asks (core_flight fs)
asks_flying [] h = refl
asks_flying (f ∷ fs) h = sum_by-cons (λ (g : Tagged). cond (asks g.frame.kind) 1 0) f fs
    ∙ ap (λ k. cond (asks k) 1 0 + asks_in fs) h.0.kind
    ∙ ap (λ n. n + asks_in fs) (ask_same f.modulus f.answers f.sent)
    ∙ ap (λ n. ask_of (kind_of f.answers f.modulus f.sent) + n) (asks_flying fs h.1)

answer_same :
    (answers : Bool) (modulus : ℕ) (s : Sent) → AnswersAsSent answers s
    → cond answers 1 0 ≡ answer_of (kind_of answers modulus s)
answer_same answers modulus (InfoSent number nr poll packet) h = ap (λ b. cond b 1 0) h
answer_same answers modulus (SuperSent which command nr flag) h = ap (λ b. cond b 1 0) h
answer_same answers modulus (SetupSent SabmFrame flag) h = ap (λ b. cond b 1 0) h
answer_same answers modulus (SetupSent SabmeFrame flag) h = ap (λ b. cond b 1 0) h
answer_same answers modulus (SetupSent DiscFrame flag) h = ap (λ b. cond b 1 0) h
answer_same true modulus (SetupSent DmFrame flag) h = refl
answer_same false modulus (SetupSent DmFrame flag) h = refl
answer_same answers modulus (SetupSent UaFrame flag) h = ap (λ b. cond b 1 0) h
answer_same answers modulus (XidSent command flag own) h = ap (λ b. cond b 1 0) h

answers_flying : (fs : List Tagged) → Each IsWritten fs → answers_in fs ≡ core_answers (core_flight fs)
answers_flying [] h = refl
answers_flying (f ∷ fs) h = sum_by-cons (λ (g : Tagged). cond g.answers 1 0) f fs
    ∙ ap (λ n. n + answers_in fs) (answer_same f.answers f.modulus f.sent h.0.answers)
    ∙ ap (λ n. answer_of (kind_of f.answers f.modulus f.sent) + n) (answers_flying fs h.1)

-- the world after an event of its end, which leaves some of the frames under way to that end
abbrev pub world_after : World → Happening → List Tagged → World
world_after w h stays =
    let turn = link_step w.a.end.machine (seen h) in
    let now = following h w.a.end turn in
    record {
      a = record { end = now; towards = stays };
      b = record w.b { towards = w.b.towards ++ map (tagged (hears_ask h) now) turn.sent };
    }

-- what the event sends
abbrev pub sent_by : World → Happening → List Tagged
sent_by w h =
    let turn = link_step w.a.end.machine (seen h) in
    map (tagged (hears_ask h) (following h w.a.end turn)) turn.sent

-- a SABM, SABME or DISC goes out alone
abbrev pub GoesAlone : World → Happening → List Tagged → Type 0
GoesAlone w h stays = is_alone (asks_in (sent_by w h)) (asks_in w.b.towards + answers_in stays) ≡ true

-- what the event keeps, the world shows
shows_after :
    {a b : Params} {w : World} (s : ShowsWorld a b w) (h : Happening) {stays : List Tagged} → Each IsWritten stays
    → GoesAlone w h stays
    → Keeps h w.a.end s.y (core_flight stays) (core_flight w.b.towards) (link_step w.a.end.machine (seen h))
    → ShowsWorld a b (world_after w h stays)
shows_after {w} s h {stays} written alone keeps =
    let turn = link_step w.a.end.machine (seen h) in
    let now = following h w.a.end turn in
    let goes : IsAlone (core_flight stays) (core_flight w.b.towards) turn.sent =
    elim (alone_of (asks_in (sent_by w h)) (asks_in w.b.towards + answers_in stays) alone) [
      | inl none ↦ inl (sym (asks_sent (hears_ask h) now turn.sent) ∙ none)
      | inr quiet ↦ let one = asks_flying w.b.towards s.far_written in
          let other = answers_flying stays written in
          inr (omega arith)
    ] in
    let o = keeps.outcome goes in
    record {
      x = o.end_is;
      y = s.y;
      near = o.shown;
      far = s.far;
      near_params = o.params ∙ s.near_params;
      far_params = s.far_params;
      near_sound = subst (λ p. IsSound p now.machine.incoming) (sym o.params) o.sound;
      far_sound = s.far_sound;
      holds = subst (λ fs. Invariant (between o.end_is s.y (core_flight stays) fs))
          (sym (map-append core_tagged w.b.towards (sent_by w h))) o.holds;
      near_written = written;
      far_written = each_append IsWritten w.b.towards (sent_by w h) s.far_written o.written;
    }

-- what happens that is no frame heard
pub near_asks :
    {a b : Params} {w : World} (s : ShowsWorld a b w) (h : Happening) → HearsNothing h → GoesAlone w h w.a.towards
    → ShowsWorld a b (world_after w h w.a.towards)
near_asks s h silent alone =
    shows_after s h s.near_written alone (asks_keep h silent (stands s.near s.near_sound s.holds))

-- a frame that is heard, as it is read
pub near_hears :
    {a b : Params} {w : World} (s : ShowsWorld a b w) (f : Tagged) (frame : Frame) {rest : List Tagged} → WindowsFit a b
    → w.a.towards ≡ f ∷ rest → read_in w.a.end.machine.incoming.modulus f ≡ Some frame
    → GoesAlone w (Hears (record f { frame = frame })) rest
    → (w.a.end.machine.control.state ≡ IdleState → is_sabm f.frame.kind ≡ true → asks_in w.b.towards ≡ 0)
    → ShowsWorld a b (world_after w (Hears (record f { frame = frame })) rest)
near_hears {w} s f frame {rest} fit is read alone called =
    let to_y = core_flight w.b.towards in
    let written : Each IsWritten (f ∷ rest) = subst (λ fs. Each IsWritten fs) is s.near_written in
    let front : Invariant (between s.x s.y (core_tagged f ∷ core_flight rest) to_y) =
    subst (λ fs. Invariant (between s.x s.y (core_flight fs) to_y)) is s.holds in
    let quiet : CalledAlone w.a.end f.sent to_y = λ idle which flag sent sabm.
    none (called idle (ap is_sabm written.0.kind ∙ ap (λ t. is_sabm (sent_kind f.modulus t)) sent ∙ sabm)) in
    shows_after s (Hears (record f { frame = frame })) written.1 alone
    (hears_keeps frame (stands s.near s.near_sound front) (windows_of fit s) written.0 read quiet)
  where
    none : asks_in w.b.towards ≡ 0 → sabms (core_flight w.b.towards) ≡ 0
    none e =
        let same = asks_flying w.b.towards s.far_written in
        let few = sabms_are_asks (core_flight w.b.towards) in
        omega arith

-- what holds whatever element goes holds after a removal
removed_keeps :
    {A : Type 0} (P : List A → Type 0)
    → ((before : List A) (x : A) (after : List A) → P (before ++ x ∷ after) → P (before ++ after))
    → (xs : List A) (n : ℕ) → P xs → P (remove xs n)
removed_keeps P loses [] zero h = h
removed_keeps P loses [] (suc n) h = h
removed_keeps P loses (x ∷ xs) zero h = loses [] x xs h
removed_keeps P loses (x ∷ xs) (suc n) h =
    removed_keeps (λ ys. P (x ∷ ys)) (λ before y after. loses (x ∷ before) y after) xs n h

-- a frame is lost
pub near_loses : {a b : Params} {w : World} (n : ℕ) → ShowsWorld a b w
    → ShowsWorld a b (record {
      a = record w.a { towards = remove w.a.towards n };
      b = record w.b { towards = w.b.towards ++ [] };
    })
near_loses {w} n s = record {
  x = s.x;
  y = s.y;
  near = s.near;
  far = s.far;
  near_params = s.near_params;
  far_params = s.far_params;
  near_sound = s.near_sound;
  far_sound = s.far_sound;
  holds = rw (append-nil w.b.towards)
      (removed_keeps (λ fs. Invariant (between s.x s.y (core_flight fs) (core_flight w.b.towards)))
      (λ before f after inv. rw (map-append core_tagged before after)
      (lose_keeps (core_flight before) (core_tagged f) (core_flight after)
      (rw (← map-append core_tagged before (f ∷ after)) inv))) w.a.towards n s.holds);
  near_written = removed_keeps (λ fs. Each IsWritten fs)
      (λ before f after. each_removed IsWritten before f after) w.a.towards n s.near_written;
  far_written = subst (λ fs. Each IsWritten fs) (sym (append-nil w.b.towards)) s.far_written;
}
