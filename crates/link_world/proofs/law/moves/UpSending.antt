-- x is up and sends an I or S frame.
use Rattle.link_world.proofs.Common.{◌≡◌, ℕ, zero, suc, ◌+◌, ◌-◌, ◌<◌, ◌≤◌, max, List, [], ◌∷◌, ◌++◌, Option, Some}
use Rattle.link_world.proofs.Common.{IfSome, length, drop, slice_get, arith, ap, refl, sym, ◌∙◌, subst, le_trans}
use Rattle.link_world.proofs.Common.{le_refl, Packet}
use Rattle.std.specs.List.{AllByRecursion as Each}
use Rattle.std.proofs.lemmas.Option.{slice_get_within}
use Rattle.link_world.proofs.law.reduced.Core.{between, End, Running, SetUp, Stored, Tagged, Numbered, set_ups, era}
use Rattle.link_world.proofs.law.reduced.Core.{count, got_in, given_in}
use Rattle.link_world.proofs.law.reduced.Core.Numbered.{Info, Super, Srej}
use Rattle.link_world.proofs.law.reduced.Core.Kind.{IsNumbered}
use Rattle.link_world.proofs.law.reduced.Core.Standing.{Up}
use Rattle.link_world.proofs.law.reduced.CoreMoves.{now, sent_number, of_end}
use Rattle.link_world.proofs.law.invariant.Mates.{of_mate, of_mate_same}
use Rattle.link_world.proofs.law.Each.{each_at}
use Rattle.link_world.proofs.law.invariant.SetUps.{at_last, length_last}
use Rattle.link_world.proofs.law.numbers.AckChain.{AckHolds, ack_next}
use Rattle.link_world.proofs.law.numbers.InfoChain.{InfosFit, InfoHolds, InfoBelow, held, infos_pushed}
use Rattle.link_world.proofs.law.numbers.InfoChain.{infos_pushed_other}
use Rattle.link_world.proofs.law.invariant.Views.{view, view_up}
use Rattle.link_world.proofs.law.invariant.Options.{if_weaker, if_both}
use Rattle.link_world.proofs.law.moves.Sending.{NumbersOfOne, both_sent, view_sent}
use Rattle.link_world.proofs.law.invariant.Upward.{acked_got_top, raise_top_keeps}
use Rattle.link_world.proofs.law.invariant.Invariant.{Carries, Keeps, WasSent, Invariant}

-- x is up
abbrev pub UpInvariant : End → End → Running → List Tagged → List Tagged → Type 0
UpInvariant x y r to_x to_y = Invariant (between (now (Up r) x) y to_x to_y)

-- what y sees, if it sees x: the mate of its set-up is the one that x has open
pub seen_of_own :
    (x : End) {y : End} {r : Running} {to_x to_y : List Tagged} → UpInvariant x y r to_x to_y
    → IfSome (view y to_y) (λ b. b.mate ≡ era x)
seen_of_own x h = h.y_hears.mates.each_other

-- x counts what it got
pub got_of_own :
    (x : End) {y : End} {r : Running} {to_x to_y : List Tagged} → UpInvariant x y r to_x to_y
    → r.vr ≡ length (got_in (set_ups (now (Up r) x)) (era x))
got_of_own x h = h.x_hears.numbers.counts

-- x sends an I or S frame whose numbers fit
pub sent_numbered_keeps :
    (x : End) {y : End} {r : Running} {n : Numbered} {to_x to_y : List Tagged}
    → Carries (set_ups (now (Up r) x)) (era x) (IsNumbered x.modulus n)
    → NumbersOfOne (view y to_y) (Some (view_up x.modulus r)) to_y (of_end x (IsNumbered x.modulus n))
    (set_ups (now (Up r) x)) x.windows
    → UpInvariant x y r to_x to_y → UpInvariant x y r to_x (to_y ++ of_end x (IsNumbered x.modulus n) ∷ [])
sent_numbered_keeps x {y} {r} {n} {to_y} carries numbers h =
    let one = h.x_hears.one_exchange in
    let other = h.y_hears.one_exchange in
    let f = of_end x (IsNumbered x.modulus n) in
    let opened : length x.ended < count (now (Up r) x) = omega (arith, length_last x.ended r.set_up) in
    rw (view_sent y to_y f refl) (both_sent (record {
      of_set_up = opened;
      current = tt;
      asks_fit = omega arith;
      answers_fit = omega arith;
      carries = carries;
      modulus = sym h.x_hears.moduli.own ∙ ap (λ (q : SetUp). q.modulus) (sym (at_last x.ended r.set_up));
      call_in = tt;
    }) numbers h)

-- a frame of y's mate has its numbers
ack_as :
    (top got : ℕ) (n : Numbered) {o : Option Numbered} → o ≡ Some n
    → AckHolds top got (Some n) × (ack_next got (Some n) ≤ got) → AckHolds top got o × (ack_next got o ≤ got)
ack_as top got n is h = rw is h

info_as :
    (vr k m : ℕ) (n : Numbered) {o : Option Numbered} → o ≡ Some n → InfoHolds vr k m (Some n) → InfoHolds vr k m o
info_as vr k m n is h = rw is h

below_as : (top : ℕ) (n : Numbered) {o : Option Numbered} → o ≡ Some n → InfoBelow top (Some n) → InfoBelow top o
below_as top n is h = rw is h

-- what x got, as y's mate
pub got_as_mate :
    (x : End) {y : End} {r : Running} {to_x to_y : List Tagged} {mate : ℕ} → UpInvariant x y r to_x to_y → mate ≡ era x
    → r.vr ≡ length (got_in (set_ups (now (Up r) x)) mate)
got_as_mate x {r} h is = got_of_own x h ∙ ap (λ t. length (got_in (set_ups (now (Up r) x)) t)) (sym is)

-- RR, RNR and REJ carry N(R) = V(R)
pub send_super_keeps :
    (x : End) {y : End} {r : Running} {to_x to_y : List Tagged}
    → UpInvariant x y r to_x to_y → UpInvariant x y r to_x (to_y ++ of_end x (IsNumbered x.modulus (Super r.vr)) ∷ [])
send_super_keeps x {y} {r} {to_y} h =
    let n : Numbered = Super r.vr in
    let f = of_end x (IsNumbered x.modulus n) in
    let xs = set_ups (now (Up r) x) in
    let own = seen_of_own x h in
    sent_numbered_keeps x tt (record {
      acks = if_weaker (view y to_y) _ _ (λ b is. let same = got_as_mate x h is in
          ack_as b.top (length (got_in xs b.mate)) n (of_mate_same f (sym is)) (omega arith, omega arith)) own;
      infos = if_weaker (view y to_y) _ _
          (λ b is c. infos_pushed_other b.mate (held b.vr b.stored) b.vr (x.windows b.modulus) to_y f
          (λ m. info_as b.vr (x.windows b.modulus) m n (of_mate_same f (sym is)) tt) c) own;
      sent = if_weaker (view y to_y) _ _ (λ b is. below_as r.top n (of_mate_same f (sym is)) tt) own;
    }) h

-- SREJ asks for a number from V(R) on, below one that is stored
pub send_srej_keeps :
    (x : End) {y : End} {r : Running} (n : ℕ) (before : List Stored) (s : Stored) (after : List Stored)
    {to_x to_y : List Tagged} → r.stored ≡ before ++ s ∷ after → r.vr ≤ n → n < s.number
    → UpInvariant x y r to_x to_y → UpInvariant x y r to_x (to_y ++ of_end x (IsNumbered x.modulus (Srej n)) ∷ [])
send_srej_keeps x {y} {r} n before s after {to_y} is low high h =
    let f = of_end x (IsNumbered x.modulus (Srej n)) in
    let xs = set_ups (now (Up r) x) in
    let own = seen_of_own x h in
    let below = if_weaker (view y to_y) _ _ (λ b w. le_trans high (lower s.number b.top (each_at _ before s after
    (subst (λ ss. Each (λ (t : Stored). t.number < b.top) ss) is w.stored)))) h.x_hears.numbers.sent in
    sent_numbered_keeps x tt (record {
      acks = if_both (view y to_y) _ _ _ (λ b is' under. let same = got_as_mate x h is' in
          ack_as b.top (length (got_in xs b.mate)) (Srej n) (of_mate_same f (sym is'))
          ((omega arith, under), le_refl (length (got_in xs b.mate)))) own below;
      infos = if_weaker (view y to_y) _ _
          (λ b is' c. infos_pushed_other b.mate (held b.vr b.stored) b.vr (x.windows b.modulus) to_y f
          (λ m. info_as b.vr (x.windows b.modulus) m (Srej n) (of_mate_same f (sym is')) tt) c) own;
      sent = if_weaker (view y to_y) _ _ (λ b is'. below_as r.top (Srej n) (of_mate_same f (sym is')) tt) own;
    }) h
  where
    lower : (a b : ℕ) → a < b → a ≤ b
    lower a b h = omega arith

-- all that is stored is below the top, and so is V(R)
held_within :
    (top vr : ℕ) (stored : List Stored) → vr ≤ top → Each (λ (s : Stored). s.number < top) stored → held vr stored ≤ top
held_within top vr [] le h = le
held_within top vr (s ∷ stored) le h =
    let rest = held_within top vr stored le h.1 in
    let here : s.number < top = h.0 in
    omega arith

-- what y counts, if both see each other, is from V(A) to the top
seen_vr :
    (x : End) {y : End} {r : Running} {to_x to_y : List Tagged} → UpInvariant x y r to_x to_y
    → IfSome (view y to_y) (λ b. (r.va ≤ b.vr) × (b.vr ≤ r.top))
seen_vr x {y} {to_y} h =
    let order = acked_got_top x h in
    let ys = set_ups y in
    if_both (view y to_y) _ _ _ (λ b counts mate.
    let same = ap (λ t. length (got_in ys t)) mate in
    (omega arith, omega arith)) h.y_hears.numbers.counts h.x_hears.mates.each_other

-- y counts in the modulus of x, if both see each other
seen_window :
    (x : End) {y : End} {r : Running} {to_x to_y : List Tagged} → UpInvariant x y r to_x to_y
    → IfSome (view y to_y) (λ b. x.window ≡ x.windows b.modulus)
seen_window x {y} {to_y} h = if_weaker (view y to_y) _ _
    (λ b is. h.x_hears.moduli.window ∙ ap x.windows (sym is)) h.y_hears.moduli.same

-- An I frame that was counted as sent goes out, the first time or again: its number is in the window, and it has its
-- packet.
pub send_info_keeps :
    (x : End) {y : End} {r : Running} (n : ℕ) (packet : Packet) {to_x to_y : List Tagged}
    → r.va ≤ n → n < r.top → slice_get r.set_up.given n ≡ Some packet → UpInvariant x y r to_x to_y
    → UpInvariant x y r to_x (to_y ++ of_end x (IsNumbered x.modulus (Info n r.vr packet)) ∷ [])
send_info_keeps x {y} {r} n packet {to_y} low high there h =
    let sent : Numbered = Info n r.vr packet in
    let f = of_end x (IsNumbered x.modulus sent) in
    let xs = set_ups (now (Up r) x) in
    let k : Keeps r x.window = h.x_hears.keeps in
    let own = seen_of_own x h in
    let carries : slice_get (given_in xs (era x)) n ≡ Some packet =
    ap (λ (q : SetUp). slice_get q.given n) (at_last x.ended r.set_up) ∙ there in
    sent_numbered_keeps x carries (record {
      acks = if_weaker (view y to_y) (λ b. b.mate ≡ era x)
          (λ b. AckHolds b.top (length (got_in xs b.mate)) (of_mate b.mate f)
          × (ack_next (length (got_in xs b.mate)) (of_mate b.mate f) ≤ length (got_in xs b.mate)))
          (λ b is. let same = got_as_mate x h is in
          ack_as b.top (length (got_in xs b.mate)) sent (of_mate_same f (sym is)) (omega arith, omega arith)) own;
      infos = if_both (view y to_y)
          (λ b. (b.mate ≡ era x) × (r.va ≤ b.vr) × (b.vr ≤ r.top) × (x.window ≡ x.windows b.modulus))
          (λ b. WasSent b to_y r.top)
          (λ b. InfosFit b.mate (held b.vr b.stored) to_y b.vr (x.windows b.modulus)
          → InfosFit b.mate (held b.vr b.stored) (to_y ++ f ∷ []) b.vr (x.windows b.modulus)) (λ b order w c.
          let window = k.window in
          let va : r.va ≤ b.vr = order.1 in
          let own : x.window ≡ x.windows b.modulus = order.3 in
          infos_pushed b.mate (held b.vr b.stored) b.vr (x.windows b.modulus) r.top to_y f
          (held_within r.top b.vr b.stored order.2 w.stored) w.under_way
          (λ m within. info_as b.vr (x.windows b.modulus) m sent (of_mate_same f (sym order.0))
          (omega arith, omega arith)) c)
          (if_both (view y to_y) (λ b. (b.mate ≡ era x) × (x.window ≡ x.windows b.modulus))
          (λ b. (r.va ≤ b.vr) × (b.vr ≤ r.top))
          (λ b. (b.mate ≡ era x) × (r.va ≤ b.vr) × (b.vr ≤ r.top) × (x.window ≡ x.windows b.modulus))
          (λ b is order. (is.0, order.0, order.1, is.1))
          (if_both (view y to_y) (λ b. b.mate ≡ era x) (λ b. x.window ≡ x.windows b.modulus)
          (λ b. (b.mate ≡ era x) × (x.window ≡ x.windows b.modulus)) (λ b is k. (is, k)) own (seen_window x h))
          (seen_vr x h)) h.y_hears.numbers.sent;
      sent = if_weaker (view y to_y) (λ b. b.mate ≡ era x) (λ b. InfoBelow r.top (of_mate b.mate f))
          (λ b is. below_as r.top sent (of_mate_same f (sym is)) high) own;
    }) h

pub get_after : (a n : ℕ) (xs : List Packet) → slice_get (drop a xs) n ≡ slice_get xs (a + n)
get_after zero n xs = ap (λ k. slice_get xs k) (omega arith)
get_after (suc a) n [] = refl
get_after (suc a) n (x ∷ xs) =
    let e : suc a + n ≡ suc (a + n) = omega arith in
    get_after a n xs ∙ ap (λ k. slice_get (x ∷ xs) k) (sym e)

-- An I frame goes out, the first time or again, with the packet that is kept for its number.
pub send_kept_keeps :
    (x : End) {y : End} {r : Running} (n : ℕ) (packet : Packet) {to_x to_y : List Tagged} → r.va ≤ n
    → n < r.va + x.window → slice_get r.kept (n - r.va) ≡ Some packet → UpInvariant x y r to_x to_y
    → UpInvariant x y (sent_number n r) to_x (to_y ++ of_end x (IsNumbered x.modulus (Info n r.vr packet)) ∷ [])
send_kept_keeps x {r} n packet low high kept h =
    let k : Keeps r x.window = h.x_hears.keeps in
    let window = k.window in
    let given = k.given in
    let place : r.va + (n - r.va) ≡ n = omega arith in
    let there = ap (λ t. slice_get r.set_up.given t) (sym place) ∙ sym (get_after r.va (n - r.va) r.set_up.given)
    ∙ ap (λ t. slice_get t (n - r.va)) (sym k.kept) ∙ kept in
    let within : n < length r.set_up.given = slice_get_within r.set_up.given n packet there in
    send_info_keeps x n packet low (omega arith) there
    (raise_top_keeps x (max r.top (n + 1)) (omega arith) (omega arith) (omega arith) h)
