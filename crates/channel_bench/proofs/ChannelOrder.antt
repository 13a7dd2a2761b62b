-- A channel sends the frames that wait in their order: a tick that names a frame as sent takes the front one. This
-- holds of frames of any length, since the check sequence of a frame alone is longer than a tick.
use Rattle.channel_bench.proofs.Common.{◌≡◌, ℕ, suc, ◌+◌, ◌-◌, ◌*◌, ◌<◌, ◌≤◌, ◌⊎◌, ◌&&◌, nat_lt, nat_le}
use Rattle.channel_bench.proofs.Common.{not, inl, inr}
use Rattle.channel_bench.proofs.Common.{Bool, true, false, ℤ, pos, List, [], ◌∷◌, ◌++◌, length, map, replicate}
use Rattle.channel_bench.proofs.Common.{drop, cond, Option, Some, None, is_none, refl, sym, ap, ◌∙◌, subst, arith}
use Rattle.channel_bench.proofs.Common.{length-append, length-drop, length-replicate, length-take, leb-true, leb-false}
use Rattle.channel_bench.proofs.Common.{lt-ltb, Sent, Channel, air_samples, air_waiting, after_rules, decision}
use Rattle.channel_bench.proofs.Common.{with_decision, OnAir, bits_then, decided, names_next, samples_on_air}
use Rattle.channel_bench.proofs.Common.{tick_samples, WaitingFrame, line}
use Rattle.std.proofs.Common.{slice_index_or, append_assoc, append-nil}
use Rattle.std.proofs.Math.Seq.{get_or-append_seam}
use Rattle.std.proofs.lemmas.Bool.{and_right, le-leb, lt-leb, le-ltb}
use Rattle.hdlc_framer.specs.Body.{flags}
use Rattle.channel_access.specs.Channel.{air_after, air_sent, after_tick, air_tick, begun}
use Rattle.channel_access.specs.OnAir.{bits_of, flag_end, followed_by, frame_named, frames_end, has_sent_frames}
use Rattle.channel_access.specs.OnAir.{most_frames, waiting_after, waiting_with_named, with_named, with_tick}
use Rattle.tone_table.specs.declared.tone.Tone.TheVariants.{Mark}
use Rattle.nrzi_bits.proofs.LineLemmas.{length-line_from}
use Rattle.channel_access.specs.Modem.{bits_of_ticks, body_by, piece, samples_of_bits, tick_bits}
use Rattle.channel_access.specs.declared.modem.Modem.{Modem}
use Rattle.channel_access.proofs.ModemLemmas.{bits_of_ticks-more, bits_of_ticks-none, tick_bits-most}
use Rattle.channel_access.proofs.ModemLemmas.{samples_of_bits-fewer, samples_of_bits-tick, samples_of_bits-ticks}
use Rattle.channel_access.proofs.ModemLemmas.{length-modem_wave}
use Rattle.channel_access.proofs.TickLemmas.{modem-decided}
use Rattle.channel_access.proofs.AirLemmas.{samples_on_air-is, ticks-decided}
use Rattle.channel_access.proofs.BodyLemmas.{body-single, piece-some}
use Rattle.channel_access.proofs.WholeLemmas.{decided_adds}
use Rattle.channel_access.proofs.StageLemmas.{flag_end-last, frames_end-next}

abbrev pub octets_of : WaitingFrame → List ℕ
octets_of frame = frame.octets

-- the octets of a frame that is sent
abbrev pub sent_octets : Option Sent → List (List ℕ)
sent_octets None = []
sent_octets (Some sent) = sent.octets ∷ []

-- ---- a transmission, and the frames that wait

-- Of the frames that are decided these are not named as sent yet: two at most, and none only after the last one and
-- before the first is decided.
abbrev pub MayBe : OnAir → List (List ℕ) → Type 0
MayBe t [] = (t.ends ≡ true) ⊎ (t.frames ≡ [])
MayBe t (front ∷ []) = Unit {0}
MayBe t (front ∷ next ∷ []) = bits_of_ticks t.modem t.ticks < flag_end (t.named + 1) t
MayBe t (front ∷ next ∷ other ∷ more) = ⊥

pub record AirParts (t : OnAir) (waiting : List WaitingFrame) : Type 0 where
  pub past : List (List ℕ)
  pub unsent : List (List ℕ)
  pub rest : List (List ℕ)
  pub frames : t.frames ≡ past ++ unsent
  pub named : t.named ≡ length past
  pub waits : map octets_of waiting ≡ unsent ++ rest
  pub may_be : MayBe t unsent

-- and the bits of its ticks are decided
pub record AirFits (t : OnAir) (waiting : List WaitingFrame) : Type 0 where
  pub parts : AirParts t waiting
  pub long : bits_of_ticks t.modem t.ticks ≤ length (bits_of t)

abbrev pub Fits : Option OnAir → List WaitingFrame → Type 0
Fits None waiting = Unit {0}
Fits (Some t) waiting = AirFits t waiting

-- a frame joins those that wait
pub fits_more : (air : Option OnAir) (waiting more : List WaitingFrame) (octets : List (List ℕ))
    → map octets_of more ≡ map octets_of waiting ++ octets → Fits air waiting → Fits air more
fits_more None waiting more octets is h = tt
fits_more (Some t) waiting more octets is h =
    let p = h.parts in
    record {
      parts = record {
        past = p.past;
        unsent = p.unsent;
        rest = p.rest ++ octets;
        frames = p.frames;
        named = p.named;
        waits = is ∙ ap (λ xs. xs ++ octets) p.waits ∙ append_assoc p.unsent p.rest octets;
        may_be = p.may_be;
      };
      long = h.long;
    }

-- ---- what a tick takes

-- what it sends is the front of what waits, and the transmission after it fits
pub record Sends (waiting : List WaitingFrame) (sent : Option Sent) (air : Option OnAir)
    (after : List WaitingFrame) : Type 0 where
  pub order : map octets_of waiting ≡ sent_octets sent ++ map octets_of after
  pub fits : Fits air after
  pub soon : (s : Sent) → sent ≡ Some s → s.after ≤ 96

-- with the next tick
ticked_fits : (t : OnAir) (waiting : List WaitingFrame) → AirParts (record t { ticks = t.ticks + 1 }) waiting
    → Fits (with_tick t) waiting
unfolding bits_of
ticked_fits t waiting h = go (nat_le (length (bits_of t)) (bits_then t)) refl
  where
    go : (b : Bool) → nat_le (length (bits_of t)) (bits_then t) ≡ b
        → Fits (cond b None (Some (record t { ticks = t.ticks + 1 }))) waiting
    go true is = tt
    go false is = record {
      parts = h;
      long = let more = leb-false (length (bits_of t)) (bits_then t) is in omega
          (arith, more);
    }

-- the flag after the front one of the frames ends, or it does not
named_or_not :
    (t : OnAir) (waiting : List WaitingFrame) (past rest : List (List ℕ)) (front : List ℕ) (others : List (List ℕ))
    → t.frames ≡ past ++ front ∷ others → t.named ≡ length past → map octets_of waiting ≡ (front ∷ others) ++ rest
    → (flag_end (t.named + 1) t ≤ bits_then t → MayBe (record t { named = t.named + 1; ticks = t.ticks + 1 }) others)
    → (bits_then t < flag_end (t.named + 1) t → MayBe (record t { ticks = t.ticks + 1 }) (front ∷ others))
    → Sends waiting (frame_named (bits_then t) t) (with_tick (with_named (bits_then t) t))
    (waiting_with_named (bits_then t) t waiting)
named_or_not t waiting past rest front others frames named waits if_named if_not =
    go (names_next (bits_then t) t) refl
  where
    size : length t.frames ≡ length past + suc (length others)
    size = ap length frames ∙ length-append past (front ∷ others)

    below : nat_lt t.named (length t.frames) ≡ true
    below = let less : t.named < length t.frames = omega (arith, size, named) in lt-ltb t.named (length t.frames) less

    when : (b : Bool) → names_next (bits_then t) t ≡ b → nat_le (flag_end (t.named + 1) t) (bits_then t) ≡ b
    when b is = sym (ap (λ x. x && nat_le (flag_end (t.named + 1) t) (bits_then t)) below) ∙ is

    go : (b : Bool) → names_next (bits_then t) t ≡ b
        → Sends waiting
        (cond b (Some (let s : Sent = record {
          octets = slice_index_or t.frames t.named [];
          after = samples_of_bits t.modem (flag_end (t.named + 1) t - bits_of_ticks t.modem t.ticks);
        } in s)) None)
        (with_tick (cond b (record t { named = t.named + 1 }) t)) (cond b (drop 1 waiting) waiting)
    go true is =
        let ended : flag_end (t.named + 1) t ≤ bits_then t = leb-true (flag_end (t.named + 1) t) (bits_then t)
        (when true is) in
        let read : slice_index_or t.frames t.named [] ≡ front =
        ap (λ xs. slice_index_or xs t.named []) frames ∙ ap (λ n. slice_index_or (past ++ front ∷ others) n []) named
        ∙ get_or-append_seam past front others [] in
        let following : map octets_of (drop 1 waiting) ≡ others ++ rest = dropped waiting waits in
        record {
          order = waits ∙ ap (λ x. x ∷ (others ++ rest)) (sym read)
              ∙ ap (λ xs. slice_index_or t.frames t.named [] ∷ xs) (sym following);
          fits = ticked_fits (record t { named = t.named + 1 }) (drop 1 waiting) (record {
            past = past ++ front ∷ [];
            unsent = others;
            rest = rest;
            frames = frames ∙ sym (append_assoc past (front ∷ []) others);
            named = ap (λ n. n + 1) named ∙ sym (length-append past (front ∷ []));
            waits = following;
            may_be = if_named ended;
          });
          soon = λ s same.
              let few : ℕ = flag_end (t.named + 1) t - bits_of_ticks t.modem t.ticks in
              let e : samples_of_bits t.modem few ≡ s.after = cc in
              let within : few ≤ tick_bits t.modem = omega (arith, ended, bits_of_ticks-more t.modem t.ticks) in
              omega (arith, e, samples_of_bits-fewer t.modem few (tick_bits t.modem) within, samples_of_bits-tick t.modem);
        }
      where
        dropped : (ws : List WaitingFrame) → map octets_of ws ≡ front ∷ (others ++ rest)
            → map octets_of (drop 1 ws) ≡ others ++ rest
        dropped [] same = absurd (cc)
        dropped (w ∷ ws) same = cc
    go false is =
        let later = leb-false (flag_end (t.named + 1) t) (bits_then t) (when false is) in
        record {
          order = refl;
          fits = ticked_fits t waiting (record {
            past = past;
            unsent = front ∷ others;
            rest = rest;
            frames = frames;
            named = named;
            waits = waits;
            may_be = if_not (omega (arith, later));
          });
          soon = λ s same. absurd (cc);
        }

abbrev SendsAt : ℕ → List WaitingFrame → OnAir → Type 0
SendsAt bits waiting t =
    Sends waiting (frame_named bits t) (with_tick (with_named bits t)) (waiting_with_named bits t waiting)

abbrev AirSends : List WaitingFrame → OnAir → Type 0
AirSends waiting t = SendsAt (bits_then t) waiting t

-- one frame is not named yet, and it is the last
last_sends :
    (t : OnAir) (waiting : List WaitingFrame) (past rest : List (List ℕ)) (front : List ℕ)
    → t.frames ≡ past ++ front ∷ []
    → t.named ≡ length past → map octets_of waiting ≡ (front ∷ []) ++ rest
    → (frames_end t ≤ bits_then t → t.ends ≡ true)
    → AirSends waiting t
last_sends t waiting past rest front frames named waits ends =
    let flag = flag_end-last t past front frames named in
    named_or_not t waiting past rest front [] frames named waits
    (λ ended. inl (ends (omega (arith, flag, ended)))) (λ later. tt)

-- two are not
two_send :
    (t : OnAir) (waiting : List WaitingFrame) (past rest : List (List ℕ)) (front next : List ℕ)
    → t.frames ≡ past ++ front ∷ next ∷ []
    → t.named ≡ length past → map octets_of waiting ≡ (front ∷ next ∷ []) ++ rest → AirSends waiting t
unfolding flag_end
two_send t waiting past rest front next frames named waits =
    named_or_not t waiting past rest front (next ∷ []) frames named waits (λ ended. tt) (λ later. later)

-- none is named
none_sends :
    (t : OnAir) (waiting : List WaitingFrame) → names_next (bits_then t) t ≡ false
    → AirParts (record t { ticks = t.ticks + 1 }) waiting
    → AirSends waiting t
none_sends t waiting none h =
    subst (λ b. Sends waiting
    (cond b (Some (let s : Sent = record {
      octets = slice_index_or t.frames t.named [];
      after = samples_of_bits t.modem (flag_end (t.named + 1) t - bits_of_ticks t.modem t.ticks);
    } in s)) None)
    (with_tick (cond b (record t { named = t.named + 1 }) t)) (cond b (drop 1 waiting) waiting)) (sym none)
    (record { order = refl; fits = ticked_fits t waiting h; soon = λ s same. absurd (cc) })

ended_is : (ends sent : Bool) → (not ends && sent) ≡ false → sent ≡ true → ends ≡ true
ended_is true sent is all = refl
ended_is false true is all = absurd (cc)
ended_is false false is all = absurd (cc)

-- the frames that wait, with the front one and the next
front_and_next :
    (waiting : List WaitingFrame) (v : WaitingFrame) (vs : List WaitingFrame) (front : List ℕ) (rest : List (List ℕ))
    → drop 1 waiting ≡ v ∷ vs → map octets_of waiting ≡ front ∷ rest
    → map octets_of waiting ≡ front ∷ v.octets ∷ map octets_of vs
front_and_next [] v vs front rest following is = absurd (cc)
front_and_next (w ∷ ws) v vs front rest following is =
    let first : w.octets ≡ front = cc in
    ap (λ x. x ∷ map octets_of ws) first ∙ ap (λ xs. front ∷ map octets_of xs) following

-- the last frame is sent, and it is decided what follows it
followed_sends :
    (t : OnAir) (waiting following : List WaitingFrame) (past rest : List (List ℕ)) (front : List ℕ)
    → drop 1 waiting ≡ following
    → t.frames ≡ past ++ front ∷ [] → t.named ≡ length past → map octets_of waiting ≡ (front ∷ []) ++ rest
    → AirSends waiting (followed_by following t)
followed_sends t waiting [] past rest front same frames named waits =
    last_sends (record t { ends = true }) waiting past rest front frames named waits (λ ended. refl)
followed_sends t waiting (v ∷ vs) past rest front same frames named waits = go (nat_lt (length t.frames) most_frames)
  where
    go : (b : Bool) → AirSends waiting (cond b (record t { frames = t.frames ++ v.octets ∷ [] })
        (record t { ends = true }))
    go true =
        two_send (record t { frames = t.frames ++ v.octets ∷ [] }) waiting past (map octets_of vs) front v.octets
        (ap (λ fs. fs ++ v.octets ∷ []) frames ∙ append_assoc past (front ∷ []) (v.octets ∷ [])) named
        (front_and_next waiting v vs front rest same waits)
    go false = last_sends (record t { ends = true }) waiting past rest front frames named waits (λ ended. refl)

-- the first frame comes after the opening flags
opening_alone : (modem : Modem) (opening : ℕ) → length (body_by modem [] opening 0) ≡ length (flags opening)
unfolding body_by
opening_alone modem opening = ap length (append-nil (flags opening))

first_end : (t : OnAir) (octets : List ℕ) → t.frames ≡ []
    → frames_end (record t { frames = t.frames ++ octets ∷ [] }) ≡ frames_end t + length (piece t.modem octets)
unfolding frames_end
first_end t octets none =
    let opening : length (body_by t.modem t.frames t.opening 0) ≡ length (flags t.opening) =
    ap (λ fs. length (body_by t.modem fs t.opening 0)) none ∙ opening_alone t.modem t.opening in
    ap (λ fs. length (body_by t.modem (fs ++ octets ∷ []) t.opening 0)) none
    ∙ ap length (body-single t.modem octets t.opening)
    ∙ length-append (flags t.opening) (piece t.modem octets)
    ∙ ap (λ n. n + length (piece t.modem octets)) (sym opening)

open_if : (ends sent : Bool) → (not ends && sent) ≡ true → ends ≡ false
open_if true sent is = absurd (cc)
open_if false sent is = refl

-- while nothing ends it, what is decided of it are its frames
open_long : (t : OnAir) → t.ends ≡ false → length (bits_of t) ≡ frames_end t
unfolding bits_of frames_end
open_long t goes = ap (λ b. length (body_by t.modem t.frames t.opening (cond b t.closing 0))) goes

-- no frame is decided yet, and the opening flags are sent: these wait
opened_sends :
    (t : OnAir) (waiting others : List WaitingFrame) → waiting ≡ others → t.frames ≡ [] → t.named ≡ 0
    → bits_of_ticks t.modem t.ticks ≤ frames_end t → AirSends waiting (followed_by others t)
opened_sends t waiting others same none named long = by_others others same
  where
    ended : AirSends waiting (record t { ends = true })
    ended =
        let size : length t.frames ≡ 0 = ap length none in
        let all : nat_lt t.named (length t.frames) ≡ false =
        le-ltb t.named (length t.frames) (omega (arith, size)) in
        none_sends (record t { ends = true }) waiting
        (ap (λ b. b && nat_le (flag_end (t.named + 1) (record t { ends = true })) (bits_then t)) all) (record {
          past = [];
          unsent = [];
          rest = map octets_of waiting;
          frames = none;
          named = named;
          waits = refl;
          may_be = inl refl;
        })

    by_others : (ws : List WaitingFrame) → waiting ≡ ws → AirSends waiting (followed_by ws t)
    by_others [] is = ended
    by_others (v ∷ vs) is = go (nat_lt (length t.frames) most_frames)
      where
        go : (b : Bool) → AirSends waiting (cond b (record t { frames = t.frames ++ v.octets ∷ [] })
            (record t { ends = true }))
        go true =
            last_sends (record t { frames = t.frames ++ v.octets ∷ [] }) waiting [] (map octets_of vs) v.octets
            (ap (λ fs. fs ++ v.octets ∷ []) none) named (ap (map octets_of) is)
            (λ sent. let end = first_end t v.octets none in
            let longer = piece-some t.modem v.octets in
            let more = bits_of_ticks-more t.modem t.ticks in
            let most = tick_bits-most t.modem in
            absurd (omega (arith, end, longer, long, sent, more, most)))
        go false = ended

-- what is decided, and then named
decided_sends : (t : OnAir) (waiting : List WaitingFrame) → AirFits t waiting
    → AirSends waiting (decided (bits_then t) waiting t)
decided_sends t waiting fits = by_unsent h.unsent h.frames h.waits h.may_be
  where
    h : AirParts t waiting
    h = fits.parts

    -- whether the opening flags or the last frame are sent
    by_end : (b : Bool) → has_sent_frames (bits_then t) t ≡ b
        → decided (bits_then t) waiting t ≡ cond b (followed_by (waiting_after t waiting) t) t
    by_end b is = ap (λ x. cond x (followed_by (waiting_after t waiting) t) t) is

    -- those that wait after so many frames that are not named
    after_those : (count : ℕ) → length t.frames ≡ t.named + count → drop count waiting ≡ waiting_after t waiting
    after_those count size =
        let left : count ≡ length t.frames - t.named = omega (arith, size) in ap (λ n. drop n waiting) left

    -- no frame is left to be named, and none is decided
    stays :
        t.frames ≡ h.past ++ [] → map octets_of waiting ≡ h.rest → (t.ends ≡ true) ⊎ (t.frames ≡ [])
        → has_sent_frames (bits_then t) t ≡ false → AirSends waiting (decided (bits_then t) waiting t)
    stays frames waits may goes =
        let size : length t.frames ≡ t.named = ap length (frames ∙ append-nil h.past) ∙ sym h.named in
        let all : nat_lt t.named (length t.frames) ≡ false = le-ltb t.named (length t.frames) (omega (arith, size)) in
        let none : names_next (bits_then t) t ≡ false = ap
        (λ b. b && nat_le (flag_end (t.named + 1) t) (bits_then t)) all in
        subst (AirSends waiting) (sym (by_end false goes)) (none_sends t waiting none (record {
          past = h.past;
          unsent = [];
          rest = h.rest;
          frames = frames;
          named = h.named;
          waits = waits;
          may_be = may;
        }))

    by_unsent : (unsent : List (List ℕ)) → t.frames ≡ h.past ++ unsent → map octets_of waiting ≡ unsent ++ h.rest
        → MayBe t unsent
        → AirSends waiting (decided (bits_then t) waiting t)
    by_unsent [] frames waits (inl ends) =
        stays frames waits (inl ends) (ap (λ e. not e && nat_le (frames_end t) (bits_then t)) ends)
    by_unsent [] frames waits (inr none) = go (has_sent_frames (bits_then t) t) refl
      where
        go : (b : Bool) → has_sent_frames (bits_then t) t ≡ b → AirSends waiting (decided (bits_then t) waiting t)
        go true is =
            let size : length t.frames ≡ 0 = ap length none in
            let named : t.named ≡ length t.frames = h.named ∙ sym (ap length (frames ∙ append-nil h.past)) in
            let open_still : t.ends ≡ false = open_if t.ends (nat_le (frames_end t) (bits_then t)) is in
            let long = fits.long in
            let all = open_long t open_still in
            subst (AirSends waiting) (sym (by_end true is))
            (opened_sends t waiting (waiting_after t waiting) (after_those 0 (omega (arith, size, named))) none
            (omega (arith, size, named)) (omega (arith, long, all)))
        go false is = stays frames waits (inr none) is
    by_unsent (front ∷ []) frames waits one = go (has_sent_frames (bits_then t) t) refl
      where
        go : (b : Bool) → has_sent_frames (bits_then t) t ≡ b → AirSends waiting (decided (bits_then t) waiting t)
        go true is =
            let size : length t.frames ≡ t.named + 1 = ap length frames ∙ length-append h.past (front ∷ [])
            ∙ ap (λ n. n + 1) (sym h.named) in
            subst (AirSends waiting) (sym (by_end true is))
            (followed_sends t waiting (waiting_after t waiting) h.past h.rest front (after_those 1 size) frames h.named
            waits)
        go false is =
            subst (AirSends waiting) (sym (by_end false is))
            (last_sends t waiting h.past h.rest front frames h.named waits
            (λ ended. ended_is t.ends (nat_le (frames_end t) (bits_then t)) is
            (le-leb (frames_end t) (bits_then t) ended)))
    by_unsent (front ∷ next ∷ []) frames waits later =
        let pushed : t.frames ≡ (h.past ++ front ∷ []) ++ next ∷ [] = frames
        ∙ sym (append_assoc h.past (front ∷ []) (next ∷ [])) in
        let end = frames_end-next t h.past front next pushed h.named in
        let long = piece-some t.modem next in
        let goes : has_sent_frames (bits_then t) t ≡ false =
        and_right (not t.ends) (nat_le (frames_end t) (bits_then t))
        (lt-leb (frames_end t) (bits_then t)
        (omega (arith, end, long, later, bits_of_ticks-more t.modem t.ticks, tick_bits-most t.modem))) in
        subst (AirSends waiting) (sym (by_end false goes))
        (two_send t waiting h.past h.rest front next frames h.named waits)
    by_unsent (front ∷ next ∷ other ∷ more) frames waits never = absurd never

same_bits : (t : OnAir) (waiting : List WaitingFrame) → bits_then (decided (bits_then t) waiting t) ≡ bits_then t
same_bits t waiting = go (has_sent_frames (bits_then t) t)
  where
    by_next : (following : List WaitingFrame) → bits_then (followed_by following t) ≡ bits_then t
    by_next [] = refl
    by_next (v ∷ vs) = by_room (nat_lt (length t.frames) most_frames)
      where
        by_room : (b : Bool) → bits_then (cond b (record t { frames = t.frames ++ v.octets ∷ [] })
            (record t { ends = true })) ≡ bits_then t
        by_room true = refl
        by_room false = refl

    go : (b : Bool) → bits_then (cond b (followed_by (waiting_after t waiting) t) t) ≡ bits_then t
    go true = by_next (waiting_after t waiting)
    go false = refl

air_sends : (air : Option OnAir) (waiting : List WaitingFrame) → Fits air waiting
    → Sends waiting (air_sent waiting air) (air_after waiting air) (air_waiting waiting air)
air_sends None waiting h = record { order = refl; fits = tt; soon = λ s same. absurd (cc) }
air_sends (Some t) waiting h =
    subst (λ bits. SendsAt bits waiting (decided (bits_then t) waiting t)) (same_bits t waiting)
    (decided_sends t waiting h)

-- a tick has 96 samples
length-samples_on_air : (t : OnAir) → length (samples_on_air t) ≡ samples_of_bits t.modem (length (bits_of t))
length-samples_on_air t =
    ap length (samples_on_air-is t) ∙ length-modem_wave t.modem (line (bits_of t))
    ∙ ap (samples_of_bits t.modem) (length-line_from Mark (bits_of t))

length-tick : (t : OnAir) → bits_of_ticks t.modem t.ticks ≤ length (bits_of t) → length (tick_samples t) ≡ 96
unfolding tick_samples
length-tick t long =
    let quiet : List ℤ = replicate 96 (pos 0) in
    let all = samples_on_air t ++ quiet in
    omega (
      arith,
      samples_of_bits-fewer t.modem (bits_of_ticks t.modem t.ticks) (length (bits_of t)) long,
      samples_of_bits-ticks t.modem t.ticks,
      length-samples_on_air t,
      length-append (samples_on_air t) quiet,
      length-replicate 96 (pos 0),
      length-drop (96 * t.ticks) all,
      length-take 96 (drop (96 * t.ticks) all),
    )

air_long : (air : Option OnAir) (waiting : List WaitingFrame) → Fits air waiting → length (air_samples waiting air) ≡ 96
air_long None waiting h = length-replicate 96 (pos 0)
air_long (Some t) waiting h =
    let d = decided (bits_then t) waiting t in
    let adds = decided_adds (bits_then t) waiting t in
    let same : bits_of_ticks d.modem d.ticks ≡ bits_of_ticks t.modem t.ticks =
    ap (bits_of_ticks d.modem) (ticks-decided (bits_then t) waiting t)
    ∙ ap (λ modem. bits_of_ticks modem t.ticks) (modem-decided (bits_then t) waiting t) in
    let size = ap length adds.1 ∙ length-append (bits_of t) adds.0 in
    let long : bits_of_ticks d.modem d.ticks ≤ length (bits_of d) = omega (arith, same, size, h.long) in
    length-tick d long

-- ---- a tick of the channel

-- a transmission begins with its opening flags
begun_fits : (busy wants : Bool) (channel : Channel)
    → Fits (with_decision (decision busy wants channel) channel).air channel.waiting
begun_fits busy wants channel = go (decision busy wants channel).begins
  where
    go : (b : Bool) → Fits (cond b (Some (begun channel)) None) channel.waiting
    go true = record {
      parts = record {
        past = [];
        unsent = [];
        rest = map octets_of channel.waiting;
        frames = refl;
        named = refl;
        waits = refl;
        may_be = inr refl;
      };
      long = omega (arith, bits_of_ticks-none channel.modem);
    }
    go false = tt

rules_fit : (busy wants : Bool) (channel : Channel) → Fits channel.air channel.waiting
    → Fits (after_rules busy wants channel).air channel.waiting
rules_fit busy wants channel h = go (is_none channel.air)
  where
    go : (b : Bool)
        → Fits (cond b (with_decision (decision busy wants channel) channel) channel).air channel.waiting
    go true = begun_fits busy wants channel
    go false = h

pub rules_wait : (busy wants : Bool) (channel : Channel)
    → (after_rules busy wants channel).waiting ≡ channel.waiting
rules_wait busy wants channel = go (is_none channel.air)
  where
    go : (b : Bool) → (cond b (with_decision (decision busy wants channel) channel) channel).waiting ≡ channel.waiting
    go true = refl
    go false = refl

pub tick_sends :
    (busy wants : Bool) (channel : Channel) → Fits channel.air channel.waiting
    → Sends channel.waiting (air_tick busy wants channel).sent (after_tick busy wants channel).air
    (after_tick busy wants channel).waiting
tick_sends busy wants channel h =
    let now = after_rules busy wants channel in
    subst (λ ws. Sends ws (air_sent now.waiting now.air) (air_after now.waiting now.air)
    (air_waiting now.waiting now.air)) (rules_wait busy wants channel)
    (air_sends now.air now.waiting
    (subst (Fits now.air) (sym (rules_wait busy wants channel)) (rules_fit busy wants channel h)))

pub tick_long :
    (busy wants : Bool) (channel : Channel) → Fits channel.air channel.waiting
    → length (air_tick busy wants channel).samples ≡ 96
tick_long busy wants channel h =
    let now = after_rules busy wants channel in
    air_long now.air now.waiting
    (subst (Fits now.air) (sym (rules_wait busy wants channel)) (rules_fit busy wants channel h))
