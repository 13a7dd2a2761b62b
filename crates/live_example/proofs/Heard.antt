-- In the worked run the frames of the link are heard in order and once, each queued before: what the law of two live runs
-- asks of them. The I frame that A queued first is heard by nobody, and the third station's SABM is none of the link.
use Rattle.station_laws.proofs.Common.{All, AllPairs, slice_get, arith, get_or, sym, ◌∙◌, subst, ap, false≢true}
use Rattle.station_laws.proofs.Common.{All-from_recursion, All-contains_itself, reading, Callsign, End, A, B, call_of_text}
use Rattle.station_laws.proofs.Common.{frame_octets, ticking_links, StationState, Step, Pair, RiseBoth, AreAlikeButForH}
use Rattle.station_laws.proofs.Common.{HearsLinkFrame, HearsFrameOf, IsHeardPair, HasPair, AreHeardInOrder, IsOffAir, ⊤}
use Rattle.station_laws.proofs.Common.{is_from_to}
use Rattle.std.specs.Prelude.{◌≡◌, ◌≢◌, ℕ, zero, suc, ◌+◌, ◌<◌, true, false, Contains, List, [], ◌∷◌, ◌++◌, length, Some}
use Rattle.std.specs.Prelude.{None, refl}
use Rattle.std.specs.List.{AllByRecursion as Each}
use Rattle.std.proofs.lemmas.List.Kept.{AllPairs-cons}
use Rattle.channel_access.specs.OnAir.{bits_of, flag_end, frames_end}
use Rattle.hdlc_framer.specs.BitOrder.{octet_bits}
use Rattle.channel_access.specs.Modem.{body_by, piece}
use Rattle.hdlc_framer.specs.CheckSequence.{fcs_of}
use Rattle.hdlc_framer.specs.Frames.{frame_bits, with_fcs}
use Rattle.link_machine.specs.Step.{step as link_turn}
use Rattle.selective_reject.specs.Numbers.{ahead}
use Rattle.selective_reject.specs.Places.{missing}
use Rattle.station.specs.Asking.{first_wanting}
use Rattle.live_example.proofs.Frames.{aaaa, bbbb, answer_to_a, answer_to_b, begins_answer_to_a, begins_answer_to_b}
use Rattle.live_example.proofs.Frames.{begins_to_a, begins_to_b, disc, info_again, info_b, last_ua, sabm, third, to_a, to_b, ua}
use Rattle.live_example.proofs.Acts.{a_calls, a_gives, a_hears_ua, a_joins, a_registers, b_all_silent, b_gives, b_hears_sabm}
use Rattle.live_example.proofs.Acts.{b_joins, b_registers, b_ticks, next, NameNone, silent_by, ticks_of}
use Rattle.live_example.proofs.Loss.{a_hears_disc, a_hears_info, a_names_info, a_names_sabm, a_ticks, again_silent}
use Rattle.live_example.proofs.Loss.{again_tick, b_disconnects, b_hears_again, b_hears_last_ua, b_hears_third}
use Rattle.live_example.proofs.Loss.{first_silent, more_ticks, second_silent, t1_silent, t1_tick}
use Rattle.live_example.proofs.TheRun.{calls, first_steps, last_steps, pairs, steps, steps_again, steps_of_loss}

-- ---- pairs

no_pairs_rise : AllPairs RiseBoth []
no_pairs_rise = λ i j d less within. absurd (omega (arith, less, within))

three_rise : (p q r : Pair) → RiseBoth p q → RiseBoth p r → RiseBoth q r → AllPairs RiseBoth (p ∷ q ∷ r ∷ [])
three_rise p q r pq pr qr =
    AllPairs-cons RiseBoth p (q ∷ r ∷ []) (All-from_recursion (RiseBoth p) (q ∷ r ∷ []) (pq, (pr, tt)))
    (AllPairs-cons RiseBoth q (r ∷ []) (All-from_recursion (RiseBoth q) (r ∷ []) (qr, tt))
    (AllPairs-cons RiseBoth r [] (All-from_recursion (RiseBoth r) [] tt) no_pairs_rise))

same_some : (x y : Step) → Some x ≡ Some y → x ≡ y
same_some x y e = cc

a_is_not_b : A ≢ B
a_is_not_b e = cc

b_is_not_a : B ≢ A
b_is_not_a e = cc

has_itself : (ps : List Pair) (k : ℕ) (p d : Pair) → All (Contains ps) ps → k < length ps → p ≡ get_or ps k d
    → HasPair ps p.heard
has_itself ps k p d all within is = record {
  pair = p;
  contains = subst (Contains ps) (sym is) (all k d within);
  is = refl;
}

-- each of these steps, numbered from a number on, has its pair if it hears a frame of the link
abbrev HaveTheirPairs : (local remote : Callsign) → End → List Pair → ℕ → List Step → Type 0
HaveTheirPairs local remote end ps n [] = ⊤
HaveTheirPairs local remote end ps n (step ∷ rest) =
    ((octets : List ℕ) → HearsFrameOf local remote end step octets → HasPair ps n)
    × HaveTheirPairs local remote end ps (n + 1) rest

have_pairs :
    (local remote : Callsign) (end : End) (ps : List Pair) (n : ℕ) (run : List Step)
    → HaveTheirPairs local remote end ps n run → (number : ℕ) (step : Step) (octets : List ℕ)
    → slice_get run number ≡ Some step → HearsFrameOf local remote end step octets → HasPair ps (n + number)
have_pairs local remote end ps n [] h zero step octets is hears = absurd (cc)
have_pairs local remote end ps n [] h (suc number) step octets is hears = absurd (cc)
have_pairs local remote end ps n (s ∷ rest) h zero step octets is hears =
    let here : n ≡ n + 0 = omega arith in
    subst (HasPair ps) here
    (h.0 octets (subst (λ (x : Step). HearsFrameOf local remote end x octets) (sym (same_some s step is)) hears))
have_pairs local remote end ps n (s ∷ rest) h (suc number) step octets is hears =
    let next : (n + 1) + number ≡ n + suc number = omega arith in
    subst (HasPair ps) next (have_pairs local remote end ps (n + 1) rest h.1 number step octets is hears)

have_append :
    (local remote : Callsign) (end : End) (ps : List Pair) (n : ℕ) (first rest : List Step)
    → HaveTheirPairs local remote end ps n first → HaveTheirPairs local remote end ps (n + length first) rest
    → HaveTheirPairs local remote end ps n (first ++ rest)
have_append local remote end ps n [] rest h k =
    let here : n + 0 ≡ n = omega arith in subst (λ m. HaveTheirPairs local remote end ps m rest) here k
have_append local remote end ps n (s ∷ first) rest h k =
    let next : n + suc (length first) ≡ (n + 1) + length first = omega arith in (
      h.0,
      have_append local remote end ps (n + 1) first rest h.1
          (subst (λ m. HaveTheirPairs local remote end ps m rest) next k),
    )

-- steps of the clock hear nothing
abbrev HearsNothing : Step → Type 0
HearsNothing step = (octets : List ℕ) → IsOffAir step.input octets → ⊥

silent_have : (local remote : Callsign) (end : End) (ps : List Pair) (n : ℕ) (run : List Step) → Each HearsNothing run
    → HaveTheirPairs local remote end ps n run
silent_have local remote end ps n [] h = tt
silent_have local remote end ps n (s ∷ run) h =
    ((λ octets hears. absurd (h.0 octets hears.link.input)), silent_have local remote end ps (n + 1) run h.1)

ticks_silent : (end : End) (count : ℕ) (s : StationState) (silent : NameNone count s)
    → Each HearsNothing (ticks_of end count s silent)
ticks_silent end zero s silent = tt
ticks_silent end (suc count) s silent = ((λ octets off. off), ticks_silent end count (next s) silent.1)

b_silent : Each HearsNothing b_ticks
b_silent = ticks_silent B 13 b_gives.after.now (silent_by 13 b_gives.after.now b_all_silent)

a_silent : Each HearsNothing a_ticks
a_silent = ticks_silent A 13 a_gives.after.now (silent_by 13 a_gives.after.now first_silent)

more_silent : Each HearsNothing more_ticks
more_silent = ticks_silent A 12 a_names_sabm.after.now (silent_by 12 a_names_sabm.after.now second_silent)

t1_hears : Each HearsNothing t1_tick
t1_hears = ticks_silent A 1 a_names_info.after.now (silent_by 1 a_names_info.after.now t1_silent)

again_hears : Each HearsNothing again_tick
again_hears = ticks_silent A 1 a_hears_info.after.now (silent_by 1 a_hears_info.after.now again_silent)

alike_sabm : AreAlikeButForH sabm sabm
alike_sabm = record {
  len = 14;
  path_heard = to_b;
  path_sent = to_b;
  heard_begins = begins_to_b (63 ∷ []);
  sent_begins = begins_to_b (63 ∷ []);
  paths = refl;
  rest = refl;
}

alike_ua : AreAlikeButForH ua ua
alike_ua = record {
  len = 14;
  path_heard = answer_to_a;
  path_sent = answer_to_a;
  heard_begins = begins_answer_to_a (115 ∷ []);
  sent_begins = begins_answer_to_a (115 ∷ []);
  paths = refl;
  rest = refl;
}

alike_info_b : AreAlikeButForH info_b info_b
alike_info_b = record {
  len = 14;
  path_heard = to_a;
  path_sent = to_a;
  heard_begins = begins_to_a (0 ∷ 240 ∷ 105 ∷ []);
  sent_begins = begins_to_a (0 ∷ 240 ∷ 105 ∷ []);
  paths = refl;
  rest = refl;
}

alike_again : AreAlikeButForH info_again info_again
alike_again = record {
  len = 14;
  path_heard = to_b;
  path_sent = to_b;
  heard_begins = begins_to_b (48 ∷ 240 ∷ 104 ∷ []);
  sent_begins = begins_to_b (48 ∷ 240 ∷ 104 ∷ []);
  paths = refl;
  rest = refl;
}

alike_disc : AreAlikeButForH disc disc
alike_disc = record {
  len = 14;
  path_heard = to_a;
  path_sent = to_a;
  heard_begins = begins_to_a (83 ∷ []);
  sent_begins = begins_to_a (83 ∷ []);
  paths = refl;
  rest = refl;
}

alike_last_ua : AreAlikeButForH last_ua last_ua
alike_last_ua = record {
  len = 14;
  path_heard = answer_to_b;
  path_sent = answer_to_b;
  heard_begins = begins_answer_to_b (115 ∷ []);
  sent_begins = begins_answer_to_b (115 ∷ []);
  paths = refl;
  rest = refl;
}

-- ---- at B

b_hears_sabm_frame : HearsLinkFrame B b_hears_sabm sabm
unfolding reading call_of_text link_turn ahead ticking_links first_wanting frames_end flag_end bits_of body_by piece frame_bits
    with_fcs fcs_of octet_bits frame_octets missing
b_hears_sabm_frame = record { station = refl; input = refl; event = λ e. cc }

sabm_pair : IsHeardPair B steps (record { heard = 5; sent = 0 })
unfolding reading call_of_text link_turn ahead ticking_links first_wanting frames_end flag_end bits_of body_by piece frame_bits
    with_fcs fcs_of octet_bits frame_octets missing
sabm_pair = record {
  step = b_hears_sabm;
  octets = sabm;
  queued = sabm;
  there = refl;
  hears = b_hears_sabm_frame;
  before = refl;
  alike = alike_sabm;
}

b_hears_again_frame : HearsLinkFrame B b_hears_again info_again
unfolding reading call_of_text link_turn ahead ticking_links first_wanting frames_end flag_end bits_of body_by piece frame_bits
    with_fcs fcs_of octet_bits frame_octets missing
b_hears_again_frame = record { station = refl; input = refl; event = λ e. cc }

again_pair : IsHeardPair B steps (record { heard = 52; sent = 2 })
unfolding reading call_of_text link_turn ahead ticking_links first_wanting frames_end flag_end bits_of body_by piece frame_bits
    with_fcs fcs_of octet_bits frame_octets missing
again_pair = record {
  step = b_hears_again;
  octets = info_again;
  queued = info_again;
  there = refl;
  hears = b_hears_again_frame;
  before = refl;
  alike = alike_again;
}

b_hears_last_ua_frame : HearsLinkFrame B b_hears_last_ua last_ua
unfolding reading call_of_text link_turn ahead ticking_links first_wanting frames_end flag_end bits_of body_by piece frame_bits
    with_fcs fcs_of octet_bits frame_octets missing
b_hears_last_ua_frame = record { station = refl; input = refl; event = λ e. cc }

last_pair : IsHeardPair B steps (record { heard = 56; sent = 3 })
unfolding reading call_of_text link_turn ahead ticking_links first_wanting frames_end flag_end bits_of body_by piece frame_bits
    with_fcs fcs_of octet_bits frame_octets missing
last_pair = record {
  step = b_hears_last_ua;
  octets = last_ua;
  queued = last_ua;
  there = refl;
  hears = b_hears_last_ua_frame;
  before = refl;
  alike = alike_last_ua;
}

pub third_heard : HearsLinkFrame B b_hears_third third
unfolding reading call_of_text link_turn ahead ticking_links first_wanting frames_end flag_end bits_of body_by piece frame_bits
    with_fcs fcs_of octet_bits frame_octets missing
third_heard = record { station = refl; input = refl; event = λ e. cc }

-- the third station's frame is one between other calls
other_calls : (octets : List ℕ) → HearsFrameOf bbbb aaaa B b_hears_third octets → ⊥
unfolding reading call_of_text link_turn ahead ticking_links first_wanting frames_end flag_end bits_of body_by piece frame_bits
    with_fcs fcs_of octet_bits frame_octets missing
other_calls octets hears =
    let same : third ≡ octets = hears.link.input in
    let none : is_from_to aaaa bbbb third ≡ false = refl in
    false≢true (sym none ∙ ap (is_from_to aaaa bbbb) same ∙ hears.calls)

have_first_b : HaveTheirPairs bbbb aaaa B pairs.at_b 0 first_steps
unfolding reading call_of_text link_turn ahead ticking_links first_wanting frames_end flag_end bits_of body_by piece frame_bits
    with_fcs fcs_of octet_bits frame_octets missing
have_first_b = (λ octets hears. absurd (a_is_not_b hears.link.station), (λ octets hears. absurd hears.link.input, (λ octets hears. absurd (a_is_not_b hears.link.station), (λ octets hears. absurd hears.link.input, (λ octets hears. absurd (a_is_not_b hears.link.station), (λ octets hears. has_itself pairs.at_b 0 (record { heard = 5; sent = 0 }) (record { heard = 0; sent = 0 }) (All-contains_itself pairs.at_b) (omega arith) refl, (λ octets hears. absurd (a_is_not_b hears.link.station), (λ octets hears. absurd hears.link.input, (λ octets hears. absurd (a_is_not_b hears.link.station), tt)))))))))

have_last_b : HaveTheirPairs bbbb aaaa B pairs.at_b 52 last_steps
unfolding reading call_of_text link_turn ahead ticking_links first_wanting frames_end flag_end bits_of body_by piece frame_bits
    with_fcs fcs_of octet_bits frame_octets missing
have_last_b = (λ octets hears. has_itself pairs.at_b 1 (record { heard = 52; sent = 2 }) (record { heard = 0; sent = 0 }) (All-contains_itself pairs.at_b) (omega arith) refl, (λ octets hears. absurd (other_calls octets hears), (λ octets hears. absurd hears.link.input, (λ octets hears. absurd (a_is_not_b hears.link.station), (λ octets hears. has_itself pairs.at_b 2 (record { heard = 56; sent = 3 }) (record { heard = 0; sent = 0 }) (All-contains_itself pairs.at_b) (omega arith) refl, tt)))))

have_again_b : HaveTheirPairs bbbb aaaa B pairs.at_b 50 steps_again
unfolding reading call_of_text link_turn ahead ticking_links first_wanting frames_end flag_end bits_of body_by piece frame_bits
    with_fcs fcs_of octet_bits frame_octets missing
have_again_b = (
  λ octets hears. absurd (a_is_not_b hears.link.station),
  have_append bbbb aaaa B pairs.at_b 51 again_tick last_steps (silent_have bbbb aaaa B pairs.at_b 51 again_tick again_hears) have_last_b,
)

have_loss_b : HaveTheirPairs bbbb aaaa B pairs.at_b 35 steps_of_loss
unfolding reading call_of_text link_turn ahead ticking_links first_wanting frames_end flag_end bits_of body_by piece frame_bits
    with_fcs fcs_of octet_bits frame_octets missing
have_loss_b = (
  λ octets hears. absurd hears.link.input,
  have_append bbbb aaaa B pairs.at_b 36 more_ticks (a_names_info ∷ t1_tick ++ steps_again)
      (silent_have bbbb aaaa B pairs.at_b 36 more_ticks more_silent) (
        λ octets hears. absurd hears.link.input,
        have_append bbbb aaaa B pairs.at_b 49 t1_tick steps_again (silent_have bbbb aaaa B pairs.at_b 49 t1_tick t1_hears) have_again_b,
      ),
)

have_b : HaveTheirPairs bbbb aaaa B pairs.at_b 0 steps
have_b =
    have_append bbbb aaaa B pairs.at_b 0 first_steps (b_ticks ++ (a_ticks ++ steps_of_loss)) have_first_b
    (have_append bbbb aaaa B pairs.at_b 9 b_ticks (a_ticks ++ steps_of_loss) (silent_have bbbb aaaa B pairs.at_b 9 b_ticks b_silent)
    (have_append bbbb aaaa B pairs.at_b 22 a_ticks steps_of_loss (silent_have bbbb aaaa B pairs.at_b 22 a_ticks a_silent) have_loss_b))

pub heard_at_b : AreHeardInOrder bbbb aaaa B steps pairs.at_b
heard_at_b = record {
  rise = three_rise (record { heard = 5; sent = 0 }) (record { heard = 52; sent = 2 }) (record { heard = 56; sent = 3 })
      (omega arith, omega arith) (omega arith, omega arith) (omega arith, omega arith);
  each = All-from_recursion (IsHeardPair B steps) pairs.at_b (sabm_pair, (again_pair, (last_pair, tt)));
  all = λ number step octets is hears.
      let same : 0 + number ≡ number = omega arith in
      subst (HasPair pairs.at_b) same (have_pairs bbbb aaaa B pairs.at_b 0 steps have_b number step octets is hears);
}

-- ---- at A

a_hears_ua_frame : HearsLinkFrame A a_hears_ua ua
unfolding reading call_of_text link_turn ahead ticking_links first_wanting frames_end flag_end bits_of body_by piece frame_bits
    with_fcs fcs_of octet_bits frame_octets missing
a_hears_ua_frame = record { station = refl; input = refl; event = λ e. cc }

ua_pair : IsHeardPair A steps (record { heard = 6; sent = 0 })
unfolding reading call_of_text link_turn ahead ticking_links first_wanting frames_end flag_end bits_of body_by piece frame_bits
    with_fcs fcs_of octet_bits frame_octets missing
ua_pair = record {
  step = a_hears_ua;
  octets = ua;
  queued = ua;
  there = refl;
  hears = a_hears_ua_frame;
  before = refl;
  alike = alike_ua;
}

a_hears_info_frame : HearsLinkFrame A a_hears_info info_b
unfolding reading call_of_text link_turn ahead ticking_links first_wanting frames_end flag_end bits_of body_by piece frame_bits
    with_fcs fcs_of octet_bits frame_octets missing
a_hears_info_frame = record { station = refl; input = refl; event = λ e. cc }

info_pair : IsHeardPair A steps (record { heard = 50; sent = 1 })
unfolding reading call_of_text link_turn ahead ticking_links first_wanting frames_end flag_end bits_of body_by piece frame_bits
    with_fcs fcs_of octet_bits frame_octets missing
info_pair = record {
  step = a_hears_info;
  octets = info_b;
  queued = info_b;
  there = refl;
  hears = a_hears_info_frame;
  before = refl;
  alike = alike_info_b;
}

a_hears_disc_frame : HearsLinkFrame A a_hears_disc disc
unfolding reading call_of_text link_turn ahead ticking_links first_wanting frames_end flag_end bits_of body_by piece frame_bits
    with_fcs fcs_of octet_bits frame_octets missing
a_hears_disc_frame = record { station = refl; input = refl; event = λ e. cc }

disc_pair : IsHeardPair A steps (record { heard = 55; sent = 3 })
unfolding reading call_of_text link_turn ahead ticking_links first_wanting frames_end flag_end bits_of body_by piece frame_bits
    with_fcs fcs_of octet_bits frame_octets missing
disc_pair = record {
  step = a_hears_disc;
  octets = disc;
  queued = disc;
  there = refl;
  hears = a_hears_disc_frame;
  before = refl;
  alike = alike_disc;
}

have_first_a : HaveTheirPairs aaaa bbbb A pairs.at_a 0 first_steps
unfolding reading call_of_text link_turn ahead ticking_links first_wanting frames_end flag_end bits_of body_by piece frame_bits
    with_fcs fcs_of octet_bits frame_octets missing
have_first_a = (λ octets hears. absurd hears.link.input, (λ octets hears. absurd (b_is_not_a hears.link.station), (λ octets hears. absurd hears.link.input, (λ octets hears. absurd (b_is_not_a hears.link.station), (λ octets hears. absurd hears.link.input, (λ octets hears. absurd (b_is_not_a hears.link.station), (λ octets hears. has_itself pairs.at_a 0 (record { heard = 6; sent = 0 }) (record { heard = 0; sent = 0 }) (All-contains_itself pairs.at_a) (omega arith) refl, (λ octets hears. absurd (b_is_not_a hears.link.station), (λ octets hears. absurd hears.link.input, tt)))))))))

have_last_a : HaveTheirPairs aaaa bbbb A pairs.at_a 52 last_steps
unfolding reading call_of_text link_turn ahead ticking_links first_wanting frames_end flag_end bits_of body_by piece frame_bits
    with_fcs fcs_of octet_bits frame_octets missing
have_last_a = (λ octets hears. absurd (b_is_not_a hears.link.station), (λ octets hears. absurd (b_is_not_a hears.link.station), (λ octets hears. absurd (b_is_not_a hears.link.station), (λ octets hears. has_itself pairs.at_a 2 (record { heard = 55; sent = 3 }) (record { heard = 0; sent = 0 }) (All-contains_itself pairs.at_a) (omega arith) refl, (λ octets hears. absurd (b_is_not_a hears.link.station), tt)))))

have_again_a : HaveTheirPairs aaaa bbbb A pairs.at_a 50 steps_again
unfolding reading call_of_text link_turn ahead ticking_links first_wanting frames_end flag_end bits_of body_by piece frame_bits
    with_fcs fcs_of octet_bits frame_octets missing
have_again_a = (
  λ octets hears. has_itself pairs.at_a 1 (record { heard = 50; sent = 1 }) (record { heard = 0; sent = 0 }) (All-contains_itself pairs.at_a) (omega arith) refl,
  have_append aaaa bbbb A pairs.at_a 51 again_tick last_steps (silent_have aaaa bbbb A pairs.at_a 51 again_tick again_hears) have_last_a,
)

have_loss_a : HaveTheirPairs aaaa bbbb A pairs.at_a 35 steps_of_loss
unfolding reading call_of_text link_turn ahead ticking_links first_wanting frames_end flag_end bits_of body_by piece frame_bits
    with_fcs fcs_of octet_bits frame_octets missing
have_loss_a = (
  λ octets hears. absurd hears.link.input,
  have_append aaaa bbbb A pairs.at_a 36 more_ticks (a_names_info ∷ t1_tick ++ steps_again)
      (silent_have aaaa bbbb A pairs.at_a 36 more_ticks more_silent) (
        λ octets hears. absurd hears.link.input,
        have_append aaaa bbbb A pairs.at_a 49 t1_tick steps_again (silent_have aaaa bbbb A pairs.at_a 49 t1_tick t1_hears) have_again_a,
      ),
)

have_a : HaveTheirPairs aaaa bbbb A pairs.at_a 0 steps
have_a =
    have_append aaaa bbbb A pairs.at_a 0 first_steps (b_ticks ++ (a_ticks ++ steps_of_loss)) have_first_a
    (have_append aaaa bbbb A pairs.at_a 9 b_ticks (a_ticks ++ steps_of_loss) (silent_have aaaa bbbb A pairs.at_a 9 b_ticks b_silent)
    (have_append aaaa bbbb A pairs.at_a 22 a_ticks steps_of_loss (silent_have aaaa bbbb A pairs.at_a 22 a_ticks a_silent) have_loss_a))

pub heard_at_a : AreHeardInOrder aaaa bbbb A steps pairs.at_a
heard_at_a = record {
  rise = three_rise (record { heard = 6; sent = 0 }) (record { heard = 50; sent = 1 }) (record { heard = 55; sent = 3 })
      (omega arith, omega arith) (omega arith, omega arith) (omega arith, omega arith);
  each = All-from_recursion (IsHeardPair A steps) pairs.at_a (ua_pair, (info_pair, (disc_pair, tt)));
  all = λ number step octets is hears.
      let same : 0 + number ≡ number = omega arith in
      subst (HasPair pairs.at_a) same (have_pairs aaaa bbbb A pairs.at_a 0 steps have_a number step octets is hears);
}
