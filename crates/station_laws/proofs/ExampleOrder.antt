-- The worked joint run is heard in order, so that the law on any two stations speaks of it.
use Rattle.station_laws.proofs.Common.{All, AllPairs, slice_get, arith, get_or, inl, inr, sym, ◌∙◌, subst}
use Rattle.station_laws.proofs.Common.{All-from_recursion, All-contains_itself, reading, End, A, B, call_of_text}
use Rattle.station_laws.proofs.Common.{frame_octets, default_params, WindowsFit, changes_law_holds, Step, new_stations}
use Rattle.station_laws.proofs.Common.{all_stepped, LinkKeepsOrder, Pair, RiseBoth, AreAlikeButForH, HearsLinkFrame}
use Rattle.station_laws.proofs.Common.{IsHeardPair, HasPair, AreHeardInOrder}
use Rattle.std.specs.Prelude.{◌≡◌, ◌≢◌, ℕ, zero, suc, ◌<◌, Contains, List, [], ◌∷◌, length, Some, None, refl}
use Rattle.std.proofs.lemmas.List.Kept.{AllPairs-cons}
use Rattle.std.proofs.lemmas.Option.{slice_get_past}
use Rattle.link_machine.specs.Step.{step as link_turn}
use Rattle.link_machine.specs.Params.{HasWindows}
use Rattle.station_laws.proofs.JointLaw.{stations_law_holds}
use Rattle.station_laws.proofs.Examples.{sabm, disc, ua, command_path, response_path, command_begins, response_begins}
use Rattle.station_laws.proofs.Examples.{a_joins, b_joins, a_registers, b_registers, a_calls, b_hears_sabm, a_hears_ua}
use Rattle.station_laws.proofs.Examples.{a_disconnects, b_hears_disc, a_hears_ua_again, config, steps, calls, pairs}
use Rattle.station_laws.proofs.Examples.{is_run, is_quiet_run}

no_pairs_rise : AllPairs RiseBoth []
no_pairs_rise = λ i j d less within. absurd (omega (arith, less, within))

two_rise : (p q : Pair) → RiseBoth p q → AllPairs RiseBoth (p ∷ q ∷ [])
two_rise p q h =
    AllPairs-cons RiseBoth p (q ∷ []) (All-from_recursion (RiseBoth p) (q ∷ []) (h, tt))
    (AllPairs-cons RiseBoth q [] (All-from_recursion (RiseBoth q) [] tt) no_pairs_rise)

same_some : (x y : Step) → Some x ≡ Some y → x ≡ y
same_some x y e = cc

-- a step of the other station, or one that hears nothing
of_other : (hearer : End) (found step : Step) (octets : List ℕ) → found.station ≢ hearer → Some found ≡ Some step
    → HearsLinkFrame hearer step octets → ⊥
of_other hearer found step octets other is hears =
    other (subst (λ (s : Step). HearsLinkFrame hearer s octets) (sym (same_some found step is)) hears).station

a_is_not_b : A ≢ B
a_is_not_b e = cc

b_is_not_a : B ≢ A
b_is_not_a e = cc

same_sabm : AreAlikeButForH sabm sabm
same_sabm = record {
  len = 14;
  path_heard = command_path;
  path_sent = command_path;
  heard_begins = command_begins 63;
  sent_begins = command_begins 63;
  paths = refl;
  rest = refl;
}

same_disc : AreAlikeButForH disc disc
same_disc = record {
  len = 14;
  path_heard = command_path;
  path_sent = command_path;
  heard_begins = command_begins 83;
  sent_begins = command_begins 83;
  paths = refl;
  rest = refl;
}

same_ua : AreAlikeButForH ua ua
same_ua = record {
  len = 14;
  path_heard = response_path;
  path_sent = response_path;
  heard_begins = response_begins 115;
  sent_begins = response_begins 115;
  paths = refl;
  rest = refl;
}

b_hears_first : HearsLinkFrame B b_hears_sabm sabm
unfolding reading call_of_text link_turn
b_hears_first = record { station = refl; input = refl; event = λ e. cc }

b_hears_second : HearsLinkFrame B b_hears_disc disc
unfolding reading call_of_text link_turn
b_hears_second = record { station = refl; input = refl; event = λ e. cc }

first_pair : IsHeardPair B steps (record { heard = 5; sent = 0 })
unfolding reading call_of_text link_turn frame_octets
first_pair = record {
  step = b_hears_sabm;
  octets = sabm;
  queued = sabm;
  there = refl;
  hears = b_hears_first;
  before = refl;
  alike = same_sabm;
}

second_pair : IsHeardPair B steps (record { heard = 8; sent = 1 })
unfolding reading call_of_text link_turn frame_octets
second_pair = record {
  step = b_hears_disc;
  octets = disc;
  queued = disc;
  there = refl;
  hears = b_hears_second;
  before = refl;
  alike = same_disc;
}

has_itself : (ps : List Pair) (k : ℕ) (p d : Pair) → All (Contains ps) ps → k < length ps → p ≡ get_or ps k d
    → HasPair ps p.heard
has_itself ps k p d all within is = record {
  pair = p;
  contains = subst (Contains ps) (sym is) (all k d within);
  is = refl;
}

all_b : (number : ℕ) (step : Step) (octets : List ℕ) → slice_get steps number ≡ Some step → HearsLinkFrame B step octets
    → HasPair pairs.at_b number
unfolding reading call_of_text link_turn
all_b zero step octets is hears = absurd (of_other B a_joins step octets a_is_not_b is hears)
all_b (suc zero) step octets is hears =
    absurd (subst (λ (s : Step). HearsLinkFrame B s octets) (sym (same_some b_joins step is)) hears).input
all_b (suc (suc zero)) step octets is hears = absurd (of_other B a_registers step octets a_is_not_b is hears)
all_b (suc (suc (suc zero))) step octets is hears =
    absurd (subst (λ (s : Step). HearsLinkFrame B s octets) (sym (same_some b_registers step is)) hears).input
all_b (suc (suc (suc (suc zero)))) step octets is hears = absurd (of_other B a_calls step octets a_is_not_b is hears)
all_b (suc (suc (suc (suc (suc zero))))) step octets is hears =
    has_itself pairs.at_b 0 (record { heard = 5; sent = 0 }) (record { heard = 0; sent = 0 })
    (All-contains_itself pairs.at_b) (omega arith) refl
all_b (suc (suc (suc (suc (suc (suc zero)))))) step octets is hears =
    absurd (of_other B a_hears_ua step octets a_is_not_b is hears)
all_b (suc (suc (suc (suc (suc (suc (suc zero))))))) step octets is hears =
    absurd (of_other B a_disconnects step octets a_is_not_b is hears)
all_b (suc (suc (suc (suc (suc (suc (suc (suc zero)))))))) step octets is hears =
    has_itself pairs.at_b 1 (record { heard = 8; sent = 1 }) (record { heard = 0; sent = 0 })
    (All-contains_itself pairs.at_b) (omega arith) refl
all_b (suc (suc (suc (suc (suc (suc (suc (suc (suc zero))))))))) step octets is hears =
    absurd (of_other B a_hears_ua_again step octets a_is_not_b is hears)
all_b (suc (suc (suc (suc (suc (suc (suc (suc (suc (suc n)))))))))) step octets is hears =
    absurd (let none : slice_get steps (suc (suc (suc (suc (suc (suc (suc (suc (suc (suc n)))))))))) ≡ None =
    slice_get_past steps (suc (suc (suc (suc (suc (suc (suc (suc (suc (suc n)))))))))) (omega arith) in
    let clash : None ≡ Some step = sym none ∙ is in cc)

heard_at_b : AreHeardInOrder calls.b calls.a B steps pairs.at_b
heard_at_b = record {
  rise = two_rise (record { heard = 5; sent = 0 }) (record { heard = 8; sent = 1 }) (omega arith, omega arith);
  each = All-from_recursion (IsHeardPair B steps) pairs.at_b (first_pair, (second_pair, tt));
  all = λ number step octets is hears. all_b number step octets is hears.link;
}

-- ---- what A hears

a_hears_first : HearsLinkFrame A a_hears_ua ua
unfolding reading call_of_text link_turn
a_hears_first = record { station = refl; input = refl; event = λ e. cc }

a_hears_second : HearsLinkFrame A a_hears_ua_again ua
unfolding reading call_of_text link_turn
a_hears_second = record { station = refl; input = refl; event = λ e. cc }

first_answer : IsHeardPair A steps (record { heard = 6; sent = 0 })
unfolding reading call_of_text link_turn frame_octets
first_answer = record {
  step = a_hears_ua;
  octets = ua;
  queued = ua;
  there = refl;
  hears = a_hears_first;
  before = refl;
  alike = same_ua;
}

second_answer : IsHeardPair A steps (record { heard = 9; sent = 1 })
unfolding reading call_of_text link_turn frame_octets
second_answer = record {
  step = a_hears_ua_again;
  octets = ua;
  queued = ua;
  there = refl;
  hears = a_hears_second;
  before = refl;
  alike = same_ua;
}

all_a :
    (number : ℕ) (step : Step) (octets : List ℕ) → slice_get steps number ≡ Some step → HearsLinkFrame A step octets
    → HasPair pairs.at_a number
unfolding reading call_of_text link_turn
all_a zero step octets is hears = absurd (subst (λ (s : Step). HearsLinkFrame A s octets)
    (sym (same_some a_joins step is)) hears).input
all_a (suc zero) step octets is hears = absurd (of_other A b_joins step octets b_is_not_a is hears)
all_a (suc (suc zero)) step octets is hears =
    absurd (subst (λ (s : Step). HearsLinkFrame A s octets) (sym (same_some a_registers step is)) hears).input
all_a (suc (suc (suc zero))) step octets is hears = absurd (of_other A b_registers step octets b_is_not_a is hears)
all_a (suc (suc (suc (suc zero)))) step octets is hears =
    absurd (subst (λ (s : Step). HearsLinkFrame A s octets) (sym (same_some a_calls step is)) hears).input
all_a (suc (suc (suc (suc (suc zero))))) step octets is hears =
    absurd (of_other A b_hears_sabm step octets b_is_not_a is hears)
all_a (suc (suc (suc (suc (suc (suc zero)))))) step octets is hears =
    has_itself pairs.at_a 0 (record { heard = 6; sent = 0 }) (record { heard = 0; sent = 0 })
    (All-contains_itself pairs.at_a) (omega arith) refl
all_a (suc (suc (suc (suc (suc (suc (suc zero))))))) step octets is hears =
    absurd (subst (λ (s : Step). HearsLinkFrame A s octets) (sym (same_some a_disconnects step is)) hears).input
all_a (suc (suc (suc (suc (suc (suc (suc (suc zero)))))))) step octets is hears =
    absurd (of_other A b_hears_disc step octets b_is_not_a is hears)
all_a (suc (suc (suc (suc (suc (suc (suc (suc (suc zero))))))))) step octets is hears =
    has_itself pairs.at_a 1 (record { heard = 9; sent = 1 }) (record { heard = 0; sent = 0 })
    (All-contains_itself pairs.at_a) (omega arith) refl
all_a (suc (suc (suc (suc (suc (suc (suc (suc (suc (suc n)))))))))) step octets is hears =
    absurd (let none : slice_get steps (suc (suc (suc (suc (suc (suc (suc (suc (suc (suc n)))))))))) ≡ None =
    slice_get_past steps (suc (suc (suc (suc (suc (suc (suc (suc (suc (suc n)))))))))) (omega arith) in
    let clash : None ≡ Some step = sym none ∙ is in cc)

heard_at_a : AreHeardInOrder calls.a calls.b A steps pairs.at_a
heard_at_a = record {
  rise = two_rise (record { heard = 6; sent = 0 }) (record { heard = 9; sent = 1 }) (omega arith, omega arith);
  each = All-from_recursion (IsHeardPair A steps) pairs.at_a (first_answer, (second_answer, tt));
  all = λ number step octets is hears. all_a number step octets is hears.link;
}

-- ---- so the law speaks of this run

default_windows : HasWindows default_params
default_windows = ((omega arith, omega arith), (omega arith, omega arith))

pub fits : WindowsFit default_params default_params
fits = record {
  of_a = default_windows;
  of_b = default_windows;
  narrow = λ modes. elim modes [ inl e ↦ absurd (cc) | inr e ↦ absurd (cc) ];
  wide = λ modes. (omega arith, omega arith);
}

keeps_order : LinkKeepsOrder calls pairs config config steps (all_stepped steps (new_stations config 1 config 2))
keeps_order = stations_law_holds changes_law_holds config config 1 2 steps calls pairs is_run heard_at_a heard_at_b fits
    is_quiet_run
