-- The pairs that the matches of a run make: what is heard is heard in order and once, and was sent before.
use Rattle.station_laws.proofs.Common.{◌≡◌, ◌≢◌, ℕ, ◌<◌, ◌≤◌, Bool, true, false, List, [], ◌∷◌, ◌++◌, length, Option}
use Rattle.station_laws.proofs.Common.{Some, None, is_some, refl, sym, ap, ◌∙◌, subst, arith, slice_get, option_map}
use Rattle.station_laws.proofs.Common.{append-nil, append_assoc, length-append, All-from_recursion, BeginsWithPath}
use Rattle.station_laws.proofs.Common.{Path, End, A, B, other, each_weaker, each_append, IsHeardBy, IsPathOf}
use Rattle.station_laws.proofs.Common.{shown_to_hosts, Turn, AreAlikeButForH, Pair, IsOffAir, AreHeardInOrder, Moment}
use Rattle.station_laws.proofs.Common.{Callsign, Calls, call_at_end, HearsFrameOf, IsMatchedFor, AreMatchedFor}
use Rattle.station_laws.proofs.Common.{LinkFrame, OneWay, BothWays, IsMatched, hears_ask, nothing_sent}
use Rattle.station_laws.proofs.Common.{sent_by, steps_in, queueing_all, hearing_at, after_moment, Steps, Passes, Input}
use Rattle.station_laws.proofs.Common.{IsTurn, Step, at_end, queued_at, FromHost, OffAir, OfClock, LinkStep, steps_of}
use Rattle.station_laws.proofs.Common.{turn_steps, by_path_steps, is_event, pair_of, pairs_from}
use Rattle.std.specs.List.{AllByRecursion as Each}
use Rattle.std.proofs.lemmas.Option.{slice_get-map}
use Rattle.station.specs.Turn.{begin}
use Rattle.station_laws.specs.MatchedLaw.{MatchedInOrder}
use Rattle.station_laws.proofs.Framed.{framed, octets_in, octets_at, frames_at, frames_more}
use Rattle.station_laws.proofs.Growing.{heard_none_more, heard_one_more}
use Rattle.station_laws.proofs.Ways.{queued_by, front_by, front_passed, front_heard, queued_passed}

-- ---- a frame that is heard as it was sent

pub is_alike : (octets : List ℕ) (path : Path) (len : ℕ) → BeginsWithPath octets path len
    → AreAlikeButForH octets octets
is_alike octets path len begins = record {
  len = len;
  path_heard = path;
  path_sent = path;
  heard_begins = begins;
  sent_begins = begins;
  paths = refl;
  rest = refl;
}

-- what is an event of a link has a path
alike_by :
    (o : Option Path) (octets : List ℕ) (before after : Turn) → IsPathOf octets o
    → (h : IsHeardBy o octets before after)
    → by_path_steps is_some o octets before after h ≢ [] → AreAlikeButForH octets octets
alike_by None octets before after reading h some = absurd (some refl)
alike_by (Some path) octets before after reading h some = is_alike octets path reading.0 reading.1

alike_turn :
    (input : Input) (before after : Turn) (turn : IsTurn input before after) (octets : List ℕ) → IsOffAir input octets
    → turn_steps is_some input before after turn ≢ [] → AreAlikeButForH octets octets
alike_turn (FromHost event) before after turn octets off some = absurd off
alike_turn (OffAir heard) before after turn octets off some =
    subst (λ o. AreAlikeButForH o o) off
    (alike_by turn.path heard (shown_to_hosts turn.path heard turn.monitored before) turn.between turn.reading
    turn.effect some)
alike_turn (OfClock busy) before after turn octets off some = absurd off

no_event : (steps : List LinkStep) → is_event steps ≡ false → steps ≡ []
no_event [] is = refl
no_event (step ∷ steps) is = absurd (cc)

some_event : (steps : List LinkStep) → is_event steps ≡ true → steps ≢ []
some_event [] is e = absurd (cc)
some_event (step ∷ steps) is e = absurd (cc)

-- ---- one step more

not_same : (e : End) → other e ≡ e → ⊥
not_same A e = cc
not_same B e = cc

get_octets :
    (queue : List LinkFrame) (k : ℕ) (frame : LinkFrame) → slice_get queue k ≡ Some frame
    → slice_get (octets_in queue) k ≡ Some frame.octets
get_octets queue k frame is = slice_get-map (λ (f : LinkFrame). f.octets) queue k
    ∙ ap (option_map (λ (f : LinkFrame). f.octets)) is

own_more :
    (l r : Callsign) (e : End) (past : List Step) (pairs : List Pair) (way : OneWay) (step : Step) (matched : Option ℕ)
    (b : Bool) → step.station ≡ e → is_event (steps_of is_some step) ≡ b → AreHeardInOrder l r e past pairs
    → Each (λ (p : Pair). p.sent < way.front) pairs → way.queued ≡ frames_at (other e) past
    → IsMatchedFor l r step matched way
    → AreHeardInOrder l r e (past ++ step ∷ []) (pairs ++ pair_of b (length past) matched)
own_more l r e past pairs way step matched false station event order below queued is =
    subst (AreHeardInOrder l r e (past ++ step ∷ [])) (sym (append-nil pairs))
    (heard_none_more l r e past step pairs order
    (λ octets hears. hears.link.event (no_event (steps_of is_some step) event)))
own_more l r e past pairs way step None true station event order below queued is =
    subst (AreHeardInOrder l r e (past ++ step ∷ [])) (sym (append-nil pairs))
    (heard_none_more l r e past step pairs order
    (λ octets hears. is octets (subst (λ x. HearsFrameOf l r x step octets) (sym station) hears)))
own_more l r e past pairs way step (Some sent) true station event order below queued is = by_input step.input refl is
  where
    by_input : (input : Input) → step.input ≡ input → IsMatched input (Some sent) way
        → AreHeardInOrder l r e (past ++ step ∷ []) (pairs ++ pair_of true (length past) (Some sent))
    by_input (FromHost host) input_is h = absurd (cc)
    by_input (OfClock busy) input_is h = absurd (cc)
    by_input (OffAir octets) input_is h =
        let off : IsOffAir step.input octets = subst (λ i. IsOffAir i octets) (sym input_is) refl in
        let some : steps_of is_some step ≢ [] = some_event (steps_of is_some step) event in
        let there : slice_get (queued_at (other e) past) sent ≡ Some octets =
        ap (λ q. slice_get q sent) (sym (ap octets_in queued ∙ octets_at (other e) past))
        ∙ get_octets way.queued sent h.frame h.is_there ∙ ap Some h.same in
        let ahead : way.front ≤ sent = h.ahead in
        heard_one_more l r e past step pairs octets octets sent order
        (record { station = station; input = off; event = some }) there
        (alike_turn step.input (begin step.before) step.after step.turn octets off some)
        (All-from_recursion (λ (p : Pair). p.sent < sent) pairs
        (each_weaker (λ (p : Pair). p.sent < way.front) (λ (p : Pair). p.sent < sent) (λ p less. omega arith) pairs
        below))

other_more :
    (l r : Callsign) (e : End) (past : List Step) (pairs : List Pair) (step : Step) → step.station ≡ other e
    → AreHeardInOrder l r e past pairs → AreHeardInOrder l r e (past ++ step ∷ []) (pairs ++ [])
other_more l r e past pairs step station order =
    subst (AreHeardInOrder l r e (past ++ step ∷ [])) (sym (append-nil pairs))
    (heard_none_more l r e past step pairs order
    (λ octets hears. not_same e (sym station ∙ hears.link.station)))

any_more :
    (calls : Calls) (e s : End) (past : List Step) (pairs : List Pair) (ways : BothWays) (step : Step)
    (matched : Option ℕ) → step.station ≡ s
    → AreHeardInOrder (call_at_end calls e) (call_at_end calls (other e)) e past pairs
    → Each (λ (p : Pair). p.sent < (sent_by (other e) ways).front) pairs
    → (sent_by (other e) ways).queued ≡ frames_at (other e) past
    → IsMatchedFor (call_at_end calls s) (call_at_end calls (other s)) step matched (sent_by (other s) ways)
    → AreHeardInOrder (call_at_end calls e) (call_at_end calls (other e)) e (past ++ step ∷ [])
    (pairs ++ at_end e s (pair_of (is_event (steps_of is_some step)) (length past) matched))
any_more calls A A past pairs ways step matched station order below queued is =
    own_more calls.a calls.b A past pairs ways.from_b step matched (is_event (steps_of is_some step)) station refl order
    below queued is
any_more calls B B past pairs ways step matched station order below queued is =
    own_more calls.b calls.a B past pairs ways.from_a step matched (is_event (steps_of is_some step)) station refl order
    below queued is
any_more calls A B past pairs ways step matched station order below queued is =
    other_more calls.a calls.b A past pairs step station order
any_more calls B A past pairs ways step matched station order below queued is =
    other_more calls.b calls.a B past pairs step station order

-- the front lies past what was heard
pair_below :
    (b : Bool) (n : ℕ) (matched : Option ℕ) (bound : ℕ) → ((number : ℕ) → matched ≡ Some number → number < bound)
    → Each (λ (p : Pair). p.sent < bound) (pair_of b n matched)
pair_below false n matched bound less = tt
pair_below true n None bound less = tt
pair_below true n (Some number) bound less = (less number refl, tt)

fronts_more :
    (e s : End) (pairs : List Pair) (b : Bool) (n : ℕ) (matched : Option ℕ) (on : Bool) (queue : List (List ℕ))
    (ways : BothWays) → Each (λ (p : Pair). p.sent < (sent_by (other e) ways).front) pairs
    → let next = queueing_all s on queue (hearing_at s matched ways) in
    Each (λ (p : Pair). p.sent < (sent_by (other e) next).front) (pairs ++ at_end e s (pair_of b n matched))
fronts_more e s pairs b n matched on queue ways below =
    let next = queueing_all s on queue (hearing_at s matched ways) in
    let old : Each (λ (p : Pair). p.sent < (sent_by (other e) next).front) pairs =
    each_weaker (λ (p : Pair). p.sent < (sent_by (other e) ways).front)
    (λ (p : Pair). p.sent < (sent_by (other e) next).front)
    (λ p less. let more = front_by (other e) s on queue matched ways in omega arith) pairs below in
    each_append (λ (p : Pair). p.sent < (sent_by (other e) next).front) pairs (at_end e s (pair_of b n matched)) old
    (here e s)
  where
    here : (x y : End)
        → Each (λ (p : Pair). p.sent < (sent_by (other x) (queueing_all y on queue (hearing_at y matched ways))).front)
        (at_end x y (pair_of b n matched))
    here A A = pair_below b n matched _ (λ number is.
        let past = front_heard A on queue number ways in
        subst (λ m. number < (sent_by B (queueing_all A on queue (hearing_at A m ways))).front) (sym is) (omega arith))
    here B B = pair_below b n matched _ (λ number is.
        let past = front_heard B on queue number ways in
        subst (λ m. number < (sent_by A (queueing_all B on queue (hearing_at B m ways))).front) (sym is) (omega arith))
    here A B = tt
    here B A = tt

-- ---- all moments

pub queued_step :
    (e : End) (past : List Step) (ways : BothWays) (step : Step) (matched : Option ℕ)
    → (sent_by e ways).queued ≡ frames_at e past
    → (sent_by e (after_moment (Steps step matched) ways)).queued ≡ frames_at e (past ++ step ∷ [])
queued_step e past ways step matched is =
    queued_by e step.station (hears_ask step.input) step.after.out.queued matched ways
    ∙ ap (λ q. q ++ at_end e step.station (framed (hears_ask step.input) step.after.out.queued)) is
    ∙ sym (frames_more e past step)

order_from :
    (calls : Calls) (e : End) (past : List Step) (pairs : List Pair) (ways : BothWays) (moments : List Moment)
    → let l = call_at_end calls e in let r = call_at_end calls (other e) in
    AreHeardInOrder l r e past pairs → Each (λ (p : Pair). p.sent < (sent_by (other e) ways).front) pairs
    → (sent_by (other e) ways).queued ≡ frames_at (other e) past → AreMatchedFor calls moments ways
    → AreHeardInOrder l r e (past ++ steps_in moments) (pairs ++ pairs_from e (length past) moments)
order_from calls e past pairs ways [] order below queued matched =
    let l = call_at_end calls e in let r = call_at_end calls (other e) in
    subst (λ xs. AreHeardInOrder l r e xs (pairs ++ [])) (sym (append-nil past))
    (subst (AreHeardInOrder l r e past) (sym (append-nil pairs)) order)
order_from calls e past pairs ways (Passes sender under ∷ moments) order below queued matched =
    let next = after_moment (Passes sender under) ways in
    order_from calls e past pairs next moments order
    (each_weaker (λ (p : Pair). p.sent < (sent_by (other e) ways).front)
    (λ (p : Pair). p.sent < (sent_by (other e) next).front)
    (λ p less. let more = front_passed (other e) sender under ways in omega arith) pairs below)
    (queued_passed (other e) sender under ways ∙ queued) matched.1
order_from calls e past pairs ways (Steps step found ∷ moments) order below queued matched =
    let l = call_at_end calls e in let r = call_at_end calls (other e) in
    let next = after_moment (Steps step found) ways in
    let pair = at_end e step.station (pair_of (is_event (steps_of is_some step)) (length past) found) in
    let longer = past ++ step ∷ [] in
    let more : AreHeardInOrder l r e longer (pairs ++ pair) =
    any_more calls e step.station past pairs ways step found refl order below queued matched.0 in
    let lower = fronts_more e step.station pairs (is_event (steps_of is_some step)) (length past) found
    (hears_ask step.input)
    step.after.out.queued ways below in
    let all : AreHeardInOrder l r e (longer ++ steps_in moments)
    ((pairs ++ pair) ++ pairs_from e (length longer) moments) =
    order_from calls e longer (pairs ++ pair) next moments more lower
    (queued_step (other e) past ways step found queued) matched.1 in
    subst (λ xs. AreHeardInOrder l r e xs (pairs ++ pairs_from e (length past) (Steps step found ∷ moments)))
    (append_assoc past (step ∷ []) (steps_in moments))
    (subst (AreHeardInOrder l r e (longer ++ steps_in moments))
    (append_assoc pairs pair (pairs_from e (length longer) moments)
    ∙ ap (λ n. pairs ++ (pair ++ pairs_from e n moments)) (length-append past (step ∷ []))) all)

no_order : (l r : Callsign) (e : End) → AreHeardInOrder l r e [] []
no_order l r e = record {
  rise = λ i j d less within. absurd (omega arith);
  each = λ i d within. absurd (omega arith);
  all = λ number step octets is hears. absurd (cc);
}

pub matched_in_order_holds : MatchedInOrder
matched_in_order_holds moments calls matched = (
  order_from calls A [] [] nothing_sent moments (no_order calls.a calls.b A) tt refl matched,
  order_from calls B [] [] nothing_sent moments (no_order calls.b calls.a B) tt refl matched,
)
