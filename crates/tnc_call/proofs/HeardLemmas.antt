-- What comes of the host, octet by octet.
use Rattle.tnc_call.proofs.Common.{◌≡◌, ◌≢◌, ℕ, ◌^◌, ◌-◌, ◌+◌, min, true, false, List, [], ◌∷◌, ◌++◌, length, refl, ap}
use Rattle.tnc_call.proofs.Common.{subst, ◌∙◌, sym, append_assoc, append-nil, Option, Some, None, arith, length-append}
use Rattle.tnc_call.proofs.Common.{MatchOption, WrotePart, CallState, Asking, Calling, Up, CallPlan, CallRun, call_run}
use Rattle.tnc_call.proofs.Common.{is_over, state_after, printed_after, Grows, run_grows, CallEnd, Done, TooLong}
use Rattle.tnc_call.proofs.Common.{Memory, ReadFault, WriteFault, NoHost, Refused, HostLost, Broken, GaveUp}
use Rattle.tnc_call.proofs.Common.{IsPartPrinted, count_of, ClientOut, Talk, Stops, StopsBy, GoesOn, event_octets}
use Rattle.tnc_call.proofs.Common.{octets_of, HostEvent, Left, ◌<◌, take, drop, get_or, flat_map-append}
use Rattle.tnc_call.proofs.Common.{take-append-drop}
use Rattle.agwpe_client.specs.declared.call_state.CallState.TheVariants.{Done as DoneState, Refused as RefusedState}
use Rattle.agwpe_client.specs.declared.call_state.CallState.TheVariants.{Broken as BrokenState}
use Rattle.agwpe_client.proofs.StreamLemmas.{over_stays}
use Rattle.tnc_call.specs.CallEnding.{IsPrinted}
use Rattle.agwpe_client.specs.HeldCall.{StandsFor}
use Rattle.tnc_call.specs.HeldTalk.{IsAhead}
use Rattle.std.proofs.Common.{is_some}
use Rattle.std.proofs.lemmas.List.{take_more}

-- all that is printed is a part of it
pub all_is_part : (plan : CallPlan) (host before : List ℕ) (written : Option (List ℕ))
    → IsPrinted plan host before written → IsPartPrinted plan host before written
all_is_part plan host before written is =
    (printed_after plan host, [], sym (append-nil (printed_after plan host)), is)

-- with more octets it stays one
pub part_stays : (plan : CallPlan) (host more before : List ℕ) (written : Option (List ℕ))
    → IsPartPrinted plan host before written → IsPartPrinted plan (host ++ more) before written
part_stays plan host more before written part =
    let grows : Grows (call_run plan host) (call_run plan (host ++ more)) = run_grows plan host more in (
      part.0,
      part.1 ++ grows.more_printed,
      grows.printed ∙ ap (λ xs. xs ++ grows.more_printed) part.2 ∙ append_assoc part.0 part.1 grows.more_printed,
      part.3,
    )

-- a call that ended stays as it ended
pub stop_stays : (plan : CallPlan) (host more before : List ℕ) (written : Option (List ℕ)) (end : CallEnd)
    → Stops plan host before written end → Stops plan (host ++ more) before written end
stop_stays plan host more before written (Done got) stops =
    let P : CallRun → Type 0 = λ run. (run.state ≡ DoneState) × (written ≡ Some (before ++ run.printed))
    × (got ≡ count_of run.printed) in
    subst P (sym (over_stays plan host more (ap is_over stops.0))) stops
stop_stays plan host more before written TooLong stops = absurd stops
stop_stays plan host more before written Memory stops = part_stays plan host more before written stops
stop_stays plan host more before written ReadFault stops = absurd stops
stop_stays plan host more before written WriteFault stops = part_stays plan host more before written stops
stop_stays plan host more before written NoHost stops = absurd stops
stop_stays plan host more before written Refused stops =
    let P : CallRun → Type 0 = λ run. (run.state ≡ RefusedState) × (written ≡ Some (before ++ run.printed)) in
    subst P (sym (over_stays plan host more (ap is_over stops.0))) stops
stop_stays plan host more before written HostLost stops = absurd stops
stop_stays plan host more before written (Broken len) stops =
    let P : CallRun → Type 0 = λ run. (run.state ≡ BrokenState len) × (written ≡ Some (before ++ run.printed)) in
    subst P (sym (over_stays plan host more (ap is_over stops.0))) stops
stop_stays plan host more before written (GaveUp polls) stops = absurd stops

-- a state that is none of the last three
pub not_over : (state : CallState) → state ≢ DoneState → state ≢ RefusedState → ((len : ℕ) → state ≢ BrokenState len)
    → is_over state ≡ false
not_over Asking done refused broken = refl
not_over Calling done refused broken = refl
not_over Up done refused broken = refl
not_over DoneState done refused broken = absurd (done refl)
not_over RefusedState done refused broken = absurd (refused refl)
not_over (BrokenState len) done refused broken = absurd (broken len refl)

-- a first part of what was printed last
pub part_of_last : (plan : CallPlan) (host before printed last : List ℕ) (written : Option (List ℕ))
    → printed_after plan host ≡ printed ++ last → WrotePart (before ++ printed) last written
    → IsPartPrinted plan host before written
part_of_last plan host before printed last written is part = (
  printed ++ part.0,
  part.1,
  is ∙ ap (λ xs. printed ++ xs) part.2 ∙ sym (append_assoc printed part.0 part.1),
  part.3 ∙ ap Some (append_assoc before printed part.0),
)

-- counts stop at the greatest
pub counts_more : (first last : List ℕ) (count : ℕ)
    → count ≡ min (count_of first + length last) (2 ^ 64 - 1) → count ≡ count_of (first ++ last)
counts_more first last count is = omega (arith, is, length-append first last)

-- ---- one octet

-- what the octet gave is sent and printed
pub followed : (talk next : Talk) (out : ClientOut) (plan : CallPlan) (host before : List ℕ)
    (written now : Option (List ℕ)) (result : Option CallEnd) (ahead : IsAhead talk out plan host before written)
    → next.client ≡ talk.client → next.sent.items ≡ talk.sent.items ++ out.send
    → next.got ≡ min (talk.got + length out.print) (2 ^ 64 - 1)
    → now ≡ Some ((before ++ ahead.printed) ++ out.print)
    → MatchOption result (state_after plan host ≢ DoneState)
    (λ end. (end ≡ Done next.got) × (state_after plan host ≡ DoneState))
    → MatchOption result (GoesOn next plan host before now) (Stops plan host before now)
followed talk next out plan host before written now result ahead client sent got is_now done = by_result result done
  where
    printed : IsPrinted plan host before now
    printed = is_now ∙ ap Some (append_assoc before ahead.printed out.print)
        ∙ ap (λ xs. Some (before ++ xs)) (sym ahead.prints)

    count : next.got ≡ count_of (printed_after plan host)
    count = counts_more ahead.printed out.print next.got
        (got ∙ ap (λ n. min (n + length out.print) (2 ^ 64 - 1)) ahead.got) ∙ ap count_of (sym ahead.prints)

    by_result : (result : Option CallEnd)
        → MatchOption result (state_after plan host ≢ DoneState)
        (λ end. (end ≡ Done next.got) × (state_after plan host ≡ DoneState))
        → MatchOption result (GoesOn next plan host before now) (Stops plan host before now)
    by_result None not_done = record {
      client = subst (λ held. StandsFor held plan host) (sym client) ahead.client;
      going = not_over (state_after plan host) not_done ahead.not_refused ahead.not_broken;
      sent = sent ∙ sym ahead.sent;
      got = count;
      is_printed = printed;
    }
    by_result (Some end) done =
        subst (λ e. Stops plan host before now e) (sym done.0) (done.1, printed, count)

-- an octet that printed nothing
pub nothing_printed : (plan : CallPlan) (host : List ℕ) (octet : ℕ) (before : List ℕ) (written : Option (List ℕ))
    → printed_after plan (host ++ octet ∷ []) ≡ printed_after plan host ++ [] → IsPrinted plan host before written
    → IsPrinted plan (host ++ octet ∷ []) before written
nothing_printed plan host octet before written none is =
    is ∙ ap (λ xs. Some (before ++ xs)) (sym (none ∙ append-nil (printed_after plan host)))

-- ---- events in order

-- the octets of more events
pub octets_of_more : (id : ℕ) (first second : List HostEvent)
    → octets_of id (first ++ second) ≡ octets_of id first ++ octets_of id second
octets_of_more id first second = flat_map-append (event_octets id) first second

-- The first of the events were taken, and the call ends with the one after them.
pub stops_in : (plan : CallPlan) (id : ℕ) (host : List ℕ) (first rest : List HostEvent) (event : HostEvent)
    (before : List ℕ) (written : Option (List ℕ)) (end : CallEnd)
    → StopsBy plan id (host ++ octets_of id first) (event ∷ []) before written end
    → StopsBy plan id host (first ++ event ∷ rest) before written end
stops_in plan id host first rest event before written end stops = by_end end stops
  where
    whole : (host ++ octets_of id (first ++ event ∷ rest))
        ≡ (((host ++ octets_of id first) ++ octets_of id (event ∷ [])) ++ octets_of id rest)
    whole =
        ap (λ xs. host ++ xs) (octets_of_more id first (event ∷ rest)
        ∙ ap (λ xs. octets_of id first ++ xs) (octets_of_more id (event ∷ []) rest))
        ∙ sym (append_assoc host (octets_of id first) (octets_of id (event ∷ []) ++ octets_of id rest))
        ∙ sym (append_assoc (host ++ octets_of id first) (octets_of id (event ∷ [])) (octets_of id rest))

    more : (end : CallEnd) → Stops plan ((host ++ octets_of id first) ++ octets_of id (event ∷ [])) before written end
        → Stops plan (host ++ octets_of id (first ++ event ∷ rest)) before written end
    more end stops = subst (λ xs. Stops plan xs before written end) (sym whole)
        (stop_stays plan ((host ++ octets_of id first) ++ octets_of id (event ∷ [])) (octets_of id rest) before written
        end stops)

    by_end : (end : CallEnd) → StopsBy plan id (host ++ octets_of id first) (event ∷ []) before written end
        → StopsBy plan id host (first ++ event ∷ rest) before written end
    by_end (Done got) stops = more (Done got) stops
    by_end TooLong stops = absurd stops
    by_end Memory stops = more Memory stops
    by_end ReadFault stops = absurd stops
    by_end WriteFault stops = more WriteFault stops
    by_end NoHost stops = absurd stops
    by_end Refused stops = more Refused stops
    by_end HostLost stops =
        let left = stops.0 in (
          record {
            front = first ++ left.front;
            rest = left.rest ++ rest;
            is = ap (λ es. first ++ (es ++ rest)) left.is
                ∙ ap (λ es. first ++ es) (append_assoc left.front (Left id ∷ left.rest) rest)
                ∙ sym (append_assoc first left.front (Left id ∷ (left.rest ++ rest)));
            going = subst (λ xs. is_over (state_after plan xs) ≡ false)
                (append_assoc host (octets_of id first) (octets_of id left.front)
                ∙ ap (λ xs. host ++ xs) (sym (octets_of_more id first left.front))) left.going;
          },
          more Memory stops.1,
        )
    by_end (Broken len) stops = more (Broken len) stops
    by_end (GaveUp polls) stops = absurd stops

-- ---- the end of a loop

-- an element, between those before and those after it
pub split_at : {A : Type 0} (xs : List A) (i : ℕ) (x : A) → i < length xs → x ≡ get_or xs i x
    → take i xs ++ x ∷ drop (i + 1) xs ≡ xs
split_at xs i x within is =
    sym (append_assoc (take i xs) (x ∷ []) (drop (i + 1) xs))
    ∙ ap (λ ys. ys ++ drop (i + 1) xs)
    (ap (λ y. take i xs ++ y ∷ []) is ∙ sym (take_more xs i x within))
    ∙ take-append-drop (i + 1) xs

pub goes_if_none : (result : Option CallEnd) (P : Type 0) (Q : CallEnd → Type 0) → is_some result ≡ false
    → MatchOption result P Q → P
goes_if_none None P Q none goes = goes
goes_if_none (Some end) P Q none goes = absurd cc

-- an end with the first octets is one with all
pub octets_stop : (plan : CallPlan) (host first rest before : List ℕ) (written : Option (List ℕ))
    (result : Option CallEnd) (P Q : Type 0) → is_some result ≡ true
    → MatchOption result P (Stops plan (host ++ first) before written)
    → MatchOption result Q (Stops plan (host ++ (first ++ rest)) before written)
octets_stop plan host first rest before written None P Q some stops = absurd cc
octets_stop plan host first rest before written (Some end) P Q some stops =
    subst (λ xs. Stops plan xs before written end) (append_assoc host first rest)
    (stop_stays plan (host ++ first) rest before written end stops)

-- an end with the next event is one with all
pub events_stop : (plan : CallPlan) (id : ℕ) (host : List ℕ) (first rest : List HostEvent) (event : HostEvent)
    (before : List ℕ) (written : Option (List ℕ)) (result : Option CallEnd) (P Q : Type 0) → is_some result ≡ true
    → MatchOption result P (StopsBy plan id (host ++ octets_of id first) (event ∷ []) before written)
    → MatchOption result Q (StopsBy plan id host (first ++ event ∷ rest) before written)
events_stop plan id host first rest event before written None P Q some stops = absurd cc
events_stop plan id host first rest event before written (Some end) P Q some stops =
    stops_in plan id host first rest event before written end stops

-- the octets with those of the next event
pub octets_with : (id : ℕ) (host : List ℕ) (events : List HostEvent) (i : ℕ) (event : HostEvent) → i < length events
    → event ≡ get_or events i event
    → (host ++ octets_of id (take i events)) ++ event_octets id event ≡ host ++ octets_of id (take (i + 1) events)
octets_with id host events i event within is =
    append_assoc host (octets_of id (take i events)) (event_octets id event)
    ∙ ap (λ xs. host ++ (octets_of id (take i events) ++ xs)) (sym (append-nil (event_octets id event)))
    ∙ ap (λ xs. host ++ xs) (sym (octets_of_more id (take i events) (event ∷ [])))
    ∙ ap (λ es. host ++ octets_of id es)
    (ap (λ e. take i events ++ e ∷ []) is ∙ sym (take_more events i event within))

pub none_is_no_end : (result : Option CallEnd) (end : CallEnd) → is_some result ≡ false → result ≢ Some end
none_is_no_end None end none = λ e. cc
none_is_no_end (Some other) end none = absurd cc

-- the host left
pub left_stops : (plan : CallPlan) (id : ℕ) (host : List ℕ) (event : HostEvent) (from : ℕ) (before : List ℕ)
    (written : Option (List ℕ)) → event ≡ Left from → from ≡ id → is_over (state_after plan host) ≡ false
    → IsPrinted plan host before written → StopsBy plan id host (event ∷ []) before written HostLost
left_stops plan id host event from before written is same going printed = (
  record {
    front = [];
    rest = [];
    is = ap (λ e. e ∷ []) (is ∙ ap Left same);
    going = subst (λ xs. is_over (state_after plan xs) ≡ false) (sym (append-nil host)) going;
  },
  part_stays plan host (octets_of id (event ∷ [])) before written (all_is_part plan host before written printed),
)
