-- A turn of a call.
use Rattle.tnc_call.proofs.Common.{◌≡◌, ◌≢◌, ℕ, ◌-◌, ◌<◌, ◌≤◌, List, [], ◌∷◌, ◌++◌, length, refl, ap, subst, ◌∙◌, sym}
use Rattle.tnc_call.proofs.Common.{inl, inr, arith, append_assoc, append-nil, Option, Some, None, MatchOption, false}
use Rattle.tnc_call.proofs.Common.{flat_map-append, length_push, All-push, HasRisen, HostEvent, Left, GrowsBy, Poll}
use Rattle.tnc_call.proofs.Common.{CallPlan, call_run, is_over, state_after, sent_after, Grows, run_grows, Talk}
use Rattle.tnc_call.proofs.Common.{CallEnd, Done, TooLong, Memory, ReadFault, WriteFault, NoHost, Refused, HostLost}
use Rattle.tnc_call.proofs.Common.{Broken, GaveUp, IsEnded, IsPartPrinted, PortsTold, CallTrace, IsTraced, IsAlike}
use Rattle.tnc_call.proofs.Common.{octets_of, octets_in, events_in, HasBegun, GoesOn, Stops, StopsBy, IsRunning}
use Rattle.tnc_call.proofs.Common.{HasOffered, HasTalked, count_of, no_trace, CallRun}
use Rattle.tnc_call.specs.CallTrace.{IsCallPoll}
use Rattle.tnc_call.specs.HeldTalk.{TurnsOn, HasStopped}
use Rattle.agwpe_client.proofs.BeginLemmas.{run_begins}
use Rattle.tnc_call.proofs.HeardLemmas.{all_is_part, octets_of_more}
use Rattle.tnc_call.proofs.TraceLemmas.{IsOfferTold, with_offer, with_poll, traced_offer, traced_poll, traced_same}
use Rattle.tnc_call.proofs.TraceLemmas.{traced_more, alike_on, count_with_offer, octets_with_poll, all_early}
use Rattle.tnc_call.proofs.TraceLemmas.{early_again, offered_now, always_with_poll, always_with_offer}

-- ---- the offer

abbrev pub with_taken : ℕ → Talk → Talk
with_taken taken talk = record talk { taken = taken }

module _ (talk : Talk) (plan : CallPlan) (id : ℕ) (before : List ℕ) (written : Option (List ℕ)) (start old : PortsTold)
    (trace : CallTrace) (running : IsRunning talk plan id before written start old trace) where
  pub has_offered : (taken : ℕ) (now : PortsTold) → talk.taken ≤ taken → taken ≤ length talk.sent.items
      → talk.taken ≤ length talk.sent.items
      → IsOfferTold id (length trace.polls) (length talk.sent.items - talk.taken) talk.taken (taken - talk.taken)
      talk.sent.items old now
      → IsAlike old now
      → HasOffered (with_taken taken talk) plan id before written start now
      (with_offer (length talk.sent.items - talk.taken) (taken - talk.taken) trace)
  has_offered taken now more within was_within told alike =
      let offered : ℕ = length talk.sent.items - talk.taken in
      let took : ℕ = taken - talk.taken in
      let fits : took ≤ offered = omega arith in
      record {
        goes_on = record {
          client = running.goes_on.client;
          going = running.goes_on.going;
          sent = running.goes_on.sent;
          got = running.goes_on.got;
          is_printed = running.goes_on.is_printed;
        };
        traced = traced_offer id talk.sent.items trace start old now offered talk.taken took running.traced running.taken
            fits (omega arith) told;
        alike = alike_on start old now running.alike alike;
        taken = let count = count_with_offer trace offered took fits in omega (arith, count, running.taken);
        early = all_early trace offered took running.early;
        offered = always_with_offer plan id trace offered took running.offered;
        next = offered_now plan id trace talk.sent.items offered took running.goes_on.sent fits
            (omega (arith, running.taken));
        polls = running.polls;
      }

  -- a count that rose late has risen
  rose : (a b c : ℕ) → a ≤ b → HasRisen b c → HasRisen a c
  rose a b c le risen = omega arith

  pub send_failed : (now : PortsTold) → now.polls ≡ old.polls → now.sends ≡ old.sends
      → ((other : ℕ) → now.sent other ≡ old.sent other) → IsAlike old now → HasRisen old.faults now.faults
      → talk.taken ≢ length talk.sent.items → talk.taken ≤ length talk.sent.items
      → HasStopped plan id before written start now (length trace.polls) HostLost
  send_failed now polls sends sent alike risen waits within =
      let octets = running.goes_on.sent in
      record {
        next = trace;
        count = omega arith;
        traced = subst (λ xs. IsTraced id xs trace start now) octets
            (traced_same id talk.sent.items trace start old now running.traced polls sends sent);
        alike = alike_on start old now running.alike alike;
        offered = running.offered;
        polls = running.polls;
        ended = λ most. (
          inr (
            rose start.faults old.faults now.faults running.alike.later risen,
            (let size = ap length octets in omega (arith, running.taken)),
          ),
          all_is_part plan (octets_in id trace.polls) before written running.goes_on.is_printed,
        );
      }

-- ---- the poll

module _ (talk : Talk) (plan : CallPlan) (id : ℕ) (before : List ℕ) (start old : PortsTold) (trace : CallTrace)
    (written : Option (List ℕ)) (offered : HasOffered talk plan id before written start old trace) where
  abbrev host : List ℕ
  host = octets_in id trace.polls

  -- the octets to be sent after more came
  more_to_send : (events : List HostEvent) (poll : Poll) → poll.events ≡ events
      → IsTraced id talk.sent.items trace start old
      → IsTraced id (sent_after plan (octets_in id (trace.polls ++ poll ∷ []))) trace start old
  more_to_send events poll is traced =
      let whole : octets_in id (trace.polls ++ poll ∷ []) ≡ host ++ octets_of id events =
      octets_with_poll id trace.polls poll ∙ ap (λ es. host ++ octets_of id es) is in
      let grows : Grows (call_run plan host) (call_run plan (host ++ octets_of id events)) =
      run_grows plan host (octets_of id events) in
      subst (λ xs. IsTraced id xs trace start old)
      (ap (λ xs. xs ++ grows.more_sent) offered.goes_on.sent ∙ sym grows.sent
      ∙ ap (λ xs. sent_after plan xs) (sym whole))
      (traced_more id talk.sent.items grows.more_sent trace start old traced)

  module _ (poll : Poll) (quiet : IsCallPoll poll) (now : PortsTold) (polls : GrowsBy (poll ∷ []) old.polls now.polls)
      (sends : now.sends ≡ old.sends) (sent : (other : ℕ) → now.sent other ≡ old.sent other) (alike : IsAlike old now)
    where
      abbrev next : CallTrace
      next = with_poll poll trace

      whole : octets_in id (with_poll poll trace).polls ≡ host ++ octets_of id poll.events
      whole = octets_with_poll id trace.polls poll

      traced_next : IsTraced id (sent_after plan (octets_in id (with_poll poll trace).polls))
          (with_poll poll trace) start now
      traced_next = traced_poll id (sent_after plan (octets_in id
          (with_poll poll trace).polls)) trace poll start old now
          (more_to_send poll.events poll refl offered.traced) polls sends sent

      pub turns_on : (heard : Talk) (output : Option (List ℕ)) → heard.taken ≡ talk.taken
          → GoesOn heard plan (host ++ octets_of id poll.events) before output
          → TurnsOn heard plan id before output start now (length trace.polls)
      turns_on heard output kept goes =
          let goes' : GoesOn heard plan (octets_in id (with_poll poll trace).polls) before output =
          subst (λ xs. GoesOn heard plan xs before output) (sym whole) goes in
          record {
            next = next;
            count = length_push trace.polls poll;
            running = record {
              goes_on = goes';
              traced = subst (λ xs. IsTraced id xs (with_poll poll trace) start now) (sym goes'.sent) traced_next;
              alike = alike_on start old now offered.alike alike;
              taken = kept ∙ offered.taken;
              early = early_again trace poll offered.early;
              offered = always_with_poll plan id trace poll offered.early offered.next offered.offered;
              polls = All-push IsCallPoll trace.polls poll offered.polls quiet;
            };
          }

      -- the end that events make is the end of the call
      ends_by : (output : Option (List ℕ)) (most : ℕ) (end : CallEnd)
          → StopsBy plan id host poll.events before output end
          → IsEnded plan most id (with_poll poll trace) before output start.faults now.faults end
      ends_by output most (Done got) stops = subst (λ xs. Stops plan xs before output (Done got)) (sym whole) stops
      ends_by output most TooLong stops = absurd stops
      ends_by output most Memory stops = subst (λ xs. Stops plan xs before output Memory) (sym whole) stops
      ends_by output most ReadFault stops = absurd stops
      ends_by output most WriteFault stops = subst (λ xs. Stops plan xs before output WriteFault) (sym whole) stops
      ends_by output most NoHost stops = absurd stops
      ends_by output most Refused stops = subst (λ xs. Stops plan xs before output Refused) (sym whole) stops
      ends_by output most HostLost stops =
          let left = stops.0 in (
            inl (record {
              front = events_in trace.polls ++ left.front;
              rest = left.rest;
              is = flat_map-append (λ (p : Poll). p.events) trace.polls (poll ∷ [])
                  ∙ ap (λ es. events_in trace.polls ++ es) (append-nil poll.events ∙ left.is)
                  ∙ sym (append_assoc (events_in trace.polls) left.front (Left id ∷ left.rest));
              going = subst (λ xs. is_over (state_after plan xs) ≡ false)
                  (sym (octets_of_more id (events_in trace.polls) left.front)) left.going;
            }),
            subst (λ xs. IsPartPrinted plan xs before output) (sym whole) stops.1,
          )
      ends_by output most (Broken len) stops = subst (λ xs. Stops plan xs before output (Broken len)) (sym whole) stops
      ends_by output most (GaveUp polls') stops = absurd stops

      pub turn_stops : (output : Option (List ℕ)) (end : CallEnd) → StopsBy plan id host poll.events before output end
          → HasStopped plan id before output start now (length trace.polls) end
      turn_stops output end stops = record {
        next = next;
        count = let n = length_push trace.polls poll in omega arith;
        traced = traced_next;
        alike = alike_on start old now offered.alike alike;
        offered = always_with_poll plan id trace poll offered.early offered.next offered.offered;
        polls = All-push IsCallPoll trace.polls poll offered.polls quiet;
        ended = λ most. ends_by output most end stops;
      }

      pub turn_goes : (heard : Talk) (output : Option (List ℕ)) (result : Option CallEnd) → heard.taken ≡ talk.taken
          → MatchOption result (GoesOn heard plan (host ++ octets_of id poll.events) before output)
          (StopsBy plan id host poll.events before output)
          → MatchOption result (TurnsOn heard plan id before output start now (length trace.polls))
          (HasStopped plan id before output start now (length trace.polls))
      turn_goes heard output None kept goes = turns_on heard output kept goes
      turn_goes heard output (Some end) kept stops = turn_stops output end stops

  -- no memory for the events
  pub no_memory : (now : PortsTold) → now.polls ≡ old.polls → now.sends ≡ old.sends
      → ((other : ℕ) → now.sent other ≡ old.sent other) → IsAlike old now
      → HasStopped plan id before written start now (length trace.polls) Memory
  no_memory now polls sends sent alike = record {
    next = trace;
    count = omega arith;
    traced = subst (λ xs. IsTraced id xs trace start now) offered.goes_on.sent
        (traced_same id talk.sent.items trace start old now offered.traced polls sends sent);
    alike = alike_on start old now offered.alike alike;
    offered = offered.offered;
    polls = offered.polls;
    ended = λ most. all_is_part plan (octets_in id trace.polls) before written offered.goes_on.is_printed;
  }

-- ---- all turns

-- before the first turn
pub running_begins : (talk : Talk) (plan : CallPlan) (id : ℕ) (before : List ℕ) (written : Option (List ℕ))
    (start : PortsTold) → HasBegun plan talk → written ≡ Some before
    → IsRunning talk plan id before written start start no_trace
running_begins talk plan id before written start begun is = record {
  goes_on = record {
    client = begun.client;
    going = ap (λ (run : CallRun). is_over run.state) (run_begins plan);
    sent = begun.sent;
    got = begun.got ∙ ap (λ (run : CallRun). count_of run.printed) (sym (run_begins plan));
    is_printed = is ∙ ap Some (sym (append-nil before))
        ∙ ap (λ (run : CallRun). Some (before ++ run.printed)) (sym (run_begins plan));
  };
  traced = record {
    polls = λ was at. at ∙ ap Some (sym (append-nil was));
    sends = λ was at sends is_sends. is_sends ∙ ap Some (sym (append-nil sends));
    within = omega arith;
    sent = λ was at. at ∙ ap Some (sym (append-nil was));
    others = λ other ne. refl;
  };
  alike = record { listens = refl; dials = refl; shut = λ other. refl; later = omega arith };
  taken = begun.taken;
  early = λ k d within. absurd (omega arith);
  offered = λ k within. absurd (omega arith);
  polls = λ k d within. absurd (omega arith);
}

-- the call ends in a turn
pub talked : (plan : CallPlan) (most id : ℕ) (before : List ℕ) (written : Option (List ℕ)) (start now : PortsTold)
    (made : ℕ) (end : CallEnd) → made < most → HasStopped plan id before written start now made end
    → HasTalked plan most id before written start now end
talked plan most id before written start now made end fits stopped = record {
  trace = stopped.next;
  count = omega (arith, stopped.count);
  traced = stopped.traced;
  alike = stopped.alike;
  offered = stopped.offered;
  polls = stopped.polls;
  ended = stopped.ended most;
}

-- it does not end in so many turns
pub gave_up : (talk : Talk) (plan : CallPlan) (most id : ℕ) (before : List ℕ) (written : Option (List ℕ))
    (start now : PortsTold) (trace : CallTrace) → length trace.polls ≡ most
    → IsRunning talk plan id before written start now trace
    → HasTalked plan most id before written start now (GaveUp most)
gave_up talk plan most id before written start now trace count running = record {
  trace = trace;
  count = omega (arith, count);
  traced = subst (λ xs. IsTraced id xs trace start now) running.goes_on.sent running.traced;
  alike = running.alike;
  offered = running.offered;
  polls = running.polls;
  ended = (refl, count, running.goes_on.going, running.goes_on.is_printed);
}
