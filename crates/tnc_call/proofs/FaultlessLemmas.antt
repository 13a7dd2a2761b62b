-- How a call ends if nothing fails.
use Rattle.tnc_call.proofs.Common.{◌≡◌, ◌≢◌, ℕ, ◌⊎◌, List, [], ◌∷◌, ◌++◌, All, length, get_or, refl, ap, subst, ◌∙◌}
use Rattle.tnc_call.proofs.Common.{sym, inl, inr, arith, Option, Some, false, length-append, get_or-append_seam}
use Rattle.tnc_call.proofs.Common.{HostEvent, Left, Dial, Poll, CallState, Asking, Calling, Up, CallPlan, is_over}
use Rattle.tnc_call.proofs.Common.{state_after, printed_after, CallWords, CallEnd, Done, TooLong, Memory, ReadFault}
use Rattle.tnc_call.proofs.Common.{WriteFault, NoHost, Refused, HostLost, Broken, GaveUp, HasCalled, HasLeft}
use Rattle.tnc_call.proofs.Common.{HasSendFailed, IsCalled, IsEnded, count_of, plan_of, PortsTold, CallTrace, events_in}
use Rattle.tnc_call.proofs.Common.{octets_in}
use Rattle.std.proofs.lemmas.List.{append_cancel_left}
use Rattle.agwpe_client.specs.declared.call_state.CallState.TheVariants.{Done as DoneState, Refused as RefusedState}
use Rattle.agwpe_client.specs.declared.call_state.CallState.TheVariants.{Broken as BrokenState}
use Rattle.tnc_call.specs.Faultless.{FaultlessEnds, IsFaultless, end_in}

some_same : {A : Type 0} (o : Option A) (x y : A) → o ≡ Some x → o ≡ Some y → x ≡ y
some_same o x y first second = cc

abbrev dial_of : ℕ → ℕ → Dial
dial_of port id = record { port = port; id = id }

last_same : (port id other : ℕ) → dial_of port id ∷ [] ≡ dial_of port other ∷ [] → id ≡ other
last_same port id other e = ap (λ (ds : List Dial). (get_or ds 0 (dial_of port 0)).id) e

-- nobody left
not_left : (id : ℕ) (events front rest : List HostEvent) → All (λ event. event ≢ Left id) events
    → events ≡ front ++ Left id ∷ rest → ⊥
not_left id events front rest stays is =
    stays (length front) (Left id) (let n = ap length is ∙ length-append front (Left id ∷ rest) in omega arith)
    (ap (λ es. get_or es (length front) (Left id)) is ∙ get_or-append_seam front (Left id) rest (Left id))

-- a call that is not over
gives_up : (state : CallState) (got most : ℕ) → is_over state ≡ false → end_in state got most ≡ GaveUp most
gives_up Asking got most going = refl
gives_up Calling got most going = refl
gives_up Up got most going = refl
gives_up DoneState got most going = absurd cc
gives_up RefusedState got most going = absurd cc
gives_up (BrokenState len) got most going = absurd cc

module _ (words : CallWords) (text before : List ℕ) (written : Option (List ℕ)) (start now : PortsTold) (id : ℕ)
    (polls : List Poll) where
  abbrev plan : CallPlan
  plan = plan_of words text

  abbrev Ends : CallEnd → Type 0
  Ends end = (end ≡ Memory) ⊎ (end ≡ end_in (state_after plan (octets_in id polls))
      (count_of (printed_after plan (octets_in id polls))) words.polls)

  module _ (end : CallEnd) (faultless : IsFaultless words text start now id polls end)
      (called : HasCalled words text before written start now end) where
    same_id : called.id ≡ id
    same_id = last_same words.agw called.id id
        (append_cancel_left faultless.dials (dial_of words.agw called.id ∷ []) (dial_of words.agw id ∷ [])
        (some_same now.dials _ _ (called.dialed faultless.dials faultless.had_dialed) faultless.has_dialed))

    same_polls : called.trace.polls ≡ polls
    same_polls = append_cancel_left faultless.polled called.trace.polls polls
        (some_same now.polls _ _ (called.traced.polls faultless.polled faultless.had_polled) faultless.has_polled)

    -- the end, for the polls that are told
    ended : IsEnded plan words.polls id
        (record called.trace { polls = polls }) before written start.faults now.faults end
    ended =
        let trace : List Poll → CallTrace = λ ps. record called.trace { polls = ps } in
        subst (λ ps. IsEnded plan words.polls id (trace ps) before written start.faults now.faults end) same_polls
        (subst (λ i. IsEnded plan words.polls i called.trace before written start.faults now.faults end) same_id
        called.ended)

  by_state : (state : CallState) (end : CallEnd) → state_after plan (octets_in id polls) ≡ state
      → end ≡ end_in state (count_of (printed_after plan (octets_in id polls))) words.polls → Ends end
  by_state state end is same =
      inr (same ∙ ap (λ s. end_in s (count_of (printed_after plan (octets_in id polls))) words.polls) (sym is))

  no_loss : (trace : CallTrace) → IsFaultless words text start now id polls HostLost
      → (HasLeft plan id [] (events_in polls) ⊎ HasSendFailed plan id trace start.faults now.faults) → ⊥
  no_loss trace faultless (inl left) = not_left id (events_in polls) left.front left.rest faultless.stays left.is
  no_loss trace faultless (inr failed) = faultless.sockets failed.0

  by_end : (end : CallEnd) → IsFaultless words text start now id polls end
      → IsCalled words text before written start now end
      → Ends end
  by_end (Done got) faultless called =
      let e = ended (Done got) faultless called in by_state DoneState (Done got) e.0 (ap Done e.2)
  by_end TooLong faultless called = absurd (let f = faultless.fits in let l = called.0 in omega arith)
  by_end Memory faultless called = inl refl
  by_end ReadFault faultless called = absurd (faultless.reads refl)
  by_end WriteFault faultless called = absurd (faultless.writes refl)
  by_end NoHost faultless called = absurd (faultless.sockets called.failed)
  by_end Refused faultless called =
      let e = ended Refused faultless called in by_state RefusedState Refused e.0 refl
  by_end HostLost faultless called =
      absurd (no_loss (record called.trace { polls = polls }) faultless (ended HostLost faultless called).0)
  by_end (Broken len) faultless called =
      let e = ended (Broken len) faultless called in by_state (BrokenState len) (Broken len) e.0 refl
  by_end (GaveUp most) faultless called =
      let e = ended (GaveUp most) faultless called in
      inr (ap GaveUp e.0 ∙ sym (gives_up (state_after plan (octets_in id polls)) _ words.polls e.2))

pub faultless : FaultlessEnds
faultless words text before written start now id polls end called is =
    by_end words text before written start now id polls end is called
