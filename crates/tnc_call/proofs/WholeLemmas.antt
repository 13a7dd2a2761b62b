-- A whole call: dialed, talked and shut.
use Rattle.tnc_call.proofs.Common.{◌≡◌, ◌≢◌, ℕ, ◌≤◌, ◌⊎◌, eqb, Bool, true, false, List, [], ◌∷◌, ◌++◌, length, refl}
use Rattle.tnc_call.proofs.Common.{◌∙◌, inl, inr, arith, Option, Some, eq-eqb, HasRisen, Dial, GrowsBy, CallPlan}
use Rattle.tnc_call.proofs.Common.{CallWords, CallEnd, Done, TooLong, Memory, ReadFault, WriteFault, NoHost, Refused}
use Rattle.tnc_call.proofs.Common.{HostLost, Broken, GaveUp, text_limit, IsEnded, HasLeft, HasSendFailed, HasCalled}
use Rattle.tnc_call.proofs.Common.{IsCalled, plan_of, PortsTold, CallTrace, events_in, HasTalked}
use Rattle.std.proofs.Common.{◌||◌}
use Rattle.std.proofs.lemmas.List.Folds.{list_any-append}
use Rattle.host_ports.specs.Sockets.{has_dialed}
use Rattle.tnc_call.specs.CallInput.{IsTalkEnd}

-- what a dial leaves as it was, and what a shut does
pub record IsUntouched (before after : PortsTold) : Type 0 where
  pub polls : after.polls ≡ before.polls
  pub sends : after.sends ≡ before.sends
  pub sent : (id : ℕ) → after.sent id ≡ before.sent id
  pub listens : after.listens ≡ before.listens
  pub later : before.faults ≤ after.faults

rises : (a b c d : ℕ) → a ≤ b → HasRisen b c → c ≤ d → HasRisen a d
rises a b c d first risen last = omega arith

-- the counts before a dial and after a shut
ended_around : (plan : CallPlan) (most id : ℕ) (trace : CallTrace) (before : List ℕ) (written : Option (List ℕ))
    (a b c d : ℕ) (end : CallEnd) → a ≤ b → c ≤ d → IsEnded plan most id trace before written b c end
    → IsEnded plan most id trace before written a d end
ended_around plan most id trace before written a b c d (Done got) first last ended = ended
ended_around plan most id trace before written a b c d TooLong first last ended = absurd ended
ended_around plan most id trace before written a b c d Memory first last ended = ended
ended_around plan most id trace before written a b c d ReadFault first last ended = absurd ended
ended_around plan most id trace before written a b c d WriteFault first last ended = ended
ended_around plan most id trace before written a b c d NoHost first last ended = absurd ended
ended_around plan most id trace before written a b c d Refused first last ended = ended
ended_around plan most id trace before written a b c d HostLost first last ended = (lost ended.0, ended.1)
  where
    lost : (HasLeft plan id [] (events_in trace.polls) ⊎ HasSendFailed plan id trace b c)
        → (HasLeft plan id [] (events_in trace.polls) ⊎ HasSendFailed plan id trace a d)
    lost (inl left) = inl left
    lost (inr failed) = inr (rises a b c d first failed.0 last, failed.1)
ended_around plan most id trace before written a b c d (Broken len) first last ended = ended
ended_around plan most id trace before written a b c d (GaveUp polls) first last ended = ended

or_true : (b c : Bool) → c ≡ true → (b || c) ≡ true
or_true true c is = refl
or_true false c is = is

or_left : (b c : Bool) → b ≡ true → (b || c) ≡ true
or_left true c is = refl
or_left false c is = absurd cc

-- the last dial is one of them
dialed_last : (id port : ℕ) (dials : List Dial) → has_dialed id (dials ++ (record { port = port; id = id }) ∷ []) ≡ true
dialed_last id port dials =
    list_any-append (λ (dial : Dial). eqb dial.id id) dials ((record { port = port; id = id }) ∷ [])
    ∙ or_true (has_dialed id dials) (has_dialed id ((record { port = port; id = id }) ∷ []))
    (or_left (eqb id id) _ (eq-eqb id id refl))

module _ (words : CallWords) (text before : List ℕ) (written : Option (List ℕ)) (start dialed polled now : PortsTold)
    (id : ℕ) (end : CallEnd) (fits : length text ≤ text_limit)
    (dials : GrowsBy ((record { port = words.agw; id = id }) ∷ []) start.dials dialed.dials)
    (dial : IsUntouched start dialed) (dial_shut : (other : ℕ) → dialed.is_shut other ≡ start.is_shut other)
    (talked : HasTalked (plan_of words text) words.polls id before written dialed polled end)
    (shut : IsUntouched polled now) (shut_dials : now.dials ≡ polled.dials)
    (is_shut : (was : List Dial) → polled.dials ≡ Some was → has_dialed id was ≡ true → (told : Bool)
    → polled.is_shut id ≡ Some told → now.is_shut id ≡ Some true)
    (others : (other : ℕ) → other ≢ id → now.is_shut other ≡ polled.is_shut other) where
  has_called : HasCalled words text before written start now end
  has_called = record {
    fits = fits;
    id = id;
    dialed = λ was at. shut_dials ∙ talked.alike.dials ∙ dials was at;
    trace = talked.trace;
    traced = record {
      polls = λ was at. shut.polls ∙ talked.traced.polls was (dial.polls ∙ at);
      sends = λ was at sends is. shut.sends ∙ talked.traced.sends was (dial.polls ∙ at) sends (dial.sends ∙ is);
      within = talked.traced.within;
      sent = λ was at. shut.sent id ∙ talked.traced.sent was (dial.sent id ∙ at);
      others = λ other ne. shut.sent other ∙ talked.traced.others other ne ∙ dial.sent other;
    };
    polls = talked.polls;
    count = talked.count;
    offered = talked.offered;
    ended = ended_around (plan_of words text) words.polls id talked.trace before written start.faults dialed.faults
        polled.faults now.faults end dial.later shut.later talked.ended;
    shut = λ was told at is. is_shut (was ++ (record { port = words.agw; id = id }) ∷ [])
        (talked.alike.dials ∙ dials was at) (dialed_last id words.agw was) told
        (talked.alike.shut id ∙ dial_shut id ∙ is);
    not_shut = λ other ne. others other ne ∙ talked.alike.shut other ∙ dial_shut other;
    listens = shut.listens ∙ talked.alike.listens ∙ dial.listens;
  }

  pub whole_call : IsTalkEnd end → IsCalled words text before written start now end
  whole_call is = by_end end is has_called
    where
      by_end : (end : CallEnd) → IsTalkEnd end → HasCalled words text before written start now end
          → IsCalled words text before written start now end
      by_end (Done got) is called = called
      by_end TooLong is called = absurd is
      by_end Memory is called = inr called
      by_end ReadFault is called = absurd is
      by_end WriteFault is called = called
      by_end NoHost is called = absurd is
      by_end Refused is called = called
      by_end HostLost is called = called
      by_end (Broken len) is called = called
      by_end (GaveUp polls) is called = called
