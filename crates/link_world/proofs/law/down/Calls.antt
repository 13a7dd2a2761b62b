-- A call in a modulus: SABM in 8, SABME in 128.
use Rattle.link_world.proofs.Common.{◌≡◌, ℕ, ◌+◌, Bool, true, false, ◌==◌, if◌then◌else◌, List, [], ◌∷◌, inl, inr, refl}
use Rattle.link_world.proofs.Common.{sym, ap, subst, arith, ◌∙◌, length, Params, called_modulus, SentIn, sent_in}
use Rattle.link_world.proofs.Common.{SetupSent, RecordedEnd}
use Rattle.link_machine.specs.Acts.{calling_frame}
use Rattle.link_world.proofs.law.reduced.Core.{Tagged as CoreTagged}
use Rattle.link_world.proofs.law.reduced.Core.Kind.{Sabm}
use Rattle.link_world.proofs.law.reduced.CoreMoves.{asks, answers, ask_of}
use Rattle.link_world.proofs.law.reduced.CoreOf.{setup_of}
use Rattle.link_world.proofs.law.showing.PlacesFit.{IsModulus}
use Rattle.link_world.proofs.law.showing.Shown.{AnswersAsSent, core_set_ups}
use Rattle.link_world.proofs.law.showing.Outcome.{IsAlone, IsSentAs}
use Rattle.link_world.proofs.law.down.Ends.{IsDown, setup_sent}

-- a link's call, in the modulus that it has
abbrev pub call_in : ℕ → SentIn
call_in modulus = sent_in modulus (SetupSent (calling_frame (modulus == 128)) true)

-- its frame says the modulus
pub call_kind : (modulus : ℕ) → IsModulus modulus → setup_of false (calling_frame (modulus == 128)) ≡ Sabm modulus
call_kind modulus (inl is) = rw is refl
call_kind modulus (inr is) = rw is refl

pub call_answers : (wide : Bool) → AnswersAsSent false (SetupSent (calling_frame wide) true)
call_answers true = refl
call_answers false = refl

call_asks : (wide : Bool) → ask_of (setup_of false (calling_frame wide)) ≡ 1
call_asks true = refl
call_asks false = refl

-- it goes out alone
pub call_alone :
    (to_x to_y : List CoreTagged) (modulus : ℕ) → IsAlone to_x to_y (call_in modulus ∷ [])
    → asks to_y + answers to_x ≡ 0
call_alone to_x to_y modulus (inl none) = let one = call_asks (modulus == 128) in absurd (omega arith)
call_alone to_x to_y modulus (inr quiet) = quiet

-- the modulus in which a link calls
pub own_modulus_is : (p : Params) → IsModulus (called_modulus p)
own_modulus_is p = go p.wide
  where
    go : (b : Bool) → IsModulus (if b then 128 else 8)
    go true = inr refl
    go false = inl refl

-- the modulus of a link that is wide, or not
pub wide_is : (modulus : ℕ) → IsModulus modulus → (modulus == 128) ≡ true → modulus ≡ 128
wide_is modulus (inl is) wide =
    absurd (Rattle.std.proofs.lemmas.Bool.false≢true (subst (λ m. (m == 128) ≡ true) is wide))
wide_is modulus (inr is) wide = is

pub narrow_is : (modulus : ℕ) → IsModulus modulus → (modulus == 128) ≡ false → modulus ≡ 8
narrow_is modulus (inl is) narrow = is
narrow_is modulus (inr is) narrow =
    absurd (Rattle.std.proofs.lemmas.Bool.false≢true (sym (subst (λ m. (m == 128) ≡ false) is narrow)))

-- it goes out
pub call_sent :
    (r : RecordedEnd) (modulus : ℕ) → IsModulus modulus → IsDown r.machine.control.state r.machine.outgoing.packets
    → IsSentAs false r (call_in modulus ∷ [])
    (record { tag = length (core_set_ups r.set_ups); kind = Sabm modulus } ∷ [])
call_sent r modulus is down =
    let wide = modulus == 128 in
    let sent = setup_sent false r modulus (calling_frame wide) true down (call_answers wide) in
    record {
      flight = sent.flight ∙ ap (λ k. record { tag = length (core_set_ups r.set_ups); kind = k } ∷ [])
          (call_kind modulus is);
      written = sent.written;
    }
