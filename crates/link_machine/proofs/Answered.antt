-- What a call answers for an event that is not refused.
use Rattle.link_machine.proofs.Common.{◌≡◌, false, List, length, Ok, Err, refl, sym, ◌∙◌, ap, subst, Done, Machine}
use Rattle.link_machine.proofs.Common.{sent_frames, Turn, begin, OutOfMemory, None, IsErr, Option, cond-false, settled}
use Rattle.link_machine.proofs.Common.{step, row, refusal_of, done_of, Event, refusal, LinkFault, IfOk, StandsFor, Told}
use Rattle.link_machine.proofs.Common.{SentFrame, is_some, IsWhole, Holds, Made, Makes}
use Rattle.std.proofs.Common.{Result}
use Rattle.link_machine.specs.declared.machine.Machine.{Machine as Held}
use Rattle.std.specs.Prelude.{OnOk}

-- what holds if a call did not fail
pub on_ok : {A E : Type 0} (r : Result A E) (P : Type 0) → (IsErr r → ⊥) → OnOk r P → P
on_ok (Ok x) P h p = p
on_ok (Err e) P h p = absurd (h refl)

-- an event that is not refused
pub stepped : (m : Machine) (event : Event) → is_some (refusal_of m event) ≡ false
    → step m event ≡ settled (row event (begin m))
unfolding step
stepped m event e = cond-false _ _ _ e

done_as : (held : Held) (t : Turn) (done : Done) → Made t held done → done ≡ done_of t
done_as held t done h =
    let D : List SentFrame → List Told → Done = λ fs ts. record { frames = fs; told = ts } in
    ap (λ fs. D fs done.told) h.frames ∙ ap (λ ts. D (sent_frames t.now.path t.sent) ts) h.told

pub answers_right :
    (following : Held) (m : Machine) (event : Event) (done : Done) → is_some (refusal_of m event) ≡ false
    → Made (settled (row event (begin m))) following done
    → (done ≡ done_of (step m event)) × StandsFor following (step m event).now
answers_right following m event done free h =
    let e = sym (stepped m event free) in
    let P : Turn → Type 0 = λ t. (done ≡ done_of t) × StandsFor following t.now in
    subst P e (done_as following (settled (row event (begin m))) done h, h.holds.stands)

pub holds_of : (held : Held) (m : Machine) → IsWhole held → StandsFor held m → Holds held m
holds_of held m whole h = record { stands = h; formed = whole.link; next = whole.next }

-- what a call answers, if its event is never refused
pub answers_all :
    (before following : Held) (event : Event) (result : Result Done OutOfMemory)
    → ((m : Machine) → is_some (refusal_of m event) ≡ false) → IsWhole before
    → Makes (row event) before following result → (m : Machine) → StandsFor before m
    → IfOk result (λ acts. acts ≡ done_of (step m event)) × OnOk result (StandsFor following (step m event).now)
answers_all before following event (Ok done) free whole makes m h =
    answers_right following m event done (free m) (makes m (holds_of before m whole h))
answers_all before following event (Err fault) free whole makes m h = (tt, tt)

-- requests that are not refused
pub free_of : (held : Held) (m : Machine) (event : Event) (r : Option LinkFault)
    → r ≡ refusal held.control (length held.outgoing.packets) event → r ≡ None → StandsFor held m
    → is_some (refusal_of m event) ≡ false
free_of held m event r is none stands =
    ap is_some (ap (λ c. refusal c (length m.outgoing.packets) event) (sym stands.control)
    ∙ ap (λ n. refusal held.control n event) (sym (ap length stands.outgoing.packets)) ∙ sym is ∙ none)
