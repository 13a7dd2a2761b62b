-- What messages ask.
use Rattle.station.proofs.Common.{◌≡◌, ℕ, List, [], ◌∷◌, ◌++◌, refl, subst, AgwMessage, AreAnswered, call_in, Turn}
use Rattle.station.proofs.Common.{changing}
use Rattle.station.specs.AgwRequests.{IsAnswered, answering_else, toggled, monitor_toggled, unregistering}

-- messages one after another, and one more
pub answered-more : (id : ℕ) (messages : List AgwMessage) (message : AgwMessage) (first between last : Turn)
    → AreAnswered id messages first between → IsAnswered id message between last
    → AreAnswered id (messages ++ message ∷ []) first last
answered-more id [] message first between last h one =
    (last, subst (λ (turn : Turn). IsAnswered id message turn last) h one, refl)
answered-more id (m ∷ messages) message first between last h one =
    (h.0, h.1, answered-more id messages message h.0 between last h.2 one)

-- ---- requests that are not answered

pub else_unregister : (id : ℕ) (message : AgwMessage) (turn : Turn) → message.kind ≡ 120
    → answering_else id message turn ≡ unregistering id (call_in message.from) turn
else_unregister id message turn is = rw is refl

pub else_toggle : (id : ℕ) (message : AgwMessage) (turn : Turn) → message.kind ≡ 107
    → answering_else id message turn ≡ changing (toggled id) turn
else_toggle id message turn is = rw is refl

pub else_monitor : (id : ℕ) (message : AgwMessage) (turn : Turn) → message.kind ≡ 109
    → answering_else id message turn ≡ changing (monitor_toggled id) turn
else_monitor id message turn is = rw is refl
