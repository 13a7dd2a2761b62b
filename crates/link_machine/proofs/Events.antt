-- An event from its first act to its last.
use Rattle.link_machine.proofs.Common.{◌≡◌, ℕ, ◌+◌, ◌-◌, ◌<◌, ◌≤◌, Bool, true, false, if◌then◌else◌, Ok, Err, refl}
use Rattle.link_machine.proofs.Common.{sym, ◌∙◌, ap, subst, arith, inl, false≢true, ahead, Outgoing, StandsForOutgoing}
use Rattle.link_machine.proofs.Common.{acknowledgement, Control, Room, LinkState, Idle, Calling, Up, Releasing, Done}
use Rattle.link_machine.proofs.Common.{Machine, is_valid, named, Turn, Act, begin, reset, close, Asked, hear_in, hear}
use Rattle.link_machine.proofs.Common.{hear_idle, hear_releasing, open_called, end_call, Kind, Info, Super, Setup, Ui}
use Rattle.link_machine.proofs.Common.{Other, Frmr, Xid, Test, Sabm, Sabme, Disc, Dm, Ua, OutOfMemory, ◌==◌, nat_lt, inr}
use Rattle.link_machine.proofs.Common.{lt-ltb}
use Rattle.link_machine.proofs.Common.{ltb-true, ltb-false, eqb-true, not, cond-true, cond-false, settle_in, settled}
use Rattle.link_machine.proofs.Common.{IsWhole, Holds, Shows, Made, Makes, hear_numbered, IsOutgoing}
use Rattle.std.proofs.Common.{Result}
use Rattle.std.specs.Result.{is_ok}
use Rattle.std.proofs.Math.Nat.{mod-eq_of_lt}
use Rattle.selective_reject.specs.declared.outgoing.BadNr.{BadNr}
use Rattle.selective_reject.specs.Outgoing.{is_named, after_ask_again, asked_again}
use Rattle.selective_reject.proofs.OutgoingRounds.{same_acknowledgement, same_sent}
use Rattle.link_machine.proofs.Common.{picked_out}
use Rattle.link_machine.proofs.Showing.{holds_outgoing, holds_setting}
use Rattle.link_machine.specs.Acts.{picking}
use Rattle.link_machine.specs.declared.machine.Machine.{Machine as Held}
use Rattle.std.proofs.lemmas.Bool.{le-ltb, cases_lt, leb-true, eqb-false}
use Rattle.std.specs.Prelude.{◌/◌, ◌%◌}
use Rattle.selective_reject.proofs.Distances.{ahead-mod}
use Rattle.link_machine.specs.Frames.{lies_ahead}
use Rattle.link_machine.specs.Room.{HasRoom}

abbrev pub is_up : LinkState → Bool
is_up Idle = false
is_up Calling = false
is_up Up = true
is_up Releasing = false

settle_in_other : (s : LinkState) (t : Turn) → is_up s ≡ false → settle_in s t ≡ t
settle_in_other Idle t h = refl
settle_in_other Calling t h = refl
settle_in_other Up t h = absurd (false≢true (sym h))
settle_in_other Releasing t h = refl

-- if the link is not up, nothing more is done
pub unsettled : (t : Turn) → is_up t.now.control.state ≡ false → settled t ≡ t
unsettled t h = settle_in_other t.now.control.state t h

pub settled_up : (t : Turn) → t.now.control.state ≡ Up → settled t ≡ close t
settled_up t e = ap (λ s. settle_in s t) e

-- another state than Up
pub not_up : (s : LinkState) → (s ≡ Up → ⊥) → is_up s ≡ false
not_up Idle h = refl
not_up Calling h = refl
not_up Up h = absurd (h refl)
not_up Releasing h = refl

-- a link stands for itself
abbrev pub itself : Held → Machine
itself held = record {
  path = held.path;
  params = held.params;
  control = held.control;
  outgoing = held.outgoing;
  incoming = held.incoming;
}

pub holds_itself : (held : Held) → IsWhole held → Holds held (itself held)
holds_itself held h = record {
  stands = record {
    path = refl;
    params = refl;
    control = refl;
    outgoing = record { va = sym (mod-eq_of_lt h.link.outgoing.va); vs = refl; top = refl; packets = refl; again = refl };
    incoming = record {
      modulus = refl;
      window = refl;
      mode = refl;
      vr = sym (mod-eq_of_lt h.link.incoming.vr);
      places = refl;
    };
  };
  formed = h.link;
  next = h.next;
}

-- a link that stands for a machine is whole
pub whole_of : (held : Held) (m : Machine) → Holds held m → IsWhole held
whole_of held m h = record { link = h.formed; next = h.next }

-- before the first act
pub shows_begin : (held : Held) (m : Machine) (room : Room) (frames told : ℕ) → HasRoom frames told room → Holds held m
    → Shows held room (begin m)
shows_begin held m room frames told r h = record { holds = h; frames = r.no_frames; told = r.nothing_told }

-- after the last
pub made : (held : Held) (room : Room) (t : Turn) (done : Done) → Shows held room t → done.frames ≡ room.frames.items
    → done.told ≡ room.told.items → Made t held done
made held room t done h frames told = record { holds = h.holds; frames = frames ∙ h.frames; told = told ∙ h.told }

pub made_unsettled :
    (held : Held) (room : Room) (t : Turn) (done : Done) → Shows held room t → is_up t.now.control.state ≡ false
    → done.frames ≡ room.frames.items → done.told ≡ room.told.items → Made (settled t) held done
made_unsettled held room t done h off frames told =
    let P : Turn → Type 0 = λ x. Made x held done in
    subst P (sym (unsettled t off)) (made held room t done h frames told)

-- the same of another act that does the same
pub makes_same :
    (act other : Act) (before following : Held) (result : Result Done OutOfMemory)
    → ((m : Machine) → Holds before m → act (begin m) ≡ other (begin m)) → Makes act before following result
    → Makes other before following result
makes_same act other before following (Ok done) same makes = λ m h.
    let P : Turn → Type 0 = λ t. Made (settled t) following done in
    subst P (same m h) (makes m h)
makes_same act other before following (Err fault) same makes = makes

-- what a valid N(R) says
is_named_if_counted : (b : Bool) (d count : ℕ) (bad : BadNr)
    → ◌≡◌ {A = Result ℕ BadNr} (if b then Ok d else Err bad) (Ok count) → (b ≡ true) × (d ≡ count)
is_named_if_counted true d count bad h = (refl, ap counted h)
  where
    counted : Result ℕ BadNr → ℕ
    counted (Ok n) = n
    counted (Err e) = 0
is_named_if_counted false d count bad h = absurd (false≢true (ap is_good h))
  where
    is_good : Result ℕ BadNr → Bool
    is_good (Ok n) = true
    is_good (Err e) = false

-- N(R) acknowledges of the machine what it acknowledges of the link
pub as_machine :
    (held : Held) (m : Machine) (nr : ℕ) → Holds held m
    → acknowledgement held.incoming.modulus nr held.outgoing ≡ acknowledgement m.incoming.modulus nr m.outgoing
as_machine held m nr h =
    same_acknowledgement held.outgoing m.outgoing held.incoming.modulus nr h.formed.incoming.modulus h.stands.outgoing
    ∙ ap (λ k. acknowledgement k nr m.outgoing) h.stands.incoming.modulus

pub valid_number :
    (held : Held) (m : Machine) (nr count : ℕ) → Holds held m → acknowledgement held.incoming.modulus nr held.outgoing
    ≡ Ok count
    → (is_valid nr m ≡ true) × (named nr m ≡ m.outgoing.va + count)
valid_number held m nr count h e =
    let same = as_machine held m nr h in
    both (is_named_if_counted (is_named m.incoming.modulus nr m.outgoing) (ahead m.incoming.modulus m.outgoing.va nr)
    count _ (sym same ∙ e))
  where
    both :
        (is_valid nr m ≡ true) × (ahead m.incoming.modulus m.outgoing.va nr ≡ count)
        → (is_valid nr m ≡ true) × (named nr m ≡ m.outgoing.va + count)
    both found = (found.0, ap (λ k. m.outgoing.va + k) found.1)

pub ok_if : {A E : Type 0} (b : Bool) (x : A) (e : E) → is_ok (if b then Ok x else Err e) ≡ b
ok_if true x e = refl
ok_if false x e = refl

-- N(S) lies as far ahead of V(R)
pub vr_lies_ahead : (held : Held) (m : Machine) (ns : ℕ) → Holds held m
    → nat_lt (ahead held.incoming.modulus held.incoming.vr ns) (held.incoming.modulus / 2) ≡ lies_ahead ns m
vr_lies_ahead held m ns h =
    ap (λ v. nat_lt (ahead held.incoming.modulus v ns) (held.incoming.modulus / 2)) h.stands.incoming.vr
    ∙ ap (λ k. nat_lt (ahead k (m.incoming.vr % m.incoming.modulus) ns) (k / 2)) h.stands.incoming.modulus
    ∙ ap (λ d. nat_lt d (m.incoming.modulus / 2)) (ahead-mod m.incoming.modulus m.incoming.vr ns)

-- V(S) lies from V(A) to the top, also in whole numbers
pub in_number_order : (held o : Outgoing) → IsOutgoing held → StandsForOutgoing held o → (o.va ≤ o.vs) × (o.vs ≤ o.top)
in_number_order held o formed stands =
    let a : held.va ≤ held.vs = formed.vs in
    let b : held.vs ≤ held.top = formed.top in
    let c : held.vs + o.va ≡ o.vs + held.va = stands.vs in
    let d : held.top + o.va ≡ o.top + held.va = stands.top in
    (omega arith, omega arith)

-- it names a number up to the top
pub below_top : (held : Held) (m : Machine) (nr : ℕ) → Holds held m → is_valid nr m ≡ true → named nr m ≤ m.outgoing.top
below_top held m nr h valid =
    let order = in_number_order held.outgoing m.outgoing h.formed.outgoing h.stands.outgoing in
    let d = ahead m.incoming.modulus m.outgoing.va nr in
    let low : m.outgoing.va ≤ m.outgoing.vs = order.0 in
    let high : m.outgoing.vs ≤ m.outgoing.top = order.1 in
    let near : d ≤ m.outgoing.top - m.outgoing.va = leb-true d (m.outgoing.top - m.outgoing.va) valid in
    omega arith

pub same_less : (a b c d : ℕ) → (a < b → c < d) → (b ≤ a → d ≤ c) → nat_lt a b ≡ nat_lt c d
same_less a b c d f g = elim (cases_lt a b) [
  | inl h ↦ lt-ltb a b h ∙ sym (lt-ltb c d (f h))
  | inr h ↦ le-ltb a b h
      ∙ sym (le-ltb c d (g h))
]

-- some packets are acknowledged, and perhaps all that were sent
pub some_acknowledged : (va n count : ℕ) → n ≡ va + count → nat_lt 0 count ≡ nat_lt va n
some_acknowledged va n count e = same_less 0 count va n (λ h. omega arith) (λ h. omega arith)

pub all_acknowledged : (n top : ℕ) → n ≤ top → not (nat_lt n top) ≡ (n == top)
all_acknowledged n top h = by (nat_lt n top) (n == top) refl refl
  where
    by : (a b : Bool) → nat_lt n top ≡ a → (n == top) ≡ b → not a ≡ b
    by true true e f = absurd (let l : n < top = ltb-true n top e in let s : n ≡ top = eqb-true n top f in omega arith)
    by true false e f = refl
    by false true e f = refl
    by false false e f = absurd (let l : top ≤ n = ltb-false n top e in let s : n ≡ top
        → ⊥ = eqb-false n top f in s (omega arith))

not_named_if_bad : (b : Bool) (d : ℕ) (bad bad' : BadNr)
    → ◌≡◌ {A = Result ℕ BadNr} (if b then Ok d else Err bad) (Err bad') → b ≡ false
not_named_if_bad true d bad bad' h = absurd (false≢true (sym (ap is_good h)))
  where
    is_good : Result ℕ BadNr → Bool
    is_good (Ok n) = true
    is_good (Err e) = false
not_named_if_bad false d bad bad' h = refl

pub invalid_number :
    (held : Held) (m : Machine) (nr : ℕ) (bad : BadNr) → Holds held m
    → acknowledgement held.incoming.modulus nr held.outgoing ≡ Err bad → is_valid nr m ≡ false
invalid_number held m nr bad h e =
    not_named_if_bad
    (is_named m.incoming.modulus nr m.outgoing) (ahead m.incoming.modulus m.outgoing.va nr) _ bad
    (sym (as_machine held m nr h) ∙ e)

-- a frame with a valid N(R)
pub makes_numbered :
    (act : ℕ → Act) (nr : ℕ) (before following : Held) (result : Result Done OutOfMemory)
    → ((m : Machine) → Holds before m → is_valid nr m ≡ true)
    → Makes (λ t. act (named nr t.now) t) before following result → Makes (hear_numbered nr act) before following result
makes_numbered act nr before following (Ok done) valid makes = λ m h.
    let P : Turn → Type 0 = λ x. Made (settled x) following done in
    subst P (sym (cond-true (is_valid nr m) _ (reset (begin m)) (valid m h))) (makes m h)
makes_numbered act nr before following (Err fault) valid makes = makes

-- a frame with another
pub makes_reset :
    (act : ℕ → Act) (nr : ℕ) (before following : Held) (result : Result Done OutOfMemory)
    → ((m : Machine) → Holds before m → is_valid nr m ≡ false)
    → Makes reset before following result → Makes (hear_numbered nr act) before following result
makes_reset act nr before following (Ok done) not_valid makes = λ m h.
    let P : Turn → Type 0 = λ x. Made (settled x) following done in
    subst P (sym (cond-false (is_valid nr m) (act (named nr m) (begin m)) _ (not_valid m h))) (makes m h)
makes_reset act nr before following (Err fault) not_valid makes = makes

-- what a frame does by the state
pub makes_hear :
    (s : LinkState) (command : Bool) (kind : Kind) (before following : Held) (result : Result Done OutOfMemory)
    → before.control.state ≡ s
    → Makes (hear_in s command kind) before following result → Makes (hear command kind) before following result
makes_hear s command kind before following (Ok done) is makes = λ m h.
    let state : s ≡ m.control.state = sym is ∙ ap (λ (c : Control). c.state) h.stands.control in
    let P : LinkState → Type 0 = λ x. Made (settled (hear_in x command kind (begin m))) following done in
    subst P state (makes m h)
makes_hear s command kind before following (Err fault) is makes = makes

-- Idle: a link that opens is not released
pub settled_open : (modulus : ℕ) (flag : Bool) (t : Turn) → settled (open_called modulus flag t)
    ≡ open_called modulus flag t
settled_open modulus flag t = refl

idle_is : (t : Turn) → t.now.control.state ≡ Idle → is_up t.now.control.state ≡ false
idle_is t e = ap is_up e

pub settled_idle : (command : Bool) (kind : Kind) (t : Turn) → t.now.control.state ≡ Idle
    → settled (hear_idle command kind t) ≡ hear_idle command kind t
settled_idle command (Setup Sabm flag) t e = settled_open 8 flag t
settled_idle command (Setup Sabme flag) t e = settled_open 128 flag t
settled_idle command (Setup Disc flag) t e = unsettled _ (idle_is t e)
settled_idle command (Setup Dm flag) t e = unsettled _ (idle_is t e)
settled_idle command (Setup Ua flag) t e = unsettled _ (idle_is t e)
settled_idle command (Info ns nr true pid octets) t e = unsettled _ (idle_is t e)
settled_idle command (Info ns nr false pid octets) t e = unsettled _ (idle_is t e)
settled_idle true (Super which nr true) t e = unsettled _ (idle_is t e)
settled_idle true (Super which nr false) t e = unsettled _ (idle_is t e)
settled_idle false (Super which nr flag) t e = unsettled _ (idle_is t e)
settled_idle command (Ui flag pid octets) t e = unsettled _ (idle_is t e)
settled_idle command (Other Frmr flag octets) t e = unsettled _ (idle_is t e)
settled_idle true (Other Xid flag octets) t e = unsettled _ (idle_is t e)
settled_idle false (Other Xid flag octets) t e = unsettled _ (idle_is t e)
settled_idle command (Other Test flag octets) t e = unsettled _ (idle_is t e)

releasing_is : (t : Turn) → t.now.control.state ≡ Releasing → is_up t.now.control.state ≡ false
releasing_is t e = ap is_up e

pub settled_releasing : (command : Bool) (kind : Kind) (t : Turn) → t.now.control.state ≡ Releasing
    → settled (hear_releasing command kind t) ≡ hear_releasing command kind t
settled_releasing command (Setup Sabm flag) t e = unsettled _ (releasing_is t e)
settled_releasing command (Setup Sabme flag) t e = unsettled _ (releasing_is t e)
settled_releasing command (Setup Disc flag) t e = unsettled _ (releasing_is t e)
settled_releasing command (Setup Dm true) t e = unsettled (end_call Asked t) refl
settled_releasing command (Setup Dm false) t e = unsettled _ (releasing_is t e)
settled_releasing command (Setup Ua true) t e = unsettled (end_call Asked t) refl
settled_releasing command (Setup Ua false) t e = unsettled _ (releasing_is t e)
settled_releasing command (Info ns nr true pid octets) t e = unsettled _ (releasing_is t e)
settled_releasing command (Info ns nr false pid octets) t e = unsettled _ (releasing_is t e)
settled_releasing true (Super which nr true) t e = unsettled _ (releasing_is t e)
settled_releasing true (Super which nr false) t e = unsettled _ (releasing_is t e)
settled_releasing false (Super which nr flag) t e = unsettled _ (releasing_is t e)
settled_releasing command (Ui flag pid octets) t e = unsettled _ (releasing_is t e)
settled_releasing command (Other which flag octets) t e = unsettled _ (releasing_is t e)

-- whether the number that N(R) names was sent
sent_near : (m : Machine) (nr : ℕ)
    → nat_lt (ahead m.incoming.modulus m.outgoing.va nr) (m.outgoing.top - m.outgoing.va)
    ≡ nat_lt (named nr m) m.outgoing.top
sent_near m nr =
    let d = ahead m.incoming.modulus m.outgoing.va nr in
    same_less d (m.outgoing.top - m.outgoing.va) (m.outgoing.va + d) m.outgoing.top (λ h. omega arith) (λ h. omega arith)

pub sent_number : (held : Held) (m : Machine) (nr : ℕ) → Holds held m
    → nat_lt (ahead held.incoming.modulus held.outgoing.va nr) (held.outgoing.top - held.outgoing.va)
    ≡ nat_lt (named nr m) m.outgoing.top
sent_number held m nr h =
    same_sent held.outgoing m.outgoing held.incoming.modulus nr h.formed.incoming.modulus h.stands.outgoing
    ∙ ap (λ k. nat_lt (ahead k m.outgoing.va nr) (m.outgoing.top - m.outgoing.va)) h.stands.incoming.modulus
    ∙ sent_near m nr

-- it is to be sent again if it was
pub holds_picked :
    (sent : Bool) (held : Held) (m : Machine) (following : Outgoing) (nr : ℕ) → Holds held m
    → sent ≡ nat_lt (named nr m) m.outgoing.top
    → StandsForOutgoing following (after_ask_again m.incoming.modulus nr m.outgoing) → IsOutgoing following
    → Holds (record held {
      control = if sent then picking held.control else held.control;
      outgoing = following;
    }) (picked_out (named nr m) m)
holds_picked true held m following nr h e stands formed =
    let n = named nr m in
    let sent : nat_lt n m.outgoing.top ≡ true = sym e in
    let o : Outgoing = asked_again n m.outgoing in
    let S : Outgoing → Type 0 = λ x. StandsForOutgoing following x in
    let asked : StandsForOutgoing following o = subst S (cond-true _ o m.outgoing (sent_near m nr ∙ sent)) stands in
    let P : Machine → Type 0 = λ x. Holds (record held {
      control = picking held.control;
      outgoing = following;
    }) x in
    subst P (sym (cond-true (nat_lt n m.outgoing.top) _ m sent))
    (holds_outgoing _ _ following o (holds_setting picking held m h) formed asked)
holds_picked false held m following nr h e stands formed =
    let n = named nr m in
    let not_sent : nat_lt n m.outgoing.top ≡ false = sym e in
    let o : Outgoing = asked_again n m.outgoing in
    let S : Outgoing → Type 0 = λ x. StandsForOutgoing following x in
    let same : StandsForOutgoing following m.outgoing = subst S (cond-false _ o m.outgoing (sent_near m nr ∙ not_sent)) stands in
    let P : Machine → Type 0 = λ x. Holds (record held { outgoing = following }) x in
    subst P (sym (cond-false (nat_lt n m.outgoing.top) (record m {
      control = picking m.control;
      outgoing = o;
    }) m not_sent)) (holds_outgoing held m following m.outgoing h formed same)
