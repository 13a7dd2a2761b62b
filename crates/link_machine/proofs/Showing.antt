-- How what a link keeps follows the acts of a turn.
use Rattle.link_machine.proofs.Common.{◌≡◌, ℕ, ◌%◌, List, [], ◌∷◌, ◌++◌, length, map, refl, sym, ◌∙◌, ap, subst}
use Rattle.link_machine.proofs.Common.{map-append, Outgoing, IsOutgoing, StandsForOutgoing, Incoming, IsIncoming}
use Rattle.link_machine.proofs.Common.{StandsForIncoming, Packet, moved_on, give, Given, Control, Room, Machine, fresh}
use Rattle.link_machine.proofs.Common.{emptied, in_modulus, Sent, sent_in, sent_frame, sent_frames, Turn, changing}
use Rattle.link_machine.proofs.Common.{setting, sending, IsReady, Holds, Shows}
use Rattle.link_machine.specs.declared.machine.Machine.{Machine as Held}

-- only the variables change
pub holds_setting :
    (f : Control → Control) (held : Held) (m : Machine) → Holds held m
    → Holds (record held { control = f held.control }) (record m { control = f m.control })
holds_setting f held m h = record {
  stands = record {
    path = h.stands.path;
    params = h.stands.params;
    control = ap f h.stands.control;
    outgoing = h.stands.outgoing;
    incoming = h.stands.incoming;
  };
  formed = record {
    outgoing = h.formed.outgoing;
    incoming = h.formed.incoming;
  };
  next = h.next;
}

-- the variables become those that an act makes of them
pub holds_control :
    (f : Control → Control) (held : Held) (m : Machine) (c : Control) → c ≡ f held.control → Holds held m
    → Holds (record held { control = c }) (record m { control = f m.control })
holds_control f held m c e h =
    let P : Control → Type 0 = λ x. Holds (record held { control = x }) (record m { control = f m.control }) in
    subst P (sym e) (holds_setting f held m h)

pub shows_setting :
    (f : Control → Control) (held : Held) (room : Room) (t : Turn) → Shows held room t
    → Shows (record held { control = f held.control }) room (setting f t)
shows_setting f held room t h = record {
  holds = holds_setting f held t.now h.holds;
  frames = h.frames;
  told = h.told;
}

-- the machine changes and stays on its path
pub shows_changing :
    (f : Machine → Machine) (held following : Held) (room : Room) (t : Turn) → (f t.now).path ≡ t.now.path
    → Shows held room t
    → Holds following (f t.now) → Shows following room (changing f t)
shows_changing f held following room t path h new = record {
  holds = new;
  frames = h.frames ∙ ap (λ p. sent_frames p t.sent) (sym path);
  told = h.told;
}

-- a frame is sent
pub shows_sending :
    (x : Sent) (held : Held) (room following : Room) (t : Turn) → Shows held room t
    → following.frames.items ≡ room.frames.items ++ sent_frame held.path (sent_in held.incoming.modulus x) ∷ []
    → following.told ≡ room.told
    → Shows held following (sending x t)
shows_sending x held room following t h frames told = record {
  holds = h.holds;
  frames =
      frames
      ∙ ap (λ fs. fs ++ sent_frame held.path (sent_in held.incoming.modulus x) ∷ []) h.frames
      ∙ ap (λ p. sent_frames t.now.path t.sent ++ sent_frame p (sent_in held.incoming.modulus x) ∷ [])
      h.holds.stands.path
      ∙ ap (λ k. sent_frames t.now.path t.sent ++ sent_frame t.now.path (sent_in k x) ∷ [])
      h.holds.stands.incoming.modulus
      ∙ sym (map-append (sent_frame t.now.path) t.sent (sent_in t.now.incoming.modulus x ∷ []));
  told = ap (λ v. v.items) told ∙ h.told;
}

-- the same of a turn
pub shows_control :
    (f : Control → Control) (held : Held) (c : Control) (room : Room) (t : Turn) → c ≡ f held.control
    → Shows held room t
    → Shows (record held { control = c }) room (setting f t)
shows_control f held c room t e h =
    let P : Control → Type 0 = λ x. Shows (record held { control = x }) room (setting f t) in
    subst P (sym e) (shows_setting f held room t h)

-- V(R) as it is sent
pub vr_as_sent :
    (held : Held) (m : Machine) (nr : ℕ) → Holds held m → nr ≡ m.incoming.vr % m.incoming.modulus
    → nr ≡ m.incoming.vr % held.incoming.modulus
vr_as_sent held m nr h e = e ∙ ap (λ k. m.incoming.vr % k) (sym h.stands.incoming.modulus)

-- a set-up begins
pub shows_fresh : (held following : Held) (room : Room) (t : Turn) → Shows held room t
    → ((m : Machine) → Holds held m → Holds following (fresh m)) → Shows following room (changing fresh t)
shows_fresh held following room t h new = shows_changing fresh held following room t refl h (new t.now h.holds)

-- what waits is forgotten
pub shows_emptied : (held following : Held) (room : Room) (t : Turn) → Shows held room t
    → ((m : Machine) → Holds held m → Holds following (emptied m)) → Shows following room (changing emptied t)
shows_emptied held following room t h new = shows_changing emptied held following room t refl h (new t.now h.holds)

-- numbers are modulo another modulus
pub shows_in_modulus :
    (modulus : ℕ) (held following : Held) (room : Room) (t : Turn) → Shows held room t
    → ((m : Machine) → Holds held m → Holds following (in_modulus modulus m))
    → Shows following room (changing (in_modulus modulus) t)
shows_in_modulus modulus held following room t h new =
    shows_changing (in_modulus modulus) held following room t refl h (new t.now h.holds)

-- what waits to be acknowledged changes
pub holds_outgoing :
    (held : Held) (m : Machine) (following o : Outgoing) → Holds held m → IsOutgoing following → StandsForOutgoing following o
    → Holds (record held { outgoing = following }) (record m { outgoing = o })
holds_outgoing held m following o h formed stands = record {
  stands = record {
    path = h.stands.path;
    params = h.stands.params;
    control = h.stands.control;
    outgoing = stands;
    incoming = h.stands.incoming;
  };
  formed = record {
    outgoing = formed;
    incoming = h.formed.incoming;
  };
  next = h.next;
}

-- packets are given, and V(R) has moved on
pub holds_incoming :
    (held : Held) (m : Machine) (following i : Incoming) → Holds held m → StandsForIncoming following i → IsIncoming following
    → IsReady following
    → Holds (record held { incoming = following }) (record m { incoming = i })
holds_incoming held m following i h stands formed ready = record {
  stands = record {
    path = h.stands.path;
    params = h.stands.params;
    control = h.stands.control;
    outgoing = h.stands.outgoing;
    incoming = stands;
  };
  formed = record {
    outgoing = h.formed.outgoing;
    incoming = formed;
  };
  next = ready;
}

pub shows_incoming :
    (held : Held) (following : Incoming) (room after : Room) (t : Turn) (i : Incoming) (packets : List Packet)
    → Shows held room t
    → StandsForIncoming following (moved_on (length packets) t.now.incoming) → IsIncoming following → IsReady following
    → after.told.items ≡ room.told.items ++ map Given packets → after.frames ≡ room.frames
    → Shows (record held { incoming = following }) after (give packets t)
shows_incoming held following room after t i packets h stands formed ready told frames = record {
  holds = holds_incoming held t.now following (moved_on (length packets) t.now.incoming) h.holds stands formed ready;
  frames = ap (λ v. v.items) frames ∙ h.frames;
  told = told ∙ ap (λ xs. xs ++ map Given packets) h.told;
}

pub same_incoming :
    (held : Held) (following : Incoming) (room : Room) (t : Turn) → Shows held room t
    → StandsForIncoming following t.now.incoming → IsIncoming following
    → IsReady following → Shows (record held { incoming = following }) room t
same_incoming held following room t h stands formed ready = record {
  holds = holds_incoming held t.now following t.now.incoming h.holds stands formed ready;
  frames = h.frames;
  told = h.told;
}

pub shows_as :
    (held : Held) (following : Incoming) (room : Room) (t u : Turn) → t ≡ u
    → Shows (record held { incoming = following }) room t
    → Shows (record held { incoming = following }) room u
shows_as held following room t u e h = let P : Turn → Type 0 = λ x. Shows (record held { incoming = following }) room x in
    subst P e h
