-- The stream of a host program whose messages are whole: with one message more, that message alone is new.
use Rattle.channel_bench.proofs.Common.{◌≡◌, ℕ, false, List, [], ◌∷◌, ◌++◌, length, drop, None, refl, sym, ap, ◌∙◌}
use Rattle.channel_bench.proofs.Common.{append-nil}
use Rattle.channel_bench.proofs.Common.{append_assoc, bad_length_in, messages_in, spelling, AgwMessage, IsWritten}
use Rattle.channel_bench.proofs.Common.{new_messages, full_duplex_octets}
use Rattle.std.proofs.lemmas.List.{drop_at}
use Rattle.agwpe_port.specs.Messages.{Reading, reading}
use Rattle.agwpe_port.proofs.WrittenLemmas.{written_reads}
use Rattle.kiss_port.specs.Items.{items_in}
use Rattle.kiss_port.specs.WebRequests.{has_web_beginning, is_web_request, host_items}
use Rattle.kiss_port.specs.declared.item.KissItem.{KissItem}
use Rattle.kiss_port.specs.declared.item.KissItem.TheVariants.{Set}
use Rattle.kiss_port.proofs.WebLemmas.{kiss_items, no_web_before}
use Rattle.station.specs.Host.{new_items}

-- messages, and what is read after them
abbrev pub read_after : List AgwMessage → Reading → Reading
read_after messages reading = record { messages = messages ++ reading.messages; bad = reading.bad }

-- what comes after the stream is read by itself
pub record IsWhole (stream : List ℕ) : Type 0 where
  pub messages : List AgwMessage
  pub read : (more : List ℕ) → reading (stream ++ more) ≡ read_after messages (reading more)

pub new_stream : IsWhole []
new_stream = record { messages = []; read = λ more. refl }

pub whole_more : (stream : List ℕ) (message : AgwMessage) → IsWritten message → IsWhole stream
    → IsWhole (stream ++ spelling message)
whole_more stream message written h = record {
  messages = h.messages ++ message ∷ [];
  read = λ more.
      ap reading (append_assoc stream (spelling message) more) ∙ h.read (spelling message ++ more)
      ∙ ap (read_after h.messages) (written_reads message written more)
      ∙ ap (λ ms. let r : Reading = record { messages = ms; bad = (reading more).bad } in r)
      (sym (append_assoc h.messages (message ∷ []) (reading more).messages));
}

-- what a whole stream is read as
read_alone : (stream : List ℕ) → (h : IsWhole stream)
    → reading stream ≡ (let r : Reading = record { messages = h.messages; bad = None } in r)
unfolding reading
read_alone stream h =
    ap reading (sym (append-nil stream)) ∙ h.read []
    ∙ ap (λ ms. let r : Reading = record { messages = ms; bad = None } in r) (append-nil h.messages)

pub one_new :
    (stream : List ℕ) (message : AgwMessage) → IsWritten message → (h : IsWhole stream)
    → new_messages stream (spelling message) ≡ message ∷ []
unfolding whole_more
one_new stream message written h =
    let before = ap (λ (r : Reading). length r.messages) (read_alone stream h) in
    let after = ap (λ (r : Reading). r.messages) (read_alone (stream ++ spelling message)
    (whole_more stream message written h)) in
    ap (λ n. drop n (messages_in (stream ++ spelling message))) before ∙ ap (drop (length h.messages)) after
    ∙ drop_at h.messages (message ∷ []) (length h.messages) refl

pub none_bad : (stream : List ℕ) (message : AgwMessage) → IsWritten message → IsWhole stream
    → bad_length_in (stream ++ spelling message) ≡ None
none_bad stream message written h =
    ap (λ (r : Reading). r.bad) (read_alone (stream ++ spelling message) (whole_more stream message written h))

-- ---- KISS

-- full duplex is set, any number of times, and once more by a program that is none of the web
pub record IsSetting (stream : List ℕ) : Type 0 where
  pub items : List KissItem
  pub read : (more : List ℕ) → items_in (stream ++ more) ≡ items ++ items_in more
  pub kiss : (more : List ℕ) → is_web_request (stream ++ (full_duplex_octets ++ more)) ≡ false

-- a FEND begins no request of the web
sets_by_kiss : (more : List ℕ) → is_web_request (full_duplex_octets ++ more) ≡ false
unfolding is_web_request has_web_beginning
sets_by_kiss more = refl

pub new_setting : IsSetting []
new_setting = record { items = []; read = λ more. refl; kiss = λ more. sets_by_kiss more }

-- the item that sets it
abbrev pub full_item : KissItem
full_item = Set 0 5 1

one_set : (more : List ℕ) → items_in (full_duplex_octets ++ more) ≡ full_item ∷ items_in more
unfolding items_in
one_set more = refl

none_in : items_in [] ≡ []
unfolding items_in
none_in = refl

pub setting_more : (stream : List ℕ) → IsSetting stream → IsSetting (stream ++ full_duplex_octets)
setting_more stream h = record {
  items = h.items ++ full_item ∷ [];
  read = λ more.
      ap items_in (append_assoc stream full_duplex_octets more) ∙ h.read (full_duplex_octets ++ more)
      ∙ ap (λ xs. h.items ++ xs) (one_set more) ∙ sym (append_assoc h.items (full_item ∷ []) (items_in more));
  kiss = λ more.
      ap is_web_request (append_assoc stream full_duplex_octets (full_duplex_octets ++ more))
      ∙ h.kiss (full_duplex_octets ++ more);
}

set_alone : (stream : List ℕ) → (h : IsSetting stream) → items_in stream ≡ h.items
set_alone stream h =
    ap items_in (sym (append-nil stream)) ∙ h.read [] ∙ ap (λ xs. h.items ++ xs) none_in ∙ append-nil h.items

pub no_web : (stream : List ℕ) → IsSetting stream → is_web_request (stream ++ full_duplex_octets) ≡ false
no_web stream h = h.kiss []

pub one_setting : (stream : List ℕ) → IsSetting stream → new_items stream full_duplex_octets ≡ full_item ∷ []
unfolding setting_more
one_setting stream h =
    let no_web_yet = no_web_before stream full_duplex_octets (no_web stream h) in
    ap (λ xs. drop (length xs) (host_items (stream ++ full_duplex_octets))) (kiss_items stream no_web_yet)
    ∙ ap (drop (length (items_in stream))) (kiss_items (stream ++ full_duplex_octets) (no_web stream h))
    ∙ ap (λ n. drop n (items_in (stream ++ full_duplex_octets))) (ap length (set_alone stream h))
    ∙ ap (drop (length h.items)) (set_alone (stream ++ full_duplex_octets) (setting_more stream h))
    ∙ drop_at h.items (full_item ∷ []) (length h.items) refl
