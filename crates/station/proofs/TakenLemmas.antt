-- What the octets of a connection do, by what they say.
use Rattle.station.proofs.Common.{◌≡◌, ℕ, ◌==◌, Bool, true, false, List, [], ◌∷◌, ◌++◌, cond, is_some, Option, Some}
use Rattle.station.proofs.Common.{None, IfSome, refl, sym, ◌∙◌, ap, subst, eqb-true, AgwMessage, KissItem}
use Rattle.station.proofs.Common.{PortKind, Kiss, Agw, Said, Items, Messages, AreAnswered, Connection, connection_of}
use Rattle.station.proofs.Common.{AreSaidItems, AreSaidMessages, IsSaid, Says, taking, ending, heeding_all, Turn}
use Rattle.station.proofs.Common.{host_items, Reads}
use Rattle.agwpe_port.specs.Messages.{bad_length_in}
use Rattle.agwpe_port.proofs.StreamLemmas.{following}
use Rattle.kiss_port.specs.HeldHost.{HeldHost, HostStandsFor}
use Rattle.kiss_port.specs.WebRequests.{is_web_request}
use Rattle.station.specs.declared.connection.Reader.{Reader}
use Rattle.station.specs.declared.connection.Reader.TheVariants.{KissReader}
use Rattle.station.specs.HeldReading.{SaysItems, SaysMessages}
use Rattle.station.specs.Host.{AreTaken, AreTakenBy, new_items}
use Rattle.station.specs.Leaving.{shutting}

-- the connection that is found has the id
pub found_id : (id : ℕ) (connections : List Connection)
    → IfSome (connection_of id connections) (λ connection. connection.id ≡ id)
found_id id [] = tt
found_id id (x ∷ xs) = by_test (x.id == id) refl (found_id id xs)
  where
    by_test : (own : Bool) → (x.id == id) ≡ own → IfSome (connection_of id xs) (λ connection. connection.id ≡ id)
        → IfSome (cond own (Some x) (connection_of id xs)) (λ connection. connection.id ≡ id)
    by_test true is rest = eqb-true x.id id is
    by_test false is rest = rest

-- what the reader of a connection says, its octets say
pub said_by : (octets : List ℕ) (said : Said) (connection : Connection) (own : Option Connection)
    → own ≡ Some connection → Says connection.kind connection.stream octets said → IsSaid own octets said
said_by octets (Items items web) connection own is h =
    subst (λ (o : Option Connection). AreSaidItems o octets items.items web) (sym is) h
said_by octets (Messages messages failed) connection own is h =
    subst (λ (o : Option Connection). AreSaidMessages o octets messages.items failed) (sym is) h

-- a KISS connection, with the octets that came
pub kiss_reads :
    (before : Reader) (reader after : HeldHost) (kind : PortKind) (stream octets : List ℕ) → before ≡ KissReader reader
    → Reads before kind stream
    → ((read : List ℕ) → HostStandsFor reader read → HostStandsFor after (read ++ octets))
    → Reads (KissReader after) kind (stream ++ octets)
kiss_reads before reader after kind stream octets is reads stands =
    by_kind kind (subst (λ (r : Reader). Reads r kind stream) is reads)
  where
    by_kind : (kind : PortKind) → Reads (KissReader reader) kind stream
        → Reads (KissReader after) kind (stream ++ octets)
    by_kind Kiss h = stands stream h
    by_kind Agw h = absurd h

-- what the octets after those of a KISS connection say
pub kiss_says :
    (before : Reader) (reader after : HeldHost) (kind : PortKind) (stream octets : List ℕ) (items : List KissItem)
    (web : Bool) → before ≡ KissReader reader → Reads before kind stream
    → ((read : List ℕ) → HostStandsFor reader read → HostStandsFor after (read ++ octets))
    → ((read : List ℕ) → HostStandsFor reader read → host_items (read ++ octets) ≡ host_items read ++ items)
    → ((read : List ℕ) → HostStandsFor after read → web ≡ is_web_request read)
    → SaysItems kind stream octets items web
kiss_says before reader after kind stream octets items web is reads stands new told =
    by_kind kind (subst (λ (r : Reader). Reads r kind stream) is reads)
  where
    by_kind : (kind : PortKind) → Reads (KissReader reader) kind stream → SaysItems kind stream octets items web
    by_kind Kiss h = (
      following (host_items (stream ++ octets)) (host_items stream) items (new stream h),
      told (stream ++ octets) (stands stream h),
    )
    by_kind Agw h = absurd h

-- no connection takes none
pub taken_none : (octets : List ℕ) (turn : Turn) (own : Option Connection) → own ≡ None → AreTaken own octets turn turn
taken_none octets turn own is = subst (λ (o : Option Connection). AreTaken o octets turn turn) (sym is) refl

-- items are heeded, and a request of the web ends
pub taken_items : (id : ℕ) (octets : List ℕ) (turn : Turn) (items : List KissItem) (web : Bool)
    (own : Option Connection) → IfSome own (λ connection. connection.id ≡ id) → AreSaidItems own octets items web
    → AreTaken own octets turn (ending id web (heeding_all id items (taking id octets turn)))
taken_items id octets turn items web None same h = absurd h
taken_items id octets turn items web (Some connection) same h = by_kind connection.kind h
  where
    by_kind : (kind : PortKind) → SaysItems kind connection.stream octets items web
        → AreTakenBy kind connection octets turn (ending id web (heeding_all id items (taking id octets turn)))
    by_kind Kiss is =
        ap (λ (ends : Bool). ending id ends (heeding_all id items (taking id octets turn))) is.1
        ∙ ap (λ (all : List KissItem). ending id (is_web_request (connection.stream ++ octets))
        (heeding_all id all (taking id octets turn))) is.0
        ∙ ap (λ (n : ℕ). ending n (is_web_request (connection.stream ++ octets))
        (heeding_all n (new_items connection.stream octets) (taking n octets turn))) (sym same)
    by_kind Agw is = absurd is

-- messages are answered, and past too long a body the connection ends
pub taken_messages : (id : ℕ) (octets : List ℕ) (turn answered : Turn) (messages : List AgwMessage) (failed : Bool)
    (own : Option Connection) → IfSome own (λ connection. connection.id ≡ id)
    → AreSaidMessages own octets messages failed → AreAnswered id messages (taking id octets turn) answered
    → AreTaken own octets turn (ending id failed answered)
taken_messages id octets turn answered messages failed None same h g = absurd h
taken_messages id octets turn answered messages failed (Some connection) same h g = by_kind connection.kind h
  where
    by_kind : (kind : PortKind) → SaysMessages kind connection.stream octets messages failed
        → AreTakenBy kind connection octets turn (ending id failed answered)
    by_kind Kiss is = absurd is
    by_kind Agw is = (
      answered,
      subst (λ (all : List AgwMessage). AreAnswered connection.id all (taking connection.id octets turn) answered) is.0
          (subst (λ (n : ℕ). AreAnswered n messages (taking n octets turn) answered) (sym same) g),
      ap (λ (ends : Bool). ending id ends answered) is.1
          ∙ ap (λ (n : ℕ). ending n (is_some (bad_length_in (connection.stream ++ octets))) answered) (sym same),
    )

-- a connection that ends
pub ending_shut : (id : ℕ) (ends : Bool) (turn : Turn) → ends ≡ true → ending id ends turn ≡ shutting id turn
ending_shut id ends turn is = ap (λ (e : Bool). ending id e turn) is
