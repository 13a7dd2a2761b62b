-- What an event of a link sends to hosts.
use Rattle.station_laws.proofs.Common.{◌≡◌, ℕ, Bool, true, false, List, [], ◌∷◌, ◌++◌, length, cond, Option}
use Rattle.station_laws.proofs.Common.{Some, None, refl, sym, ap, ◌∙◌, append-nil, append_assoc, Callsign, SentFrame}
use Rattle.station_laws.proofs.Common.{Told, step, done_of, settled_link, with_links, telling_one, telling_to}
use Rattle.station_laws.proofs.Common.{queueing_frame, queueing_frames, event_of, Turn, changing, queueing, queueing_for}
use Rattle.station_laws.proofs.Common.{entering_for}
use Rattle.station_laws.proofs.Common.{Asker, dropping, may_enter, pieces_to}
use Rattle.station_laws.specs.Owners.{piece_of, OwnersAreTold}

-- a frame that is queued is nothing to a host
pub queued_pieces_for : (owner : Option ℕ) (asker : Option Asker) (link : Option ℕ) (octets : List ℕ) (turn : Turn)
    → (queueing_for owner asker link octets turn).out.pieces ≡ turn.out.pieces
queued_pieces_for owner asker link octets turn = go (may_enter owner turn.now)
  where
    go : (b : Bool) → (cond b (entering_for owner asker link octets turn) (dropping turn)).out.pieces ≡ turn.out.pieces
    go true = refl
    go false = refl

pub queued_pieces : (link : Option ℕ) (octets : List ℕ) (turn : Turn)
    → (queueing link octets turn).out.pieces ≡ turn.out.pieces
queued_pieces link octets turn = queued_pieces_for None None link octets turn

frames_pieces : (key : ℕ) (frames : List SentFrame) (turn : Turn)
    → (queueing_frames key frames turn).out.pieces ≡ turn.out.pieces
frames_pieces key [] turn = refl
frames_pieces key (f ∷ frames) turn =
    frames_pieces key frames (queueing_frame key f turn) ∙ queued_pieces (Some key) _ turn

told_pieces :
    (owner : Option ℕ) (local remote : Callsign) (told : List Told) (turn : Turn)
    → (telling_to owner local remote told turn).out.pieces ≡ turn.out.pieces ++ pieces_to owner local remote told
told_pieces None local remote [] turn = sym (append-nil turn.out.pieces)
told_pieces None local remote (item ∷ told) turn = told_pieces None local remote told turn
told_pieces (Some id) local remote [] turn = sym (append-nil turn.out.pieces)
told_pieces (Some id) local remote (item ∷ told) turn =
    told_pieces (Some id) local remote told (telling_one (Some id) local remote item turn)
    ∙ append_assoc turn.out.pieces (piece_of id local remote item ∷ []) (pieces_to (Some id) local remote told)

pub owners_are_told : OwnersAreTold
owners_are_told key event link turn at =
    let stepped = step link.machine event in
    let placed = changing (with_links (settled_link key link stepped.now)) turn in
    let done = done_of stepped in
    ap (λ place. (event_of key event place turn).out.pieces) at
    ∙ told_pieces link.owner link.local link.remote done.told (queueing_frames key done.frames placed)
    ∙ ap (λ ps. ps ++ pieces_to link.owner link.local link.remote done.told) (frames_pieces key done.frames placed)
