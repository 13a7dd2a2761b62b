-- A piece that a station sends a connection.
use Rattle.channel_bench.proofs.Common.{◌≡◌, ◌≢◌, List, ◌++◌, cond, sym, ap, ◌∙◌, subst, eq-eqb, ne_eqb, AgwMessage}
use Rattle.channel_bench.proofs.Common.{messages_in, End, Piece, ids_of, new_messages, Side, SideState, told_octets}
use Rattle.channel_bench.proofs.Common.{told_piece, EarStandsFor, StandsForSide, told_all}
use Rattle.agwpe_port.specs.Held.{StandsFor as AgwStandsFor}
use Rattle.station.specs.StandsFor.{StandsFor as StationStandsFor}
use Rattle.agwpe_port.proofs.StreamLemmas.{following}

-- it is another's, and is dropped
pub told_other : (piece : Piece) (side : SideState) → piece.id ≢ 1 → told_piece piece side ≡ side
told_other piece side other = ap (λ b. cond b (told_octets piece.octets side) side) (ne_eqb piece.id 1 other)

told_own : (piece : Piece) (side : SideState) → piece.id ≡ 1 → told_piece piece side ≡ told_octets piece.octets side
told_own piece side own = ap (λ b. cond b (told_octets piece.octets side) side) (eq-eqb piece.id 1 own)

-- all but what the host program was told is as it was
pub record KeepsStation (before after : Side) : Type 0 where
  pub end : after.end ≡ before.end
  pub station : after.station ≡ before.station
  pub there : after.there ≡ before.there
  pub ear : after.ear ≡ before.ear
  pub towards : after.towards ≡ before.towards
  pub matched : after.matched ≡ before.matched
  pub air : after.air ≡ before.air
  pub silenced : after.silenced ≡ before.silenced

-- it is the host program's, which reads the messages that end with it
pub told_messages : (end : End) (before after : Side) (side : SideState) (piece : Piece) (messages : List AgwMessage)
    → StandsForSide end before side → KeepsStation before after → piece.id ≡ 1
    → AgwStandsFor after.reader (side.stream ++ piece.octets)
    → messages_in (side.stream ++ piece.octets) ≡ messages_in side.stream ++ messages
    → after.program ≡ told_all messages before.program
    → StandsForSide end after (told_piece piece side)
told_messages end before after side piece messages h same own reader read told =
    let new : messages ≡ new_messages side.stream piece.octets =
    following (messages_in (side.stream ++ piece.octets)) (messages_in side.stream) messages read in
    subst (StandsForSide end after) (sym (told_own piece side own)) (record {
      end_is = same.end ∙ h.end_is;
      station = subst (λ s. StationStandsFor s side.station) (sym same.station) h.station;
      ids = ap ids_of same.station ∙ h.ids;
      there = ap (λ t. t.items) same.there ∙ h.there;
      reader = reader;
      program = told ∙ ap (λ ms. told_all ms before.program) new
          ∙ ap (told_all (new_messages side.stream piece.octets)) h.program;
      ear = subst (λ e. EarStandsFor e side.blocks side.samples) (sym same.ear) h.ear;
      towards = ap (λ t. t.items) same.towards ∙ h.towards;
      matched = same.matched ∙ h.matched;
      air = same.air ∙ h.air;
      loud = h.loud;
      silenced = same.silenced ∙ h.silenced;
    })
