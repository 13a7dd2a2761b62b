-- What a station's definitions of texts and frames are in the formats' terms.
use Rattle.station_laws.proofs.Common.{ℕ, List, refl, sym, subst, Frame, Modulus, frame_octets, path_octets}
use Rattle.ax25_frames.specs.FrameOctets.{IsWrittenFrame}
use Rattle.station.proofs.CallLemmas.{call_of_text-is, IsCallText-from}
use Rattle.station.proofs.FrameLemmas.{frame_spelled}
use Rattle.station_laws.specs.OneSpelling.{CallTextsAgree, HasCalls, WrittenFramesAgree}
use Rattle.station_laws.proofs.Addresses.{path_written}

pub call_texts_agree : CallTextsAgree
call_texts_agree text call = (call_of_text-is text call, IsCallText-from text call)

own_octets : (modulus : Modulus) (frame : Frame) → HasCalls frame.path
    → IsWrittenFrame frame modulus (frame_octets modulus frame)
unfolding frame_octets
own_octets modulus frame calls = record {
  address = path_octets frame.path;
  path = path_written frame.path
      (record { few = calls.few; dest = calls.dest; source = calls.source; hops = calls.hops });
  spelling = refl;
}

pub written_frames_agree : WrittenFramesAgree
written_frames_agree modulus frame octets calls = (
  frame_spelled modulus frame octets,
  λ is. subst (λ (xs : List ℕ). IsWrittenFrame frame modulus xs) (sym is) (own_octets modulus frame calls),
)
