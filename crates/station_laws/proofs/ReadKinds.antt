-- A frame that is read in another modulus passes a test that no I frame passes only if it passed it as it was sent.
use Rattle.station_laws.proofs.Common.{◌≡◌, ℕ, ◌+◌, ◌*◌, ◌%◌, nat_lt, Bool, true, false, List, [], ◌∷◌, length, cond}
use Rattle.station_laws.proofs.Common.{Option, Some, None, refl, sym, ap, ◌∙◌, bit, Frame, Kind, Info, Super, Setup, Ui}
use Rattle.station_laws.proofs.Common.{Other, Modulus, Eight, OneTwentyEight, frame_read, info_read_wide, kind_read}
use Rattle.station_laws.proofs.Common.{with_kind}
use Rattle.std.proofs.Common.{◌/◌}
use Rattle.link_world.specs.Reading.{is_odd}

-- no I frame passes the test
abbrev pub PassesNoInfo : (Kind → Bool) → Type 0
PassesNoInfo test = (ns nr : ℕ) (poll : Bool) (pid : ℕ) (octets : List ℕ) → test (Info ns nr poll pid octets) ≡ false

same_kind : (test : Kind → Bool) (kind found : Kind) → test kind ≡ false → Some kind ≡ Some found → test found ≡ false
same_kind test kind found none is = let same : kind ≡ found = cc in ap test (sym same) ∙ none

narrow_kind :
    (test : Kind → Bool) (b : Bool) (kind found : Kind) → test kind ≡ false → cond b (Some kind) None ≡ Some found
    → test found ≡ false
narrow_kind test true kind found none is = same_kind test kind found none is
narrow_kind test false kind found none is = absurd (cc)

wide_kind :
    (test : Kind → Bool) → PassesNoInfo test → (ns nr : ℕ) (poll : Bool) (second : ℕ) (octets : List ℕ) (found : Kind)
    → info_read_wide ns nr poll second octets ≡ Some found → test found ≡ false
wide_kind test no_info ns nr poll second [] found is = absurd (cc)
wide_kind test no_info ns nr poll second (pid ∷ octets) found is =
    let high = 16 * nr + 8 * bit poll + ns in
    same_kind test (Info high (second / 2) (is_odd second) pid octets) found
    (no_info high (second / 2) (is_odd second) pid octets) is

kind_test :
    (test : Kind → Bool) → PassesNoInfo test → (written read : Modulus) (kind found : Kind)
    → kind_read written read kind ≡ Some found → test kind ≡ false → test found ≡ false
kind_test test no_info Eight Eight kind found is none = same_kind test kind found none is
kind_test test no_info OneTwentyEight OneTwentyEight kind found is none = same_kind test kind found none is
kind_test test no_info Eight OneTwentyEight (Info ns nr poll pid octets) found is none =
    wide_kind test no_info ns nr poll pid octets found is
kind_test test no_info Eight OneTwentyEight (Super which nr flag) found is none = absurd (cc)
kind_test test no_info Eight OneTwentyEight (Setup which flag) found is none =
    same_kind test (Setup which flag) found none is
kind_test test no_info Eight OneTwentyEight (Ui flag pid octets) found is none =
    same_kind test (Ui flag pid octets) found none is
kind_test test no_info Eight OneTwentyEight (Other which flag octets) found is none =
    same_kind test (Other which flag octets) found none is
kind_test test no_info OneTwentyEight Eight (Info ns nr poll pid octets) found is none =
    let last = 2 * nr + bit poll in
    narrow_kind test (nat_lt (length octets) 256) (Info (ns % 8) (ns / 16) (is_odd (ns / 8)) last (pid ∷ octets)) found
    (no_info (ns % 8) (ns / 16) (is_odd (ns / 8)) last (pid ∷ octets)) is
kind_test test no_info OneTwentyEight Eight (Super which nr flag) found is none = absurd (cc)
kind_test test no_info OneTwentyEight Eight (Setup which flag) found is none =
    same_kind test (Setup which flag) found none is
kind_test test no_info OneTwentyEight Eight (Ui flag pid octets) found is none =
    same_kind test (Ui flag pid octets) found none is
kind_test test no_info OneTwentyEight Eight (Other which flag octets) found is none =
    same_kind test (Other which flag octets) found none is

pub frame_test :
    (test : Kind → Bool) → PassesNoInfo test → (written read : Modulus) (f found : Frame)
    → frame_read written read f ≡ Some found → test f.kind ≡ false → test found.kind ≡ false
frame_test test no_info written read f found is none = go (kind_read written read f.kind) refl is
  where
    go : (o : Option Kind) → kind_read written read f.kind ≡ o → with_kind f o ≡ Some found → test found.kind ≡ false
    go None e same = absurd (cc)
    go (Some kind) e same =
        let made : record f { kind = kind } ≡ found = cc in
        ap (λ (x : Frame). test x.kind) (sym made) ∙ kind_test test no_info written read f.kind kind e none
