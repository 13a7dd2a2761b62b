-- What is written step by step is written in one.
use Rattle.tnc_ports.proofs.Common.{Bool, true, false, Some, Result, Ok, Err, is_err, OnOk, OnErr, ◌≡◌, ℕ, [], ◌++◌}
use Rattle.tnc_ports.proofs.Common.{refl, sym, ap, subst, inl, inr, ◌∙◌, append_assoc, append-nil, false≢true}
use Rattle.tnc_ports.proofs.Common.{flat_map-append, HasRisen, WrotePart, ReportLine, Hosts, report_text, output_octets}
use Rattle.tnc_ports.proofs.Common.{Live, SinkTold, Puts, ReportsMore, WritesMore}
use Rattle.std.proofs.Common.{List}
use Rattle.tnc_ports.specs.ReportText.{ended_line, sample_octets}
use Rattle.tnc_ports.specs.SampledWrites.{PutsAll, PutsPart, PutsBoth}

-- ---- one stream

all_none : (s : SinkTold) → PutsAll [] s s
all_none s = record { written = λ was e. e ∙ ap Some (sym (append-nil was)); faultless = refl }

all_all : (a b : List ℕ) (x y z : SinkTold) → PutsAll a x y → PutsAll b y z → PutsAll (a ++ b) x z
all_all a b x y z h g = record {
  written = λ was e. g.written (was ++ a) (h.written was e) ∙ ap Some (append_assoc was a b);
  faultless = g.faultless ∙ h.faultless;
}

-- all of a first part
part_of_all : (a b : List ℕ) (x y : SinkTold) → PutsAll a x y → PutsPart (a ++ b) x y
part_of_all a b x y h = record { written = λ was e. (a, b, refl, h.written was e) }

part_then : (a b : List ℕ) (x y : SinkTold) → PutsPart a x y → PutsPart (a ++ b) x y
part_then a b x y h = record {
  written = λ was e.
      let w = h.written was e in
      (w.0, w.1 ++ b, ap (λ t. t ++ b) w.2 ∙ append_assoc w.0 w.1 b, w.3);
}

all_then_part : (a b : List ℕ) (x y z : SinkTold) → PutsAll a x y → PutsPart b y z → PutsPart (a ++ b) x z
all_then_part a b x y z h g = record {
  written = λ was e.
      let w = g.written (was ++ a) (h.written was e) in
      (a ++ w.0, w.1, ap (λ t. a ++ t) w.2 ∙ sym (append_assoc a w.0 w.1), w.3 ∙ ap Some (append_assoc was a w.0));
}

-- what a write puts
pub put_wrote : {T E : Type 0} → (failed now : Bool) (octets : List ℕ) (x y : SinkTold) (result : Result T E)
    → failed ≡ false → now ≡ is_err result
    → ((was : List ℕ) → x.written ≡ Some was → OnOk result (y.written ≡ Some (was ++ octets)))
    → ((was : List ℕ) → x.written ≡ Some was → OnErr result (WrotePart was octets y.written))
    → OnOk result (y.faults ≡ x.faults) → OnErr result (HasRisen x.faults y.faults) → Puts failed now octets x y
put_wrote failed now octets x y (Ok v) ef en a p n h =
    subst (λ f. Puts f now octets x y) (sym ef) (subst (λ g. Puts false g octets x y) (sym en)
    (record { written = a; faultless = n }))
put_wrote failed now octets x y (Err e) ef en a p n h =
    subst (λ f. Puts f now octets x y) (sym ef) (subst (λ g. Puts false g octets x y) (sym en)
    (record { written = p }, h))

-- ---- both streams

none_both : (failed : Bool) (o r : SinkTold) → PutsBoth failed failed [] [] o o r r
none_both true o r = (refl, refl, refl)
none_both false o r = (all_none o, all_none r)

-- first the output, then the report
pub both_puts : (f m f' : Bool) (out text : List ℕ) (o o' r r' : SinkTold) → Puts f m out o o' → Puts m f' text r r'
    → PutsBoth f f' out text o o' r r'
both_puts true true f' out text o o' r r' h g = (g.0, h.1, g.1)
both_puts true false f' out text o o' r r' h g = absurd (false≢true h.0)
both_puts false false false out text o o' r r' h g = (h, g)
both_puts false false true out text o o' r r' h g =
    (subst (λ t. PutsPart t o o') (append-nil out) (part_of_all out [] o o' h), g.0, inr g.1)
both_puts false true true out text o o' r r' h g =
    (h.0, subst (λ s. PutsPart text r s) (sym g.1) (part_of_all [] text r r (all_none r)), inl h.1)
both_puts false true false out text o o' r r' h g = absurd (false≢true g.0)

-- the report alone
pub report_puts : (f f' : Bool) (text : List ℕ) (o r r' : SinkTold) → Puts f f' text r r'
    → PutsBoth f f' [] text o o r r'
report_puts f f' text o r r' h = go f (put_none f o)
  where
    put_none : (f : Bool) (o : SinkTold) → Puts f f [] o o
    put_none true o = (refl, refl)
    put_none false o = all_none o

    go : (g : Bool) → Puts f f [] o o → PutsBoth f f' [] text o o r r'
    go g n = both_puts f f f' [] text o o r r' n h

-- one after the other
pub both_both : (f m f' : Bool) (a b t u : List ℕ) (o o' o'' r r' r'' : SinkTold) → PutsBoth f m a t o o' r r'
    → PutsBoth m f' b u o' o'' r' r'' → PutsBoth f f' (a ++ b) (t ++ u) o o'' r r''
both_both true true f' a b t u o o' o'' r r' r'' h g = (g.0, g.1 ∙ h.1, g.2 ∙ h.2)
both_both true false f' a b t u o o' o'' r r' r'' h g = absurd (false≢true h.0)
both_both false false false a b t u o o' o'' r r' r'' h g = (all_all a b o o' o'' h.0 g.0, all_all t u r r' r'' h.1 g.1)
both_both false false true a b t u o o' o'' r r' r'' h g = (
  all_then_part a b o o' o'' h.0 g.0,
  all_then_part t u r r' r'' h.1 g.1,
  elim g.2 [
    | inl e ↦ inl (subst (λ n. HasRisen n o''.faults) h.0.faultless e)
    | inr e ↦ inr (subst (λ n. HasRisen n r''.faults) h.1.faultless e)
  ],
)
both_both false true true a b t u o o' o'' r r' r'' h g = (
  subst (λ s. PutsPart (a ++ b) o s) (sym g.1) (part_then a b o o' h.0),
  subst (λ s. PutsPart (t ++ u) r s) (sym g.2) (part_then t u r r' h.1),
  elim h.2 [
    | inl e ↦ inl (subst (λ s. HasRisen o.faults s.faults) (sym g.1) e)
    | inr e ↦ inr (subst (λ s. HasRisen r.faults s.faults) (sym g.2) e)
  ],
)
both_both false true false a b t u o o' o'' r r' r'' h g = absurd (false≢true g.0)

-- ---- of hosts and of a live station

pub report_text-append : (xs ys : List ReportLine) → report_text (xs ++ ys) ≡ report_text xs ++ report_text ys
report_text-append xs ys = flat_map-append ended_line xs ys

reports_none : (failed : Bool) (hosts : Hosts) (r : SinkTold) → ReportsMore failed failed hosts hosts r r
reports_none failed hosts r = record { lines = []; more = sym (append-nil hosts.report); puts = none failed }
  where
    none : (f : Bool) → Puts f f [] r r
    none true = (refl, refl)
    none false = all_none r

pub puts_puts : (f m f' : Bool) (t u : List ℕ) (r r' r'' : SinkTold) → Puts f m t r r' → Puts m f' u r' r''
    → Puts f f' (t ++ u) r r''
puts_puts true true f' t u r r' r'' h g = (g.0, g.1 ∙ h.1)
puts_puts true false f' t u r r' r'' h g = absurd (false≢true h.0)
puts_puts false false false t u r r' r'' h g = all_all t u r r' r'' h g
puts_puts false false true t u r r' r'' h g = (
  all_then_part t u r r' r'' h g.0,
  subst (λ n. HasRisen n r''.faults) h.faultless g.1,
)
puts_puts false true true t u r r' r'' h g = (
  subst (λ s. PutsPart (t ++ u) r s) (sym g.1) (part_then t u r r' h.0),
  subst (λ s. HasRisen r.faults s.faults) (sym g.1) h.1,
)
puts_puts false true false t u r r' r'' h g = absurd (false≢true g.0)

pub no_report : (failed : Bool) (hosts : Hosts) (r : SinkTold) → ReportsMore failed failed hosts hosts r r
no_report failed hosts r = reports_none failed hosts r

pub reports_more : (f m f' : Bool) (a b c : Hosts) (r r' r'' : SinkTold) → ReportsMore f m a b r r'
    → ReportsMore m f' b c r' r'' → ReportsMore f f' a c r r''
reports_more f m f' a b c r r' r'' h g = record {
  lines = h.lines ++ g.lines;
  more = g.more ∙ ap (λ xs. xs ++ g.lines) h.more ∙ append_assoc a.report h.lines g.lines;
  puts = subst (λ t. Puts f f' t r r'') (sym (report_text-append h.lines g.lines))
      (puts_puts f m f' (report_text h.lines) (report_text g.lines) r r' r'' h.puts g.puts);
}

pub no_write : (failed : Bool) (live : Live) (o r : SinkTold) → WritesMore failed failed live live o o r r
no_write failed live o r = record {
  lines = [];
  more = sym (append-nil live.hosts.report);
  samples = [];
  sent = sym (append-nil live.sent);
  puts = none_both failed o r;
}

pub writes_more : (f m f' : Bool) (a b c : Live) (o o' o'' r r' r'' : SinkTold) → WritesMore f m a b o o' r r'
    → WritesMore m f' b c o' o'' r' r'' → WritesMore f f' a c o o'' r r''
writes_more f m f' a b c o o' o'' r r' r'' h g = record {
  lines = h.lines ++ g.lines;
  more = g.more ∙ ap (λ xs. xs ++ g.lines) h.more ∙ append_assoc a.hosts.report h.lines g.lines;
  samples = h.samples ++ g.samples;
  sent = g.sent ∙ ap (λ xs. xs ++ g.samples) h.sent ∙ append_assoc a.sent h.samples g.samples;
  puts = subst (λ t. PutsBoth f f' t (report_text (h.lines ++ g.lines)) o o'' r r'')
      (sym (flat_map-append sample_octets h.samples g.samples))
      (subst (λ t. PutsBoth f f' (output_octets h.samples ++ output_octets g.samples) t o o'' r r'')
      (sym (report_text-append h.lines g.lines))
      (both_both f m f' (output_octets h.samples) (output_octets g.samples) (report_text h.lines) (report_text g.lines)
      o o' o'' r r' r'' h.puts g.puts));
}

-- what came to the report alone
pub writes_report : (f f' : Bool) (a b : Live) (o r r' : SinkTold) → b.sent ≡ a.sent
    → ReportsMore f f' a.hosts b.hosts r r' → WritesMore f f' a b o o r r'
writes_report f f' a b o r r' same h = record {
  lines = h.lines;
  more = h.more;
  samples = [];
  sent = same ∙ sym (append-nil a.sent);
  puts = report_puts f f' (report_text h.lines) o r r' h.puts;
}
