-- How the lists end, from the reading, the spaces and filling.
-- Assumes nothing.
use Prim.Native.Nat.{ℕ, zero, suc, ◌+◌, ◌*◌, ◌/◌, ◌≤◌, ◌<◌}
use mathlib.Core.Path.{◌≡◌, refl, sym, ap, ◌∙◌, subst}
use mathlib.Core.Logic.{◌≢◌}
use mathlib.Core.Bool.{Bool, true, false}
use mathlib.Core.List.{List, [], ◌∷◌, ◌++◌}
use native.Mathlib.Omega.{arith}
use native.Mathlib.Nat.{mul-le-mul}
use borrow.Author.Tests.{le-leb, lt-leb}
use lib.ListN.{length, drop}
use lib.Seq.{sets, sets-eq, drop_at}
use Rattle.records.specs.declared.Record.{Record}
use Rattle.records.specs.Kinds.{has_send}
use Rattle.records.specs.declared.Trace.{Trace}
use Rattle.records.specs.Bytes.{decode, part}
use Rattle.slices.specs.Slices.{cleared}
use Rattle.trace.specs.Reply.{Reply, refused, gives, demand, unless}
use Rattle.trace.specs.Reading.{records_in, read_reply, records_read, Accepts}
use Rattle.trace.proofs.Accepted.{records-read}
use Rattle.order.specs.Fill.{events_in, chains_used}
use Rattle.order.specs.Prepare.{read_within}
use Rattle.order.specs.Paper.{fill_paper, Prepares}
use Rattle.std.proofs.Common.{Result}
use Rattle.trace.specs.declared.Refusal.{Refusal}
use Rattle.order.proofs.EntryLaws.{records-are, read-sends}
use Rattle.order.proofs.LentLaws.{stays}
use Rattle.order.proofs.LentLaws.{filled as made}
use Rattle.order.proofs.FilledTrace.{events-of}
use Rattle.order.proofs.PrepareLaws.{none-asked, prepared}
use Rattle.races.specs.declared.Summary.{Summary}
use Rattle.races.specs.Lists.{pairs_of, numbers, list_filled, list_ready, list_reply, list_after}
use Rattle.races.specs.Paper.{list_paper, Lists}
use Rattle.races.specs.loops.ListsFilled.{ListsFilled}
use Rattle.races.specs.loops.ListPass.{listed_below, raws, WritesAll, Ample, Counts, ListsAll}
use Rattle.races.specs.loops.Raising.{Unmarked, MarksList}
use Rattle.races.proofs.EntryStores.{raws-length}
use Rattle.races.specs.loops.FilledClocks.{FilledClocks}
use Rattle.races.specs.Traces.{cells_of, setting_of}
use Rattle.coverage.proofs.Total.{short-total}
use Rattle.races.proofs.ListLaws.{pairs_below, below-few}
use Rattle.races.proofs.DemandLaws.{numbers-length}
use Rattle.races.proofs.PreparedLaws.{marks-cleared, after-work, fitting, filled-whole}

-- a trace whose clocks are filled
module _ (tr : List Record) (short : Bool) (events : ℕ) (list : List ℕ) (count : ℕ) (c : count ≡ length (listed_below tr short (length tr))) where
  counted : count ≡ length (pairs_of tr short)
  counted = c ∙ ap length (pairs_below tr short)

  module _ (h : length list / 5 < count) where
    pub too_long : list_filled short tr events (length list) ≡ refused 24 0
    unfolding list_filled demand
    too_long = rw (← counted, lt-leb count (length list / 5) h)

    pub too-long-list : list ≡ list_after tr (list_filled short tr events (length list)) (pairs_of tr short) list
    unfolding list_after unless
    too-long-list = rw too_long refl

  module _ (h : count ≤ length list / 5) where
    pub fits : list_filled short tr events (length list) ≡ gives (record { events = events; records = length tr; chains = chains_used tr; count = count })
    unfolding list_filled demand
    fits = rw (← counted, le-leb count (length list / 5) h)

    pub fits-list : sets list 0 (numbers tr (listed_below tr short (length tr))) ≡ list_after tr (list_filled short tr events (length list)) (pairs_of tr short) list
    unfolding list_after unless
    fits-list =
        let ps = pairs_of tr short in
        let l = numbers-length tr ps in
        let q : 0 + length (numbers tr ps) ≤ length list = omega (arith, l, counted, h) in
        let d : 0 + length (numbers tr ps) ≡ 5 * length ps = omega (arith, l) in
        rw (fits, pairs_below tr short) (sets-eq (numbers tr ps) list 0 q ∙ rw d refl)

pub nonzero : (n : ℕ) → n ≢ 0 → 0 < n
nonzero zero h = absurd (h refl)
nonzero (suc n) h = omega arith

pub not-both : (b : Bool) → b ≡ true → b ≡ false → ⊥
not-both b t f = let z : true ≡ false = sym t ∙ f in let o : ◌≡◌ {A = ℕ} 0 1 = cc in omega arith

-- counted, or known to be few
module _ (tr : List Record) (short : Bool) (space : ℕ) where
  pub counts_all : {list list' : List ℕ} {r : ℕ} → WritesAll false tr short list list' r → Counts tr short space r
  counts_all w = let c = w.count in record { fits = λ l. omega arith; long = λ l. omega arith; none = λ z. omega arith }

  pub counts-few : 1 < length tr → Ample short (length tr) (space / 5) → Counts tr short space 1
  unfolding pairs_of
  counts-few n a = record {
    fits = λ k. few short refl;
    long = λ k. absurd (some short refl k);
    none = λ z. absurd (omega arith);
  }
    where
      few : (s : Bool) → short ≡ s → length (listed_below tr short (length tr)) ≤ space / 5
      few true e = rw (e, pairs_below tr true) (omega (arith, a.for_short e, short-total (setting_of tr) (cells_of tr)))
      few false e = omega (arith, a.for_all e, below-few tr short (length tr))

      some : (s : Bool) → short ≡ s → space / 5 < 1 → ⊥
      some true e k = omega (arith, a.for_short e)
      some false e k = let two : 2 ≤ length tr = omega arith in omega (arith, a.for_all e, mul-le-mul two two)

-- All entries are written, and then marked.
module _ (tr : List Record) (short : Bool) (list : List ℕ) (room : 5 * length (listed_below tr short (length tr)) ≤ length list) {list₁ : List ℕ} {found : ℕ} (w : WritesAll true tr short list list₁ found) where
  found-is : found ≡ length (pairs_of tr short)
  found-is = w.count ∙ ap length (pairs_below tr short)

  -- the entries stand at the front
  front : (xs : List ℕ) → length xs ≡ 5 * length (pairs_of tr short) → sets list 0 xs ≡ xs ++ drop (5 * found) list
  front xs e =
      let k = ap length (pairs_below tr short) in
      let d : 0 + length xs ≡ 5 * found = omega (arith, found-is) in
      sets-eq xs list 0 (omega arith) ∙ rw d refl

  raw-front : list₁ ≡ raws tr (pairs_of tr short) ++ drop (5 * found) list
  raw-front = w.list_is ∙ rw (pairs_below tr short) (front (raws tr (pairs_of tr short)) (raws-length tr (pairs_of tr short)))

  same_rest : drop (5 * found) list₁ ≡ drop (5 * found) list
  same_rest = ap (drop (5 * found)) raw-front ∙ drop_at (raws tr (pairs_of tr short)) (drop (5 * found) list) (5 * found) (omega (arith, raws-length tr (pairs_of tr short), found-is))

  pub written-unmarked : Unmarked tr list₁ found
  written-unmarked = record { short = short; count-is = found-is; list_is = rw same_rest raw-front }

  pub written-marked : {clocks clocks' list₂ : List ℕ} → MarksList tr clocks clocks' list₁ list₂ found → ListsAll tr short list list₂ found
  written-marked m = record {
    count = w.count;
    list_is = m.list_is (record { short = short; count-is = found-is; list_is = rw same_rest raw-front }) ∙ ap (λ r. numbers tr (pairs_of tr short) ++ r) same_rest ∙ sym (rw (pairs_below tr short) (front (numbers tr (pairs_of tr short)) (numbers-length tr (pairs_of tr short))));
  }

-- counted, and then written: the count leaves the list space as it is
module _ (tr : List Record) (short : Bool) (events : ℕ) (list list₁ : List ℕ) (counted : ℕ) (w : Counts tr short (length list) counted) (k : list₁ ≡ list) where
  total : ℕ
  total = length (listed_below tr short (length tr))

  total-is : total ≡ length (listed_below tr short (length tr))
  unfolding total
  total-is = refl

  pub all-refused : (clocks : List ℕ) → length list₁ / 5 < counted → (r : Result Summary Refusal) → list_paper r ≡ refused 24 0 → ListsFilled short tr events clocks clocks list list₁ r
  unfolding total
  all-refused clocks h r p =
      let q = w.long (subst (λ (xs : List ℕ). length xs / 5 < counted) k h) in
      record {
        answer = p ∙ sym (too_long tr short events list total total-is q);
        clocks-after = refl;
        list-after = k ∙ too-long-list tr short events list total total-is q;
      }

  module _ (h : counted ≤ length list₁ / 5) where
    fit : total ≤ length list / 5
    unfolding total
    fit = w.fits (subst (λ (xs : List ℕ). counted ≤ length xs / 5) k h)

    pub all_room : 5 * length (listed_below tr short (length tr)) ≤ length list₁
    all_room = omega (arith, fit, total-is, ap length k)

    pub all_listed : {clocks clocks₂ list₂ : List ℕ} {found : ℕ} → ListsAll tr short list₁ list₂ found → clocks₂ ≡ clocks → (n chains : ℕ) → n ≡ length tr → chains ≡ chains_used tr → (r : Result Summary Refusal) → list_paper r ≡ gives (record { events = events; records = n; chains = chains; count = found }) → ListsFilled short tr events clocks clocks₂ list list₂ r
    all_listed v e n chains m c r p = record {
      answer = p ∙ sym (fits tr short events list total total-is fit ∙ rw (← c, ← m, total-is, ← v.count) refl);
      clocks-after = e;
      list-after = v.list_is ∙ (ap (λ (xs : List ℕ). sets xs 0 (numbers tr (listed_below tr short (length tr)))) k ∙ fits-list tr short events list total total-is fit);
    }

    -- none at all
    pub none-listed : counted ≡ 0 → (clocks : List ℕ) (n chains : ℕ) → n ≡ length tr → chains ≡ chains_used tr → (r : Result Summary Refusal) → list_paper r ≡ gives (record { events = events; records = n; chains = chains; count = 0 }) → ListsFilled short tr events clocks clocks list list₁ r
    unfolding numbers
    none-listed z clocks n chains m c r p = all_listed (record { count = sym (w.none z); list_is = go (listed_below tr short (length tr)) (w.none z) }) refl n chains m c r p
      where
        go : (ps : List (ℕ × ℕ)) → length ps ≡ 0 → list₁ ≡ sets list₁ 0 (numbers tr ps)
        go [] e = refl
        go (q ∷ ps) e = absurd (omega arith)

-- no record is asked about
pub for-list : (room : ℕ) {b : List ℕ} {w : ℕ} {cs cs' chosen ranks ranks' : List ℕ} {f : Result ℕ Refusal} {t : Trace} → Prepares b (read_within b 1 0 w (length cs) room) w cs cs' chosen ranks ranks' f t
    → Prepares b (list_ready b w (length cs) room) w cs cs' chosen ranks ranks' f t
unfolding list_ready
for-list room {b} {w} {cs} {cs'} {chosen} {ranks} {ranks'} {f} {t} p = subst (λ (x : Reply Trace). Prepares b x w cs cs' chosen ranks ranks' f t) (none-asked b w (length cs) room) p

-- the trace was prepared, and then the marks of its event actions were taken away
module _ (b : List ℕ) (short : Bool) (w : ℕ) (cs cs' work work' chosen list : List ℕ) (f : Result ℕ Refusal) (t : Trace) {ranks ranks' : List ℕ}
    (p : Prepares b (list_ready b w (length cs) (length work)) w cs cs' chosen ranks ranks' f t) (clears : work' ≡ cleared t.events work) where
  -- the promise, by the reply
  lists-by : (cs'' list' : List ℕ) (r : Result Summary Refusal) (x : Reply Summary) → list_reply short b w (length cs) (length work) (length list) ≡ x → list_paper r ≡ x → cs'' ≡ cs'
      → list' ≡ list_after (records_read b) x (pairs_of (records_read b) short) list → Lists short b w cs cs'' work work' list list' r
  lists-by cs'' list' r x q a k l = record {
    answer = a ∙ sym q;
    clocks-after = k ∙ p.clocks-after;
    work-after = unfold list_ready in after-work work (read_reply b) p (marks-cleared work (read_reply b) p clears);
    list-after = rw q l;
  }

  pub not_listed : (k i : ℕ) → fill_paper f ≡ refused k i → (r : Result Summary Refusal) → list_paper r ≡ refused k i → Lists short b w cs cs' work work' list list r
  unfolding list_reply list_after unless
  not_listed k i z r q = lists-by cs' list r (refused k i) (stays b _ w _ _ k i (sym p.answer ∙ z)) q refl refl

  -- what writing the list asks for, and what it gives
  module _ (chains : ℕ) (z : fill_paper f ≡ gives chains) (recs : List ℕ) (y : recs ≡ part b t.start t.records) where
    pub record Listable : Type 0 where
      pub filled : FilledClocks (decode recs) ranks' chosen w cs'
      pub events_are : t.events ≡ events_in (decode recs)
      pub chains-used : chains ≡ chains_used (decode recs)
      pub sends_are : t.sends ≡ has_send (decode recs)
      pub done : (cs'' list' : List ℕ) (r : Result Summary Refusal) → ListsFilled short (decode recs) t.events cs' cs'' list list' r → Lists short b w cs cs'' work work' list list' r

    read : Accepts b t
    unfolding list_ready
    read = (fitting work (read_reply b) p chains z).found-is

    pub listable : Listable
    unfolding list_reply list_ready
    listable =
        let g = prepared p chains z in
        let d = records-are b t read recs y in
        record {
          filled = rw d (filled-whole work (read_reply b) p chains z read);
          events_are = rw d (events-of b t read);
          chains-used = rw d g.chains_are;
          sends_are = read-sends b t read recs y;
          done = λ cs'' list' r u.
              let v = subst (λ (x : List Record). ListsFilled short x t.events cs' cs'' list list' r) d u in
              lists-by cs'' list' r (list_filled short (records_in b t) t.events (length list)) (made b _ w _ t g.ready_is g.enough) v.answer v.clocks-after (rw (records-read b t read) v.list-after);
        }
