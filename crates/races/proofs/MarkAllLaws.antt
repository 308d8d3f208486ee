-- Marking all entries, second access by second access.
-- Assumes nothing.
use Prim.Native.Nat.{ℕ, suc, ◌+◌, ◌*◌, ◌-◌, ◌≤◌, ◌<◌}
use mathlib.Core.Path.{◌≡◌, refl, sym, ap, ap₂, ◌∙◌, subst}
use mathlib.Core.Logic.{◌≢◌}
use mathlib.Core.Bool.{Bool, cond}
use mathlib.Core.List.{List, ◌++◌}
use native.Mathlib.Omega.{arith}
use native.Mathlib.Nat.{mul-le-mul_right, suc-mul}
use lib.Dec.{leb}
use lib.ListN.{length, get_or, drop, length-append}
use lib.Seq.{drop_at}
use Rattle.records.specs.declared.Record.{Record}
use Rattle.records.specs.Records.{at}
use Rattle.clocks.specs.Rows.{compare_in}
use Rattle.coverage.specs.Race.{Race}
use Rattle.coverage.specs.Leading.{coveredb}
use Rattle.order.specs.Clocks.{chain_of, entry, flat, clocks_of}
use Rattle.order.specs.Fill.{events_in, trace_clocks}
use Rattle.order.specs.loops.Standing.{begins}
use Rattle.order.specs.loops.RecordLinks.{ordering_at}
use Rattle.order.specs.HappensBefore.{trace_links}
use Rattle.order.proofs.RankLaws.{ranks_are}
use Rattle.order.proofs.RowLaws.{flat-length, place}
use Rattle.order.proofs.FlatLaws.{flat-read}
use Rattle.order.proofs.TableLaws.{events-few}
use Rattle.races.specs.loops.FilledClocks.{FilledClocks, RowsIn}
use Rattle.races.specs.Traces.{setting_of}
use Rattle.races.specs.Lists.{mark_of}
use Rattle.races.specs.loops.Marking.{first, second, Remarked}
use Rattle.races.specs.loops.Raising.{Unmarked, row_in, mark_in, Markable, MarksSecond, raise_down, Place, onward, MayGo, Went}
use Rattle.races.specs.loops.Leading.{MayLead}
use Rattle.races.proofs.CoverNumbers.{events, number, number-name}
use Rattle.races.proofs.FilledLaws.{chosen-length}
use Rattle.races.proofs.MarkingLaws.{remarked-none, remarked-on}
use Rattle.races.proofs.RaisedRows.{number-mono, raised-next}
use Rattle.races.proofs.EntryOrder.{first_at, second_of_entry, size, at-passes, list-race, edge, list-edges}
use Rattle.races.proofs.OpenFirsts.{Split, Second, split-start, split-next, second-of, split_after, taken-firsts}
use Rattle.races.proofs.MarkedList.{mark-of, list-room, first-is, second_is, shape_is, mark-is}
use Rattle.races.proofs.StandLaws.{Standing, NoEdge, stand-marks}
use Rattle.races.proofs.ClimbLaws.{Shows, Climbed, climbed}
use Rattle.races.proofs.PlaceLaws.{events-in, events_are, chain-place, Raises, raises-start, raises-goes}

module _ {tr : List Record} {ranks chosen : List ℕ} {w : ℕ} {clocks₀ list₀ : List ℕ} {count : ℕ} (f : FilledClocks tr ranks chosen w clocks₀) (un : Unmarked tr list₀ count) where
  -- the clocks hold rows, and after them what they held
  pub record Left (clocks : List ℕ) : Type 0 where
    pub rows : ℕ → ℕ → ℕ
    pub clocks_are : clocks ≡ flat w (begins (ordering_at tr) (length tr)) rows ++ f.rest

  -- raising stands before entry k
  pub record Before (k row position chains : ℕ) (clocks : List ℕ) : Type 0 where
    pub upto : ℕ
    pub split : Split tr un.short k upto
    pub raises : Raises f un.short upto (record { row = row; position = position; chains = chains; clocks = clocks })
    pub behind : (d : ℕ) → upto ≤ d → d < length tr → row ≤ number tr d

  pub record Marking (k row position chains : ℕ) (clocks list : List ℕ) : Type 0 where
    pub within : k ≤ count
    pub remarked : Remarked tr 0 k list₀ list
    pub left : Left clocks
    pub before : k < count → Before k row position chains clocks

  same_size : {clocks clocks' : List ℕ} → Left clocks → Left clocks' → length clocks ≡ length clocks'
  same_size l r =
      let m = begins (ordering_at tr) (length tr) in
      omega (arith, ap length l.clocks_are, ap length r.clocks_are, length-append (flat w m l.rows) f.rest, length-append (flat w m r.rows) f.rest, flat-length w m l.rows, flat-length w m r.rows)

  pub left-start : Left clocks₀
  unfolding trace_clocks clocks_of events_in
  left-start = record { rows = entry (trace_links tr); clocks_are = f.clocks_are ∙ ap (λ (m : ℕ). flat w m (entry (trace_links tr)) ++ f.rest) (sym (events_are f.acceptable)) }

  pub left-size : {clocks : List ℕ} → Left clocks → length clocks ≡ length clocks₀
  left-size l = same_size l left-start

  -- what is past the rows stays
  past_rows : {clocks : List ℕ} → Left clocks → drop (events_in tr * w) clocks ≡ f.rest
  past_rows l =
      let e : begins (ordering_at tr) (length tr) ≡ events_in tr = events_are f.acceptable ∙ sym (events-in tr) in
      rw (← e, l.clocks_are) (drop_at (flat w (begins (ordering_at tr) (length tr)) l.rows) f.rest (begins (ordering_at tr) (length tr) * w) (flat-length w (begins (ordering_at tr) (length tr)) l.rows))

  pub left-rest : {clocks : List ℕ} → Left clocks → drop (events_in tr * w) clocks ≡ drop (events_in tr * w) clocks₀
  left-rest l = past_rows l ∙ sym (past_rows left-start)

  in_list : (k : ℕ) → k < count → k < size tr un.short
  in_list k h = omega (arith, un.count-is)

  race-at : (k : ℕ) → k < count → Race (setting_of tr) (first_at tr un.short k) (second_of_entry tr un.short k)
  race-at k h = list-race tr un.short (first_at tr un.short k) (second_of_entry tr un.short k) (at-passes tr un.short k (in_list k h))

  pub marking-start : Marking 0 0 0 1 clocks₀ list₀
  marking-start = record {
    within = omega arith;
    remarked = remarked-none tr 0 list₀;
    left = left-start;
    before = λ h. record { upto = 0; split = split-start tr un.short; raises = raises-start f un.short (omega (arith, (race-at 0 h).inside)); behind = λ d k l. omega arith };
  }

  -- the row of a record, by the ranks
  row_of : (x : ℕ) → row_in tr ranks x ≡ number tr x
  row_of x = rw (f.ranks_are, ranks_are f.acceptable (at tr x).first) refl

  chain_fits : (t : ℕ) → t < events tr → (get_or chosen t 0 ≡ chain_of (trace_links tr) t) × (chain_of (trace_links tr) t < w)
  chain_fits t h = chain-place f.acceptable chosen w f.chosen_are f.enough t (omega (arith, events-in tr))

  -- the rows stand in the clocks
  left-room : {clocks : List ℕ} (l : Left clocks) → begins (ordering_at tr) (length tr) * w ≤ length clocks
  left-room l = omega (arith, ap length l.clocks_are, length-append (flat w (begins (ordering_at tr) (length tr)) l.rows) f.rest, flat-length w (begins (ordering_at tr) (length tr)) l.rows)

  -- two rows in the clocks, and their comparison
  rows_in : {clocks : List ℕ} (l : Left clocks) (t u : ℕ) → t < events tr → u < events tr → RowsIn chosen w clocks t u
  rows_in l t u h k =
      let (e, c) = chain_fits t h in
      let m = begins (ordering_at tr) (length tr) in
      let q = events_are f.acceptable in
      let n = left-room l in
      record {
        known = omega (arith, chosen-length f, events-few f.acceptable, events-in tr);
        own = rw e (omega (arith, n, place w m t (chain_of (trace_links tr) t) (omega arith) c));
        other = rw e (omega (arith, n, place w m u (chain_of (trace_links tr) t) (omega arith) c));
      }

  compared : {clocks : List ℕ} (l : Left clocks) (t u : ℕ) → t < events tr → u < events tr → compare_in clocks w (get_or chosen t 0) t u ≡ leb (l.rows t (chain_of (trace_links tr) t)) (l.rows u (chain_of (trace_links tr) t))
  unfolding compare_in
  compared {clocks} l t u h k =
      let (e, c) = chain_fits t h in
      let m = begins (ordering_at tr) (length tr) in
      let q = events_are f.acceptable in
      rw (e, l.clocks_are) (ap₂ leb (flat-read w m f.rest l.rows t (chain_of (trace_links tr) t) (omega arith) c) (flat-read w m f.rest l.rows u (chain_of (trace_links tr) t) (omega arith) c))

  -- at the row of the second access of entry k
  pub record Arrived (k u position chains : ℕ) (clocks : List ℕ) : Type 0 where
    pub upto : ℕ
    pub split : Split tr un.short k upto
    pub raises : Raises f un.short upto (record { row = u; position = position; chains = chains; clocks = clocks })
    pub row_is : number tr (second_of_entry tr un.short k) ≡ u

  module _ {k row position chains : ℕ} {clocks list : List ℕ} (g : Marking k row position chains clocks list) (h : k < count) where
    b : ℕ
    b = second_of_entry tr un.short k

    second_at : second list k ≡ second_of_entry tr un.short k + 1
    second_at = second_is un g.remarked k h

    pub second-some : 0 < second list k
    second-some = omega (arith, second_at)

    module _ (u : ℕ) (u-is : u ≡ row_in tr ranks (second list k - 1)) where
      row_is : number tr (second_of_entry tr un.short k) ≡ u
      row_is = let x : second list k - 1 ≡ second_of_entry tr un.short k = omega (arith, second_at) in sym (u-is ∙ ap (row_in tr ranks) x ∙ row_of (second_of_entry tr un.short k))

      known : u < events tr
      known = omega (arith, row_is, (number-name f.acceptable (second_of_entry tr un.short k) (race-at k h).inside).0)

      p : Before k row position chains clocks
      p = g.before h

      reached : row ≤ u
      reached = omega (arith, row_is, p.behind (second_of_entry tr un.short k) (p.split.from k (omega arith) (in_list k h)) (race-at k h).inside)

      pub may-lead : MayLead chosen w clocks u
      may-lead =
          let o = chosen-length f in
          let q = events-few f.acceptable in
          let z = events-in tr in
          let i = known in
          record {
            known = omega arith;
            low = omega arith;
            narrow = f.narrow;
            room = omega (arith, left-room g.left, mul-le-mul_right w i, suc-mul u w, ap (λ (m : ℕ). m * w) (events_are f.acceptable));
            chains_fit = λ t l. let (e, c) = chain_fits t (omega arith) in rw e c;
          }

      pub may-go : MayGo tr chosen w clocks row position u
      may-go = let s = p.raises.standing.inside in record { ahead = reached; rows = may-lead; inside = omega arith }

      pub arrived : {row' position' chains' : ℕ} {clocks' : List ℕ} → Went (onward tr ranks chosen w) row position chains clocks u row' position' chains' clocks' → (row' ≡ u) × Arrived k u position' chains' clocks'
      arrived {row'} {position'} {chains'} {clocks'} v =
          let s : Place = record { row = row; position = position; chains = chains; clocks = clocks } in
          let r = p.raises in
          let (x, y) = raises-goes f un.short (u - row) s (record { rows = r.rows; standing = r.standing; clocks_are = r.clocks_are; chains_are = r.chains_are }) none (omega (arith, reached, known)) in
          let q : row' ≡ u = sym (ap (λ (z : Place). z.row) v.goes_on) ∙ y ∙ omega (arith, reached) in
          let t = rw v.goes_on at x in
          (q, record { upto = p.upto; split = p.split; raises = subst (λ (z : ℕ). Raises f un.short p.upto (record { row = z; position = position'; chains = chains'; clocks = clocks' })) q (record { rows = t.rows; standing = t.standing; clocks_are = t.clocks_are; chains_are = t.chains_are }); row_is = row_is })
        where
          none : (v : ℕ) → row ≤ v → v < row + (u - row) → NoEdge f.acceptable (edge tr un.short) (list-edges tr un.short f.acceptable) v p.upto
          none v x y c d t n l =
              let z = split-next tr un.short p.split (in_list k h) c d t l in
              let r = ((list-edges tr un.short f.acceptable).race t).inside in
              omega (arith, number-mono f.acceptable (second_of_entry tr un.short k) d z r, row_is, reached)

      -- Its entries can be marked there.
      module _ {position' chains' : ℕ} {clocks' : List ℕ} (s : Arrived k u position' chains' clocks') where
        abbrev left-of : Left clocks'
        left-of = record { rows = s.raises.rows; clocks_are = s.raises.clocks_are }

        -- entry i, of the same second access
        module _ (i : ℕ) (j : k ≤ i) (l : i < count) (q : second list i ≡ second list k) where
          same_second : second_of_entry tr un.short i ≡ second_of_entry tr un.short k
          same_second = omega (arith, q, second_at, second_is un g.remarked i l)

          first-at : first list i - 1 ≡ first_at tr un.short i
          first-at = omega (arith, first-is un g.remarked i l)

          row_at : row_in tr ranks (first list i - 1) ≡ number tr (first_at tr un.short i)
          row_at = ap (row_in tr ranks) first-at ∙ row_of (first_at tr un.short i)

          told : (number tr (first_at tr un.short i) < u) × (leb (s.raises.rows (number tr (first_at tr un.short i)) (chain_of (trace_links tr) (number tr (first_at tr un.short i)))) (s.raises.rows u (chain_of (trace_links tr) (number tr (first_at tr un.short i)))) ≡ coveredb (setting_of tr) (first_at tr un.short i) (second_of_entry tr un.short k))
          told = stand-marks f.acceptable (edge tr un.short) (list-edges tr un.short f.acceptable) s.raises.standing (second_of_entry tr un.short k) s.row_is (s.split.from k (omega arith) (in_list k h)) (split-next tr un.short s.split (in_list k h)) (first_at tr un.short i) (subst (Race (setting_of tr) (first_at tr un.short i)) same_second (race-at i l))

          entry-rows : RowsIn chosen w clocks' (row_in tr ranks (first list i - 1)) u
          entry-rows = rw row_at (rows_in left-of (number tr (first_at tr un.short i)) u (omega (arith, told.0, known)) known)

          entry-mark : mark_in chosen w clocks' (row_in tr ranks (first list i - 1)) u ≡ mark_of tr (first list i - 1) (second list i - 1)
          entry-mark =
              let z : second list i - 1 ≡ second_of_entry tr un.short k = omega (arith, q, second_at) in
              rw (row_at, first-at, z, mark-of tr (first_at tr un.short i) (second_of_entry tr un.short k))
              (ap (λ (x : Bool). cond x 0 1) (compared left-of (number tr (first_at tr un.short i)) u (omega (arith, told.0, known)) known ∙ told.1))

        pub markable : Markable tr ranks chosen w clocks' u list k count
        markable = record {
          room = list-room un g.remarked;
          some = h;
          numbers = λ i j l. omega (arith, first-is un g.remarked i l);
          rows = entry-rows;
          marks = entry-mark;
        }

        -- They are marked, and e is the entry after them.
        module _ {list' : List ℕ} {e : ℕ} (ms : MarksSecond tr list list' k count e) where
          on : Remarked tr 0 e list₀ list'
          on = remarked-on tr g.remarked ms.remarked

          -- the last ones
          pub marking-last : count ≤ e → Marking e u position' chains' clocks' list'
          marking-last l = record { within = ms.within; remarked = on; left = left-of; before = λ n. absurd (omega arith) }

          module _ (l : e < count) where
            pub raise-room : (k ≤ e) × (5 * e ≤ length list') × (u < 65536) × ((i : ℕ) → k ≤ i → i < e → 0 < first list' i)
            raise-room = (omega (arith, ms.ahead), omega (arith, list-room un on), may-lead.low, λ i x y. omega (arith, first-is un on i (omega arith)))

            same : (i : ℕ) → k ≤ i → i < e → second_of_entry tr un.short i ≡ second_of_entry tr un.short k
            same i x y = omega (arith, ms.same i x y, second_at, second_is un g.remarked i (omega arith))

            else : e < size tr un.short → second_of_entry tr un.short e ≢ second_of_entry tr un.short k
            else x z = ms.else l (second_is un g.remarked e l ∙ ap (λ (n : ℕ). n + 1) z ∙ sym second_at)

            group : Second tr un.short (second_of_entry tr un.short k) k e
            group = second-of tr un.short s.split (in_list k h) e ms.ahead (omega (arith, in_list e l)) same else

            shows : Shows tr un.short list' k e
            shows = record {
              firsts = λ i x y. first-is un on i (omega arith);
              shapes = λ i x y. shape_is un on i (omega arith);
              marks = λ i x y. mark-is un on i y ms.within;
            }

            pub marking-next : {clocks'' : List ℕ} → clocks'' ≡ raise_down tr ranks w chains' u list' k (e - k) clocks' → Marking e u position' chains' clocks'' list'
            marking-next {clocks''} z = record { within = ms.within; remarked = on; left = record { rows = c.raised; clocks_are = clocks-now }; before = λ n. before }
              where
                old : Standing tr (edge tr un.short) position' u s.upto s.raises.rows
                old = s.raises.standing

                inside : second_of_entry tr un.short k < length tr
                inside = (race-at k h).inside

                c : Climbed tr un.short w (begins (ordering_at tr) (length tr)) f.rest (second_of_entry tr un.short k) k e u (s.raises.rows u) s.raises.rows (raise_down tr ranks w chains' u list' k (e - k) (flat w (begins (ordering_at tr) (length tr)) s.raises.rows ++ f.rest))
                c = climbed f.acceptable un.short ranks f.ranks_are w chains' (begins (ordering_at tr) (length tr)) f.rest f.narrow (events_are f.acceptable) list' group shows u known inside s.row_is (omega (arith, s.raises.chains_are)) s.raises.rows old.done

                clocks-now : clocks'' ≡ flat w (begins (ordering_at tr) (length tr)) c.raised ++ f.rest
                clocks-now = z ∙ ap (raise_down tr ranks w chains' u list' k (e - k)) s.raises.clocks_are ∙ c.clocks_are

                before : Before e u position' chains' clocks''
                before = record {
                  upto = suc (second_of_entry tr un.short k);
                  split = split_after tr un.short s.split (in_list k h) e ms.ahead (omega (arith, in_list e l)) same else;
                  raises = record {
                    rows = c.raised;
                    standing = record {
                      inside = old.inside;
                      known = old.known;
                      done = λ v d n. c.others v d (omega arith) ∙ old.done v d n;
                      row = raised-next f.acceptable (edge tr un.short) (list-edges tr un.short f.acceptable) u known old.row (second_of_entry tr un.short k) inside s.row_is (s.split.from k (omega arith) (in_list k h)) (λ x d t n m. split-next tr un.short s.split (in_list k h) x d t m) c.vs (taken-firsts tr un.short group f.acceptable u known inside s.row_is c.taken) (c.raised u) c.own;
                      begins_it = old.begins_it;
                      coming = λ m v d n. c.others v d (omega arith) ∙ old.coming m v d n;
                      filled = λ m v d n. c.others v d (omega arith) ∙ old.filled m v d n;
                      seen = λ d n. omega (arith, s.row_is, number-mono f.acceptable d (second_of_entry tr un.short k) (omega arith) inside);
                    };
                    clocks_are = clocks-now;
                    chains_are = s.raises.chains_are;
                  };
                  behind = λ d n m. omega (arith, s.row_is, number-mono f.acceptable (second_of_entry tr un.short k) d (omega arith) m);
                }
