-- Rows passed as the code passes them: one, several, and all from that of b down. Assumes nothing.
use Prim.Native.Nat.{ℕ, suc, ◌+◌, ◌*◌, ◌-◌, ◌≤◌, ◌<◌}
use mathlib.Core.Path.{◌≡◌, refl, ap, ◌∙◌}
use mathlib.Core.Logic.{◌⊎◌, inl, inr}
use mathlib.Core.List.{List}
use native.Mathlib.Omega.{arith}
use lib.ListN.{length, get_or, drop, set, replicate, length-set, length-replicate, get_or-replicate, get_or-append}
use lib.Seq.{drop-set-lt}
use Rattle.records.specs.declared.Record.{Record}
use Rattle.slices.specs.Slices.{zeros}
use Rattle.slices.proofs.Cleared.{zeros-at}
use Rattle.trace.specs.Reading.{Acceptable}
use Rattle.order.specs.Links.{leq}
use Rattle.order.specs.HappensBefore.{trace_links}
use Rattle.order.specs.Fill.{events_in, row_past_width, chains_used}
use Rattle.order.proofs.ChainLaws.{chain-below, needs-none}
use Rattle.order.proofs.RowLaws.{place}
use Rattle.order.proofs.TableLaws.{events-few, chain-at}
use Rattle.races.specs.loops.FilledClocks.{rows, FilledClocks}
use Rattle.pair.specs.loops.Kept.{row_of, Starts, Split, Block, Noted, OneClashes, Merged, Passing, Rest, Kept, Passes, PassesAll, Markable, MarksKept}
use Rattle.races.proofs.FilledLaws.{chosen-length, chain_fits, clocks-hold}
use Rattle.pair.proofs.RecordRows.{row_low, row-of-block, split_at}
use Rattle.pair.proofs.KeptLaws.{none-bytes, noted-bytes, led-leads, leads-led, keeps-by, keeps_below, keeps-merged, keeps-start, keeps-end}
use Rattle.races.proofs.Instance.{access-inside}

-- the places of row t
pub record Bounds (tr : List Record) (chosen : List ℕ) (width chains : ℕ) (clocks : List ℕ) (t : ℕ) : Type 0 where
  pub row_in : t < rows tr
  pub rows_few : rows tr ≤ 1024
  pub of_long : length chosen ≡ 1024
  pub chain_low : get_or chosen t 0 < chains
  pub chains_low : chains ≤ width
  pub narrow : width ≤ 1024
  pub fits : t * width + width ≤ length clocks

module _ {tr : List Record} {ranks chosen : List ℕ} {width : ℕ} {clocks : List ℕ} (f : FilledClocks tr ranks chosen width clocks) where
  chains_fit : chains_used tr ≤ width
  unfolding chains_used row_past_width
  chains_fit = (needs-none (leq (trace_links tr)) width (events_in tr)).0 f.enough

  chain-few : (r : ℕ) → r < rows tr → get_or chosen r 0 < chains_used tr
  unfolding chains_used events_in
  chain-few r h = omega (arith, ap (λ (o : List ℕ). get_or o r 0) f.chosen_are ∙ chain-at f.acceptable r h, chain-below (leq (trace_links tr)) r (rows tr) h)

  row_fits : (r : ℕ) → r < rows tr → r * width + width ≤ length clocks
  unfolding events_in
  row_fits r h =
      let c = chain_fits f r h in
      omega (arith, clocks-hold f, place width (rows tr) r (width - 1) h (omega arith))

  rows_few : rows tr ≤ 1024
  unfolding events_in
  rows_few = events-few f.acceptable

pub bounds_of : {tr : List Record} {ranks chosen : List ℕ} {width chains : ℕ} {clocks : List ℕ} (f : FilledClocks tr ranks chosen width clocks) → chains ≡ chains_used tr → (t : ℕ) → t < rows tr → Bounds tr chosen width chains clocks t
bounds_of f e t h = record {
  row_in = h;
  rows_few = rows_few f;
  of_long = chosen-length f;
  chain_low = omega (arith, chain-few f t h);
  chains_low = omega (arith, chains_fit f);
  narrow = f.narrow;
  fits = row_fits f t h;
}

module _ {tr : List Record} {chosen : List ℕ} {width chains : ℕ} {clocks work row cells : List ℕ} (g : Passing tr chosen width chains clocks work row cells) {t lo hi : ℕ} (s : Block tr t lo hi) where
  abbrev own : ℕ
  own = get_or clocks (t * width + get_or chosen t 0) 0

  abbrev there : ℕ
  there = get_or row (get_or chosen t 0) 0

  abbrev a : Acceptable tr
  a = g.filled.acceptable

  row-lo : row_of tr lo ≡ t
  row-lo = row-of-block s

  row_in : t < rows tr
  row_in = omega (arith, row-lo, row_low a lo (omega (arith, s.some, s.to.inside)))

  -- what is read and written is there
  pub bounds : Bounds tr chosen width chains clocks t
  bounds = bounds_of g.filled g.chains_are t row_in

  chains-all : (x : ℕ) → x < length tr → get_or chosen (row_of tr x) 0 < chains
  chains-all x h = omega (arith, g.chains_are, chain-few g.filled (row_of tr x) (row_low a x h))

  -- it is not kept
  pub passes-by : there < own → (OneClashes tr cells lo hi → ⊥) → Passes tr chosen width chains clocks (suc t) hi t lo work row cells work row cells
  passes-by l n = record {
    again = g;
    rest = record { size = refl; beyond = refl };
    row_size = refl;
    keeps = λ b access p. keeps-by b access g.filled s p (λ h. no (leads-led b access g.filled s p h));
  }
    where
      no : (get_or clocks (row_of tr lo * width + get_or chosen (row_of tr lo) 0) 0 ≤ get_or row (get_or chosen (row_of tr lo) 0) 0) ⊎ OneClashes tr cells lo hi → ⊥
      no (inl k) = let m : own ≤ there = rw row-lo at k in omega arith
      no (inr c) = n c

  -- it is kept: marked and noted
  module _ (work' cells' : List ℕ) (marked : work' ≡ set work t 1) (noted : Noted tr lo hi cells cells') where
    rest : Rest tr work work'
    rest = record { size = ap length marked ∙ length-set work t 1; beyond = ap (drop (rows tr)) marked ∙ drop-set-lt (rows tr) work t 1 row_in }

    again : (row' : List ℕ) → length row' ≡ length row → Passing tr chosen width chains clocks work' row' cells'
    again row' e = record {
      filled = g.filled;
      chains_are = g.chains_are;
      work_room = omega (arith, rest.size, g.work_room);
      row_room = omega (arith, g.row_room);
      cells_are = noted-bytes a lo hi cells cells' s.to.inside g.cells_are noted;
    }

    -- by happens-before
    pub passes-below : own ≤ there → (row' : List ℕ) → row' ≡ row → Passes tr chosen width chains clocks (suc t) hi t lo work row cells work' row' cells'
    passes-below l row' e = record {
      again = again row' (ap length e);
      rest = rest;
      row_size = ap length e;
      keeps = λ b access p. keeps_below b access g.filled s p (led-leads b access g.filled s p (inl k)) g.work_room g.cells_are.size work' row' cells' marked noted k e;
    }
      where
        k : get_or clocks (row_of tr lo * width + get_or chosen (row_of tr lo) 0) 0 ≤ get_or row (get_or chosen (row_of tr lo) 0) 0
        k = rw row-lo l

    -- by a conflict
    pub passes-merged : OneClashes tr cells lo hi → (row' : List ℕ) → Merged clocks (t * width) chains row row' → Passes tr chosen width chains clocks (suc t) hi t lo work row cells work' row' cells'
    passes-merged c row' m = record {
      again = again row' m.size;
      rest = rest;
      row_size = m.size;
      keeps = λ b access p. keeps-merged b access g.filled s p (led-leads b access g.filled s p (inr c)) g.work_room g.cells_are.size work' row' cells' marked noted chains-all m;
    }

-- Several rows, one after the other.
module _ {tr : List Record} {chosen : List ℕ} {width chains : ℕ} {clocks : List ℕ} where
  pub passes_none : {t hi : ℕ} {work row cells : List ℕ} → Passing tr chosen width chains clocks work row cells → Passes tr chosen width chains clocks t hi t hi work row cells work row cells
  passes_none g = record { again = g; rest = record { size = refl; beyond = refl }; row_size = refl; keeps = λ b access p. p }

  pub passes_on : {t hi t' hi' t'' hi'' : ℕ} {work row cells work' row' cells' work'' row'' cells'' : List ℕ} → Passes tr chosen width chains clocks t hi t' hi' work row cells work' row' cells' → Passes tr chosen width chains clocks t' hi' t'' hi'' work' row' cells' work'' row'' cells'' → Passes tr chosen width chains clocks t hi t'' hi'' work row cells work'' row'' cells''
  passes_on p q = record {
    again = q.again;
    rest = record { size = q.rest.size ∙ p.rest.size; beyond = q.rest.beyond ∙ p.rest.beyond };
    row_size = q.row_size ∙ p.row_size;
    keeps = λ b access k. q.keeps b access (p.keeps b access k);
  }

  -- one row more, from t down
  pub passes-down : {u end t hi lo : ℕ} {work row cells work' row' cells' work'' row'' cells'' : List ℕ} → 0 < t → Passes tr chosen width chains clocks u end t hi work row cells work' row' cells' → Passes tr chosen width chains clocks (suc (t - 1)) hi (t - 1) lo work' row' cells' work'' row'' cells'' → Passes tr chosen width chains clocks u end (t - 1) lo work row cells work'' row'' cells''
  passes-down {t = t} h p q = let e : suc (t - 1) ≡ t = omega arith in passes_on p (rw e at q)

-- All rows from that of b down.
module _ {tr : List Record} {chosen : List ℕ} {width chains : ℕ} {clocks work row : List ℕ} {u b : ℕ} (m : Markable tr chosen width chains clocks work row u b) where
  pub in-trace : b < length tr
  in-trace = access-inside tr b m.access

  row-b : u < rows tr
  row-b = omega (arith, m.row_is, row_low m.filled.acceptable b in-trace)

  pub start-bounds : Bounds tr chosen width chains clocks u
  start-bounds = bounds_of m.filled m.chains_are u row-b

  pub start-split : {lo : ℕ} → Starts tr lo b → Split tr u lo
  start-split {lo} s = rw m.row_is (split_at m.filled.acceptable lo b in-trace s)

  -- b's row marked, its records before b noted
  module _ {lo : ℕ} {cells₀ cells : List ℕ} (blank : cells₀ ≡ zeros 1025) (noted : Noted tr lo b cells₀ cells) where
    pub start-passing : (row' : List ℕ) → length row' ≡ length row → Passing tr chosen width chains clocks (set work u 1) row' cells
    start-passing row' e = record {
      filled = m.filled;
      chains_are = m.chains_are;
      work_room = simp length-set m.clear.work_room;
      row_room = omega (arith, m.row_room);
      cells_are = noted-bytes m.filled.acceptable lo b cells₀ cells (omega (arith, in-trace)) (rw blank none-bytes) noted;
    }

    pub marks-all : (row₁ row₂ work' row₃ cells' : List ℕ) → row₁ ≡ zeros (length row) → Merged clocks (u * width) chains row₁ row₂ → Starts tr lo b → PassesAll tr chosen width chains clocks u lo (set work u 1) row₂ cells work' row₃ cells' → MarksKept tr b work work'
    marks-all row₁ row₂ work' row₃ cells' zero merged s p = keeps-end b m.access m.filled (p.passes.keeps b m.access (rw m.row_is start)) p.split m.clear.work_room (record { size = p.passes.rest.size ∙ length-set work u 1; beyond = p.passes.rest.beyond ∙ drop-set-lt (rows tr) work u 1 row-b })
      where
        byte : (r : ℕ) → r < rows tr → get_or work r 0 ≡ 0
        byte r l = ap (λ (w : List ℕ). get_or w r 0) m.clear.zeros ∙ get_or-append (replicate (rows tr) 0) (drop (rows tr) work) 0 r (omega (arith, length-replicate {A = ℕ} (rows tr) 0)) ∙ get_or-replicate {A = ℕ} (rows tr) r 0 0 l

        start : Kept tr b chosen width clocks (row_of tr b) lo (set work (row_of tr b) 1) row₂ cells
        start = keeps-start b m.access m.filled lo s work (set work (row_of tr b) 1) row₁ row₂ cells m.clear.work_room byte refl (rw blank at noted) (λ x h. omega (arith, m.chains_are, chain-few m.filled (row_of tr x) (row_low m.filled.acceptable x h))) (λ c. ap (λ (l : List ℕ). get_or l c 0) zero ∙ zeros-at (length row) c) (rw m.row_is at merged)
