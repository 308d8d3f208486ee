-- The cover clock's rows of an acceptable trace are closed: a row is made ready from those before it.
-- Assumes nothing.
use Prim.Native.Nat.{ℕ, suc, ◌≤◌, ◌<◌}
use mathlib.Core.Path.{sym, ◌∙◌}
use mathlib.Core.List.{List}
use native.Mathlib.Omega.{arith}
use Rattle.records.specs.declared.Record.{Record}
use Rattle.trace.specs.Reading.{Acceptable}
use Rattle.coverage.proofs.Whole.{whole-self, whole_below, whole-decides}
use Rattle.order.specs.Clocks.{chain_of, entry}
use Rattle.order.specs.HappensBefore.{trace_links}
use Rattle.order.specs.loops.Numbering.{whole_of, up_to}
use Rattle.order.proofs.SetLaws.{row-mono}
use Rattle.order.proofs.CoverRows.{cover-decides, cover-own, cover-skip}
use Rattle.order.proofs.TraceOrder.{forward-links}
use Rattle.races.specs.Traces.{setting_of}
use Rattle.races.proofs.Instance.{laws}
use Rattle.races.proofs.CoverNumbers.{events, name_of, numbered, in_order, clock-is}
use Rattle.races.proofs.RaisedRows.{final}
use Rattle.races.proofs.LeadRows.{Closed, entry-own}

module _ {tr : List Record} (a : Acceptable tr) where
  pub trace-closed : (t : ℕ) → t ≤ events tr → Closed (trace_links tr) t (final tr)
  trace-closed t h = record {
    own = λ p k. cover-own (setting_of tr) (laws a) (events tr) (name_of tr) (chain_of (trace_links tr)) (numbered a) (in_order a) p (omega arith) ∙ sym (entry-own (trace_links tr) (forward-links a) p);
    low = low;
    leads = leads;
  }
    where
      low : (p c : ℕ) → p < t → entry (trace_links tr) p c ≤ final tr p c
      low p c k =
          let name = name_of tr in
          omega (arith, clock-is a p c (omega arith), row-mono (chain_of (trace_links tr)) (up_to (setting_of tr) name p) (whole_of (setting_of tr) name p) (suc p) (suc p) c (λ s i e b. (i, (whole-decides (setting_of tr) (laws a) (name p) (name s)).1 (whole_below (setting_of tr) (laws a) b (whole-self (setting_of tr) (laws a) (name p))))))

      leads : (p q : ℕ) → p < t → q < t → entry (trace_links tr) p (chain_of (trace_links tr) p) ≤ final tr q (chain_of (trace_links tr) p) → (c : ℕ) → final tr p c ≤ final tr q c
      leads p q i j k = cover-skip (setting_of tr) (laws a) (events tr) (name_of tr) (chain_of (trace_links tr)) (numbered a) (in_order a) q p (omega arith) (omega arith) ((cover-decides (setting_of tr) (laws a) (events tr) (name_of tr) (chain_of (trace_links tr)) (numbered a) (in_order a) q p (omega arith) (omega arith)).1 (omega (arith, entry-own (trace_links tr) (forward-links a) p)))
