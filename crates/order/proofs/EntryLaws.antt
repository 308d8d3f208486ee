-- At the entry of a public function: what a reading says of the records that are handed on.
-- Assumes nothing.
use Prim.Native.Nat.{ℕ}
use mathlib.Core.Path.{◌≡◌, sym, ap, ◌∙◌, subst}
use mathlib.Core.List.{List}
use mathlib.Core.Bool.{false}
use lib.ListN.{length}
use Rattle.records.specs.declared.Trace.{Trace}
use Rattle.records.specs.Bytes.{decode, part}
use Rattle.records.specs.Records.{past}
use Rattle.records.specs.Kinds.{has_send}
use Rattle.records.proofs.Sends.{past-sends}
use Rattle.trace.specs.Reading.{records_in, Accepts, Acceptable}
use Rattle.trace.proofs.Accepted.{accepts}
use Rattle.order.specs.Fill.{events_in}

module _ (b : List ℕ) (t : Trace) (e : Accepts b t) (recs : List ℕ) (r : recs ≡ part b t.start t.records) where
  pub records-are : decode recs ≡ records_in b t
  unfolding records_in
  records-are = ap decode r

  pub read-acceptable : Acceptable (decode recs)
  read-acceptable = rw records-are (accepts b t e).acceptable

  pub read-events : t.events ≡ events_in (decode recs)
  unfolding events_in
  read-events = let p = accepts b t e in rw (records-are, p.counts) (sym p.begun)

  pub read-sends : t.sends ≡ has_send (decode recs)
  read-sends =
      let p = accepts b t e in
      let s : has_send (past (records_in b t) t.records) ≡ has_send (records_in b t) =
      subst (λ (n : ℕ). has_send (past (records_in b t) n) ≡ has_send (records_in b t)) p.counts (past-sends (records_in b t)) in
      rw records-are (sym p.sent ∙ s)

  pub read_count : length (decode recs) ≡ t.records
  read_count = rw records-are (accepts b t e).counts

pub no-send : (b : List ℕ) (t : Trace) → Accepts b t → t.sends ≡ false → has_send (records_in b t) ≡ false
no-send b t e s =
    let p = accepts b t e in
    sym (subst (λ (n : ℕ). has_send (past (records_in b t) n) ≡ has_send (records_in b t)) p.counts (past-sends (records_in b t))) ∙ p.sent ∙ s
