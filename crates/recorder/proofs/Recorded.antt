-- What is closed is a trace of the steps taken.
-- Assumes nothing.
use Prim.Native.Nat.{ℕ, ◌+◌, ◌*◌, ◌≤◌}
use mathlib.Core.Path.{◌≡◌, refl, sym, ap, ◌∙◌}
use mathlib.Core.Bool.{Bool, true, false, cond}
use mathlib.Core.List.{List, []}
use native.Mathlib.Omega.{arith}
use borrow.Author.Tests.{leb-true, eqb-true}
use lib.Dec.{leb, eqb}
use lib.ListN.{length, take}
use Rattle.records.specs.declared.Record.{Record}
use Rattle.records.specs.Records.{past, begins}
use Rattle.trace.specs.Place.{between}
use Rattle.trace.specs.Reading.{Acceptable}
use Rattle.records.specs.Encoding.{trailer, trace_of, stored}
use Rattle.trace.specs.Reply.{gives}
use Rattle.trace.proofs.Encoded.{records-encoded, read-encoded}
use Rattle.recorder.specs.declared.Recorder.{Recorder}
use Rattle.recorder.specs.Recording.{Left, pass, stops_inside, no_trailer, close_left}
use Rattle.recorder.specs.History.{ClosedTrace, ClosedIsTrace, ClosingIsAnswered}
use Rattle.recorder.proofs.Left.{closing, pass_on, close_open, close-inside, close-short, close-done}
use Rattle.recorder.proofs.Holds.{Holds, holds, held-is, before-is, stored-front, stored-beyond, through}

outside : (r : Recorder) → stops_inside r ≡ 0 → r.situation ≡ between
unfolding stops_inside
outside r e = eqb-true r.situation between (go (eqb r.situation between) e)
  where
    go : (t : Bool) → ◌≡◌ {A = ℕ} (cond t 0 9) 0 → t ≡ true
    go true q = refl
    go false q = absurd (omega arith)

enough : (w : List ℕ) (n : ℕ) → no_trailer w n ≡ 0 → 5 * n + 8 ≤ length w
unfolding no_trailer
enough w n e = leb-true (5 * n + 8) (length w) (go (leb (5 * n + 8) (length w)) e)
  where
    go : (t : Bool) → ◌≡◌ {A = ℕ} (cond t 0 25) 0 → t ≡ true
    go true q = refl
    go false q = absurd (omega arith)

pub trailer-length : (d m : ℕ) → length (trailer d m) ≡ 8
unfolding trailer
trailer-length d m = refl

module _ {tr : List Record} {w : List ℕ} {r : Recorder} (h : Holds tr w r) where
  pub close-is : close_left w r ≡ pass w r (stops_inside r) (length tr) (pass w r (no_trailer w (length tr)) 0 (closing w (length tr) r))
  close-is = close_open w r h.is_open (length tr) (sym (held-is h))

  -- the trailer after the steps
  closed-bytes : r.situation ≡ between → 5 * length tr + 8 ≤ length w → ClosedTrace w tr (5 * length tr + 8) (closing w (length tr) r).bytes
  unfolding trace_of
  closed-bytes s f =
      let m = begins (past tr (length tr)) in
      let t = trailer (5 * length tr) m in
      let v = trailer-length (5 * length tr) m in
      let fits : 5 * length tr + length t ≤ length w = omega arith in
      let a : Acceptable tr = record { few = h.few; passes = h.passes; closed = sym h.stands ∙ s } in
      let e : take (5 * length tr + 8) (stored w (5 * length tr) t) ≡ trace_of tr = rw v at (stored-front w (5 * length tr) t fits) ∙ rw h.front in
      rw (before-is h) (record {
        acceptable = a;
        long = refl;
        trace = e;
        reads = rw e (read-encoded a []);
        records = rw e (records-encoded a []);
        beyond = rw v at (stored-beyond w (5 * length tr) t fits);
      })

  closed-from : (n : ℕ) → (close_left w r).answer ≡ gives n → ClosedTrace w tr n (close_left w r).bytes
  closed-from n e =
      let q = through w r (length tr) _ (stops_inside r) n (rw close-is at e) in
      let q2 = through w r 0 _ (no_trailer w (length tr)) n q.1 in
      let k : 5 * length tr + 8 ≡ n = cc in
      rw (← k, close-is, pass_on w r (stops_inside r) (length tr) _ q.0, pass_on w r (no_trailer w (length tr)) 0 _ q2.0)
      (closed-bytes (outside r q.0) (enough w (length tr) q2.0))

-- "What is closed is a trace of the steps taken if nobody else altered the bytes meanwhile": the reader accepts it, and reads exactly those steps.
pub closed-trace : ClosedIsTrace
closed-trace b tr w r c n e = closed-from (holds c) n e

pub closing-answers : ClosingIsAnswered
closing-answers b tr w r c =
    let h = holds c in
    let n = sym (held-is h) in
    record {
      inside = λ s. ap (λ (l : Left ℕ). l.answer) (sym (close-inside w r h.is_open (length tr) n (λ e. s (sym h.stands ∙ e))));
      too_few = λ s k. ap (λ (l : Left ℕ). l.answer) (sym (close-short w r h.is_open (length tr) n (h.stands ∙ s) k));
      closed = λ s k. ap (λ (l : Left ℕ). l.answer) (sym (close-done w r h.is_open (length tr) n (h.stands ∙ s) k));
    }
