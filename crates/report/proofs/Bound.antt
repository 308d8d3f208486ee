-- The text has at most 262,144 bytes, for every input, and so it stands whole in a space of that size. Assumes nothing.
use Prim.Native.Nat.{ℕ, zero, suc, ◌+◌, ◌*◌, ◌≤◌, ◌<◌}
use mathlib.Core.Path.{◌≡◌, refl}
use mathlib.Core.Bool.{Bool, true, false, cond, ◌&&◌}
use mathlib.Core.List.Memᴰ
use mathlib.Core.List.{List, [], ◌∷◌}
use native.Mathlib.Omega.{arith}
use lib.Dec.{eqb, ltb}
use lib.ListN.{length, length-append}
use Rattle.records.specs.declared.Record.{Record}
use Rattle.records.specs.declared.Trace.{Trace}
use Rattle.records.specs.Records.{at, past, begins, is_begin}
use Rattle.trace.specs.Reply.{Reply, refused, gives}
use Rattle.trace.specs.Reading.{Acceptable, records_in, read_reply, records_read, Accepts}
use Rattle.trace.proofs.Accepted.{accepts, records-read}
use Rattle.trace.proofs.ReplyLaws.{same-given, passed}
use Rattle.trace.proofs.Events.{few-events}
use Rattle.order.specs.Links.{leq}
use Rattle.order.specs.HappensBefore.{trace_links}
use Rattle.order.specs.Chains.{used}
use Rattle.order.specs.Fill.{events_in, begin_position, row_past_width, chains_used}
use Rattle.order.specs.Lent.{work_for, spaces, spaced, enough_chains, on_clocks}
use Rattle.order.proofs.LentLaws.{fits, filling}
use Rattle.order.proofs.FilledTrace.{events-of}
use Rattle.order.proofs.CountLaws.{first-first}
use Rattle.order.proofs.ChainLaws.{used-zero, used-suc-le}
use Rattle.coverage.specs.Below.{Listed}
use Rattle.coverage.proofs.Pairs.{in-short}
use Rattle.races.specs.Traces.{setting_of, cells_of}
use Rattle.races.specs.declared.Summary.{Summary}
use Rattle.races.specs.Lists.{pairs_of, shape_of, mark_of, list_filled, list_ready, list_reply}
use Rattle.races.proofs.CandidateLaws.{cell-low}
use Rattle.races.proofs.Spaces.{short-few}
use Rattle.listing.specs.Lines.{refused_line, header_line, pair_line}
use Rattle.listing.proofs.Text.{refused-at-most, header-at-most, pair-at-most}
use Rattle.report.specs.Text.{pair_lines, reply_lines, program_reply, lines_of, text, WholeForEveryInput}
use Rattle.report.proofs.Refusals.{Small, small-gives, small-demand, small-then, read_small}
use Rattle.report.proofs.Whole.{prints-whole}

refused-bound : (n p : ℕ) → n ≤ 31 → p ≤ 4097 → length (text (refused_line n p ∷ [])) ≤ 50
unfolding text
refused-bound n p h k = omega (arith, length-append (refused_line n p) [], refused-at-most n p (omega arith) (omega arith))

used-bound : (le : ℕ → ℕ → Bool) (u : ℕ) → used le u ≤ u
used-bound le zero = omega (arith, used-zero le)
used-bound le (suc u) = omega (arith, used-suc-le le u, used-bound le u)

module _ {tr : List Record} (a : Acceptable tr) where
  pairs-bound : (ps : List (ℕ × ℕ)) → ((x y : ℕ) → Listed x y ps → (x < y) × (y < length tr)) → length (text (pair_lines tr ps)) ≤ 29 * length ps
  unfolding text pair_lines
  pairs-bound [] h = omega arith
  pairs-bound ((x, y) ∷ ps) h =
      let (l, k) = h x y (Memᴰ.head refl) in
      let few = a.few in
      let one = pair_line (x + 1) (y + 1) (at tr y).second (shape_of tr x y) (mark_of tr x y) in
      let most = pair-at-most (x + 1) (y + 1) (at tr y).second (shape_of tr x y) (mark_of tr x y) (omega arith) (omega arith) (omega (arith, cell-low a y k)) in
      omega (arith, length-append one (text (pair_lines tr ps)), most, pairs-bound ps (λ x y m. h x y (Memᴰ.tail m)))

  short-inside : (x y : ℕ) → Listed x y (pairs_of tr true) → (x < y) × (y < length tr)
  unfolding pairs_of
  short-inside x y m = let (n, r) = (in-short (setting_of tr) (cells_of tr) x y).0 m in (r.first, r.inside)

  events-bound : events_in tr ≤ 1024
  unfolding events_in
  events-bound = few-events a

  chains-bound : chains_used tr ≤ 1024
  unfolding chains_used
  chains-bound = omega (arith, used-bound (leq (trace_links tr)) (events_in tr), events-bound)

  position-bound : (u : ℕ) → begin_position tr u ≤ 4096
  unfolding begin_position
  position-bound u = omega (arith, (first-first (λ i. is_begin (at tr i) && eqb (begins (past tr i)) u) (length tr)).to, a.few)

  listed-fits : (m : ℕ) → m ≤ 1024
      → length (text (reply_lines tr (gives (record { events = m; records = length tr; chains = chains_used tr; count = length (pairs_of tr true) })))) ≤ 262144
  unfolding reply_lines text
  listed-fits m h =
      let ps = pairs_of tr true in
      let few = a.few in
      let short = short-few a in
      let most = header-at-most m (length tr) (chains_used tr) (length ps) (omega arith) (omega arith) (omega (arith, chains-bound)) (omega arith) in
      let all = length-append (header_line m (length tr) (chains_used tr) (length ps)) (text (pair_lines tr ps)) in
      omega (arith, all, most, pairs-bound ps short-inside)

-- the short list's refusals
list-small : (b : List ℕ) → Small (program_reply b)
unfolding list_reply list_ready list_filled on_clocks spaced spaces enough_chains
list-small b =
    small-then (list_ready b 32 32768 1024) _
    (small-then (read_reply b) _ (read_small b) (λ t e. small-demand _ 21 0 _ (omega arith) (omega arith)
    (small-demand _ 22 0 _ (omega arith) (omega arith) (small-gives t))))
    (λ t e.
    let r = (fits (read_reply b) 32 32768 (work_for 1024) t e).found-is in
    let place = position-bound (accepts b t r).acceptable (row_past_width (records_in b t) 32) in
    small-demand _ 23 _ _ (omega arith) (omega arith) (small-demand _ 24 0 _ (omega arith) (omega arith) (small-gives _)))

-- and the list
made-fits : (b : List ℕ) (t : Trace) → Accepts b t → (s : Summary) → gives s ≡ list_filled true (records_in b t) t.events 40960
    → length (text (reply_lines (records_read b) (gives s))) ≤ 262144
unfolding list_filled
made-fits b t r s e =
    let a = (accepts b t r).acceptable in
    let few : t.events ≤ 1024 = omega (arith, events-of b t r, events-bound a) in
    rw (records-read b t r, same-given (passed _ _ _ _ s e).1) (listed-fits a t.events few)

pub text-bound : (b : List ℕ) → length (text (lines_of b)) ≤ 262144
unfolding lines_of reply_lines list_reply list_ready Small
text-bound b = go (ltb 32768 (length b)) (program_reply b) refl (list-small b)
  where
    go : (q : Bool) (x : Reply Summary) → x ≡ program_reply b → Small x
        → length (text (cond q (refused_line 13 0 ∷ []) (reply_lines (records_read b) x))) ≤ 262144
    go true x e s = omega (arith, refused-bound 13 0 (omega arith) (omega arith))
    go false (refused n p) e s = omega (arith, refused-bound n p s.0 s.1)
    go false (gives x) e s =
        let g = filling b (list_ready b 32 32768 1024) 32 _ x e in
        made-fits b g.trace (fits (read_reply b) 32 32768 (work_for 1024) g.trace g.ready_is).found-is x g.answers

pub whole-for-every-input : WholeForEveryInput
whole-for-every-input b s s' r h p =
    let (c, e) = prints-whole p (omega (arith, text-bound b)) in
    record { contents = c; answer = e }
