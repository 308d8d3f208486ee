-- The lines of the trace program, one after the other. Assumes nothing.
use Prim.Native.Nat.{ℕ, suc, ◌+◌, ◌*◌, ◌-◌, ◌≤◌, ◌<◌}
use mathlib.Core.Path.{◌≡◌, refl, sym, ap, ap₂, ◌∙◌, subst}
use mathlib.Core.Bool.{Bool, true, false, cond}
use mathlib.Core.List.{List, [], ◌∷◌, ◌++◌, append_assoc}
use native.Mathlib.Omega.{arith}
use native.Mathlib.Numerals.{add-one}
use borrow.Author.Tests.{lt-ltb, le-ltb, leb-true}
use lib.Dec.{leb}
use lib.ListN.{length, get_or, take, drop, length-append, length-take, length-drop}
use lib.Seq.{get_or-append-add}
use Rattle.slices.proofs.Cleared.{zeros-length}
use Rattle.records.specs.declared.Record.{Record}
use Rattle.records.specs.Records.{at}
use Rattle.listing.specs.Lines.{refused_line, header_line, pair_line, put_at, Printed}
use Rattle.trace.specs.Reply.{refused, gives}
use Rattle.trace.specs.Reading.{read_reply, records_read}
use Rattle.trace.proofs.Accepted.{records-read}
use Rattle.trace.proofs.ReplyLaws.{same-given, passed, unless-given}
use Rattle.order.specs.Lent.{work_for}
use Rattle.order.proofs.LentLaws.{fits, filling}
use Rattle.std.proofs.Common.{Result}
use Rattle.trace.specs.declared.Refusal.{Refusal}
use Rattle.races.specs.Paper.{list_paper, Lists}
use Rattle.races.specs.declared.Summary.{Summary}
use Rattle.races.specs.Lists.{numbers, entry, pairs_of, shape_of, mark_of, list_filled, list_ready, list_reply, list_after}
use Rattle.report.specs.Text.{pair_lines, reply_lines, program_reply, lines_of, put_lines, after_lines, Prints}
use Rattle.report.specs.Text.{entry_line, entry_lines, no_clocks, no_work, no_list}

-- one line, then the rest
pub prints-none : (s : List ℕ) (at : ℕ) → Prints s at [] s at
unfolding put_lines after_lines
prints-none s at = record { contents = refl; answer = refl }

pub prints-then : {s s₁ s₂ : List ℕ} {at r q : ℕ} {l : List ℕ} {ls : List (List ℕ)} → Printed s at l s₁ r → Prints s₁ r ls s₂ q → Prints s at (l ∷ ls) s₂ q
unfolding put_lines after_lines
prints-then {ls = ls} p q = record {
  contents = q.contents ∙ ap₂ (λ x y. put_lines x y ls) p.contents p.answer;
  answer = q.answer ∙ ap₂ (λ x y. after_lines x y ls) p.contents p.answer;
}

pub prints-one : {s s₁ : List ℕ} {at r : ℕ} {l : List ℕ} → Printed s at l s₁ r → Prints s at (l ∷ []) s₁ r
prints-one {s₁ = s₁} {r = r} p = prints-then p (prints-none s₁ r)

pub printed-size : {s s₁ : List ℕ} {at r : ℕ} {l : List ℕ} → Printed s at l s₁ r → length s₁ ≡ length s
unfolding put_at
printed-size {s} {at = at} {l = l} p = ap length p.contents ∙ go (leb (at + length l) (length s)) refl
  where
    go : (q : Bool) → leb (at + length l) (length s) ≡ q → length (cond q (take at s ++ l ++ drop (at + length l) s) s) ≡ length s
    go true e =
        let h = leb-true (at + length l) (length s) e in
        let x = length-append (take at s) (l ++ drop (at + length l) s) in
        let y = length-append l (drop (at + length l) s) in
        let u = length-append (take at s ++ l) (drop (at + length l) s) in
        let v = length-append (take at s) l in
        let z = length-take at s in
        let w = length-drop (at + length l) s in
        let g : length (take at s ++ l ++ drop (at + length l) s) ≡ length s = omega arith in
        g
    go false e = refl

-- The loop over the entries: printing the rest from here gives what printing all gives.
pub record Printing (list : List ℕ) (count : ℕ) (s₀ : List ℕ) (at₀ : ℕ) (s : List ℕ) (at i : ℕ) : Type 0 where
  pub low : i ≤ count
  pub size : length s ≡ length s₀
  pub finish : (s' : List ℕ) (r : ℕ) → Prints s at (entry_lines list i (count - i)) s' r → Prints s₀ at₀ (entry_lines list 0 count) s' r

module _ (list : List ℕ) (count : ℕ) (s₀ : List ℕ) (at₀ : ℕ) where
  pub printing-start : Printing list count s₀ at₀ s₀ at₀ 0
  printing-start = record { low = omega arith; size = refl; finish = λ s' r p. let e : count - 0 ≡ count = omega arith in rw e at p }

  entries-more : (i : ℕ) → i < count → entry_lines list i (count - i) ≡ entry_line list i ∷ entry_lines list (i + 1) (count - (i + 1))
  unfolding entry_lines
  entries-more i h = let e : count - i ≡ suc (count - suc i) = omega arith in rw (e, add-one i) refl

  entries_none : (i : ℕ) → count ≤ i → entry_lines list i (count - i) ≡ []
  unfolding entry_lines
  entries_none i h = let e : count - i ≡ 0 = omega arith in rw e refl

  pub printing-next : {s s₁ : List ℕ} {at r i : ℕ}
      → Printing list count s₀ at₀ s at i → i < count → Printed s at (entry_line list i) s₁ r → Printing list count s₀ at₀ s₁ r (i + 1)
  printing-next {i = i} p h q = record {
    low = omega arith;
    size = printed-size q ∙ p.size;
    finish = λ s' r k. p.finish s' r (rw (entries-more i h) (prints-then q k));
  }

  pub printing-end : {s : List ℕ} {at i : ℕ} → Printing list count s₀ at₀ s at i → count ≤ i → Prints s₀ at₀ (entry_lines list 0 count) s at
  printing-end {s} {at} {i} p h = p.finish s at (rw (entries_none i h) (prints-none s at))

-- The entries of a list that was made, as numbers, give the lines of its pairs.
module _ (tr : List Record) where
  five : (before : List ℕ) (a b c d e : ℕ) (more : List ℕ) (i : ℕ)
      → length before ≡ 5 * i → entry_line (before ++ (a ∷ b ∷ c ∷ d ∷ e ∷ more)) i ≡ pair_line a b c d e
  unfolding entry_line
  five before a b c d e more i h =
      let l = a ∷ b ∷ c ∷ d ∷ e ∷ more in
      let z : 5 * i ≡ length before + 0 = omega arith in
      let p : 5 * i + 1 ≡ length before + 1 = omega arith in
      let q : 5 * i + 2 ≡ length before + 2 = omega arith in
      let r : 5 * i + 3 ≡ length before + 3 = omega arith in
      let s : 5 * i + 4 ≡ length before + 4 = omega arith in
      let nth : (k : ℕ) → get_or (before ++ l) (length before + k) 0 ≡ get_or l k 0 = λ k. get_or-append-add before l k 0 in
      rw (p, q, r, s, z, nth 0, nth 1, nth 2, nth 3, nth 4) refl

  pub entries-lines : (ps : List (ℕ × ℕ)) (before rest : List ℕ) (i : ℕ)
      → length before ≡ 5 * i → entry_lines (before ++ (numbers tr ps ++ rest)) i (length ps) ≡ pair_lines tr ps
  unfolding entry_lines pair_lines numbers entry
  entries-lines [] before rest i h = refl
  entries-lines ((a, b) ∷ ps) before rest i h =
      let e = (a + 1) ∷ (b + 1) ∷ (at tr b).second ∷ shape_of tr a b ∷ mark_of tr a b ∷ [] in
      let k : length (before ++ e) ≡ 5 * suc i = length-append before e ∙ omega arith in
      ap₂ ◌∷◌ (five before (a + 1) (b + 1) (at tr b).second (shape_of tr a b) (mark_of tr a b) (numbers tr ps ++ rest) i h)
      (ap (λ l. entry_lines l (suc i) (length ps)) (sym (append_assoc before e (numbers tr ps ++ rest))) ∙ entries-lines ps (before ++ e) rest (suc i) k)

-- What the program's call of the short list gives, and its lines.
module _ (b clocks' work' list' : List ℕ) (r : Result Summary Refusal) (h : length b ≤ 32768) (l : Lists true b 32 no_clocks clocks' no_work work' no_list list' r) where
  spaces : (length no_clocks ≡ 32768) × (length no_work ≡ 1024) × (length no_list ≡ 40960)
  spaces = (zeros-length 32768, zeros-length 1024, zeros-length 40960)

  answer : list_paper r ≡ program_reply b
  answer = rw (spaces.0, spaces.1, spaces.2) at l.answer

  list-after : list' ≡ list_after (records_read b) (program_reply b) (pairs_of (records_read b) true) no_list
  list-after = rw (spaces.0, spaces.1, spaces.2) at l.list-after

  short-input : lines_of b ≡ reply_lines (records_read b) (program_reply b)
  unfolding lines_of
  short-input = rw (le-ltb 32768 (length b) h) refl

  -- a trace that is listed
  module _ (s : Summary) (p : list_paper r ≡ gives s) where
    traced : (s.count ≡ length (pairs_of (records_read b) true)) × (length (pairs_of (records_read b) true) ≤ 8192)
    unfolding list_reply list_ready list_filled
    traced =
        let g = filling b (list_ready b 32 32768 1024) 32 _ s (sym p ∙ answer) in
        let q = records-read b g.trace (fits (read_reply b) 32 32768 (work_for 1024) g.trace g.ready_is).found-is in
        let v = passed _ _ _ _ s g.answers in
        (rw q (ap (λ (x : Summary). x.count) (same-given v.1)), rw q (leb-true _ 8192 v.0))

    pub listed-few : s.count ≤ 8192
    listed-few = omega (arith, traced.0, traced.1)

    pub listed-lines : lines_of b ≡ header_line s.events s.records s.chains s.count ∷ entry_lines list' 0 s.count
    unfolding reply_lines list_after
    listed-lines =
        let tr = records_read b in
        let ps = pairs_of tr true in
        let e : gives s ≡ program_reply b = sym p ∙ answer in
        let lines = entries-lines tr ps [] (drop (5 * length ps) no_list) 0 refl in
        short-input ∙ rw (← e) (ap (λ ls. header_line s.events s.records s.chains s.count ∷ ls)
        (sym (ap₂ (λ i j. entry_lines i 0 j) (list-after ∙ unless-given e no_list _) traced.0 ∙ lines)))

  pub refused-lines : (n p : ℕ) → list_paper r ≡ refused n p → lines_of b ≡ refused_line n p ∷ []
  unfolding reply_lines
  refused-lines n p f = let e : refused n p ≡ program_reply b = sym f ∙ answer in short-input ∙ rw (← e) refl

pub long-input : (b : List ℕ) → 32768 < length b → lines_of b ≡ refused_line 13 0 ∷ []
unfolding lines_of
long-input b h = rw (lt-ltb 32768 (length b) h) refl

-- the call over spaces of zeros
pub over_zeros : {b clocks clocks' work work' list list' : List ℕ} {r : Result Summary Refusal} → clocks ≡ no_clocks → work ≡ no_work → list ≡ no_list
    → Lists true b 32 clocks clocks' work work' list list' r → Lists true b 32 no_clocks clocks' no_work work' no_list list' r
over_zeros {b} {clocks} {clocks'} {work} {work'} {list} {list'} {r} p q s l =
    subst (λ (x : List ℕ). Lists true b 32 no_clocks clocks' no_work work' x list' r) s
    (subst (λ (x : List ℕ). Lists true b 32 no_clocks clocks' x work' list list' r) q
    (subst (λ (x : List ℕ). Lists true b 32 x clocks' work work' list list' r) p l))
