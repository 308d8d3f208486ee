-- Marking the entries of one second access, entry by entry.
-- Assumes nothing.
use Prim.Native.Nat.{ℕ, ◌+◌, ◌*◌, ◌-◌, ◌≤◌, ◌<◌}
use mathlib.Core.Path.{◌≡◌, sym, ap, ◌∙◌}
use mathlib.Core.Logic.{◌≢◌, ◌⊎◌, inl, inr}
use mathlib.Core.List.{List}
use native.Mathlib.Omega.{arith}
use lib.ListN.{length, set}
use Rattle.records.specs.declared.Record.{Record}
use Rattle.slices.proofs.Tests.{decide_eq}
use Rattle.races.specs.Lists.{mark_of}
use Rattle.races.specs.loops.FilledClocks.{RowsIn}
use Rattle.races.specs.loops.Marking.{first, second, Remarked}
use Rattle.races.specs.loops.Raising.{row_in, mark_in, Markable, MarksSecond}
use Rattle.races.proofs.MarkingLaws.{remarked-none, remarked-on, remarked-one}

-- those from k on, before e, are marked
pub record MarkingSecond (tr : List Record) (list₀ : List ℕ) (k count : ℕ) (list : List ℕ) (e : ℕ) : Type 0 where
  pub from : k ≤ e
  pub within : e ≤ count
  pub room : 5 * count ≤ length list
  pub same : (i : ℕ) → k ≤ i → i < e → second list₀ i ≡ second list₀ k
  pub remarked : Remarked tr k e list₀ list

pub marking-start : {tr : List Record} {ranks chosen clocks list : List ℕ} {width u k count : ℕ} → Markable tr ranks chosen width clocks u list k count → MarkingSecond tr list k count list k
marking-start {tr} {list = list} {k = k} m = let s = m.some in record { from = omega arith; within = omega arith; room = m.room; same = λ i h l. absurd (omega arith); remarked = remarked-none tr k list }

module _ {tr : List Record} {list₀ list : List ℕ} {k count e : ℕ} (s : MarkingSecond tr list₀ k count list e) (h : e < count) (x : ℕ) (x-is : x ≡ second list₀ k) where
  -- an entry of another second access
  pub marking-stop : second list e ≢ x → MarksSecond tr list₀ list k count e
  marking-stop n = record {
    ahead = ahead (decide_eq k e);
    within = s.within;
    same = s.same;
    else = λ l z. n (s.remarked.seconds e ∙ z ∙ sym x-is);
    remarked = s.remarked;
  }
    where
      ahead : (k ≡ e) ⊎ (k ≢ e) → k < e
      ahead (inl z) = absurd (n (s.remarked.seconds e ∙ ap (second list₀) (sym z) ∙ sym x-is))
      ahead (inr z) = omega (arith, s.from)

  -- one of the same: its first access, the row of that, and its mark
  module _ {ranks chosen : List ℕ} {width : ℕ} {clocks : List ℕ} {u : ℕ} (m : Markable tr ranks chosen width clocks u list₀ k count) where
    pub marking-number : 0 < first list e
    marking-number = rw (s.remarked.firsts e) (m.numbers e s.from h)

    module _ (q : second list e ≡ x) where
      same_second : second list₀ e ≡ second list₀ k
      same_second = sym (s.remarked.seconds e) ∙ q ∙ x-is

      pub marking-rows : (t : ℕ) → t ≡ row_in tr ranks (first list e - 1) → RowsIn chosen width clocks t u
      marking-rows t z = rw (z, s.remarked.firsts e) (m.rows e s.from h same_second)

      pub marking-next : (t v : ℕ) → t ≡ row_in tr ranks (first list e - 1) → v ≡ mark_in chosen width clocks t u → MarkingSecond tr list₀ k count (set list (5 * e + 4) v) (e + 1)
      marking-next t v z y = record {
        from = omega (arith, s.from);
        within = omega arith;
        room = omega (arith, on.size, s.room);
        same = λ i l w. same i l w (decide_eq i e);
        remarked = remarked-on tr s.remarked on;
      }
        where
          is : v ≡ mark_of tr (first list e - 1) (second list e - 1)
          is = y ∙ rw (z, s.remarked.firsts e, s.remarked.seconds e) (m.marks e s.from h same_second)

          on : Remarked tr e (e + 1) list (set list (5 * e + 4) v)
          on = remarked-one tr e list (set list (5 * e + 4) v) (ap (set list (5 * e + 4)) is)

          same : (i : ℕ) → k ≤ i → i < e + 1 → (i ≡ e) ⊎ (i ≢ e) → second list₀ i ≡ second list₀ k
          same i l w (inl j) = rw j same_second
          same i l w (inr j) = s.same i l (omega arith)

pub marking-end : {tr : List Record} {ranks chosen clocks list₀ list : List ℕ} {width u k count e : ℕ} → Markable tr ranks chosen width clocks u list₀ k count → MarkingSecond tr list₀ k count list e → count ≤ e → MarksSecond tr list₀ list k count e
marking-end m s h = record { ahead = omega (arith, m.some); within = s.within; same = s.same; else = λ l z. omega arith; remarked = s.remarked }
