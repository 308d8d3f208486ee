-- Any records of an acceptable trace that leave out accesses alone: what comes before each, and their ranks, are the trace's. Assumes nothing.
use Prim.Native.Nat.{ℕ, zero, suc, ◌≤◌, ◌<◌}
use mathlib.Core.Path.{◌≡◌, refl, sym, ap, ◌∙◌}
use mathlib.Core.Logic.{◌⊎◌, inl, inr, ⊎_elim}
use mathlib.Core.Bool.{Bool, false}
use mathlib.Core.List.{List, [], ◌∷◌, map}
use native.Mathlib.Omega.{arith}
use native.Mathlib.Numerals.{add-one}
use borrow.Author.Tests.{ne_eqb}
use lib.Dec.{T, eqb}
use lib.ListN.{length, get_or, length-map}
use Rattle.records.specs.declared.Record.{Record}
use Rattle.records.specs.Records.{no_record, at, past, has, begun, ended, begins}
use Rattle.trace.specs.Place.{place}
use Rattle.trace.specs.Rule.{situation, owner}
use Rattle.trace.specs.Plain.{plain_rule}
use Rattle.trace.specs.Reading.{Acceptable}
use Rattle.trace.proofs.Blocks.{Passes, passes_at}
use Rattle.trace.proofs.PlaceRule.{Outside, begins as begins-outside, joins, Inside, ends, forks, reads, writes, sends, outside, inside}
use Rattle.records.proofs.Positions.{lt-or-ge}
use Rattle.order.specs.Rank.{rank_in, rank}
use Rattle.coverage.specs.Below.{upto}
use Rattle.slices.proofs.Tests.{decide}
use Rattle.coverage.proofs.Indexed.{size, item, size-zero, size-yes, size-no, item-at}
use Rattle.races.specs.Traces.{is_access}
use Rattle.races.proofs.Instance.{access-kind}

map_at : (f : ℕ → Record) (l : List ℕ) (k : ℕ) (d : Record) → k < length l → get_or (map f l) k d ≡ f (get_or l k 0)
map_at f [] k d h = absurd (omega arith)
map_at f (x ∷ xs) zero d h = refl
map_at f (x ∷ xs) (suc k) d h = map_at f xs k d (omega arith)

-- what a record's rules ask of the records before it, and what ranks are made of
pub record Alike (before before' : List Record) : Type 0 where
  pub situations : situation before' ≡ situation before
  pub owners : owner before' ≡ owner before
  pub begun_same : (e : ℕ) → begun e before' ≡ begun e before
  pub ended_same : (e : ℕ) → ended e before' ≡ ended e before
  pub counts : begins before' ≡ begins before
  pub ranks : (e : ℕ) → rank_in e before' ≡ rank_in e before

-- 4 to 8
pub rule-alike : {before before' : List Record} → Alike before before' → (r : Record) → plain_rule before' r ≡ plain_rule before r
unfolding plain_rule
rule-alike a r = rw (a.situations, a.owners, a.begun_same r.first, a.begun_same r.second, a.ended_same r.second)

alike-start : Alike [] []
alike-start = record { situations = refl; owners = refl; begun_same = λ e. refl; ended_same = λ e. refl; counts = refl; ranks = λ e. refl }

-- the same record after both
alike_both : {before before' : List Record} → Alike before before' → (r : Record) → Alike (r ∷ before) (r ∷ before')
unfolding situation owner begun ended has begins rank_in
alike_both a r = record {
  situations = rw a.situations;
  owners = refl;
  begun_same = λ e. rw (a.begun_same e);
  ended_same = λ e. rw (a.ended_same e);
  counts = rw a.counts;
  ranks = λ e. rw (a.counts, a.ranks e);
}

-- an access after the first alone
alike-one : {before before' : List Record} → Alike before before' → (r : Record) → (r.kind ≡ 5) ⊎ (r.kind ≡ 6)
    → place (situation before) r.kind ≡ situation before → r.first ≡ owner before → Alike (r ∷ before) before'
unfolding situation owner begun ended has begins rank_in
alike-one {before} a r k s o =
    let b : eqb r.kind 1 ≡ false = ne_eqb r.kind 1 (λ e. ⊎_elim (λ q. omega arith) (λ q. omega arith) k) in
    let d : eqb r.kind 2 ≡ false = ne_eqb r.kind 2 (λ e. ⊎_elim (λ q. omega arith) (λ q. omega arith) k) in
    record {
      situations = a.situations ∙ sym s;
      owners = a.owners ∙ sym o;
      begun_same = λ e. rw b (a.begun_same e);
      ended_same = λ e. rw d (a.ended_same e);
      counts = rw b a.counts;
      ranks = λ e. rw b (a.ranks e);
    }

module _ {tr : List Record} (acc : Acceptable tr) where
  low-situation : (i : ℕ) → i ≤ length tr → situation (past tr i) ≤ 2
  unfolding situation past
  low-situation zero l = omega arith
  low-situation (suc i) l = go (lt-or-ge (situation (past tr i)) 2)
    where
      p : Passes (past tr i) (at tr i)
      p = passes_at acc i (omega arith)

      out : (n : ℕ) → Outside (at tr i).kind n → n ≤ 2
      out n (begins-outside e h) = omega arith
      out n (joins e h) = omega arith

      within : (n : ℕ) → Inside (at tr i).kind n → n ≤ 2
      within n (ends e h) = omega arith
      within n (forks e h) = omega arith
      within n (reads e h) = omega arith
      within n (writes e h) = omega arith
      within n (sends l m h) = omega arith

      go : (situation (past tr i) < 2) ⊎ (2 ≤ situation (past tr i)) → place (situation (past tr i)) (at tr i).kind ≤ 2
      go (inl m) = out _ (outside (situation (past tr i)) (at tr i).kind p.known p.placed m)
      go (inr m) = within _ (inside (situation (past tr i)) (at tr i).kind p.known p.placed m)

  -- an access stands inside its event action: the situation stays, and its event is the open one
  access-inside : (i : ℕ) → i < length tr → ((at tr i).kind ≡ 5) ⊎ ((at tr i).kind ≡ 6)
      → (place (situation (past tr i)) (at tr i).kind ≡ situation (past tr i)) × ((at tr i).first ≡ owner (past tr i))
  access-inside i l k = go (lt-or-ge s 2)
    where
      s : ℕ
      s = situation (past tr i)

      p : Passes (past tr i) (at tr i)
      p = passes_at acc i l

      out : Outside (at tr i).kind (place s (at tr i).kind) → ⊥
      out (begins-outside e h) = ⊎_elim (λ q. omega arith) (λ q. omega arith) k
      out (joins e h) = ⊎_elim (λ q. omega arith) (λ q. omega arith) k

      within : (n : ℕ) → Inside (at tr i).kind n → n ≡ 2
      within n (ends e h) = absurd (⊎_elim (λ q. omega arith) (λ q. omega arith) k)
      within n (forks e h) = absurd (⊎_elim (λ q. omega arith) (λ q. omega arith) k)
      within n (reads e h) = h
      within n (writes e h) = h
      within n (sends l m h) = h

      go : (s < 2) ⊎ (2 ≤ s) → (place s (at tr i).kind ≡ s) × ((at tr i).first ≡ owner (past tr i))
      go (inl m) = absurd (out (outside s (at tr i).kind p.known p.placed m))
      go (inr m) =
          let low = low-situation i (omega arith) in
          let z : s ≡ 2 = omega arith in
          (within _ (inside s (at tr i).kind p.known p.placed m) ∙ sym z, p.owned (λ e. omega arith))

  module _ (keep : ℕ → Bool) (drops : (i : ℕ) → i < length tr → (T (keep i) → ⊥) → T (is_access (at tr i))) where
    -- the kept records
    abbrev pub thin : List Record
    thin = map (at tr) (upto (length tr) keep)

    pub thin-length : length thin ≡ size keep (length tr)
    thin-length = length-map (upto (length tr) keep) (at tr)

    -- record k of them is the trace's record that has this place
    pub thin_at : (k : ℕ) → k < size keep (length tr) → at thin k ≡ at tr (item keep (length tr) k)
    thin_at k l = map_at (at tr) (upto (length tr) keep) k no_record l

    -- what comes before a record that is kept, record by record of the trace
    past-kept : (i : ℕ) → i < length tr → T (keep i) → past thin (size keep (suc i)) ≡ at tr i ∷ past thin (size keep i)
    unfolding past
    past-kept i l h =
        let k = item-at keep (length tr) i l h in
        rw (size-yes keep i h, add-one (size keep i)) (ap (λ (r : Record). r ∷ past thin (size keep i)) (thin_at (size keep i) k.1 ∙ ap (at tr) k.0))

    past-dropped : (i : ℕ) → (T (keep i) → ⊥) → past thin (size keep (suc i)) ≡ past thin (size keep i)
    past-dropped i h = rw (size-no keep i h)

    pub alike : (i : ℕ) → i ≤ length tr → Alike (past tr i) (past thin (size keep i))
    unfolding past
    alike zero l = rw (size-zero keep) alike-start
    alike (suc i) l = go (decide (keep i)) (alike i (omega arith))
      where
        go : T (keep i) ⊎ (T (keep i) → ⊥) → Alike (past tr i) (past thin (size keep i)) → Alike (at tr i ∷ past tr i) (past thin (size keep (suc i)))
        go (inl h) a = rw (past-kept i (omega arith) h) (alike_both a (at tr i))
        go (inr h) a =
            let k = access-kind (at tr i) (drops i (omega arith) h) in
            let (s, o) = access-inside i (omega arith) k in
            rw (past-dropped i h) (alike-one a (at tr i) k s o)

    pub all_alike : Alike (past tr (length tr)) (past thin (length thin))
    all_alike = rw thin-length (alike (length tr) (omega arith))

    -- the same ranks and number of begins
    pub thin-rank : (e : ℕ) → rank thin e ≡ rank tr e
    unfolding rank
    thin-rank e = all_alike.ranks e

    pub thin-begins : begins (past thin (length thin)) ≡ begins (past tr (length tr))
    thin-begins = all_alike.counts
