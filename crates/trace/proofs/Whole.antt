-- Records that pass 4 to 8 are lawful, so that the table decides 31 over them; an acceptable trace is whole.
-- Assumes nothing.
use Prim.Native.Nat.{ℕ, suc, ◌-◌, ◌<◌, ◌≤◌}
use mathlib.Core.Path.{◌≡◌, refl, sym, ap, ◌∙◌, subst}
use mathlib.Core.Bool.{true}
use mathlib.Core.List.{List}
use mathlib.Core.Logic.{◌≢◌, ◌⊎◌, inl, inr}
use native.Mathlib.Omega.{arith}
use native.Mathlib.Nat.{eq-or-lt_of_le}
use borrow.Author.Tests.{eqb-true}
use lib.Dec.{T, eqb→eq}
use lib.ListN.{length, take}
use lib.Seq.{length-take-le, get_or-take}
use Rattle.records.specs.declared.Record.{Record}
use Rattle.records.specs.Records.{no_record, at, past, is_begin, begun}
use Rattle.records.specs.Kinds.{starts}
use Rattle.records.proofs.Positions.{true-not-false, Found, has-intro}
use Rattle.ranks.specs.Ranks.{ranks_of}
use Rattle.precedence.specs.Table.{blocked_for, blocked}
use Rattle.precedence.specs.Before.{Blocked}
use Rattle.precedence.specs.Sound.{Sound, Whole, Next}
use Rattle.precedence.proofs.Theorems.{shorter, refusal-decides}
use Rattle.precedence.proofs.Growing.{sound-all}
use Rattle.precedence.proofs.Prefix.{past_same, blocked-same}
use Rattle.links.specs.Rule.{rank_in}
use Rattle.links.specs.Fill.{fill_all}
use Rattle.links.specs.Begin.{begin_blocked}
use Rattle.links.proofs.BeginSim.{begin-decided}
use Rattle.links.specs.Promise.{Lawful, Decides}
use Rattle.links.proofs.RankSim.{all-decided}
use Rattle.trace.specs.Reading.{Acceptable}
use Rattle.trace.specs.Plain.{plain_rule, Passed}
use Rattle.trace.proofs.Passed.{Passes, AllPass, passing, again-start, start-fresh, target_fresh, body-after-begin, join-after-end, contiguous}
use Rattle.trace.proofs.Blocks.{all_pass, free-at, event-begins}
use Rattle.trace.proofs.Events.{event-range, range, few-begins, room-for-one}
use Rattle.trace.proofs.Walks.{Free}

-- a fork or a send is no begin and no join
starts-not : (k : ℕ) (r : Record) → (k ≡ 1) ⊎ (k ≡ 4) → T (starts r) → r.kind ≢ k
starts-not k r (inl e) h q = rw (q ∙ e) at h
starts-not k r (inr e) h q = rw (q ∙ e) at h

module _ {tr : List Record} {n : ℕ} (a : AllPass tr n) where
  found-begun : {e i : ℕ} → Found tr is_begin e i → begun e (past tr i) ≡ true
  unfolding begun
  found-begun {e} {i} f = has-intro tr is_begin e i f.at_position f.earlier f.passes f.event

  waited_begun : (i : ℕ) → i < n → (at tr i).kind ≡ 4 → begun (at tr i).second (past tr i) ≡ true
  unfolding begun
  waited_begun i h k =
      let f = join-after-end a i h k in
      let l = f.earlier in
      let e = eqb-true (at tr f.at_position).kind 2 f.passes in
      let g = body-after-begin a f.at_position (omega arith) (λ z. omega arith) (λ z. omega arith) in
      let m = g.earlier in
      has-intro tr is_begin (at tr i).second i g.at_position (omega arith) g.passes (g.event ∙ f.event)

  near : (i j : ℕ) → i < n → j < i → (at tr j).first ≡ (at tr i).first → (suc j ≡ i) ⊎ (suc j < i) → (at tr (i - 1)).first ≡ (at tr i).first
  near i j h l e (inl q) = let z : i - 1 ≡ j = omega arith in rw z e
  near i j h l e (inr q) = contiguous a j (i - 1) i (omega arith) (omega arith) h e ∙ e

  pub lawful : (i : ℕ) → i < n → Lawful tr i
  lawful i h = record {
    begin_fresh = λ k. start-fresh a i h (inl (eqb→eq (at tr i).kind 1 k));
    join_fresh = λ k. start-fresh a i h (inr (eqb→eq (at tr i).kind 4 k));
    target_fresh = target_fresh a i h;
    running = λ k. found-begun (body-after-begin a i h (starts-not 1 (at tr i) (inl refl) k) (starts-not 4 (at tr i) (inr refl) k));
    waited = λ k. waited_begun i h (eqb→eq (at tr i).kind 4 k);
    together = λ j l e. near i j h l e (eq-or-lt_of_le l);
    in_range = λ k. (range a i h).1;
  }

-- all records of a list that pass
pub passed-decided : {tr : List Record} → AllPass tr (length tr) → length tr ≤ 4096 → Decides tr (rank_in (ranks_of tr)) (length tr) (fill_all tr)
passed-decided {tr} a few = all-decided tr (lawful a) (few-begins a) (omega arith)

-- and none of whose begins 31 refuses
module _ {tr : List Record} {n : ℕ} (a : AllPass tr n) (f : Free tr n) where
  free-next : (i : ℕ) → i < n → Next tr i
  free-next i h =
      let l = lawful a i h in
      record {
        begin_fresh = l.begin_fresh;
        join_fresh = l.join_fresh;
        target_fresh = l.target_fresh;
        running = l.running;
        waited = l.waited;
        together = l.together;
        free = f i h;
      }

  pub free-sound : Sound tr n
  free-sound = sound-all tr n free-next

-- What is computed for a begin after all of them is 31.
module _ {tr : List Record} (a : AllPass tr (length tr)) (f : Free tr (length tr)) (few : length tr ≤ 4096) where
  none-blocked : (i : ℕ) → i < length tr → T (is_begin (at tr i)) → Blocked tr i → ⊥
  none-blocked i h b k =
      let m : i ≤ length tr = omega arith in
      subst T (f i h b) ((refusal-decides (shorter m (free-sound a f)) (at tr i).first).1 k)

  pub begin-told : (x : Record) → Passes (past tr (length tr)) x → is_begin x ≡ true → begin_blocked tr x.first ≡ blocked_for tr (length tr) x.first
  begin-told x p b =
      let k = eqb-true x.kind 1 b in
      let r = event-range p in
      let room = room-for-one a x b (again-start x _ _ (inl k) p.fresh) r.0 r.1 in
      (begin-decided tr (lawful a) room (omega arith) none-blocked x.first).computed

module _ {tr : List Record} (a : Acceptable tr) where
  -- what precedence asks of a trace
  pub accepted-whole : Whole tr
  accepted-whole = record {
    sound = free-sound (all_pass a) (free-at a);
    all_begin = λ i h.
        let f = event-begins a i h in
        record { position = f.at_position; inside = f.earlier; is-begin = subst T (sym f.passes) tt; of_event = f.event };
  }

  -- the table over it stops nowhere, and tells happens-before
  pub accepted-decided : Decides tr (rank_in (ranks_of tr)) (length tr) (fill_all tr)
  accepted-decided = passed-decided (all_pass a) a.few

  pub accepted-stops : (fill_all tr).stop ≡ length tr
  accepted-stops =
      let d = accepted-decided in
      let w = d.inside in
      let n : (fill_all tr).stop < length tr → ⊥ = λ l.
      let r = d.refuses l in true-not-false r.1 (free-at a (fill_all tr).stop l r.0) in
      omega (arith, n)

-- the first n records of a list
module _ (tr : List Record) (n : ℕ) (l : n ≤ length tr) where
  front_at : (x : ℕ) → x < n → at (take n tr) x ≡ at tr x
  front_at x h = get_or-take n tr x no_record h

  front-past : (i : ℕ) → i ≤ n → past (take n tr) i ≡ past tr i
  front-past i h = past_same (take n tr) tr n front_at i h

  front-blocked : (i : ℕ) → i < n → blocked (take n tr) i ≡ blocked tr i
  front-blocked i h =
      ap (λ (r : Record). blocked_for (take n tr) i r.first) (front_at i h)
      ∙ blocked-same (take n tr) tr i (λ x k. front_at x (omega arith)) (at tr i).first

  front-passes : Passed tr n → AllPass (take n tr) (length (take n tr))
  front-passes p = record { passes_at = λ i h. passing (past (take n tr) i) (at (take n tr) i) (one i (rw (length-take-le n tr l) at h)) }
    where
      one : (i : ℕ) → i < n → plain_rule (past (take n tr) i) (at (take n tr) i) ≡ 0
      one i h = rw (front_at i h, front-past i (omega arith)) (p.each i h)

-- of the records that pass: filling stops at the first begin that 31 refuses
pub record FirstBlocked (tr : List Record) (n stop : ℕ) : Type 0 where
  pub within : stop ≤ n
  pub free : Free tr stop
  pub is-begin : stop < n → T (is_begin (at tr stop))
  pub is_blocked : stop < n → blocked tr stop ≡ true

pub first-blocked : {tr : List Record} {n : ℕ} → Passed tr n → length tr ≤ 4096 → FirstBlocked tr n (fill_all (take n tr)).stop
first-blocked {tr} {n} p few =
    let l = p.within in
    let long = length-take-le n tr l in
    let d = passed-decided (front-passes tr n l p) (omega arith) in
    let w = d.inside in
    let k = (fill_all (take n tr)).stop in
    record {
      within = omega arith;
      free = λ i h b.
          sym (front-blocked tr n l i (omega arith))
          ∙ d.sound.unblocked i h (subst (λ (r : Record). T (is_begin r)) (sym (front_at tr n l i (omega arith))) b);
      is-begin = λ h. subst (λ (r : Record). T (is_begin r)) (front_at tr n l k h) (d.refuses (omega arith)).0;
      is_blocked = λ h. sym (front-blocked tr n l k h) ∙ (d.refuses (omega arith)).1;
    }
