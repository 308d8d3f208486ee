-- Small traces: what the link rule orders, and what 31 refuses. Assumes nothing.
use Prim.Native.Nat.{ℕ, zero, suc, ◌-◌, ◌<◌}
use mathlib.Core.Path.{◌≡◌, refl}
use mathlib.Core.Bool.{Bool, true, false, not, ◌&&◌, ◌||◌}
use mathlib.Core.Logic.{◌⊎◌, inl, inr}
use mathlib.Core.List.{List, [], ◌∷◌}
use lib.Dec.{T, eqb, eqb→eq}
use Rattle.records.specs.declared.Record.{Record}
use Rattle.records.specs.Records.{at, past, is_begin, is_join, has, begun}
use Rattle.records.proofs.Positions.{has-intro, true-not-false}
use Rattle.coverage.specs.Below.{some}
use Rattle.slices.proofs.Tests.{both, either, passed}
use Rattle.records.specs.Kinds.{starts, same_link}
use Rattle.precedence.specs.Before.{Before}
use Rattle.precedence.specs.Sound.{Sound, Next}
use Rattle.precedence.specs.Table.{ahead, some_target, sets, table, happens_before, blocked, blocked_for}
use Rattle.precedence.proofs.Growing.{sound-zero, sound-next}
use Rattle.precedence.proofs.Rows.{begun-begins}
use Rattle.precedence.proofs.Exact as exact

abbrev rec : ℕ → ℕ → ℕ → Record
rec k a b = record { kind = k; first = a; second = b }

-- 1 sends to 2, then to 3, by kinds k and m; then x begins and ends, then y
abbrev two : ℕ → ℕ → ℕ → ℕ → List Record
two k m x y = rec 1 1 0 ∷ rec k 1 2 ∷ rec m 1 3 ∷ rec 2 1 0 ∷ rec 1 x 0 ∷ rec 2 x 0 ∷ rec 1 y 0 ∷ rec 2 y 0 ∷ []

-- on one link 2 happens before 3
queued : happens_before (two 16 16 2 3) 2 3 ≡ true
unfolding happens_before table sets some_target ahead some same_link past begun has
queued = refl

-- not on two links, nor by forks
two-links : happens_before (two 16 17 2 3) 2 3 ≡ false
unfolding happens_before table sets some_target ahead some same_link past begun has
two-links = refl

forked : happens_before (two 3 3 2 3) 2 3 ≡ false
unfolding happens_before table sets some_target ahead some same_link past begun has
forked = refl

-- never back
not_back : happens_before (two 16 16 2 3) 3 2 ≡ false
unfolding happens_before table sets some_target ahead some same_link past begun has
not_back = refl

-- the second target may not begin first, on one link
second-first : blocked (two 16 16 3 2) 4 ≡ true
unfolding blocked_for table sets some_target ahead some same_link past begun has
second-first = refl

second-first-else : blocked (two 16 17 3 2) 4 ≡ false
unfolding blocked_for table sets some_target ahead some same_link past begun has
second-first-else = refl

first-first : blocked (two 16 16 2 3) 4 ≡ false
unfolding blocked_for table sets some_target ahead some same_link past begun has
first-first = refl

-- 1 sends to 2, 3, 2 on one link: neither may begin
abbrev thrice : ℕ → List Record
thrice x = rec 1 1 0 ∷ rec 19 1 2 ∷ rec 19 1 3 ∷ rec 19 1 2 ∷ rec 2 1 0 ∷ rec 1 x 0 ∷ []

neither-two : blocked (thrice 2) 5 ≡ true
unfolding blocked_for table sets some_target ahead some same_link past begun has
neither-two = refl

neither-three : blocked (thrice 3) 5 ≡ true
unfolding blocked_for table sets some_target ahead some same_link past begun has
neither-three = refl

-- Two hops: 1 sends to 2 and 3 on link 0; these send to 4 and 5 on link 1. So 4 happens before 5, by 2 before 3, which the links alone order.
abbrev hops : List Record
hops =
    rec 1 1 0 ∷ rec 16 1 2 ∷ rec 16 1 3 ∷ rec 2 1 0 ∷
    rec 1 2 0 ∷ rec 17 2 4 ∷ rec 2 2 0 ∷
    rec 1 3 0 ∷ rec 17 3 5 ∷ rec 2 3 0 ∷
    rec 1 4 0 ∷ rec 2 4 0 ∷ rec 1 5 0 ∷ rec 2 5 0 ∷ []

second-hop : happens_before hops 4 5 ≡ true
unfolding happens_before table sets some_target ahead some same_link past begun has
second-hop = refl

-- Next as a test, so that Sound of a small trace is computed.
abbrev any : Record → Bool
any r = true

unfoldable implies : Bool → Bool → Bool
implies true b = b
implies false b = true

implied : (a b : Bool) → T (implies a b) → T a → T b
unfolding implies
implied true b h k = h
implied false b h k = absurd k

is_false : (a : Bool) → T (not a) → a ≡ false
is_false true h = absurd h
is_false false h = refl

module _ (tr : List Record) (n : ℕ) where
  abbrev here : Record
  here = at tr n

  unfoldable at_begin : Bool
  at_begin = not (begun here.first (past tr n)) && not (blocked tr n)

  unfoldable at_join : Bool
  at_join = not (begun here.first (past tr n)) && begun here.second (past tr n)

  unfoldable at_start : Bool
  at_start = begun here.first (past tr n) && not (begun here.second (past tr n))

  unfoldable close : Bool
  close = eqb (at tr (n - 1)).first here.first || not (has any here.first (past tr n))

  unfoldable next_test : Bool
  next_test = (implies (is_begin here) at_begin && implies (is_join here) at_join) && (implies (starts here) at_start && close)

  next-by : T next_test → Next tr n
  unfolding next_test at_begin at_join at_start close
  next-by h =
      let p = both (implies (is_begin here) at_begin && implies (is_join here) at_join) (implies (starts here) at_start && close) h in
      let q = both (implies (is_begin here) at_begin) (implies (is_join here) at_join) p.0 in
      let r = both (implies (starts here) at_start) close p.1 in
      let first = begun here.first (past tr n) in
      let second = begun here.second (past tr n) in
      record {
        begin_fresh = λ a. is_false first (both (not first) (not (blocked tr n)) (implied (is_begin here) at_begin q.0 a)).0;
        join_fresh = λ a. is_false first (both (not first) second (implied (is_join here) at_join q.1 a)).0;
        target_fresh = λ a. is_false second (both first (not second) (implied (starts here) at_start r.0 a)).1;
        running = λ a. passed first (both first (not second) (implied (starts here) at_start r.0 a)).0;
        waited = λ a. passed second (both (not first) second (implied (is_join here) at_join q.1 a)).1;
        together = λ i l e. near i l e (either (eqb (at tr (n - 1)).first here.first) (not (has any here.first (past tr n))) r.1);
        free = λ a. is_false (blocked tr n) (both (not first) (not (blocked tr n)) (implied (is_begin here) at_begin q.0 a)).1;
      }
    where
      near : (i : ℕ) → i < n → (at tr i).first ≡ here.first → T (eqb (at tr (n - 1)).first here.first) ⊎ T (not (has any here.first (past tr n)))
          → (at tr (n - 1)).first ≡ here.first
      near i l e (inl h) = eqb→eq (at tr (n - 1)).first here.first h
      near i l e (inr h) = absurd (true-not-false (has-intro tr any here.first n i l refl e) (is_false (has any here.first (past tr n)) h))

unfoldable sound_test : List Record → ℕ → Bool
sound_test tr zero = true
sound_test tr (suc n) = sound_test tr n && next_test tr n

sound-by : (tr : List Record) (n : ℕ) → T (sound_test tr n) → Sound tr n
unfolding sound_test
sound-by tr zero h = sound-zero tr
sound-by tr (suc n) h = let p = both (sound_test tr n) (next_test tr n) h in sound-next tr n (sound-by tr n p.0) (next-by tr n p.1)

-- two targets of one link, and the two hops
queued-sound : Sound (two 16 16 2 3) 8
unfolding sound_test next_test implies at_begin at_join at_start close blocked_for table sets some_target ahead some same_link past begun has
queued-sound = sound-by (two 16 16 2 3) 8 tt

hops-sound : Sound hops 14
unfolding sound_test next_test implies at_begin at_join at_start close blocked_for table sets some_target ahead some same_link past begun has
hops-sound = sound-by hops 14 tt

hops-before : Before hops 14 4 5
unfolding table sets some_target ahead some same_link past begun has
hops-before = exact.sound hops-sound 4 5 tt (begun-begins hops 5 14 tt)
