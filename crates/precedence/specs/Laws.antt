-- What is proved of the order, under Sound or Whole: see proofs/Theorems. Assumes nothing.
use Rattle.std.specs.Prelude.{ℕ, ◌<◌, ◌≡◌, ◌≢◌, ◌↔◌, List, T}
use Rattle.records.specs.declared.Record.{Record}
use Rattle.records.specs.Records.{at, event_of}
use Rattle.precedence.specs.Before.{Begins, Before, HappensBefore, BlockedFor, Ruled}
use Rattle.precedence.specs.Table.{table, happens_before, blocked_for}

-- After n records the row of an event that has begun is what happens before it.
abbrev pub TableDecides : List Record → ℕ → Type 0
TableDecides tr n = (t u : ℕ) → Begins tr n u → T (table tr n t u) ↔ Before tr n t u

-- The test decides happens-before.
abbrev pub TestDecides : List Record → Type 0
TestDecides tr = (t u : ℕ) → T (happens_before tr t u) ↔ HappensBefore tr t u

-- Refusal 31 decides what it is for.
abbrev pub RefusalDecides : List Record → ℕ → ℕ → Type 0
RefusalDecides tr i e = T (blocked_for tr i e) ↔ BlockedFor tr i e

-- Records after m change nothing in what happens before an event that has begun by then.
abbrev pub Settled : List Record → ℕ → ℕ → Type 0
Settled tr m n = (t u : ℕ) → Begins tr m u → Before tr m t u ↔ Before tr n t u

abbrev pub Antisymmetric : List Record → ℕ → Type 0
Antisymmetric tr n = (t u : ℕ) → Before tr n t u → Before tr n u t → t ≡ u

-- All records of what happens before stand earlier.
abbrev pub Forward : List Record → ℕ → Type 0
Forward tr n =
    (i j : ℕ) → i < n → j < n → Begins tr n (event_of (at tr j)) → Before tr n (event_of (at tr i)) (event_of (at tr j))
    → event_of (at tr i) ≢ event_of (at tr j) → i < j

-- "The order is the least one with these rules."
abbrev pub Least : List Record → ℕ → Type 1
Least tr n = (R : ℕ → ℕ → Type 0) → Ruled tr n R → (t u : ℕ) → Before tr n t u → R t u
