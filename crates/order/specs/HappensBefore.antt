-- Happens-before between the event actions of a trace, by event number. Assumes nothing.
use Rattle.std.specs.Prelude.{ℕ, zero, suc, Bool, false, ◌||◌, List, ◌++◌, eqb, length}
use Rattle.records.specs.declared.Record.{Record}
use Rattle.precedence.specs.Before as precedence
use Rattle.order.specs.Links.{Links, leq}
use Rattle.order.specs.Schedule.{linked}
use Rattle.order.specs.Rank.{rank}
use Rattle.order.specs.LinkRule.{linking_at, behind}

module _ (tr : List Record) where
  -- e begins in the trace
  abbrev pub Begins : ℕ → Type 0
  Begins e = precedence.Begins tr (length tr) e

  -- A direct order link: "forks (from starter to started) and joins (from waited-for to waiting)"; "A fork of an event that never begins .. orders nothing."
  -- Sends are "ordering as a fork does. Where one send ≼ another on the same link, the first's target happens before the second's".
  abbrev pub Link : ℕ → ℕ → Type 0
  Link t u = precedence.Link tr (length tr) t u

  -- "t happens before u (t ≼ u) when t = u or a path of forks .. and joins .. leads from t to u", with sends and links: "The order is the least one with
  -- these rules."
  abbrev pub HappensBefore : ℕ → ℕ → Type 0
  HappensBefore t u = precedence.HappensBefore tr t u

-- the links of a trace, its event actions numbered from 0 in order of begin: those by the link rule, and those by forks, sends and joins
abbrev pub trace_links : List Record → Links
trace_links tr = record { preds = λ u. behind tr (length tr) u ++ linked (linking_at tr) (length tr) u }

-- happens-before by rank, where both begin
abbrev pub leq_ranks : Links → ℕ → ℕ → Bool
leq_ranks l zero u = false
leq_ranks l (suc p) zero = false
leq_ranks l (suc p) (suc u) = leq l p u

-- the test for t ≼ u
unfoldable pub happens_before : List Record → ℕ → ℕ → Bool
happens_before tr t u = eqb t u || leq_ranks (trace_links tr) (rank tr t) (rank tr u)
