-- What filling promises of records that pass 4 to 8. Assumes nothing.
use Rattle.std.specs.Prelude.{ℕ, ◌-◌, ◌≤◌, ◌<◌, ◌≡◌, ◌↔◌, Bool, true, false, List, T, length}
use Rattle.records.specs.declared.Record.{Record}
use Rattle.records.specs.Records.{at, past, is_begin, is_join, begun}
use Rattle.bits.specs.Table.{bit_of}
use Rattle.records.specs.Kinds.{starts}
use Rattle.precedence.specs.Before.{Begins, Before, BlockedFor, Blocked}
use Rattle.precedence.specs.Table.{table, blocked_for, blocked}
use Rattle.precedence.specs.Sound.{Sound}
use Rattle.links.specs.Fill.{FilledTable}

-- What the check of record i finds by 4 to 8, 31 apart.
pub record Lawful (tr : List Record) (i : ℕ) : Type 0 where
  pub begin_fresh : T (is_begin (at tr i)) → begun (at tr i).first (past tr i) ≡ false
  pub join_fresh : T (is_join (at tr i)) → begun (at tr i).first (past tr i) ≡ false
  pub target_fresh : T (starts (at tr i)) → begun (at tr i).second (past tr i) ≡ false
  pub running : T (starts (at tr i)) → begun (at tr i).first (past tr i) ≡ true
  pub waited : T (is_join (at tr i)) → begun (at tr i).second (past tr i) ≡ true
  pub together : (j : ℕ) → j < i → (at tr j).first ≡ (at tr i).first → (at tr (i - 1)).first ≡ (at tr i).first
  pub in_range : T (is_begin (at tr i)) → (at tr i).first ≤ 1024

-- Ranks from 1 to 1,024 in begin order among the first n records, 0 for an event that doesn't begin.
pub record Ranked (tr : List Record) (f : ℕ → ℕ) (n : ℕ) : Type 0 where
  pub positive : (x : ℕ) → Begins tr n x → 0 < f x
  pub within : (x : ℕ) → Begins tr n x → f x ≤ 1024
  pub none : (x : ℕ) → begun x (past tr n) ≡ false → f x ≡ 0
  pub rises : (x y : ℕ) (b : Begins tr n x) (c : Begins tr n y) → b.position < c.position → f x < f y

-- Filling stops at the first begin that 31 refuses; where there is none, its bits are happens-before.
pub record Decides (tr : List Record) (f : ℕ → ℕ) (n : ℕ) (done : FilledTable) : Type 0 where
  pub inside : done.stop ≤ n
  pub sound : Sound tr done.stop
  pub refuses : done.stop < n → T (is_begin (at tr done.stop)) × (blocked tr done.stop ≡ true)
  pub tells : done.stop ≡ n → (t u : ℕ) → Begins tr n t → Begins tr n u → bit_of done.words (f t - 1) (f u - 1) ≡ table tr n t u

-- The same in the documents' words: "Refusal 31, following 7 on a begin and placed there, is for an event that a link puts behind another target not
-- yet begun." and "t happens before u".
pub record DecidesOrder (tr : List Record) (f : ℕ → ℕ) (n : ℕ) (done : FilledTable) : Type 0 where
  pub free_before : (i : ℕ) → i < done.stop → T (is_begin (at tr i)) → Blocked tr i → ⊥
  pub refused_there : done.stop < n → T (is_begin (at tr done.stop)) × Blocked tr done.stop
  pub happens-before : done.stop ≡ n → (t u : ℕ) → Begins tr n t → Begins tr n u → T (bit_of done.words (f t - 1) (f u - 1)) ↔ Before tr n t u

-- The same for event e, were it to begin after all records: what is told is the computed test and the literal one.
pub record BeginDecides (tr : List Record) (e : ℕ) (stuck : Bool) : Type 0 where
  pub computed : stuck ≡ blocked_for tr (length tr) e
  pub literal : T stuck ↔ BlockedFor tr (length tr) e
