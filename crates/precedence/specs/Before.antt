-- Happens-before with links that deliver in order, between the event actions of the first n records of a trace, by event number.
-- Assumes nothing.
use Rattle.std.specs.Prelude.{ℕ, ◌<◌, ◌≡◌, ◌≢◌, List, T, length}
use Rattle.records.specs.declared.Record.{Record}
use Rattle.records.specs.Records.{at, is_begin, is_join, event_of}
use Rattle.records.specs.Kinds.{starts, same_link}

module _ (tr : List Record) (n : ℕ) where
  -- e begins among the first n records
  pub record Begins (e : ℕ) : Type 0 where
    pub position : ℕ
    pub inside : position < n
    pub is-begin : T (is_begin (at tr position))
    pub of_event : (at tr position).first ≡ e

  -- "t happens before u (t ≼ u) when t = u or a path of forks (from starter to started) and joins (from waited-for to waiting) leads from t to u."
  -- "A fork of an event that never begins is accepted and orders nothing." Sends are "placed like a fork, with the same fields and checks, and
  -- ordering as a fork does. Where one send ≼ another on the same link, the first's target happens before the second's, so forks and joins no longer
  -- order by themselves. The order is the least one with these rules."
  mutual
    pub data Before : ℕ → ℕ → Type 0 where
      same : {t u : ℕ} → t ≡ u → Before t u
      start : {t u : ℕ} (i : ℕ) → i < n → T (starts (at tr i)) → (at tr i).first ≡ t → (at tr i).second ≡ u → Begins u → Before t u
      join : {t u : ℕ} (i : ℕ) → i < n → T (is_join (at tr i)) → (at tr i).second ≡ t → (at tr i).first ≡ u → Before t u
      behind : {t u : ℕ} (i j : ℕ) → i < n → j < n → T (same_link (at tr i) (at tr j)) → RecordBefore i j
          → (at tr i).second ≡ t → (at tr j).second ≡ u → Begins t → Begins u → Before t u
      path : {t p u : ℕ} → Before t p → Before p u → Before t u

    -- "For records a ≼ b: in different event actions as those are ordered; in one, when a stands earlier."
    pub data RecordBefore : ℕ → ℕ → Type 0 where
      across : {i j : ℕ} → event_of (at tr i) ≢ event_of (at tr j) → Before (event_of (at tr i)) (event_of (at tr j)) → RecordBefore i j
      within : {i j : ℕ} → event_of (at tr i) ≡ event_of (at tr j) → i < j → RecordBefore i j

-- of the whole trace
abbrev pub HappensBefore : List Record → ℕ → ℕ → Type 0
HappensBefore tr t u = Before tr (length tr) t u

-- "Refusal 31, following 7 on a begin and placed there, is for an event that a link puts behind another target not yet begun."
-- For event e, were it to begin after the first i records.
pub record BlockedFor (tr : List Record) (i e : ℕ) : Type 0 where
  pub x : ℕ
  pub y : ℕ
  pub x_inside : x < i
  pub y_inside : y < i
  pub one_link : T (same_link (at tr x) (at tr y))
  pub in_order : RecordBefore tr i x y
  pub to : (at tr y).second ≡ e
  pub another : (at tr x).second ≢ e
  pub not_begun : Begins tr i (at tr x).second → ⊥

-- The begin is record i; what stands before it decides.
abbrev pub Blocked : List Record → ℕ → Type 0
Blocked tr i = BlockedFor tr i (at tr i).first

-- A direct link from one event action to another, those by the link rule included.
pub data Link (tr : List Record) (n : ℕ) (t u : ℕ) : Type 0 where
  starts_it : (i : ℕ) → i < n → T (starts (at tr i)) → (at tr i).first ≡ t → (at tr i).second ≡ u → Begins tr n u → Link tr n t u
  joins_it : (i : ℕ) → i < n → T (is_join (at tr i)) → (at tr i).second ≡ t → (at tr i).first ≡ u → Link tr n t u
  behind_it : (i j : ℕ) → i < n → j < n → T (same_link (at tr i) (at tr j)) → RecordBefore tr n i j
      → (at tr i).second ≡ t → (at tr j).second ≡ u → Begins tr n t → Begins tr n u → t ≢ u → Link tr n t u

-- A relation with the rules.
pub record Ruled (tr : List Record) (n : ℕ) (R : ℕ → ℕ → Type 0) : Type 0 where
  pub same_in : (t : ℕ) → R t t
  pub path_in : (t p u : ℕ) → R t p → R p u → R t u
  pub start_in : (i : ℕ) → i < n → T (starts (at tr i)) → Begins tr n (at tr i).second → R (at tr i).first (at tr i).second
  pub join_in : (i : ℕ) → i < n → T (is_join (at tr i)) → R (at tr i).second (at tr i).first
  pub across_in : (i j : ℕ) → i < n → j < n → T (same_link (at tr i) (at tr j)) → Begins tr n (at tr i).second → Begins tr n (at tr j).second
      → event_of (at tr i) ≢ event_of (at tr j) → R (event_of (at tr i)) (event_of (at tr j)) → R (at tr i).second (at tr j).second
  pub within_in : (i j : ℕ) → i < n → j < n → T (same_link (at tr i) (at tr j)) → Begins tr n (at tr i).second → Begins tr n (at tr j).second
      → event_of (at tr i) ≡ event_of (at tr j) → i < j → R (at tr i).second (at tr j).second
