-- "A refused step leaves recorder and bytes unchanged": after a refused step or closing from C the four numbers and the bytes are as they were, the number for
-- closed too.
-- Assumes nothing.
use Prim.Native.Nat.{ℕ, zero, suc}
use mathlib.Core.Path.{◌≡◌, refl, ap, ◌∙◌}
use mathlib.Core.List.{List}
use native.Mathlib.Omega.{arith}
use borrow.Author.Tests.{ne_eqb}
use Rattle.records.specs.declared.Record.{Record}
use Rattle.trace.specs.Reply.{refused}
use Rattle.recorder.specs.Recording.{Left, step_left, close_left}
use Rattle.recorder.proofs.Left.{refusing}
use Rattle.recorder.proofs.Holds.{step-refused, close-refused}
use Rattle.job_order.specs.Recording.{State, state, recorder_of, closed_after, state_after, Leaves, Steps, Closes}

closed-kept : (k : ℕ) → closed_after k (recorder_of (state 0 0 0 k)).closed ≡ k
closed-kept zero = refl
closed-kept (suc k) = simp (ne_eqb (suc k) 0 (λ e. omega arith))

pub record Unchanged (b b' : List ℕ) (s s' : State) : Type 0 where
  pub numbers : s' ≡ s
  pub bytes : b' ≡ b

module _ (b b' : List ℕ) (s s' : State) (n p : ℕ) where
  unchanged : {A : Type 0} (l : Left A) → Leaves l s s' b' → l ≡ refusing b (recorder_of s) n p → Unchanged b b' s s'
  unchanged {A} l h e =
      record {
        numbers = h.state-after ∙ ap (λ (q : Left A). state_after s.closed q.recorder) e ∙ ap (state s.count s.situation s.owner) (closed-kept s.closed);
        bytes = h.bytes_after ∙ ap (λ (q : Left A). q.bytes) e;
      }

  pub refused_step : (x : Record) (number place : ℕ) → Steps b b' s s' x number place → (step_left b (recorder_of s) x).answer ≡ refused n p → Unchanged b b' s s'
  refused_step x number place h e = unchanged (step_left b (recorder_of s) x) h.leaves (step-refused b (recorder_of s) x n p e)

  pub refused_closing : (number place length : ℕ) → Closes b b' s s' number place length → (close_left b (recorder_of s)).answer ≡ refused n p → Unchanged b b' s s'
  refused_closing number place length h e = unchanged (close_left b (recorder_of s)) h.leaves (close-refused b (recorder_of s) n p e)
