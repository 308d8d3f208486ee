-- From what the recorder's call leaves to what the call from C leaves.
-- Assumes nothing.
use Prim.Native.Nat.{ℕ}
use mathlib.Core.Path.{◌≡◌, ap, ◌∙◌}
use mathlib.Core.List.{List}
use Rattle.records.specs.declared.Record.{Record}
use Rattle.recorder.specs.declared.Recorder.{Recorder}
use Rattle.recorder.specs.declared.After.{After}
use Rattle.recorder.specs.Recording.{Done, Left, opening_paper, stepped_paper, closing_paper, of_opening, of_step, of_closing, open_left, step_left, close_left}
use Rattle.job_order.specs.Recording.{State, recorder_of, state_after, number_of, place_of, length_of, Opens, Steps, Closes}

pub opens : (b : List ℕ) (s' : State) (o : After Done) (n : ℕ) → of_opening o b ≡ open_left b → s' ≡ state_after 0 o.recorder → n ≡ number_of (opening_paper o.answer) → Opens b s' n
opens b s' o n e t h = record { number_is = h ∙ ap (λ (l : Left Done). number_of l.answer) e; state-after = t ∙ ap (λ (l : Left Done). state_after 0 l.recorder) e }

module _ (b b' : List ℕ) (s s' : State) (r : Recorder) (known : r ≡ recorder_of s) where
  pub steps : (x : Record) (n : After Done) (number place : ℕ) → of_step n b' ≡ step_left b r x → s' ≡ state_after s.closed n.recorder
      → number ≡ number_of (stepped_paper n.answer) → place ≡ place_of (stepped_paper n.answer) → Steps b b' s s' x number place
  steps x n number place e t h p =
      let l = e ∙ ap (λ (q : Recorder). step_left b q x) known in
      record {
        number_is = h ∙ ap (λ (q : Left Done). number_of q.answer) l;
        place_is = p ∙ ap (λ (q : Left Done). place_of q.answer) l;
        leaves = record { state-after = t ∙ ap (λ (q : Left Done). state_after s.closed q.recorder) l; bytes_after = ap (λ (q : Left Done). q.bytes) l };
      }

  pub closes : (n : After ℕ) (number place length : ℕ) → of_closing n b' ≡ close_left b r → s' ≡ state_after s.closed n.recorder
      → number ≡ number_of (closing_paper n.answer) → place ≡ place_of (closing_paper n.answer) → length ≡ length_of (closing_paper n.answer) → Closes b b' s s' number place length
  closes n number place length e t h p k =
      let l = e ∙ ap (λ (q : Recorder). close_left b q) known in
      record {
        number_is = h ∙ ap (λ (q : Left ℕ). number_of q.answer) l;
        place_is = p ∙ ap (λ (q : Left ℕ). place_of q.answer) l;
        length_is = k ∙ ap (λ (q : Left ℕ). length_of q.answer) l;
        leaves = record { state-after = t ∙ ap (λ (q : Left ℕ). state_after s.closed q.recorder) l; bytes_after = ap (λ (q : Left ℕ). q.bytes) l };
      }
