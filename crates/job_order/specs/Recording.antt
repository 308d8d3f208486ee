-- The calls from C that record a trace: the recorder's one state is four numbers that the caller keeps. Assumes nothing.
use Rattle.std.specs.Prelude.{ℕ, ◌≡◌, Bool, cond, not, List, eqb}
use Rattle.records.specs.declared.Record.{Record}
use Rattle.recorder.specs.declared.Recorder.{Recorder}
use Rattle.trace.specs.Reply.{Reply, refused, gives}
use Rattle.recorder.specs.Recording.{Left, open_left, step_left, close_left}

pub record State : Type 0 where
  pub count : ℕ
  pub situation : ℕ
  pub owner : ℕ
  pub closed : ℕ

abbrev pub state : ℕ → ℕ → ℕ → ℕ → State
state count situation owner closed = record { count = count; situation = situation; owner = owner; closed = closed }

-- closed: 0 where the recorder is open, anything else where it is closed
abbrev pub recorder_of : State → Recorder
recorder_of s = record { count = s.count; situation = s.situation; owner = record { 0 = s.owner }; closed = not (eqb s.closed 0) }

-- closed after a call, k before it: a recorder that was closed keeps its number, one that is closed by the call gets 1
abbrev pub closed_after : ℕ → Bool → ℕ
closed_after k now = cond now (cond (eqb k 0) 1 k) 0

abbrev pub state_after : ℕ → Recorder → State
state_after k r = state r.count r.situation r.owner.0 (closed_after k r.closed)

-- the call's result: 0 where nothing is refused
abbrev pub number_of : {A : Type 0} → Reply A → ℕ
number_of (refused n p) = n
number_of (gives a) = 0

abbrev pub place_of : {A : Type 0} → Reply A → ℕ
place_of (refused n p) = p
place_of (gives a) = 0

abbrev pub length_of : Reply ℕ → ℕ
length_of (refused n p) = 0
length_of (gives n) = n

pub record Opens (b : List ℕ) (s' : State) (number : ℕ) : Type 0 where
  pub number_is : number ≡ number_of (open_left b).answer
  pub state-after : s' ≡ state_after 0 (open_left b).recorder

-- what a call leaves of the state s and the bytes, by what the recorder leaves
pub record Leaves {A : Type 0} (l : Left A) (s s' : State) (b' : List ℕ) : Type 0 where
  pub state-after : s' ≡ state_after s.closed l.recorder
  pub bytes_after : b' ≡ l.bytes

pub record Steps (b b' : List ℕ) (s s' : State) (x : Record) (number place : ℕ) : Type 0 where
  pub number_is : number ≡ number_of (step_left b (recorder_of s) x).answer
  pub place_is : place ≡ place_of (step_left b (recorder_of s) x).answer
  pub leaves : Leaves (step_left b (recorder_of s) x) s s' b'

pub record Closes (b b' : List ℕ) (s s' : State) (number place length : ℕ) : Type 0 where
  pub number_is : number ≡ number_of (close_left b (recorder_of s)).answer
  pub place_is : place ≡ place_of (close_left b (recorder_of s)).answer
  pub length_is : length ≡ length_of (close_left b (recorder_of s)).answer
  pub leaves : Leaves (close_left b (recorder_of s)) s s' b'
