-- What is proved of such a set: see proofs/SetLaws and proofs/CountLaws. Assumes nothing.
use Rattle.std.specs.Prelude.{ℕ, ◌*◌, ◌/◌, ◌≤◌, ◌<◌, ◌≡◌, ◌≢◌, true, false, List, T, length, get_or}
use Rattle.slices.specs.Slices.{zeros}
use Rattle.coverage.specs.Below.{upto}
use Rattle.members.specs.Members.{member, with_member, bytes_for, ones}

abbrev pub Bytes : List ℕ → Type 0
Bytes w = (i : ℕ) → get_or w i 0 < 256

-- a bit set is a member afterwards, every other is as before, and zeros have none
pub record IsSet : Type 0 where
  pub entered : (w : List ℕ) (t : ℕ) → t / 8 < length w → member (with_member t w) t ≡ true
  pub others : (w : List ℕ) (t u : ℕ) → u ≢ t → member (with_member t w) u ≡ member w u
  pub none : (n t : ℕ) → member (zeros n) t ≡ false
  pub past : (w : List ℕ) (t : ℕ) → length w ≤ t / 8 → member w t ≡ false
  pub long : (w : List ℕ) (t : ℕ) → length (with_member t w) ≡ length w
  pub bytes : (w : List ℕ) (t : ℕ) → Bytes w → Bytes (with_member t w)

-- "rounded up": the fewest bytes with a bit for each event action
pub record RoundsUp : Type 0 where
  pub enough : (events : ℕ) → events ≤ 8 * bytes_for events
  pub fewest : (events n : ℕ) → events ≤ 8 * n → bytes_for events ≤ n

-- the ones of n bytes are as many as the members that have a bit there; where all members are below m, and n bytes are enough for m, as many as the members
pub record CountsMembers : Type 0 where
  pub in_bytes : (w : List ℕ) (n : ℕ) → Bytes w → ones w n ≡ length (upto (8 * n) (member w))
  pub all : (w : List ℕ) (n m : ℕ) → Bytes w → bytes_for m ≤ n → ((t : ℕ) → T (member w t) → t < m) → ones w n ≡ length (upto m (member w))
