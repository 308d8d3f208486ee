-- The status of each event tells which have begun and which have ended before.
-- Assumes nothing.
use Prim.Native.Nat.{ℕ, ◌<◌}
use mathlib.Core.Path.{◌≡◌, refl, sym, ◌∙◌}
use mathlib.Core.Bool.{Bool, true, false, not, ◌&&◌, ◌||◌}
use mathlib.Core.List.{List, [], ◌∷◌}
use mathlib.Core.Logic.{◌≢◌}
use native.Mathlib.Omega.{arith}
use native.Mathlib.Decide.{ℕ_discrete}
use borrow.Author.Tests.{eq-eqb, ne_eqb, eqb-true, not-false}
use lib.Dec.{eqb}
use lib.ListN.{length, get_or, set, length-set, length-replicate, get_or-replicate}
use lib.Seq.{get_or-set_same, get_or-set_other}
use Rattle.records.specs.declared.Record.{Record}
use Rattle.records.specs.Records.{is_begin, is_end, has, begun, ended}
use Rattle.slices.specs.Slices.{filled, zeros}
use Rattle.trace.specs.loops.Status.{has_begun, has_ended, noted}

pub record Tracks (m : List ℕ) (before : List Record) : Type 0 where
  pub size : length m ≡ 1025
  pub begins : (e : ℕ) → e < 1025 → has_begun m e ≡ begun e before
  pub ends : (e : ℕ) → e < 1025 → has_ended m e ≡ ended e before

pub tracks-start : Tracks (zeros 1025) []
unfolding filled has_begun has_ended begun ended has
tracks-start = record {
  size = length-replicate {A = ℕ} 1025 0;
  begins = λ e h. rw (get_or-replicate {A = ℕ} 1025 e 0 0 h);
  ends = λ e h. rw (get_or-replicate {A = ℕ} 1025 e 0 0 h);
}

-- nothing has ended that has not begun
unbegun-unended : (x : ℕ) → not (eqb x 0) ≡ false → eqb x 2 ≡ false
unbegun-unended x h = let z = eqb-true x 0 (not-false (eqb x 0) h) in rw z

-- after one more record
module _ {m : List ℕ} {before : List Record} (t : Tracks m before) (r : Record) where
  elsewhere : (test : Record → Bool) (e : ℕ) → e ≢ r.first → has test e (r ∷ before) ≡ has test e before
  unfolding has
  elsewhere test e n = simp (ne_eqb r.first e (λ p. n (sym p))) (none (test r))
    where
      none : (b : Bool) → (b && false || has test e before) ≡ has test e before
      none true = refl
      none false = refl

  module _ (v : ℕ) where
    told : (test : ℕ → Bool) (kind : Record → Bool) → ((e : ℕ) → e < 1025 → test (get_or m e 0) ≡ has kind e before) → test v ≡ has kind r.first (r ∷ before)
        → (e : ℕ) → e < 1025 → Dec (e ≡ r.first) → test (get_or (set m r.first v) e 0) ≡ has kind e (r ∷ before)
    told test kind s q e h (yes p) = let z = t.size in rw (p, get_or-set_same m r.first v 0 (omega arith)) q
    told test kind s q e h (no n) = rw (get_or-set_other m r.first e v 0 n) (s e h ∙ sym (elsewhere kind e n))

    tracks-set : not (eqb v 0) ≡ begun r.first (r ∷ before) → eqb v 2 ≡ ended r.first (r ∷ before) → Tracks (set m r.first v) (r ∷ before)
    unfolding has_begun has_ended begun ended
    tracks-set b d = record {
      size = length-set m r.first v ∙ t.size;
      begins = λ e h. told (λ x. not (eqb x 0)) is_begin t.begins b e h (ℕ_discrete e r.first);
      ends = λ e h. told (λ x. eqb x 2) is_end t.ends d e h (ℕ_discrete e r.first);
    }

  noted-begin : r.first < 1025 → r.kind ≡ 1 → begun r.first before ≡ false → Tracks (noted m r) (r ∷ before)
  unfolding noted begun ended has has_begun has_ended
  noted-begin l k fresh =
      simp k (tracks-set 1
      (simp (k, eq-eqb r.first r.first refl))
      (simp k (sym (unbegun-unended (get_or m r.first 0) (t.begins r.first l ∙ fresh)) ∙ t.ends r.first l)))

  noted-end : r.kind ≡ 2 → begun r.first before ≡ true → Tracks (noted m r) (r ∷ before)
  unfolding noted begun ended has
  noted-end k started = simp k (tracks-set 2 (simp k (sym started)) (simp (k, eq-eqb r.first r.first refl)))

  noted_other : r.kind ≢ 1 → r.kind ≢ 2 → Tracks (noted m r) (r ∷ before)
  unfolding noted begun ended has
  noted_other n k =
      let b = ne_eqb r.kind 1 n in
      let d = ne_eqb r.kind 2 k in
      simp (b, d) (record { size = t.size; begins = λ e h. simp b (t.begins e h); ends = λ e h. simp d (t.ends e h) })

  pub tracks-next : r.first < 1025 → (r.kind ≡ 1 → begun r.first before ≡ false) → (r.kind ≡ 2 → begun r.first before ≡ true) → Tracks (noted m r) (r ∷ before)
  tracks-next l fresh started = go (ℕ_discrete r.kind 1) (ℕ_discrete r.kind 2)
    where
      go : Dec (r.kind ≡ 1) → Dec (r.kind ≡ 2) → Tracks (noted m r) (r ∷ before)
      go (yes k) _ = noted-begin l k (fresh k)
      go (no n) (yes k) = noted-end k (started k)
      go (no n) (no k) = noted_other n k
