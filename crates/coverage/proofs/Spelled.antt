-- A cover, spelled out place by place: the same as `Covers`.
use Prim.Native.Nat.{ℕ, zero, suc, ◌<◌}
use mathlib.Core.Path.{◌≡◌, refl}
use mathlib.Core.Logic.{◌↔◌}
use mathlib.Core.List.{List, [], ◌∷◌}
use native.Mathlib.Omega.{arith}
use lib.Dec.{T}
use lib.ListN.{length, get_or}
use Rattle.coverage.specs.Setting.{Setting}
use Rattle.coverage.specs.Race.{before, Race}
use Rattle.coverage.specs.Cover.{CoversFrom, one, more, Covers}

module _ (t : Setting) where
  abbrev c : List (ℕ × ℕ) → ℕ → ℕ
  c cs i = (get_or cs i (0, 0)).0

  abbrev d : List (ℕ × ℕ) → ℕ → ℕ
  d cs i = (get_or cs i (0, 0)).1

  pub record Spelled (b u : ℕ) (cs : List (ℕ × ℕ)) : Type 0 where
    pub some : 0 < length cs
    pub races : (i : ℕ) → i < length cs → Race t (c cs i) (d cs i)
    pub starts : T (t.le u (t.ev (c cs 0)))
    pub links : (i : ℕ) → suc i < length cs → T (t.le (t.ev (d cs i)) (t.ev (c cs (suc i))))
    pub ends : (i : ℕ) → suc i ≡ length cs → T (before t (d cs i) b)

  spell-more : {b u : ℕ} (p : ℕ × ℕ) (cs : List (ℕ × ℕ)) → T (t.le u (t.ev p.0)) → Race t p.0 p.1 → Spelled b (t.ev p.1) cs → Spelled b u (p ∷ cs)
  spell-more {b} {u} p cs h r s = record { some = omega arith; races = races; starts = h; links = links; ends = ends }
    where
      races : (i : ℕ) → i < suc (length cs) → Race t (c (p ∷ cs) i) (d (p ∷ cs) i)
      races zero l = r
      races (suc i) l = s.races i (omega arith)

      links : (i : ℕ) → suc i < suc (length cs) → T (t.le (t.ev (d (p ∷ cs) i)) (t.ev (c (p ∷ cs) (suc i))))
      links zero l = s.starts
      links (suc i) l = s.links i (omega arith)

      ends : (i : ℕ) → suc i ≡ suc (length cs) → T (before t (d (p ∷ cs) i) b)
      ends zero e = absurd (omega (arith, s.some))
      ends (suc i) e = s.ends i (omega arith)

  spell : {b u : ℕ} {cs : List (ℕ × ℕ)} → CoversFrom t b u cs → Spelled b u cs
  spell {b} (one {c = c₁} {d = d₁} h r q) = record { some = omega arith; races = races; starts = h; links = λ i l. absurd (omega arith); ends = ends }
    where
      races : (i : ℕ) → i < 1 → Race t (c ((c₁, d₁) ∷ []) i) (d ((c₁, d₁) ∷ []) i)
      races zero l = r
      races (suc i) l = absurd (omega arith)

      ends : (i : ℕ) → suc i ≡ 1 → T (before t (d ((c₁, d₁) ∷ []) i) b)
      ends zero e = q
      ends (suc i) e = absurd (omega arith)
  spell (more {c = c₁} {d = d₁} {cs = cs} h r s) = spell-more (c₁, d₁) cs h r (spell s)

  unspell : (b u : ℕ) (cs : List (ℕ × ℕ)) → Spelled b u cs → CoversFrom t b u cs
  unspell b u [] s = absurd (omega (arith, s.some))
  unspell b u (p ∷ []) s = one s.starts (s.races 0 (omega arith)) (s.ends 0 refl)
  unspell b u (p ∷ (q ∷ cs)) s = more s.starts (s.races 0 (omega arith)) (unspell b (t.ev p.1) (q ∷ cs) (record { some = omega arith; races = λ i l. s.races (suc i) (omega arith); starts = s.links 0 (omega arith); links = λ i l. s.links (suc i) (omega arith); ends = λ i e. s.ends (suc i) (omega arith) }))

  pub covers-spelled : (a b : ℕ) (cs : List (ℕ × ℕ)) → Covers t cs a b ↔ Spelled b (t.ev a) cs
  covers-spelled a b cs = (λ h. spell h, unspell b (t.ev a) cs)
