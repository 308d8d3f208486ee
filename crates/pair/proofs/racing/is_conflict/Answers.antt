use mathlib.Core.Bool.{◌&&◌}
use mathlib.Core.Path.{◌≡◌, refl, sym, ◌∙◌}
use Rattle.std.proofs.Common.{eqb}
use Rattle.std.proofs.Math.Bool.{and_assoc}
use Rattle.races.specs.Traces.{is_access}
use Rattle.races.specs.loops.Clashes.{conflict}
use borrow.Author.Tests.{eq-eqb, ne_eqb}
use Rattle.pair.proofs.racing.is_conflict.Goals as goal
use Rattle.pair.proofs.racing.is_conflict.Goals.{then-is_access, else-is_access, then-is_access-2, else-is_access-2}

pub returns-then-a-eq6 : goal.returns-then-a-eq6
unfolding conflict
returns-then-a-eq6 c =
    let p : is_access c.args.a ≡ c.is_access.result = sym c.is_access.ensures in
    let both : c.if-is_access.value ≡ (is_access c.args.a && is_access c.args.b) = elim c.if-is_access.branch [
      | then-is_access w ↦ w.value-is ∙ rw (p ∙ w.if-is_access.true) w.is_access-then-is_access.ensures
      | else-is_access w ↦ w.value-is ∙ w.if-is_access.false ∙ rw (p ∙ w.if-is_access.false) refl
    ] in
    let all : c.if-is_access-2.value ≡ (is_access c.args.a && is_access c.args.b && eqb c.args.a.second c.args.b.second) = elim c.if-is_access-2.branch [
      | then-is_access-2 w ↦ w.value-is ∙ rw (sym both ∙ w.if-is_access-2.true) refl
      | else-is_access-2 w ↦ w.value-is ∙ w.if-is_access-2.false ∙ rw (sym both ∙ w.if-is_access-2.false) refl
    ] in
    rw (← and_assoc, sym all ∙ c.if-a-b.true, eq-eqb _ _ c.if-a-eq6.true) refl

pub returns-else-a-eq6 : goal.returns-else-a-eq6
unfolding conflict
returns-else-a-eq6 c =
    let p : is_access c.args.a ≡ c.is_access.result = sym c.is_access.ensures in
    let both : c.if-is_access.value ≡ (is_access c.args.a && is_access c.args.b) = elim c.if-is_access.branch [
      | then-is_access w ↦ w.value-is ∙ rw (p ∙ w.if-is_access.true) w.is_access-then-is_access.ensures
      | else-is_access w ↦ w.value-is ∙ w.if-is_access.false ∙ rw (p ∙ w.if-is_access.false) refl
    ] in
    let all : c.if-is_access-2.value ≡ (is_access c.args.a && is_access c.args.b && eqb c.args.a.second c.args.b.second) = elim c.if-is_access-2.branch [
      | then-is_access-2 w ↦ w.value-is ∙ rw (sym both ∙ w.if-is_access-2.true) refl
      | else-is_access-2 w ↦ w.value-is ∙ w.if-is_access-2.false ∙ rw (sym both ∙ w.if-is_access-2.false) refl
    ] in
    rw (← and_assoc, sym all ∙ c.if-a-b.true, ne_eqb _ _ c.if-a-eq6.false) refl

pub returns-else-a-b : goal.returns-else-a-b
unfolding conflict
returns-else-a-b c =
    let p : is_access c.args.a ≡ c.is_access.result = sym c.is_access.ensures in
    let both : c.if-is_access.value ≡ (is_access c.args.a && is_access c.args.b) = elim c.if-is_access.branch [
      | then-is_access w ↦ w.value-is ∙ rw (p ∙ w.if-is_access.true) w.is_access-then-is_access.ensures
      | else-is_access w ↦ w.value-is ∙ w.if-is_access.false ∙ rw (p ∙ w.if-is_access.false) refl
    ] in
    let all : c.if-is_access-2.value ≡ (is_access c.args.a && is_access c.args.b && eqb c.args.a.second c.args.b.second) = elim c.if-is_access-2.branch [
      | then-is_access-2 w ↦ w.value-is ∙ rw (sym both ∙ w.if-is_access-2.true) refl
      | else-is_access-2 w ↦ w.value-is ∙ w.if-is_access-2.false ∙ rw (sym both ∙ w.if-is_access-2.false) refl
    ] in
    rw (← and_assoc, sym all ∙ c.if-a-b.false) c.if-a-b.false
