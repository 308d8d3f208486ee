-- Of given records, ranks, chains and clocks there is one proof at most that the clocks are filled, so a type may carry it. Assumes nothing.
use Rattle.std.specs.Prelude.{ℕ, ◌≡◌, List, ◌++◌}
use Rattle.std.proofs.Props.{props}
use mathlib.Core.HLevel.{Σ_prop_path}
use mathlib.Core.Path.{sym, ◌∙◌}
use mathlib.Core.List.{is_set}
use native.Mathlib.Nat.{ℕ_set}
use Rattle.std.proofs.lemmas.List.{append_cancel_left}
use Rattle.records.specs.declared.Record.{Record}
use Rattle.races.specs.loops.FilledClocks.{FilledClocks}

-- what stands after a known beginning
rest-prop : (front all : List ℕ) → IsProp ((rest : List ℕ) × (all ≡ front ++ rest))
rest-prop front all x y = Σ_prop_path (λ r. is_set ℕ_set _ _) (append_cancel_left front x.0 y.0 (sym x.1 ∙ y.1))

pub filled_once : {tr : List Record} {ranks chosen : List ℕ} {width : ℕ} {clocks : List ℕ} → IsProp (FilledClocks tr ranks chosen width clocks)
filled_once = hlevel (rest-prop, props)
