use native.Mathlib.Omega.{arith}
use native.Mathlib.Nat.{add-zero}
use mathlib.Core.Path.{sym, ◌∙◌}
use Rattle.records.proofs.SearchLaws.{past-none, past_more, next_here, next-none}
use Rattle.records.proofs.Decoded.{decoded-length}
use Rattle.records.proofs.search.among_four.Goals as goal

pub returns-then-may_race : goal.returns-then-may_race
returns-then-may_race c = next_here _ _ _ (omega arith) (omega arith) (rw (add-zero) (past-none _ _ _ _)) (sym c.may_race.ensures ∙ c.if-may_race.true)

pub overflow_add-i : goal.overflow_add-i
overflow_add-i c =
    let s = c in
    omega (arith, decoded-length s.args.recs.now)

pub returns-then-may_race-2 : goal.returns-then-may_race-2
returns-then-may_race-2 c = next_here _ _ _ (omega arith) (omega arith) (past_more _ _ _ (omega arith) (past-none _ _ _ _) (sym c.may_race.ensures ∙ c.if-may_race.false)) (sym c.may_race-2.ensures ∙ c.if-may_race-2.true)

pub overflow_add-i-2 : goal.overflow_add-i-2
overflow_add-i-2 c =
    let s = c in
    omega (arith, decoded-length s.args.recs.now)

pub returns-then-may_race-3 : goal.returns-then-may_race-3
returns-then-may_race-3 c =
    let at-if = c in
    let at-may-race = at-if in
    next_here _ _ _ (omega arith) (omega arith) (past_more _ _ _ (omega arith) (past_more _ _ _ (omega arith) (past-none _ _ _ _) (sym at-may-race.may_race.ensures ∙ at-if.if-may_race.false)) (sym c.may_race-2.ensures ∙ c.if-may_race-2.false)) (sym c.may_race-3.ensures ∙ c.if-may_race-3.true)

pub overflow_add-i-3 : goal.overflow_add-i-3
overflow_add-i-3 c =
    let s = c in
    omega (arith, decoded-length s.args.recs.now)

pub returns-then-may_race-4 : goal.returns-then-may_race-4
returns-then-may_race-4 c =
    let at-if = c in
    let at-may-race = at-if in
    let at-if2 = at-may-race in
    let at-may-race2 = at-if2 in
    next_here _ _ _ (omega arith) (omega arith) (past_more _ _ _ (omega arith) (past_more _ _ _ (omega arith) (past_more _ _ _ (omega arith) (past-none _ _ _ _) (sym at-may-race2.may_race.ensures ∙ at-if2.if-may_race.false)) (sym at-may-race.may_race-2.ensures ∙ at-if.if-may_race-2.false)) (sym c.may_race-3.ensures ∙ c.if-may_race-3.false)) (sym c.may_race-4.ensures ∙ c.if-may_race-4.true)

pub returns : goal.returns
returns c =
    let at-if = c in
    let at-may-race = at-if in
    let at-if2 = at-may-race in
    let at-may-race2 = at-if2 in
    next-none _ _ _ (omega arith) (past_more _ _ _ (omega arith) (past_more _ _ _ (omega arith) (past_more _ _ _ (omega arith) (past_more _ _ _ (omega arith) (past-none _ _ _ _) (sym at-may-race2.may_race.ensures ∙ at-if2.if-may_race.false)) (sym at-may-race.may_race-2.ensures ∙ at-if.if-may_race-2.false)) (sym c.may_race-3.ensures ∙ c.if-may_race-3.false)) (sym c.may_race-4.ensures ∙ c.if-may_race-4.false))
