-- "Filling one row writes that row's part of the lent clocks and no other." Assumes nothing.
use Prim.Native.Nat.{ℕ, zero, suc, ◌+◌, ◌*◌, ◌≤◌}
use mathlib.Core.Path.{◌≡◌, refl, sym, ap, ◌∙◌}
use mathlib.Core.List.{List, ◌++◌, append_assoc}
use native.Mathlib.Omega.{arith}
use native.Mathlib.Nat.{suc-mul}
use lib.ListN.{length, take, drop}
use lib.Seq.{take_at, drop-append-add, drop-drop}
use Rattle.records.specs.declared.Record.{Record}
use Rattle.trace.specs.Reading.{records_in}
use Rattle.order.specs.Clocks.{table, flat, entry, clocks_of}
use Rattle.order.specs.HappensBefore.{trace_links}
use Rattle.order.specs.Fill.{trace_clocks}
use Rattle.order.specs.ByEvent.{put_row, put_rows, ThatRowAndNoOther}
use Rattle.order.proofs.RowLaws.{flat-length}
use Rattle.order.proofs.OwnRows.{only-put, only-cleared, only-copied, only-merged, only-begun}
use Rattle.order.proofs.SpaceLaws.{has_room}
use Rattle.order.proofs.FilledTrace.{filled-trace}

-- row after row
put-rows : (tr : List Record) (w u : ℕ) (cs : List ℕ) → u * w ≤ length cs → put_rows tr w u cs ≡ flat w u (entry (trace_links tr)) ++ drop (u * w) cs
unfolding put_rows put_row flat
put-rows tr w zero cs h = let z : 0 * w ≡ 0 = omega (arith, suc-mul 0 w) in rw z refl
put-rows tr w (suc u) cs h =
    let s = suc-mul u w in
    let z : suc u * w ≡ u * w + w = omega (arith, s) in
    let F = flat w u (entry (trace_links tr)) in
    let l = flat-length w u (entry (trace_links tr)) in
    let ih = put-rows tr w u cs (omega (arith, s)) in
    let t : take (u * w) (F ++ drop (u * w) cs) ≡ F = take_at F (drop (u * w) cs) (u * w) l in
    let d : drop (u * w + w) (F ++ drop (u * w) cs) ≡ drop (u * w + w) cs =
    ap (λ (x : ℕ). drop (x + w) (F ++ drop (u * w) cs)) (sym l) ∙ (drop-append-add F (drop (u * w) cs) w ∙ drop-drop w (u * w) cs) in
    rw (ih, t, d, z) (sym (append_assoc F (table w (entry (trace_links tr) u)) (drop (u * w + w) cs)))

pub that-row-and-no-other : ThatRowAndNoOther
unfolding put_row trace_clocks clocks_of
that-row-and-no-other = record {
  in-turn = λ b t q w cs cs' k p.
      let f = filled-trace b t w cs k q p.answer in
      let h = (has_room w t.events (length cs) f.had_space).fits in
      p.clocks-after ∙ f.clocks_are ∙ rw (← f.events_are) (sym (put-rows (records_in b t) w t.events cs h));
  put = λ w u row cs e h. only-put w u row cs e h;
  cleared = only-cleared;
  copied = λ w chains p u cs. only-copied w u chains p cs;
  merged = λ w chains p u cs. only-merged w u chains p cs;
  begun = only-begun;
}
