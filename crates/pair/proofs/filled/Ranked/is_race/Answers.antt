use Prim.Native.Nat.{◌<◌}
use native.Mathlib.Omega.{arith}
use mathlib.Core.Bool.{true, false}
use mathlib.Core.Path.{◌≡◌, refl, sym, ap, ◌∙◌}
use lib.ListN.{length}
use borrow.Author.Tests.{le-ltb}
use Rattle.records.specs.Bytes.{decode}
use Rattle.clocks.specs.WayRound.{says_unordered}
use Rattle.races.proofs.FilledLaws.{no-clash, clash-race, rows_told, unordered-told}
use Rattle.pair.proofs.PairLaws.{out_of_order}
use Rattle.pair.proofs.RankedClocks.{ranked_clocks}
use Rattle.pair.proofs.filled.Ranked.is_race.Goals as goal
use Rattle.pair.proofs.filled.Ranked.is_race.Goals.{then-a-b, else-a-b}

pub returns-then-is_clash : goal.returns-then-is_clash
returns-then-is_clash c =
    let f = ranked_clocks c.args.self in
    let tr = decode c.args.self.filled.recs.now in
    elim c.if-a-b.branch [
      | then-a-b w ↦
          let inside : c.args.a < length (decode c.args.self.filled.recs.now) = omega (arith, w.if-a-b.true, c.requires) in
          c.is_unordered.ensures
          ∙ ap says_unordered (c.relation.ensures ∙ sym (rows_told f c.args.a c.args.b _ _ inside c.requires refl refl))
          ∙ unordered-told f c.args.a c.args.b _ _ inside c.requires refl refl w.if-a-b.true
          ∙ sym (clash-race (decode c.args.self.filled.recs.now) c.args.a c.args.b w.if-a-b.true c.requires (sym w.is_clash.ensures ∙ sym w.value-is ∙ c.if-is_clash.true))
      | else-a-b w ↦ let e : true ≡ false = sym c.if-is_clash.true ∙ w.value-is ∙ le-ltb _ _ w.if-a-b.false in cc
    ]

pub returns-else-is_clash : goal.returns-else-is_clash
returns-else-is_clash c = elim c.if-a-b.branch [
  | then-a-b w ↦ c.if-is_clash.false ∙ sym (no-clash (decode c.args.self.filled.recs.now) c.args.a c.args.b w.if-a-b.true c.requires (sym w.is_clash.ensures ∙ sym w.value-is ∙ c.if-is_clash.false))
  | else-a-b w ↦ w.value-is ∙ le-ltb _ _ w.if-a-b.false ∙ sym (out_of_order (decode c.args.self.filled.recs.now) c.args.a c.args.b w.if-a-b.false)
]
