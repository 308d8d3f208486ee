-- From the walk over the records to the whole reading: the trailer first.
-- Assumes nothing.
use Prim.Native.Nat.{ℕ, ◌<◌}
use borrow.Author.Tests.{le-leb}
use lib.ListN.{take}
use Rattle.records.proofs.Fronts.{part-front}
use native.Mathlib.Omega.{arith}
use mathlib.Core.Path.{◌≡◌, refl, sym, ap, ◌∙◌}
use mathlib.Core.Bool.{false}
use mathlib.Core.List.{List, []}
use Rattle.records.specs.declared.Record.{Record}
use Rattle.records.specs.declared.Trace.{Trace}
use Rattle.records.specs.Bytes.{decode, part}
use Rattle.links.specs.Fill.{fill_all}
use Rattle.trace.specs.declared.Scanned.{Scanned}
use Rattle.std.proofs.Common.{Err}
use Rattle.trace.specs.declared.Refusal.{Refusal}
use Rattle.trace.specs.Reply.{Reply, refused, gives, demand, then}
use Rattle.trace.specs.Reading.{walk, frame_reply, records_in, read_reply, Accepts}
use Rattle.trace.specs.Paper.{paper}
use Rattle.trace.specs.Plain.{plain_walk, plain_reply, Passed, Scans, passed_in, earlier, FirstPass}
use Rattle.trace.proofs.ReplyLaws.{not-both, same-given}
use Rattle.trace.proofs.Accepted.{framed, records-length, named, accepts}
use Rattle.trace.proofs.Walks.{unsent-free, free_walk, plain-told}
use Rattle.trace.proofs.Fronts.{earlier-is, all-front}

abbrev whole : List ℕ → Reply Trace → Reply Trace
whole b x = then x (λ t. walk t.start t.events [] (records_in b t))

abbrev plain : List ℕ → Reply Trace → Reply Trace
plain b x = then x (λ t. plain_walk t.start t.events [] (records_in b t))

module _ (b : List ℕ) where
  -- a trailer that is refused
  refused_none : {n p : ℕ} → refused n p ≡ frame_reply b → (t : Trace) → Accepts b t → ⊥
  unfolding read_reply then
  refused_none {n} {p} q t h = not-both t n p (h ∙ sym (ap (whole b) q))

  pub refused-first : (x : Refusal) → paper (Err x) ≡ frame_reply b
      → FirstPass b (record { reading = Err x; start = 0; passed = 0; sends = false })
  unfolding read_reply plain_reply then earlier demand
  refused-first x q = record {
    reply = ap (plain b) q;
    framed = λ n f. absurd (not-both n _ _ (f ∙ sym q));
    unframed = λ k p f. (refl, refl, refl);
    few = omega arith;
    enough = λ w. ap (whole b) q;
    decided = simp (le-leb 0 (fill_all (passed_in b (record { reading = Err x; start = 0; passed = 0; sends = false }))).stop (omega arith))
        (ap (whole b) q);
    tells = λ t z. absurd (not-both t _ _ z);
    all_passed = λ t h. absurd (refused_none q t h);
  }

  -- and one that is not
  module _ (n : Trace) (f : gives n ≡ frame_reply b) where
    same-records : (t : Trace) → Accepts b t → records_in b n ≡ records_in b t
    unfolding records_in
    same-records t h = let q : n ≡ named t = same-given (f ∙ sym (accepts b t h).named_so) in ap (records_in b) q

    module _ {s : Scanned} (g : Scans (records_in b n) n.start n.events s) where
      front : passed_in b s ≡ take s.passed (records_in b n)
      unfolding passed_in records_in
      front =
          let l = records-length (framed b n f) in
          let w = g.passes.within in
          rw g.from (part-front b n.start n.records s.passed g.passes.within (omega arith))

      pub scanned-first : FirstPass b s
      unfolding read_reply plain_reply then
      scanned-first =
          let tr = records_in b n in
          let fr = framed b n f in
          let l = records-length fr in
          let k = fr.few in
          let w = g.passes.within in
          record {
            reply = g.reply ∙ ap (plain b) f;
            framed = λ t e. let z : t ≡ n = same-given (e ∙ sym f) in rw z g;
            unframed = λ k p e. absurd (not-both n k p (f ∙ sym e));
            few = omega arith;
            enough = λ z.
                g.reply
                ∙ sym (free_walk tr n.start n.events g.passes (unsent-free tr s.passed (sym g.sent ∙ z)))
                ∙ ap (whole b) f;
            decided = earlier-is g (omega arith) (fill_all (passed_in b s)).stop (ap (λ (x : List Record). (fill_all x).stop) front) ∙ ap (whole b) f;
            tells = λ t z. g.sent ∙ (plain-told tr n.start n.events g.passes t (z ∙ g.reply)).1;
            all_passed = λ t h. front ∙ all-front g t (h ∙ sym (ap (whole b) f)) ∙ same-records t h;
          }

-- so many records pass, and no other number of them
passed-one : {tr : List Record} {k n : ℕ} → Passed tr k → Passed tr n → k ≡ n
passed-one {tr} {k} {n} p q =
    let a = p.within in
    let b = q.within in
    let x : k < n → ⊥ = λ l. p.next (omega arith) (q.each k l) in
    let y : n < k → ⊥ = λ l. q.next (omega arith) (p.each n l) in
    omega (arith, x, y)

-- and these records
pub passed-same : (b : List ℕ) (s s' : Scanned) → FirstPass b s → FirstPass b s' → passed_in b s ≡ passed_in b s'
unfolding passed_in
passed-same b s s' f g = go (frame_reply b) refl
  where
    go : (x : Reply Trace) → x ≡ frame_reply b → decode (part b s.start s.passed) ≡ decode (part b s'.start s'.passed)
    go (refused k p) e =
        let (x, y, _) = f.unframed k p e in
        let (z, w, _) = g.unframed k p e in
        rw (x, y, z, w)
    go (gives n) e =
        let x = f.framed n e in
        let y = g.framed n e in
        let z : s.start ≡ s'.start = x.from ∙ sym y.from in
        let w : s.passed ≡ s'.passed = passed-one x.passes y.passes in
        rw (z, w)
