-- Over clocks that filling left, the order question says which way round two event actions stand.
-- Assumes nothing.
use Prim.Native.Nat.{ℕ, suc, ◌*◌, ◌-◌}
use mathlib.Core.Path.{◌≡◌, refl, sym, ap, ◌∙◌, subst}
use mathlib.Core.Bool.{Bool, true, false}
use mathlib.Core.List.{List}
use mathlib.Core.Logic.{◌≢◌, ◌↔◌}
use native.Mathlib.Omega.{arith}
use borrow.Author.Tests.{eq-eqb, ne_eqb}
use lib.Dec.{T, eqb, eqb→eq}
use lib.ListN.{length, drop, length-append, length-drop}
use Rattle.records.specs.declared.Record.{Record}
use Rattle.records.specs.declared.Trace.{Trace}
use Rattle.trace.specs.Reply.{gives, demand, then}
use Rattle.trace.specs.Reading.{Acceptable, records_in, Accepts}
use Rattle.clocks.specs.WayRound.{WayRound, same_action, first_before, second_before, unordered, way_round}
use Rattle.order.specs.Clocks.{clocks_of}
use Rattle.precedence.specs.Before.{same}
use Rattle.order.specs.HappensBefore.{Begins, HappensBefore, trace_links, happens_before}
use Rattle.order.specs.Rank.{rank}
use Rattle.order.specs.Fill.{events_in, trace_clocks}
use Rattle.order.specs.Lent.{spaces, enough_chains, clocks_after, fill_ready, fill_reply}
use Rattle.order.specs.Compared.{compared}
use Rattle.question.specs.Question.{order_trace, order_reply, both_begin, related_in, TellsWayRound}
use Rattle.slices.proofs.Tests.{eq→eqb}
use Rattle.order.proofs.OrderLaws.{≼-forward}
use Rattle.order.proofs.RowLaws.{clocks-length}
use Rattle.order.proofs.TraceOrder.{begins-rank, rank-one, forward-links, up, decides}
use Rattle.order.proofs.SpaceLaws.{has_room}
use Rattle.order.proofs.ComparedLaws.{compared-before}
use Rattle.order.proofs.FilledTrace.{FilledTrace, filled-trace}

begins-both : (tr : List Record) (t u : ℕ) → rank tr t ≢ 0 → rank tr u ≢ 0 → both_begin tr t u ≡ true
unfolding both_begin
begins-both tr t u nt nu = rw (ne_eqb (rank tr t) 0 nt, ne_eqb (rank tr u) 0 nu)

-- each of the four replies, exactly where it should come
record Told (tr : List Record) (t u : ℕ) (says : WayRound) : Type 0 where
  equal : (says ≡ same_action) ↔ (t ≡ u)
  first : (says ≡ first_before) ↔ (HappensBefore tr t u × (t ≢ u))
  second : (says ≡ second_before) ↔ (HappensBefore tr u t × (t ≢ u))
  neither : (says ≡ unordered) ↔ ((HappensBefore tr t u → ⊥) × (HappensBefore tr u t → ⊥))

-- the replies are four
abbrev which : WayRound → ℕ
which same_action = 0
which first_before = 1
which second_before = 2
which unordered = 3

apart : (p q : WayRound) → eqb (which p) (which q) ≡ false → p ≢ q
apart p q f e = subst T f (eq→eqb (which p) (which q) (ap which e))

module _ {tr : List Record} (a : Acceptable tr) (t u : ℕ) (nt : rank tr t ≢ 0) where
  -- two event actions that happen before each other are one
  one : HappensBefore tr t u → HappensBefore tr u t → t ≡ u
  one h k =
      let r : rank tr t ≡ suc (rank tr t - 1) = omega (arith, nt) in
      let f = up a (rank tr t - 1) r h in
      let g = up a f.0 f.1 k in
      let x = ≼-forward (trace_links tr) (forward-links a) f.2 in
      let y = ≼-forward (trace_links tr) (forward-links a) g.2 in
      let z = g.1 in
      rank-one a t u f.0 (omega arith) f.1

  tells : (x y z : Bool) → eqb t u ≡ x → happens_before tr t u ≡ y → happens_before tr u t ≡ z → Told tr t u (way_round x y z)
  tells true y z ex ey ez =
      let e = eqb→eq t u (subst T (sym ex) tt) in
      record {
        equal = (λ _. e, λ _. refl);
        first = (λ w. absurd (apart same_action first_before refl w), λ k. absurd (k.1 e));
        second = (λ w. absurd (apart same_action second_before refl w), λ k. absurd (k.1 e));
        neither = (λ w. absurd (apart same_action unordered refl w), λ k. absurd (k.0 (same e)));
      }
  tells false y z ex ey ez = go y z ey ez
    where
      n : t ≢ u
      n e = subst T ex (eq→eqb t u e)

      go : (y z : Bool) → happens_before tr t u ≡ y → happens_before tr u t ≡ z → Told tr t u (way_round false y z)
      go true z ey ez =
          let h = (decides a t u).0 (subst T (sym ey) tt) in
          record {
            equal = (λ w. absurd (apart first_before same_action refl w), λ e. absurd (n e));
            first = (λ _. (h, n), λ _. refl);
            second = (λ w. absurd (apart first_before second_before refl w), λ k. absurd (n (one h k.0)));
            neither = (λ w. absurd (apart first_before unordered refl w), λ k. absurd (k.0 h));
          }
      go false true ey ez =
          let h = (decides a u t).0 (subst T (sym ez) tt) in
          record {
            equal = (λ w. absurd (apart second_before same_action refl w), λ e. absurd (n e));
            first = (λ w. absurd (apart second_before first_before refl w), λ k. absurd (subst T ey ((decides a t u).1 k.0)));
            second = (λ _. (h, n), λ _. refl);
            neither = (λ w. absurd (apart second_before unordered refl w), λ k. absurd (k.1 h));
          }
      go false false ey ez = record {
        equal = (λ w. absurd (apart unordered same_action refl w), λ e. absurd (n e));
        first = (λ w. absurd (apart unordered first_before refl w), λ k. absurd (subst T ey ((decides a t u).1 k.0)));
        second = (λ w. absurd (apart unordered second_before refl w), λ k. absurd (subst T ez ((decides a u t).1 k.0)));
        neither = (λ _. (λ k. subst T ey ((decides a t u).1 k), λ k. subst T ez ((decides a u t).1 k)), λ _. refl);
      }

-- an accepted trace, and clocks that filling left
module _ (b : List ℕ) (read : Trace) (w : ℕ) (cs : List ℕ) (k : ℕ) (e : Accepts b read) (f : gives k ≡ fill_reply b w (length cs)) where
  abbrev pub tr : List Record
  tr = records_in b read

  -- the clocks that filling left
  abbrev pub clocks : List ℕ
  clocks = clocks_after b (fill_ready b w (length cs)) w cs

  left : FilledTrace b read w cs
  left = filled-trace b read w cs k e f

  clocks-size : length (clocks) ≡ length cs
  unfolding trace_clocks
  clocks-size =
      let g = (has_room w read.events (length cs) left.had_space).fits in
      let h = length-append (clocks_of (trace_links tr) w (events_in tr)) (drop (read.events * w) cs) in
      omega (arith, ap length left.clocks_are, h, clocks-length (trace_links tr) w (events_in tr), length-drop (read.events * w) cs, ap (λ x. x * w) left.events_are)

  -- "over clocks that filling left the unordered reply comes exactly when neither happens before the other"
  pub tells-way-round : (t u : ℕ) → Begins tr t → Begins tr u → TellsWayRound tr b w (clocks) t u
  unfolding order_reply then order_trace spaces enough_chains demand related_in
  tells-way-round t u bt bu = record {
    says = way;
    reply = rw (← e, both, clocks-size, left.had_space, eq-eqb _ _ left.had_chains) (ap gives said);
    same_exactly = told.equal;
    first_exactly = told.first;
    second_exactly = told.second;
    unordered_exactly = told.neither;
  }
    where
      nt : rank tr t ≢ 0
      nt z = omega (arith, begins-rank left.acceptable bt, z)

      nu : rank tr u ≢ 0
      nu z = omega (arith, begins-rank left.acceptable bu, z)

      both : both_begin tr t u ≡ true
      both = begins-both tr t u nt nu

      way : WayRound
      way = way_round (eqb t u) (happens_before tr t u) (happens_before tr u t)

      is-before : (x y : ℕ) → rank tr x ≢ 0 → rank tr y ≢ 0 → compared tr w (clocks) x y ≡ happens_before tr x y
      is-before x y nx ny =
          ap (λ c. compared tr w c x y) left.clocks_are
          ∙ compared-before left.acceptable w (left.had_chains ∙ left.events_are) (drop (read.events * w) cs) x y nx ny

      said : related_in tr w (clocks) t u ≡ way
      said = rw (is-before t u nt nu, is-before u t nu nt) refl

      told : Told tr t u way
      told = tells left.acceptable t u nt _ _ _ refl refl refl
