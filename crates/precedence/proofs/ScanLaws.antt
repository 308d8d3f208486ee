-- The pass down the records finds what the links put e behind. Assumes nothing.
use Prim.Native.Nat.{ℕ, zero, suc, ◌<◌}
use mathlib.Core.Path.{◌≡◌, refl, sym, ◌∙◌, subst}
use mathlib.Core.Bool.{Bool, true, false, not, ◌&&◌, ◌||◌}
use mathlib.Core.Logic.{◌≢◌, ◌⊎◌, inl, inr}
use mathlib.Core.List.{List}
use native.Mathlib.Omega.{arith}
use borrow.Author.Tests.{ne_eqb}
use lib.Dec.{T, eqb, leb, eqb→eq}
use Rattle.records.specs.declared.Record.{Record}
use Rattle.records.specs.Records.{at, past, is_begin, begun}
use Rattle.records.proofs.Positions as positions
use Rattle.slices.proofs.Tests.{both, and, either, or_left, or_right, eq→eqb, decide_eq, same}
use Rattle.records.specs.Kinds.{is_send, same_link}
use Rattle.precedence.specs.Table.{Table, table, missing, blocked, blocked_for}
use Rattle.precedence.specs.Scan.{Scan, hit, reached, turn, run, scan_for, scan_at, ScanRefuses, ScanGathers}
use Rattle.precedence.proofs.Steps.{Puts, puts, put, New, kept, started, joined, own, linked, new, set}
use Rattle.precedence.proofs.Rows.{begin-no-fork, begin-no-join, missing-is}

-- the hits of a pass whose targets pass a test
unfoldable hits : List Record → ℕ → Table → (ℕ → Bool) → ℕ → (ℕ → ℕ → Bool) → Bool
hits tr e b q zero reach = false
hits tr e b q (suc j) reach = (hit e reach (at tr j) && q (at tr j).second) || hits tr e b q j (reached e b (at tr j) reach)

or_assoc : (x y z : Bool) → ((x || y) || z) ≡ (x || (y || z))
or_assoc true y z = refl
or_assoc false y z = refl

module _ (tr : List Record) (e : ℕ) (b : Table) (has : ℕ → Bool) where
  run-stuck : (j : ℕ) (s : Scan) → (run tr e b has j s).stuck ≡ (s.stuck || hits tr e b (λ v. not (has v)) j s.reach)
  unfolding run hits turn
  run-stuck zero s = or-none s.stuck
    where
      or-none : (x : Bool) → x ≡ (x || false)
      or-none true = refl
      or-none false = refl
  run-stuck (suc j) s =
      run-stuck j (turn e b has (at tr j) s)
      ∙ or_assoc s.stuck (hit e s.reach (at tr j) && not (has (at tr j).second)) (hits tr e b (λ v. not (has v)) j (reached e b (at tr j) s.reach))

  run_row : (t j : ℕ) (s : Scan) → (run tr e b has j s).row t ≡ (s.row t || hits tr e b (λ v. has v && b t v) j s.reach)
  unfolding run hits turn
  run_row t zero s = or-none (s.row t)
    where
      or-none : (x : Bool) → x ≡ (x || false)
      or-none true = refl
      or-none false = refl
  run_row t (suc j) s =
      run_row t j (turn e b has (at tr j) s)
      ∙ or_assoc (s.row t) (hit e s.reach (at tr j) && (has (at tr j).second && b t (at tr j).second))
      (hits tr e b (λ v. has v && b t v) j (reached e b (at tr j) s.reach))

module _ (tr : List Record) (e : ℕ) (b : Table) (q : ℕ → Bool) where
  -- why x is reached: it was, or by a send to e further on
  data Reached (j x : ℕ) (reach : ℕ → ℕ → Bool) : Type 0 where
    before : T (reach (at tr x).kind (at tr x).first) → Reached j x reach
    sent : (y : ℕ) → x < y → y < j → T (is_send (at tr y)) → (at tr y).second ≡ e → (at tr y).kind ≡ (at tr x).kind → T (b (at tr x).first (at tr y).first)
        → Reached j x reach

  record Hit (j : ℕ) (reach : ℕ → ℕ → Bool) : Type 0 where
    x : ℕ
    inside : x < j
    sends : T (is_send (at tr x))
    another : (at tr x).second ≢ e
    passes : T (q (at tr x).second)
    why : Reached j x reach

  true-not : (a : Bool) → T (not a) → T a → ⊥
  true-not true h k = h
  true-not false h k = k

  hit-parts : (r : Record) (reach : ℕ → ℕ → Bool) → T (hit e reach r) → T (is_send r) × (r.second ≢ e) × T (reach r.kind r.first)
  unfolding hit
  hit-parts r reach h =
      let a = both (is_send r) (not (eqb r.second e) && reach r.kind r.first) h in
      let c = both (not (eqb r.second e)) (reach r.kind r.first) a.1 in
      (a.0, (λ z. true-not (eqb r.second e) c.0 (eq→eqb r.second e z)), c.1)

  hit-made : (r : Record) (reach : ℕ → ℕ → Bool) → T (is_send r) → r.second ≢ e → T (reach r.kind r.first) → T (hit e reach r)
  unfolding hit
  hit-made r reach a d h =
      and (is_send r) (not (eqb r.second e) && reach r.kind r.first) a
      (and (not (eqb r.second e)) (reach r.kind r.first) (rw (ne_eqb r.second e d) tt) h)

  reached-parts : (r : Record) (reach : ℕ → ℕ → Bool) (k x : ℕ) → T (reached e b r reach k x)
      → T (reach k x) ⊎ (T (is_send r) × (r.second ≡ e) × (r.kind ≡ k) × T (b x r.first))
  unfolding reached
  reached-parts r reach k x h = go (either (reach k x) (is_send r && (eqb r.second e && (eqb r.kind k && b x r.first))) h)
    where
      go : T (reach k x) ⊎ T (is_send r && (eqb r.second e && (eqb r.kind k && b x r.first)))
          → T (reach k x) ⊎ (T (is_send r) × (r.second ≡ e) × (r.kind ≡ k) × T (b x r.first))
      go (inl h) = inl h
      go (inr h) =
          let a = both (is_send r) (eqb r.second e && (eqb r.kind k && b x r.first)) h in
          let c = both (eqb r.second e) (eqb r.kind k && b x r.first) a.1 in
          let d = both (eqb r.kind k) (b x r.first) c.1 in
          inr (a.0, eqb→eq r.second e c.0, eqb→eq r.kind k d.0, d.1)

  reached-kept : (r : Record) (reach : ℕ → ℕ → Bool) (k x : ℕ) → T (reach k x) → T (reached e b r reach k x)
  unfolding reached
  reached-kept r reach k x h = or_left (reach k x) (is_send r && (eqb r.second e && (eqb r.kind k && b x r.first))) h

  reached-new : (r : Record) (reach : ℕ → ℕ → Bool) (k x : ℕ) → T (is_send r) → r.second ≡ e → r.kind ≡ k → T (b x r.first) → T (reached e b r reach k x)
  unfolding reached
  reached-new r reach k x a c d h =
      or_right (reach k x) (is_send r && (eqb r.second e && (eqb r.kind k && b x r.first)))
      (and (is_send r) (eqb r.second e && (eqb r.kind k && b x r.first)) a
      (and (eqb r.second e) (eqb r.kind k && b x r.first) (eq→eqb r.second e c)
      (and (eqb r.kind k) (b x r.first) (eq→eqb r.kind k d) h)))

  found : (j : ℕ) (reach : ℕ → ℕ → Bool) → T (hits tr e b q j reach) → Hit j reach
  unfolding hits
  found zero reach h = absurd h
  found (suc j) reach h =
      go (either (hit e reach (at tr j) && q (at tr j).second) (hits tr e b q j (reached e b (at tr j) reach)) h) (found j (reached e b (at tr j) reach))
    where
      why : (x : ℕ) → x < j → Reached j x (reached e b (at tr j) reach) → Reached (suc j) x reach
      why x l (sent y m k a c d z) = sent y m (omega arith) a c d z
      why x l (before h) = by (reached-parts (at tr j) reach (at tr x).kind (at tr x).first h)
        where
          by : T (reach (at tr x).kind (at tr x).first)
              ⊎ (T (is_send (at tr j)) × ((at tr j).second ≡ e) × ((at tr j).kind ≡ (at tr x).kind) × T (b (at tr x).first (at tr j).first))
              → Reached (suc j) x reach
          by (inl h) = before h
          by (inr p) = sent j l (omega arith) p.0 p.1 p.2 p.3

      go : T (hit e reach (at tr j) && q (at tr j).second) ⊎ T (hits tr e b q j (reached e b (at tr j) reach))
          → (T (hits tr e b q j (reached e b (at tr j) reach)) → Hit j (reached e b (at tr j) reach)) → Hit (suc j) reach
      go (inl h) f =
          let a = both (hit e reach (at tr j)) (q (at tr j).second) h in
          let p = hit-parts (at tr j) reach a.0 in
          record { x = j; inside = omega arith; sends = p.0; another = p.1; passes = a.1; why = before p.2 }
      go (inr h) f =
          let g = f h in
          let l = g.inside in
          record { x = g.x; inside = omega arith; sends = g.sends; another = g.another; passes = g.passes; why = why g.x l g.why }

  made : (j : ℕ) (reach : ℕ → ℕ → Bool) → Hit j reach → T (hits tr e b q j reach)
  unfolding hits
  made zero reach g = let l = g.inside in absurd (omega arith)
  made (suc j) reach g = go (decide_eq g.x j) g.why (made j (reached e b (at tr j) reach))
    where
      first : Bool
      first = hit e reach (at tr j) && q (at tr j).second

      rest : Bool
      rest = hits tr e b q j (reached e b (at tr j) reach)

      x : ℕ
      x = g.x

      again : x ≢ j → (Hit j (reached e b (at tr j) reach) → T rest) → Reached j x (reached e b (at tr j) reach) → T (first || rest)
      again d f w =
          let l = g.inside in or_right first rest
          (f (record { x = x; inside = omega arith; sends = g.sends; another = g.another; passes = g.passes; why = w }))

      go : (x ≡ j) ⊎ (x ≢ j) → Reached (suc j) x reach → (Hit j (reached e b (at tr j) reach) → T rest) → T (first || rest)
      go (inl z) (sent y m k a c d h) f = absurd (omega arith)
      go (inl z) (before h) f =
          or_left first rest
          (subst (λ (i : ℕ). T (hit e reach (at tr i) && q (at tr i).second)) z
          (and (hit e reach (at tr x)) (q (at tr x).second) (hit-made (at tr x) reach g.sends g.another h) g.passes))
      go (inr d) (before h) f = again d f (before (reached-kept (at tr j) reach (at tr x).kind (at tr x).first h))
      go (inr d) (sent y m k a c p h) f = by (decide_eq y j)
        where
          by : (y ≡ j) ⊎ (y ≢ j) → T (first || rest)
          by (inr n) = again d f (sent y m (omega arith) a c p h)
          by (inl z) =
              again d f
              (before
              (subst (λ (i : ℕ). T (reached e b (at tr i) reach (at tr x).kind (at tr x).first)) z
              (reached-new (at tr y) reach (at tr x).kind (at tr x).first a c p h)))

  -- from nothing reached
  abbrev another : ℕ → Bool
  another v = not (eqb v e) && q v

  hit-puts : (i : ℕ) → Hit i (λ k x. false) → Puts tr b i e another
  unfolding same_link
  hit-puts i g = go g.why
    where
      x : ℕ
      x = g.x

      v : ℕ
      v = (at tr x).second

      go : Reached i x (λ k x. false) → Puts tr b i e another
      go (before h) = absurd h
      go (sent y m k a c p h) = record {
        x = x;
        y = y;
        earlier = m;
        inside = k;
        one_link = and (is_send (at tr x)) (eqb (at tr x).kind (at tr y).kind) g.sends (eq→eqb (at tr x).kind (at tr y).kind (sym p));
        to = c;
        senders = h;
        passes = and (not (eqb v e)) (q v) (rw (ne_eqb v e g.another) tt) g.passes;
      }

  puts-hit : (i : ℕ) → Puts tr b i e another → Hit i (λ k x. false)
  unfolding same_link
  puts-hit i p =
      let k = p.inside in
      let m = p.earlier in
      let r = at tr p.x in
      let s = at tr p.y in
      let v = r.second in
      let a = both (is_send r) (eqb r.kind s.kind) p.one_link in
      let e' = eqb→eq r.kind s.kind a.1 in
      let c = both (not (eqb v e)) (q v) p.passes in
      record {
        x = p.x;
        inside = omega arith;
        sends = a.0;
        another = λ z. true-not (eqb v e) c.0 (eq→eqb v e z);
        passes = c.1;
        why = sent p.y m k (subst (λ (n : ℕ). T (leb 16 n && leb n 19)) e' a.0) p.to (sym e') p.senders;
      }

module _ (tr : List Record) (i : ℕ) where
  abbrev has : ℕ → Bool
  has v = begun v (past tr i)

  -- whatever e's row is
  pub row-aside : (e : ℕ) (row : ℕ → Bool)
      → (run tr e (table tr i) has i (record { reach = λ k x. false; row = row; stuck = false })).stuck ≡ blocked_for tr i e
  unfolding blocked_for
  row-aside e row =
      run-stuck tr e (table tr i) has i (record { reach = λ k x. false; row = row; stuck = false })
      ∙ same (hits tr e (table tr i) (λ v. not (has v)) i (λ k x. false)) (blocked_for tr i e)
      (λ h. put tr (table tr i) i e (missing tr i e)
      (hit-puts tr e (table tr i) (λ v. not (has v)) i (found tr e (table tr i) (λ v. not (has v)) i (λ k x. false) h)))
      (λ h. made tr e (table tr i) (λ v. not (has v)) i (λ k x. false)
      (puts-hit tr e (table tr i) (λ v. not (has v)) i (puts tr (table tr i) i e (missing tr i e) h)))

  pub scan-refuses : (e : ℕ) → ScanRefuses tr i e
  unfolding scan_for
  scan-refuses e = row-aside e (λ t. table tr i t e)

  abbrev e : ℕ
  e = (at tr i).first

  module _ (start : T (is_begin (at tr i))) (free : blocked tr i ≡ false) (t : ℕ) where
    abbrev q : ℕ → Bool
    q v = has v && table tr i t v

    abbrev old : Bool
    old = table tr i t e

    more : Bool
    more = hits tr e (table tr i) q i (λ k x. false)

    row_is : (scan_at tr i).row t ≡ (old || more)
    unfolding scan_for more
    row_is = run_row tr e (table tr i) has t i (record { reach = λ k x. false; row = λ t. table tr i t e; stuck = false })

    behind_more : Puts tr (table tr i) i e (table tr i t) → T (old || more)
    unfolding more blocked_for
    behind_more p = go (decide_eq v e) (positions.decide (has v))
      where
        v : ℕ
        v = (at tr p.x).second

        go : (v ≡ e) ⊎ (v ≢ e) → (has v ≡ true) ⊎ (has v ≡ false) → T (old || more)
        go (inl z) _ = or_left old more (subst (λ (w : ℕ). T (table tr i t w)) z p.passes)
        go (inr d) (inr f) =
            let m = missing-is tr i e v d f in
            let stuck : T (blocked tr i) = put tr (table tr i) i e (missing tr i e) (record {
              x = p.x;
              y = p.y;
              earlier = p.earlier;
              inside = p.inside;
              one_link = p.one_link;
              to = p.to;
              senders = p.senders;
              passes = m;
            }) in
            absurd (subst T free stuck)
        go (inr d) (inl h) =
            or_right old more
            (made tr e (table tr i) q i (λ k x. false)
            (puts-hit tr e (table tr i) q i
            (record {
              x = p.x;
              y = p.y;
              earlier = p.earlier;
              inside = p.inside;
              one_link = p.one_link;
              to = p.to;
              senders = p.senders;
              passes = and (not (eqb v e)) (q v) (rw (ne_eqb v e d) tt) (and (has v) (table tr i t v) (rw h tt) p.passes);
            })))

    more-behind : T more → Puts tr (table tr i) i e (table tr i t)
    unfolding more
    more-behind h =
        let p = hit-puts tr e (table tr i) q i (found tr e (table tr i) q i (λ k x. false) h) in
        let v = (at tr p.x).second in
        let a = both (not (eqb v e)) (q v) p.passes in
        let c = both (has v) (table tr i t v) a.1 in
        record { x = p.x; y = p.y; earlier = p.earlier; inside = p.inside; one_link = p.one_link; to = p.to; senders = p.senders; passes = c.1 }

    gathered : T (table tr (suc i) t e) → T (eqb t e || (old || more))
    gathered h = go (new tr i t e h)
      where
        go : New tr i t e → T (eqb t e || (old || more))
        go (kept k) = or_right (eqb t e) (old || more) (or_left old more k)
        go (started a z k) = absurd (begin-no-fork (at tr i) start a)
        go (joined a z k) = absurd (begin-no-join (at tr i) start a)
        go (own a z k) = or_left (eqb t e) (old || more) (eq→eqb t e k)
        go (linked a z p) = or_right (eqb t e) (old || more) (behind_more p)

    entered : T (eqb t e || (old || more)) → T (table tr (suc i) t e)
    entered h = go (either (eqb t e) (old || more) h)
      where
        go₁ : T old ⊎ T more → T (table tr (suc i) t e)
        go₁ (inl k) = set tr i t e (kept k)
        go₁ (inr k) = set tr i t e (linked start refl (more-behind k))

        go : T (eqb t e) ⊎ T (old || more) → T (table tr (suc i) t e)
        go (inl k) = set tr i t e (own start refl (eqb→eq t e k))
        go (inr k) = go₁ (either old more k)

    gathers : table tr (suc i) t e ≡ (eqb t e || (scan_at tr i).row t)
    gathers = rw row_is (same (table tr (suc i) t e) (eqb t e || (old || more)) gathered entered)

  pub scan-gathers : T (is_begin (at tr i)) → blocked tr i ≡ false → ScanGathers tr i
  scan-gathers start free t = gathers start free t
