-- Chains and clock rows by event number, of every accepted trace. Assumes nothing.
use Prim.Native.Nat.{ℕ, suc, ◌+◌, ◌*◌, ◌≤◌, ◌<◌, max}
use mathlib.Core.Path.{◌≡◌, refl, sym, ap, ◌∙◌, subst}
use mathlib.Core.List.Memᴰ
use mathlib.Core.List.{List, [], ◌∷◌, ◌++◌}
use mathlib.Core.Logic.{◌≢◌, ◌⊎◌, inl, inr}
use native.Mathlib.Omega.{arith}
use borrow.Author.Tests.{eq-eqb, ne_eqb}
use lib.Dec.{T, eqb, eqb→eq}
use lib.ListN.{get_or, drop}
use Rattle.records.specs.declared.Record.{Record}
use Rattle.trace.specs.Reading.{Acceptable}
use Rattle.trace.proofs.Accepted.{accepts}
use Rattle.slices.proofs.Tests.{both, decide_eq, decide-lt}
use Rattle.order.specs.Links.{Links, ◌⊢◌≼◌, leq, ◌∈◌}
use Rattle.order.specs.Chains.{lasts, used, bit}
use Rattle.order.specs.Clocks.{largest, chain_of, entry, clocks_of}
use Rattle.order.specs.HappensBefore.{Begins, Link, HappensBefore, trace_links}
use Rattle.order.specs.Rank.{rank}
use Rattle.order.specs.Fill.{events_in, row_past_width, trace_clocks}
use Rattle.order.specs.ByEvent.{row_of, chain_in, Sooner, LastOf, NewChain, ChainRule, entry_in, Largest, ClockRow, ByEvent}
use Rattle.order.proofs.CountLaws.{count_none}
use Rattle.order.proofs.OrderLaws.{leq→≼}
use Rattle.order.proofs.ChainLaws.{LastMember, lasts-last, chain-below, needs-none}
use Rattle.order.proofs.SetLaws.{largest-in}
use Rattle.order.proofs.ClockLaws.{below, entry-law, clock}
use Rattle.order.proofs.FlatLaws.{flat-read}
use Rattle.order.proofs.Theorems as rows
use Rattle.order.proofs.Counted.{counted-passes, counted-more}
use Rattle.order.proofs.TraceOrder.{begins-at, begins-rank, rank-begins, rank-one, forward-links, up, down}
use Rattle.order.proofs.TraceOrder.{link-ranked, linked-named}
use Rattle.order.proofs.TableLaws.{rank-row}
use Rattle.order.proofs.EventRows.{name_of}
use Rattle.order.proofs.TraceOrder.{named}
use Rattle.order.proofs.FilledTrace.{events-of, filled-trace}

-- the largest value in a list is 0 or that of a member
largest-reached : (ps : List ℕ) (f : ℕ → ℕ) → (largest ps f ≡ 0) ⊎ ((p : ℕ) × (p ∈ ps) × (f p ≡ largest ps f))
unfolding largest
largest-reached [] f = inl refl
largest-reached (x ∷ ps) f = go (decide-lt (f x) (largest ps f)) (largest-reached ps f)
  where
    go : (f x < largest ps f) ⊎ (largest ps f ≤ f x) → (largest ps f ≡ 0) ⊎ ((p : ℕ) × (p ∈ ps) × (f p ≡ largest ps f))
        → (max (f x) (largest ps f) ≡ 0) ⊎ ((p : ℕ) × (p ∈ x ∷ ps) × (f p ≡ max (f x) (largest ps f)))
    go (inr h) r = inr (x, Memᴰ.head refl, omega arith)
    go (inl h) (inl e) = absurd (omega arith)
    go (inl h) (inr (p, m, e)) = inr (p, Memᴰ.tail m, omega arith)

-- events and rows
module _ {tr : List Record} (a : Acceptable tr) where
  row_is : {e : ℕ} → Begins tr e → rank tr e ≡ suc (row_of tr e)
  row_is b = omega (arith, begins-rank a b)

  row_inside : {e : ℕ} → Begins tr e → row_of tr e < events_in tr
  row_inside {e} b = rank-row a e (λ z. omega (arith, row_is b, z))

  event-of : (r : ℕ) → r < events_in tr → (e : ℕ) × Begins tr e × (row_of tr e ≡ r)
  unfolding events_in
  event-of r h = let q = named a r h in (name_of tr r, rank-begins a (name_of tr r) (λ z. omega (arith, q, z)), omega (arith, q))

  same_row : {s e : ℕ} → Begins tr s → Begins tr e → row_of tr s ≡ row_of tr e → s ≡ e
  same_row {s} {e} b d h = rank-one a s e (row_of tr e) (row_is b ∙ ap suc h) (row_is d)

  sooner-row : {s e : ℕ} → Sooner tr s e → row_of tr s < row_of tr e
  sooner-row x =
      let p = begins-rank a x.first in
      let q = begins-rank a x.second in
      let m = counted-passes tr x.first.position x.second.position x.earlier (begins-at a x.first) in
      omega arith

  row-sooner : {s e : ℕ} → Begins tr s → Begins tr e → row_of tr s < row_of tr e → Sooner tr s e
  row-sooner b d h =
      let p = begins-rank a b in
      let q = begins-rank a d in
      let g : d.position ≤ b.position → ⊥ = λ z. omega (arith, counted-more tr d.position b.position z) in
      record { first = b; second = d; earlier = omega (arith, g) }

  to-rows : {s e : ℕ} → Begins tr s → Begins tr e → HappensBefore tr s e → trace_links tr ⊢ row_of tr s ≼ row_of tr e
  to-rows {s} {e} b d h =
      let (q, x, y) = up a (row_of tr s) (row_is b) h in
      let z : q ≡ row_of tr e = omega (arith, x) in
      subst (λ (v : ℕ). trace_links tr ⊢ row_of tr s ≼ v) z y

  from-rows : {s e : ℕ} → Begins tr s → Begins tr e → trace_links tr ⊢ row_of tr s ≼ row_of tr e → HappensBefore tr s e
  from-rows {s} {e} b d h = down a s e (row_is b) (row_is d) h

-- the chain rule, for an event that begins
module _ {tr : List Record} (a : Acceptable tr) {e : ℕ} (b : Begins tr e) where
  abbrev l : Links
  l = trace_links tr

  -- the event of an earlier row
  record At (t : ℕ) : Type 0 where
    event : ℕ
    begins : Begins tr event
    sooner : Sooner tr event e
    row : row_of tr event ≡ t

  at : (t : ℕ) → t < row_of tr e → At t
  at t h =
      let x = event-of a t (omega (arith, row_inside a b)) in
      record { event = x.0; begins = x.1; sooner = row-sooner a x.1 b (omega (arith, x.2)); row = x.2 }

  chain-of : {t : ℕ} (x : At t) → chain_in tr x.event ≡ chain_of l t
  chain-of x = ap (chain_of l) x.row

  last_of : (c m : ℕ) → LastMember (leq l) (row_of tr e) c m → (x : At m) → LastOf tr (chain_in tr) e c x.event
  last_of c m k x = record {
    sooner = x.sooner;
    member = chain-of x ∙ k.member;
    last = λ s y i. go s y (k.latest (row_of tr s) (sooner-row a y) i) (decide_eq (row_of tr s) m);
  }
    where
      go : (s : ℕ) → Sooner tr s e → row_of tr s ≤ m → (row_of tr s ≡ m) ⊎ (row_of tr s ≢ m) → (s ≡ x.event) ⊎ Sooner tr s x.event
      go s y h (inl i) = inl (same_row a y.first x.begins (i ∙ sym x.row))
      go s y h (inr n) = inr (row-sooner a y.first x.begins (omega (arith, x.row)))

  of-last : (c m : ℕ) → LastOf tr (chain_in tr) e c m → LastMember (leq l) (row_of tr e) c (row_of tr m)
  of-last c m g = record {
    before = sooner-row a g.sooner;
    member = g.member;
    latest = λ t i j. let x = at t i in go t x (g.last x.event x.sooner (chain-of x ∙ j));
  }
    where
      go : (t : ℕ) (x : At t) → (x.event ≡ m) ⊎ Sooner tr x.event m → t ≤ row_of tr m
      go t x (inl i) = omega (arith, x.row, ap (row_of tr) i)
      go t x (inr y) = omega (arith, x.row, sooner-row a y)

  new-chain : chain_in tr e ≡ used (leq l) (row_of tr e) → NewChain tr (chain_in tr) e (chain_in tr e)
  new-chain q = record {
    none = λ s y i. omega (arith, q, i, chain-below (leq l) (row_of tr s) (row_of tr e) (sooner-row a y));
    lower = λ d h.
        let k = lasts-last (leq l) (row_of tr e) d (omega (arith, q)) in
        let x = at (get_or (lasts (leq l) (row_of tr e)) d 0) k.before in
        (x.event, x.sooner, chain-of x ∙ k.member);
  }

  chain_rule : ChainRule tr (chain_in tr) e
  chain_rule =
      let r = rows.chain_rule l (forward-links a) (row_of tr e) in
      record { taken = go r.taken; lowest = λ d m h g k. r.lowest d (row_of tr m) h (of-last d m g) (to-rows a g.sooner.first b k) }
    where
      go : (chain_in tr e ≡ used (leq l) (row_of tr e)) ⊎ ((m : ℕ) × LastMember (leq l) (row_of tr e) (chain_in tr e) m × (l ⊢ m ≼ row_of tr e))
          → ((m : ℕ) × LastOf tr (chain_in tr) e (chain_in tr e) m × HappensBefore tr m e) ⊎ NewChain tr (chain_in tr) e (chain_in tr e)
      go (inl q) = inr (new-chain q)
      go (inr (m, k, h)) =
          let x = at m k.before in
          inl (x.event, last_of (chain_in tr e) m k x, from-rows a x.begins b (subst (λ (v : ℕ). l ⊢ v ≼ row_of tr e) (sym x.row) h))

-- the rows of clocks of a width that suffices, with anything after them
module _ {tr : List Record} (a : Acceptable tr) (w : ℕ) (enough : row_past_width tr w ≡ events_in tr) (rest : List ℕ) where
  abbrev clocks : List ℕ
  clocks = trace_clocks tr w ++ rest

  entry-is : {e : ℕ} → Begins tr e → (c : ℕ) → c < w → entry_in tr w clocks e c ≡ entry (trace_links tr) (row_of tr e) c
  unfolding trace_clocks clocks_of
  entry-is {e} b c h = flat-read w (events_in tr) rest (entry (trace_links tr)) (row_of tr e) c (row_inside a b) h

  chain_fits : {e : ℕ} → Begins tr e → chain_in tr e < w
  unfolding row_past_width
  chain_fits {e} b =
      let k = (needs-none (leq (trace_links tr)) w (events_in tr)).0 enough in
      omega (arith, k, chain-below (leq (trace_links tr)) (row_of tr e) (events_in tr) (row_inside a b))

  abbrev merged : ℕ → ℕ → ℕ
  merged e c = largest ((trace_links tr).preds (row_of tr e)) (λ p. entry (trace_links tr) p c)

  is-largest : {e : ℕ} → Begins tr e → (c : ℕ) → c < w → Largest tr w clocks e c (merged e c)
  is-largest {e} b c h = record {
    bound = bound;
    reached = reached (largest-reached ((trace_links tr).preds (row_of tr e)) (λ p. entry (trace_links tr) p c));
  }
    where
      -- an event of a rank has its row's entry
      entry_of : (p r : ℕ) → rank tr p ≡ suc r → entry_in tr w clocks p c ≡ entry (trace_links tr) r c
      entry_of p r q =
          let z : row_of tr p ≡ r = omega (arith, q) in
          entry-is (rank-begins a p (λ i. omega (arith, q, i))) c h ∙ ap (λ (v : ℕ). entry (trace_links tr) v c) z

      bound : (p : ℕ) → Link tr p e → entry_in tr w clocks p c ≤ merged e c
      bound p k =
          let g = link-ranked a k in
          let z : g.to ≡ row_of tr e = omega (arith, g.to_rank) in
          let m = subst (λ (v : ℕ). g.from ∈ (trace_links tr).preds v) z g.linked in
          let h = largest-in ((trace_links tr).preds (row_of tr e)) (λ p. entry (trace_links tr) p c) g.from m in
          omega (arith, entry_of p g.from g.from_rank, h)

      reached : (merged e c ≡ 0) ⊎ ((p : ℕ) × (p ∈ (trace_links tr).preds (row_of tr e)) × (entry (trace_links tr) p c ≡ merged e c))
          → (merged e c ≡ 0) ⊎ ((p : ℕ) × Link tr p e × (entry_in tr w clocks p c ≡ merged e c))
      reached (inl q) = inl q
      reached (inr (p, m, q)) =
          let n = linked-named a p (row_of tr e) m in
          let z : n.to_event ≡ e = rank-one a n.to_event e (row_of tr e) n.to_rank (row_is a b) in
          inr (n.from_event, subst (Link tr n.from_event) z n.linked, entry_of n.from_event p n.from_rank ∙ q)

  law : {e : ℕ} → Begins tr e → (c : ℕ) → c < w → entry_in tr w clocks e c ≡ merged e c + bit (eqb (chain_in tr e) c)
  law {e} b c h = entry-is b c h ∙ entry-law (trace_links tr) (forward-links a) (row_of tr e) c

  clock-row : (e : ℕ) → Begins tr e → ClockRow tr w clocks e
  clock-row e b = record {
    fits = chain_fits b;
    own = (merged e own, is-largest b own (chain_fits b), law b own (chain_fits b) ∙ ap (λ t. merged e own + bit t) (eq-eqb own own refl));
    others = λ c h n. (merged e c, is-largest b c h, law b c h ∙ ap (λ t. merged e c + bit t) (ne_eqb own c (λ i. n (sym i))) ∙ omega arith);
    unused = λ c h f.
        entry-is b c h
        ∙ clock (trace_links tr) (forward-links a) (row_of tr e) c
        ∙ count_none (below (trace_links tr) (row_of tr e) c) (suc (row_of tr e)) (none c f);
  }
    where
      own : ℕ
      own = chain_in tr e

      none : (c : ℕ) → ((s : ℕ) → Begins tr s → HappensBefore tr s e → chain_in tr s ≡ c → ⊥)
          → (t : ℕ) → t < suc (row_of tr e) → T (below (trace_links tr) (row_of tr e) c t) → ⊥
      none c f t h k =
          let q = both (eqb (chain_of (trace_links tr) t) c) (leq (trace_links tr) t (row_of tr e)) k in
          let x = event-of a t (omega (arith, row_inside a b)) in
          let y = leq→≼ (trace_links tr) (forward-links a) t (row_of tr e) q.1 in
          f x.0 x.1 (from-rows a x.1 b (subst (λ (v : ℕ). trace_links tr ⊢ v ≼ row_of tr e) (sym x.2) y))
          (ap (chain_of (trace_links tr)) x.2 ∙ eqb→eq (chain_of (trace_links tr) t) c q.0)

pub by-event : ByEvent
by-event = record {
  begin_order = λ b t q x e d f. let a = (accepts b t q).acceptable in (sooner-row a, row-sooner a d f);
  every_row = λ b t q r h. let p = accepts b t q in event-of p.acceptable r (omega (arith, h, events-of b t q));
  chain_rule = λ b t q e x. chain_rule (accepts b t q).acceptable x;
  clock-row = λ b t q w cs cs' k p e x.
      let f = filled-trace b t w cs k q p.answer in
      rw (p.clocks-after, f.clocks_are) (clock-row f.acceptable w (f.had_chains ∙ f.events_are) (drop (t.events * w) cs) e x);
}
