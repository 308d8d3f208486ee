-- What a reply tells of a call on clocks: which tests it passed, and where it stopped.
-- Assumes nothing.
use Prim.Native.Nat.{ℕ}
use mathlib.Core.Path.{◌≡◌, refl}
use mathlib.Core.Bool.{Bool, true, false}
use mathlib.Core.List.{List}
use lib.Dec.{eqb}
use Rattle.records.specs.declared.Trace.{Trace}
use Rattle.trace.specs.Reply.{Reply, refused, gives, demand, then}
use Rattle.trace.specs.Reading.{records_in, read_reply, Accepts}
use Rattle.trace.proofs.ReplyLaws.{not-both, same-given, passed, given_by}
use Rattle.clocks.specs.Rows.{space_for}
use Rattle.order.specs.Fill.{row_past_width}
use Rattle.order.specs.Lent.{asking, spaces, spaced, enough_chains, on_clocks}

-- 11
module _ (b : List ℕ) (there : Trace → Bool) (t : Trace) where
  pub record Asks : Type 0 where
    pub accepted : Accepts b t
    pub is_there : there t ≡ true

  pub asks : gives t ≡ asking b there → Asks
  unfolding asking
  asks e =
      let g = given_by (read_reply b) _ t e in
      let p = passed _ _ _ _ t g.2 in
      rw (same-given p.1) (record { accepted = g.1; is_there = p.0 })

-- two tests that agree on what is read
pub same-asking : (b : List ℕ) (f g : Trace → Bool) → ((t : Trace) → Accepts b t → f t ≡ g t) → asking b f ≡ asking b g
unfolding asking then
same-asking b f g h = go (read_reply b) refl
  where
    go : (x : Reply Trace) → x ≡ read_reply b → then x (λ t. demand (f t) 11 0 (gives t)) ≡ then x (λ t. demand (g t) 11 0 (gives t))
    go (refused n p) e = refl
    go (gives t) e = rw (h t e)

-- a test that passes
pub none-asking : (b : List ℕ) (f : Trace → Bool) → ((t : Trace) → f t ≡ true) → asking b f ≡ read_reply b
unfolding asking then demand
none-asking b f h = go (read_reply b)
  where
    go : (x : Reply Trace) → then x (λ t. demand (f t) 11 0 (gives t)) ≡ x
    go (refused n p) = refl
    go (gives t) = rw (h t)

-- 21 and 22
module _ (found : Reply Trace) (width clocks : ℕ) (work : ℕ → Bool) (t : Trace) where
  pub record Fits : Type 0 where
    pub found-is : gives t ≡ found
    pub has-space : space_for width t.events clocks ≡ true
    pub has_work : work t.events ≡ true

  pub fits : gives t ≡ spaced found width clocks work → Fits
  unfolding spaced spaces
  fits e =
      let g = given_by found _ t e in
      let p = passed _ _ _ _ t g.2 in
      let q = passed _ _ _ _ t p.1 in
      rw (same-given q.1) (record { found-is = g.1; has-space = p.0; has_work = q.0 })

  pub fitted : Fits → gives t ≡ spaced found width clocks work
  unfolding spaced spaces then demand
  fitted f = rw (← f.found-is, f.has-space, f.has_work)

-- two tests of the work space that agree on what was found
pub same-work : (found : Reply Trace) (width clocks : ℕ) (f g : ℕ → Bool) → ((t : Trace) → gives t ≡ found → f t.events ≡ g t.events)
    → spaced found width clocks f ≡ spaced found width clocks g
unfolding spaced then
same-work (refused n p) width clocks f g h = refl
same-work (gives t) width clocks f g h = rw (h t refl)

-- 23
module _ {A : Type 0} (b : List ℕ) (ready : Reply Trace) (width : ℕ) where
  -- the clocks are filled
  pub record Filling (next : Trace → Reply A) (a : A) : Type 0 where
    pub trace : Trace
    pub ready_is : gives trace ≡ ready
    pub enough : eqb (row_past_width (records_in b trace) width) trace.events ≡ true
    pub answers : gives a ≡ next trace

  pub filling : (next : Trace → Reply A) (a : A) → gives a ≡ on_clocks b ready width next → Filling next a
  unfolding on_clocks enough_chains
  filling next a e =
      let g = given_by ready _ a e in
      let p = passed _ _ _ _ a g.2 in
      record { trace = g.0; ready_is = g.1; enough = p.0; answers = p.1 }

  pub filled : (next : Trace → Reply A) (t : Trace) → gives t ≡ ready → eqb (row_past_width (records_in b t) width) t.events ≡ true → on_clocks b ready width next ≡ next t
  unfolding on_clocks then enough_chains demand
  filled next t e h = rw (← e, h)

-- a refusal of a call that answers whatever trace it goes on with is one of every call
pub stays : {A B : Type 0} (b : List ℕ) (ready : Reply Trace) (width : ℕ) (f : Trace → A) (next : Trace → Reply B) (n p : ℕ)
    → on_clocks b ready width (λ t. gives (f t)) ≡ refused n p → on_clocks b ready width next ≡ refused n p
unfolding on_clocks then enough_chains demand
stays b (refused k q) width f next n p e = cc
stays b (gives t) width f next n p e = go (eqb (row_past_width (records_in b t) width) t.events) refl
  where
    go : (x : Bool) → eqb (row_past_width (records_in b t) width) t.events ≡ x → enough_chains (records_in b t) t.events width (next t) ≡ refused n p
    go true h = absurd (not-both (f t) n p (rw h at e))
    go false h = rw h (let q = rw h at e in cc)
