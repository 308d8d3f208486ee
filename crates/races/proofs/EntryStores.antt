-- Entries stored one after the other.
-- Assumes nothing.
use Prim.Native.Nat.{ℕ, zero, suc, ◌+◌, ◌*◌, ◌-◌, ◌≤◌, ◌<◌}
use mathlib.Core.Path.{◌≡◌, refl, sym, ap, ◌∙◌, subst}
use mathlib.Core.Bool.{Bool, true, false, cond, ◌&&◌}
use mathlib.Core.List.{List, [], ◌∷◌, ◌++◌, append_assoc, append-nil}
use lib.Dec.{T, eqb}
use native.Mathlib.Omega.{arith}
use native.Mathlib.Nat.{add-zero}
use native.Mathlib.Numerals.{add-one}
use lib.ListN.{length, get_or, set, length-append, length-map}
use lib.Seq.{sets, length-sets}
use Rattle.records.specs.declared.Record.{Record}
use Rattle.records.specs.Records.{at, event_of}
use Rattle.coverage.specs.Race.{raceb}
use Rattle.ranks.specs.Ranks.{ranks_of}
use Rattle.order.proofs.Counted.{counted}
use Rattle.races.specs.Traces.{is_access, setting_of}
use Rattle.races.specs.loops.FilledClocks.{FilledClocks}
use Rattle.races.specs.Lists.{shape_of}
use Rattle.races.specs.loops.Candidates.{cell, Upto, Seen, Tables, ordered_in, seen_after, firsts_from, firsts_to, Range}
use Rattle.races.specs.loops.ListPass.{from_of, firsts, with_second, listed_below, raw, raws, entry_if, Second, OneWrites, RoomIf, Writes, WritesAll, Ranges}
use Rattle.races.proofs.CandidateLaws.{racing, cell-low, access-rank, tables-next, seen-after, ordered-upto}
use Rattle.races.proofs.ListLaws.{firsts-start, firsts-yes, firsts-no, firsts-grow, firsts-skip, firsts-empty, firsts-length, below_none, below_more, below_length, quiet, way-found}

pub five-stores : (l : List ℕ) (i a b c d e : ℕ) → set (set (set (set (set l i a) (i + 1) b) (i + 2) c) (i + 3) d) (i + 4) e ≡ sets l i (a ∷ b ∷ c ∷ d ∷ e ∷ [])
five-stores l i a b c d e =
    let p : i + 1 ≡ suc i = omega arith in
    let q : i + 2 ≡ suc (suc i) = omega arith in
    let r : i + 3 ≡ suc (suc (suc i)) = omega arith in
    let s : i + 4 ≡ suc (suc (suc (suc i))) = omega arith in
    rw (p, q, r, s)

pub sets-append : (l : List ℕ) (i : ℕ) (xs ys : List ℕ) → sets l i (xs ++ ys) ≡ sets (sets l i xs) (i + length xs) ys
sets-append l i [] ys = rw add-zero
sets-append l i (x ∷ xs) ys =
    let e : i + suc (length xs) ≡ suc i + length xs = omega arith in
    rw e (sets-append (set l i x) (suc i) xs ys)

module _ (tr : List Record) where
  pub raw-length : (a b : ℕ) → length (raw tr a b) ≡ 5
  unfolding raw
  raw-length a b = refl

  raws-append : (ps qs : List (ℕ × ℕ)) → raws tr (ps ++ qs) ≡ raws tr ps ++ raws tr qs
  unfolding raws
  raws-append [] qs = refl
  raws-append ((a, b) ∷ ps) qs = ap (λ l. raw tr a b ++ l) (raws-append ps qs) ∙ sym (append_assoc (raw tr a b) (raws tr ps) (raws tr qs))

  pub raws-length : (ps : List (ℕ × ℕ)) → length (raws tr ps) ≡ 5 * length ps
  unfolding raws
  raws-length [] = refl
  raws-length ((a, b) ∷ ps) = omega (arith, length-append (raw tr a b) (raws tr ps), raw-length a b, raws-length ps)

  raws-one : (a b : ℕ) → raws tr ((a, b) ∷ []) ≡ raw tr a b
  unfolding raws
  raws-one a b = append-nil (raw tr a b)

  second-append : (b : ℕ) (xs ys : List ℕ) → with_second tr b (xs ++ ys) ≡ with_second tr b xs ++ with_second tr b ys
  second-append b [] ys = refl
  second-append b (x ∷ xs) ys = ap (λ l. (x, b) ∷ l) (second-append b xs ys)

  -- one second access, so far as its first accesses below a
  module _ (b from k : ℕ) (list : List ℕ) where
    abbrev written : ℕ → List ℕ
    written a = sets list (5 * k) (raws tr (with_second tr b (firsts tr from b a)))

    pub written_start : list ≡ written from
    unfolding raws
    written_start = rw (firsts-start tr from b)

    pub written-yes : (a : ℕ) → from ≤ a → raceb (setting_of tr) a b ≡ true → written (a + 1) ≡ sets (written a) (5 * (k + length (firsts tr from b a))) (raw tr a b)
    written-yes a l e =
        let xs = firsts tr from b a in
        let p : 5 * k + length (raws tr (with_second tr b xs)) ≡ 5 * (k + length xs) = omega (arith, raws-length (with_second tr b xs), length-map {B = ℕ × ℕ} xs (λ x. (x, b))) in
        rw (firsts-yes tr from b a l e, second-append b xs (a ∷ []), raws-append (with_second tr b xs) ((a, b) ∷ []), raws-one a b, sets-append list (5 * k) (raws tr (with_second tr b xs)) (raw tr a b), p)

    pub written-no : (a : ℕ) → raceb (setting_of tr) a b ≡ false → written (a + 1) ≡ written a
    written-no a e = rw (firsts-no tr from b a e)

  -- all second accesses below b
  pub below-written : (short : Bool) (b : ℕ) (list : List ℕ)
      → sets (sets list 0 (raws tr (listed_below tr short b))) (5 * length (listed_below tr short b)) (raws tr (with_second tr b (firsts tr (from_of tr short b) b b)))
      ≡ sets list 0 (raws tr (listed_below tr short (b + 1)))
  below-written short b list =
      let ps = listed_below tr short b in
      let qs = with_second tr b (firsts tr (from_of tr short b) b b) in
      let p : 5 * length ps ≡ 0 + length (raws tr ps) = omega (arith, raws-length ps) in
      rw (below_more tr short b, raws-append ps qs, sets-append list 0 (raws tr ps) (raws tr qs), p)

pub raw-stores : (tr : List Record) (l : List ℕ) (i a b x y : ℕ) → x ≡ (at tr b).second → y ≡ shape_of tr a b
    → set (set (set (set (set l i (a + 1)) (i + 1) (b + 1)) (i + 2) x) (i + 3) y) (i + 4) 0 ≡ sets l i (raw tr a b)
unfolding raw
raw-stores tr l i a b x y p q = five-stores l i (a + 1) (b + 1) x y 0 ∙ rw (p, q)

-- The loop over the first accesses of one second access, turn by turn; entries are written or only counted.
pub record Writing (writing : Bool) (tr : List Record) (b from k : ℕ) (list₀ list : List ℕ) (next a : ℕ) : Type 0 where
  pub next-is : next ≡ k + length (firsts tr from b a)
  pub list_is : list ≡ cond writing (sets list₀ (5 * k) (raws tr (with_second tr b (firsts tr from b a)))) list₀
  pub low : from ≤ a
  pub high : a ≤ b

pub writing_start : (writing : Bool) (tr : List Record) (b from k : ℕ) (list : List ℕ) → from ≤ b → Writing writing tr b from k list list k from
writing_start writing tr b from k list h = record {
  next-is = omega (arith, ap length (firsts-start tr from b));
  list_is = go writing;
  low = omega arith;
  high = h;
}
  where
    go : (t : Bool) → list ≡ cond t (sets list (5 * k) (raws tr (with_second tr b (firsts tr from b from)))) list
    go true = written_start tr b from k list
    go false = refl

module _ {writing : Bool} {tr : List Record} {b from k : ℕ} {list₀ list : List ℕ} {next a : ℕ} (w : Writing writing tr b from k list₀ list next a) where
  pub writing-size : length list ≡ length list₀
  writing-size = go writing w.list_is
    where
      go : (t : Bool) → list ≡ cond t (sets list₀ (5 * k) (raws tr (with_second tr b (firsts tr from b a)))) list₀ → length list ≡ length list₀
      go true e = ap length e ∙ length-sets list₀ (5 * k) (raws tr (with_second tr b (firsts tr from b a)))
      go false e = ap length e

  pub writing-few : k ≤ 4096 * b → next ≤ 4096 * b + a
  writing-few h = omega (arith, w.next-is, firsts-length tr from b a)

  pub writing-room : a < b → RoomIf writing tr b from k list₀ → T writing → raceb (setting_of tr) a b ≡ true → 5 * next + 5 ≤ length list
  writing-room l h t e = omega (arith, h.space t, writing-size, w.next-is, firsts-grow tr from b a b l w.low e)

  -- one more first access, a race or not
  writing-next-is : (t : Bool) → raceb (setting_of tr) a b ≡ t → cond t (next + 1) next ≡ k + length (firsts tr from b (a + 1))
  writing-next-is true e = omega (arith, w.next-is, ap length (firsts-yes tr from b a w.low e), length-append (firsts tr from b a) (a ∷ []))
  writing-next-is false e = w.next-is ∙ ap (λ xs. k + length xs) (sym (firsts-no tr from b a e))

  writing-list-is : (t : Bool) → raceb (setting_of tr) a b ≡ t → (u : Bool) → list ≡ cond u (sets list₀ (5 * k) (raws tr (with_second tr b (firsts tr from b a)))) list₀
      → entry_if (t && u) tr a b next list ≡ cond u (sets list₀ (5 * k) (raws tr (with_second tr b (firsts tr from b (a + 1))))) list₀
  writing-list-is true e true q = sym (written-yes tr b from k list₀ a w.low e ∙ rw (← w.next-is, ← q) refl)
  writing-list-is false e true q = q ∙ sym (written-no tr b from k list₀ a e)
  writing-list-is true e false q = q
  writing-list-is false e false q = q

  pub writing-one : a < b → (list' : List ℕ) (r : ℕ) → OneWrites writing tr a b next list list' r → Writing writing tr b from k list₀ list' r (a + 1)
  writing-one l list' r o = record {
    next-is = o.next ∙ writing-next-is (raceb (setting_of tr) a b) refl;
    list_is = o.list_is ∙ writing-list-is (raceb (setting_of tr) a b) refl writing w.list_is;
    low = omega (arith, w.low);
    high = omega arith;
  }

  -- past records that do not race with b
  pub writing-past : {r : ℕ} → a ≤ r → r ≤ b → ((x : ℕ) → a ≤ x → x < r → T (raceb (setting_of tr) x b) → ⊥) → Writing writing tr b from k list₀ list next r
  writing-past {r} l h n =
      let m = w.low in
      let f = firsts-skip tr from b a r l n in
      record {
        next-is = w.next-is ∙ ap (λ xs. k + length xs) (sym f);
        list_is = w.list_is ∙ ap (λ xs. cond writing (sets list₀ (5 * k) (raws tr (with_second tr b xs))) list₀) (sym f);
        low = omega arith;
        high = h;
      }

  pub writing-end : {to : ℕ} → to ≤ a → Range tr b from to → Writes writing tr b from k list₀ list next
  writing-end {to} h g =
      let f = firsts-skip tr from b a b w.high (λ x l m. g.none x (omega arith) m) in
      record { next = w.next-is ∙ ap (λ xs. k + length xs) (sym f); list_is = w.list_is ∙ ap (λ xs. cond writing (sets list₀ (5 * k) (raws tr (with_second tr b xs))) list₀) (sym f) }

-- a second access without races has no entries
pub no-entries : (writing : Bool) {tr : List Record} {b from : ℕ} (k : ℕ) (list : List ℕ) → ((x : ℕ) → from ≤ x → x < b → T (raceb (setting_of tr) x b) → ⊥) → Writes writing tr b from k list list k
unfolding raws
no-entries writing {tr} {b} {from} k list n = record { next = omega (arith, ap length none); list_is = go writing }
  where
    none : firsts tr from b b ≡ []
    none = firsts-empty tr from b b n

    go : (t : Bool) → list ≡ cond t (sets list (5 * k) (raws tr (with_second tr b (firsts tr from b b)))) list
    go true = rw none
    go false = refl

-- the second access of a race is an access
pub race-second : (tr : List Record) (a b : ℕ) → T (raceb (setting_of tr) a b) → T (is_access (at tr b))
race-second tr a b r = (racing tr a b r).second

-- a record that is no access is the second of none
pub no_second : {tr : List Record} {b : ℕ} → is_access (at tr b) ≡ false → (short writing : Bool) (k : ℕ) (list : List ℕ) → Writes writing tr b (from_of tr short b) k list list k
no_second {tr} {b} e short writing k list = no-entries writing k list (λ x l h r. subst T e (race-second tr x b r))

-- A way that the code finds, for the entries that the lists have.
module _ {tr : List Record} {short : Bool} {b from to : ℕ} (w : Ranges tr short b from to) where
  pub way-writes : {writing : Bool} {k : ℕ} {list list' : List ℕ} {r : ℕ} → Writes writing tr b from k list list' r → Writes writing tr b (from_of tr short b) k list list' r
  way-writes {writing} {k} {list} o = record { next = o.next ∙ ap (λ xs. k + length xs) (sym w.firsts_are); list_is = o.list_is ∙ ap (λ xs. cond writing (sets list (5 * k) (raws tr (with_second tr b xs))) list) (sym w.firsts_are) }

  pub way-room : {writing : Bool} {k : ℕ} {list : List ℕ} → RoomIf writing tr b (from_of tr short b) k list → RoomIf writing tr b from k list
  way-room r = record { few = r.few; space = λ t. omega (arith, r.space t, ap length w.firsts_are) }

-- a way with nothing on it
pub way-over : {tr : List Record} {b from to : ℕ} → Range tr b from to → to ≤ from → (writing : Bool) (k : ℕ) (list : List ℕ) → Writes writing tr b from k list list k
way-over g l writing k list = no-entries writing k list (λ x m h. g.none x (omega arith) h)

-- the loop over the second accesses, turn by turn
pub record Listing (writing : Bool) (tr : List Record) (short : Bool) (list₀ list : List ℕ) (k b : ℕ) : Type 0 where
  pub next-is : k ≡ length (listed_below tr short b)
  pub list_is : list ≡ cond writing (sets list₀ 0 (raws tr (listed_below tr short b))) list₀
  pub within : b ≤ length tr

pub listing_start : (writing : Bool) (tr : List Record) (short : Bool) (list : List ℕ) → Listing writing tr short list list 0 0
unfolding raws listed_below
listing_start writing tr short list = record { next-is = sym (ap length (below_none tr short)); list_is = go writing; within = omega arith }
  where
    go : (t : Bool) → list ≡ cond t (sets list 0 (raws tr (listed_below tr short 0))) list
    go true = refl
    go false = refl

below-grow : (tr : List Record) (short : Bool) (b d : ℕ) → length (listed_below tr short b) ≤ length (listed_below tr short (b + d))
below-grow tr short b zero = let e : b + 0 ≡ b = omega arith in rw e (omega arith)
below-grow tr short b (suc d) = let e : b + suc d ≡ b + d + 1 = omega arith in rw e (omega (arith, below-grow tr short b d, below_length tr short (b + d)))

below-few : (tr : List Record) (short : Bool) (b : ℕ) → b ≤ 4096 → length (listed_below tr short b) ≤ 4096 * b
below-few tr short zero h = omega (arith, ap length (below_none tr short))
below-few tr short (suc b) h = rw (← add-one b) (omega (arith, below-few tr short b (omega arith), below_length tr short b, firsts-length tr (from_of tr short b) b b))

module _ {writing : Bool} {tr : List Record} {short : Bool} {list₀ list : List ℕ} {k b : ℕ} (w : Listing writing tr short list₀ list k b) where
  pub listing-size : length list ≡ length list₀
  listing-size = go writing w.list_is
    where
      go : (t : Bool) → list ≡ cond t (sets list₀ 0 (raws tr (listed_below tr short b))) list₀ → length list ≡ length list₀
      go true e = ap length e ∙ length-sets list₀ 0 (raws tr (listed_below tr short b))
      go false e = ap length e

  pub listing-room : length tr ≤ 4096 → b < length tr → (T writing → 5 * length (listed_below tr short (length tr)) ≤ length list₀) → RoomIf writing tr b (from_of tr short b) k list
  listing-room few h s =
      let e : b + 1 + (length tr - (b + 1)) ≡ length tr = omega arith in
      let g = rw e at (below-grow tr short (b + 1) (length tr - (b + 1))) in
      record { few = omega (arith, w.next-is, below-few tr short b (omega arith)); space = λ t. omega (arith, s t, g, below_length tr short b, w.next-is, listing-size) }

  pub listing-next : b < length tr → (list' : List ℕ) (r : ℕ) → Writes writing tr b (from_of tr short b) k list list' r → Listing writing tr short list₀ list' r (b + 1)
  listing-next h list' r o = record {
    next-is = omega (arith, o.next, w.next-is, below_length tr short b);
    list_is = go writing o.list_is w.list_is;
    within = omega arith;
  }
    where
      go : (t : Bool) → list' ≡ cond t (sets list (5 * k) (raws tr (with_second tr b (firsts tr (from_of tr short b) b b)))) list → list ≡ cond t (sets list₀ 0 (raws tr (listed_below tr short b))) list₀ → list' ≡ cond t (sets list₀ 0 (raws tr (listed_below tr short (b + 1)))) list₀
      go true p q = p ∙ (rw (q, w.next-is) refl ∙ below-written tr short b list₀)
      go false p q = p ∙ q

  pub listing-end : length tr ≤ b → WritesAll writing tr short list₀ list k
  listing-end h =
      let u = w.within in
      let e : b ≡ length tr = omega arith in
      record { count = w.next-is ∙ ap (λ i. length (listed_below tr short i)) e; list_is = w.list_is ∙ ap (λ i. cond writing (sets list₀ 0 (raws tr (listed_below tr short i))) list₀) e }

-- a second access, by the begins before it
module _ {tr : List Record} {ranks chosen : List ℕ} {width : ℕ} {clocks : List ℕ} (f : FilledClocks tr ranks chosen width clocks) where
  pub second_at : {b begun : ℕ} → b < length tr → T (is_access (at tr b)) → begun ≡ counted tr b → Second tr ranks chosen width clocks b (begun - 1)
  second_at {b} h t e = record { filled = f; inside = h; access = t; row = ap (λ x. x - 1) (e ∙ sym (access-rank f.acceptable b h t)) }

  pub own-ranks : FilledClocks tr (ranks_of tr) chosen width clocks
  own-ranks = subst (λ r. FilledClocks tr r chosen width clocks) f.ranks_are f

-- One access: what its cell's numbers say, and what becomes of them.
module _ {tr : List Record} {ranks chosen : List ℕ} {width : ℕ} {clocks : List ℕ} {b u : ℕ} (s : Second tr ranks chosen width clocks b u) {short : Bool} {seen written : List ℕ} (w : Tables tr short b seen written)
    {kind c : ℕ} {ordered : Bool} (ek : kind ≡ (at tr b).kind) (ec : c ≡ cell tr b) (eo : ordered ≡ ordered_in chosen width clocks (get_or seen c 0) u) where
  low : cell tr b < 1025
  low = cell-low s.filled.acceptable b s.inside

  told : Seen tr short (cell tr b) b (get_or seen c 0)
  told = rw ec (w.tells (cell tr b) low)

  all-before : ordered ≡ true → Upto tr short (cell tr b) b (event_of (at tr b))
  all-before h = ordered-upto s.filled short b u (get_or seen c 0) s.inside s.row told (sym eo ∙ h)

  pub access-tables : (seen' written' : List ℕ) → seen' ≡ set seen c (seen_after ordered short kind u) → written' ≡ cond (eqb kind 6) (set written c (b + 1)) written → Tables tr short (b + 1) seen' written'
  access-tables seen' written' p q =
      tables-next tr short b (seen_after ordered short kind u) seen written low w (seen-after s.filled.acceptable b u s.inside s.row kind ek short ordered all-before) kind ek seen' written'
      (p ∙ ap (λ x. set seen x (seen_after ordered short kind u)) ec) (q ∙ ap (λ x. cond (eqb kind 6) (set written x (b + 1)) written) ec)

  pub access-quiet : ordered ≡ true → Ranges tr short b b b
  access-quiet h = record {
    range = record { low = omega arith; high = omega arith; none = λ x l k t. omega arith };
    firsts_are = firsts-empty tr (from_of tr short b) b b (quiet tr s.filled.acceptable short (all-before h)) ∙ sym (firsts-empty tr b b b (λ x l k t. omega arith));
  }

  pub access-way : (from to : ℕ) → from ≡ firsts_from short (get_or written c 0) → to ≡ firsts_to kind (get_or written c 0) b → Ranges tr short b from to
  access-way from to p q = let e = ap (λ x. get_or written x 0) ec ∙ w.last (cell tr b) low in way-found tr b kind ek short from to (p ∙ ap (firsts_from short) e) (q ∙ ap (λ x. firsts_to kind x b) e)
