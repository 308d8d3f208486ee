-- What the list over numbers leaves, copied into the pairs, is what the lists as pair structs promise.
-- Assumes nothing.
use Prim.Native.Nat.{ℕ, zero, suc, ◌+◌, ◌*◌, ◌/◌, ◌≤◌, ◌<◌}
use mathlib.Core.Path.{◌≡◌, refl, sym, ap, ◌∙◌, subst}
use mathlib.Core.Bool.{Bool, true, false, ◌&&◌}
use mathlib.Core.List.{List, [], ◌∷◌, ◌++◌, map, append_assoc}
use native.Mathlib.Omega.{arith}
use native.Mathlib.Nat.{le_of_suc-le-suc, not-suc-le-zero, min-le_left, min-le_right}
use borrow.Author.Tests.{leb-true, leb-false, le-leb, lt-leb}
use lib.Dec.{leb}
use lib.ListN.{length, get_or, set, take, drop, length-map, take-append-drop}
use lib.Seq.{length-take-le, take-length, take-suc, drop-cons, append_snoc, set_at}
use Rattle.records.specs.declared.Record.{Record}
use Rattle.trace.specs.Reply.{Reply, refused, gives, unless}
use Rattle.trace.specs.Reading.{read_reply, records_read}
use Rattle.trace.proofs.Accepted.{records-read}
use Rattle.trace.proofs.ReplyLaws.{same-given, passed}
use Rattle.order.specs.Lent.{work_for}
use Rattle.order.proofs.LentLaws as lent
use Rattle.std.proofs.Common.{Result, Ok, Err}
use Rattle.trace.specs.declared.Refusal.{Refusal}
use Rattle.races.specs.declared.Summary.{Summary}
use Rattle.races.specs.Lists.{pairs_of, entry, numbers, list_for, list_filled, list_ready, list_reply, list_after}
use Rattle.races.specs.Paper.{list_paper, Lists}
use Rattle.pair_lists.specs.declared.Pair.{Pair}
use Rattle.pair_lists.specs.Pairs.{no_pair, pair_of, space, pairs_after, PairLists}
use Rattle.pair_lists.specs.loops.Copying.{count_in, Within, pair_at, puts}

-- ---- the count of a reply, and how it stands to the list and to the space
unfoldable count_of : Reply Summary → ℕ
count_of (refused n p) = 0
count_of (gives s) = s.count

counted_is : (l : Result Summary Refusal) → count_in l ≡ count_of (list_paper l)
unfolding count_of
counted_is (Ok s) = refl
counted_is (Err f) = refl

unfoldable Fine : List (ℕ × ℕ) → ℕ → Reply Summary → Type 0
Fine ps list (refused n p) = Unit {0}
Fine ps list (gives s) = (s.count ≡ length ps) × (5 * s.count ≤ list)

fine-reply : (short : Bool) (b : List ℕ) (width clocks work list : ℕ) → Fine (pairs_of (records_read b) short) list (list_reply short b width clocks work list)
unfolding Fine list_reply list_ready list_filled
fine-reply short b width clocks work list = go (list_reply short b width clocks work list) refl
  where
    go : (x : Reply Summary) → x ≡ list_reply short b width clocks work list → Fine (pairs_of (records_read b) short) list x
    go (refused n p) e = tt
    go (gives s) e =
        let g = lent.filling b _ width _ s e in
        let r = (lent.fits (read_reply b) width clocks (work_for work) g.trace g.ready_is).found-is in
        let p = passed _ _ _ _ s g.answers in
        let q = records-read b g.trace r in
        let c : s.count ≡ length (pairs_of (records_read b) short) = rw q (ap (λ (x : Summary). x.count) (same-given p.1)) in
        (c, omega (arith, rw (← q) at (leb-true _ (list / 5) p.0)))

-- ---- the pairs are set, place by place
puts-taken : (ps qs : List Pair) (l : List ℕ) → ((i : ℕ) → i < length qs → pair_at l i ≡ get_or qs i no_pair) → (n : ℕ) → n ≤ length qs → n ≤ length ps → puts ps l n ≡ take n qs ++ drop n ps
puts-taken ps qs l says zero a b = refl
puts-taken ps qs l says (suc n) a b =
    let a' : n ≤ length qs = omega arith in
    let b' : n ≤ length ps = omega arith in
    let p : n < length qs = omega arith in
    let q : n < length ps = omega arith in
    ap (λ (xs : List Pair). set xs n (pair_at l n)) (puts-taken ps qs l says n a' b' ∙ ap (λ (ys : List Pair). take n qs ++ ys) (drop-cons ps n no_pair q))
    ∙ set_at (take n qs) (get_or ps n no_pair) (drop (suc n) ps) (pair_at l n) n (length-take-le n qs a')
    ∙ ap (λ (x : Pair). take n qs ++ x ∷ drop (suc n) ps) (says n p)
    ∙ sym (append_snoc (take n qs) (get_or qs n no_pair) (drop (suc n) ps))
    ∙ ap (λ (xs : List Pair). xs ++ drop (suc n) ps) (sym (take-suc qs n no_pair p))

module _ (tr : List Record) (rest : List ℕ) where
  -- five numbers of the list say one pair
  pub entry-says : (ps : List (ℕ × ℕ)) (i : ℕ) → i < length (map (pair_of tr) ps) → pair_at (numbers tr ps ++ rest) i ≡ get_or (map (pair_of tr) ps) i no_pair
  unfolding numbers entry pair_of
  entry-says [] i h = absurd (not-suc-le-zero h)
  entry-says ((a, b) ∷ ps) zero h = refl
  entry-says ((a, b) ∷ ps) (suc i) h =
      let e : 5 * suc i ≡ suc (suc (suc (suc (suc (5 * i))))) = omega arith in
      let e₁ : 5 * suc i + 1 ≡ suc (suc (suc (suc (suc (5 * i + 1))))) = omega arith in
      let e₂ : 5 * suc i + 2 ≡ suc (suc (suc (suc (suc (5 * i + 2))))) = omega arith in
      let e₃ : 5 * suc i + 3 ≡ suc (suc (suc (suc (suc (5 * i + 3))))) = omega arith in
      let e₄ : 5 * suc i + 4 ≡ suc (suc (suc (suc (suc (5 * i + 4))))) = omega arith in
      rw (e₁, e₂, e₃, e₄, e) (entry-says ps i (le_of_suc-le-suc h))

  all_set : (ps : List (ℕ × ℕ)) (pairs : List Pair) → length ps ≤ length pairs → puts pairs (numbers tr ps ++ rest) (length ps) ≡ map (pair_of tr) ps ++ drop (length ps) pairs
  all_set ps pairs h =
      let l = length-map ps (pair_of tr) in
      let a : length ps ≤ length (map (pair_of tr) ps) = omega (arith, l) in
      puts-taken pairs (map (pair_of tr) ps) (numbers tr ps ++ rest) (entry-says ps) (length ps) a h
      ∙ ap (λ (xs : List Pair). xs ++ drop (length ps) pairs) (ap (λ (k : ℕ). take k (map (pair_of tr) ps)) (sym l) ∙ take-length (map (pair_of tr) ps))

-- ---- by the reply
room_of : (ps : List (ℕ × ℕ)) (list room : ℕ) (r : Reply Summary) → list ≤ 5 * room → Fine ps list r → count_of r ≤ room
unfolding Fine count_of
room_of ps list room (refused n p) h f = omega arith
room_of ps list room (gives s) h f = omega (arith, f.1)

size_of : (ps : List (ℕ × ℕ)) (list : ℕ) (r : Reply Summary) → Fine ps list r → 5 * count_of r ≤ list
unfolding Fine count_of
size_of ps list (refused n p) f = omega arith
size_of ps list (gives s) f = f.1

after-reply : (tr : List Record) (ps : List (ℕ × ℕ)) (list : ℕ) (r : Reply Summary) (l : List ℕ) (pairs : List Pair) → list ≤ 5 * length pairs → Fine ps list r → puts pairs (list_after tr r ps l) (count_of r) ≡ pairs_after tr r ps pairs
unfolding Fine count_of list_after pairs_after unless
after-reply tr ps list (refused n p) l pairs h f = refl
after-reply tr ps list (gives s) l pairs h f =
    let g : length ps ≤ length pairs = omega (arith, f.0, f.1) in
    ap (puts pairs (numbers tr ps ++ drop (5 * length ps) l)) f.0 ∙ all_set tr (drop (5 * length ps) l) ps pairs g

-- ---- a front of the numbers that is written, and the rest
drop-part : (j k : ℕ) (l : List ℕ) → j ≤ k → drop j (take k l) ++ drop k l ≡ drop j l
drop-part zero k l h = take-append-drop k l
drop-part (suc j) zero l h = absurd (not-suc-le-zero h)
drop-part (suc j) (suc k) [] h = refl
drop-part (suc j) (suc k) (x ∷ l) h = drop-part j k l (le_of_suc-le-suc h)

front-reply : (tr : List Record) (ps : List (ℕ × ℕ)) (k : ℕ) (r : Reply Summary) (l : List ℕ) → Fine ps k r → list_after tr r ps (take k l) ++ drop k l ≡ list_after tr r ps l
unfolding Fine list_after unless
front-reply tr ps k (refused n p) l f = take-append-drop k l
front-reply tr ps k (gives s) l f =
    let h : 5 * length ps ≤ k = omega (arith, f.0, f.1) in
    append_assoc (numbers tr ps) (drop (5 * length ps) (take k l)) (drop k l) ∙ ap (λ (xs : List ℕ). numbers tr ps ++ xs) (drop-part (5 * length ps) k l h)

-- ---- by the bytes
module _ (short : Bool) (b : List ℕ) (width clocks work : ℕ) where
  abbrev reply : ℕ → Reply Summary
  reply = list_reply short b width clocks work

  abbrev tr : List Record
  tr = records_read b

  pairs-read : (list : ℕ) (l : List ℕ) (pairs : List Pair) → list ≤ 5 * length pairs
      → puts pairs (list_after tr (reply list) (pairs_of tr short) l) (count_of (reply list)) ≡ pairs_after tr (reply list) (pairs_of tr short) pairs
  pairs-read list l pairs h = after-reply tr _ list (reply list) l pairs h (fine-reply short b width clocks work list)

  front_read : (k : ℕ) (l : List ℕ) → length (take k l) ≡ k
      → list_after tr (reply (length (take k l))) (pairs_of tr short) (take k l) ++ drop k l ≡ list_after tr (reply k) (pairs_of tr short) l
  front_read k l e =
      ap (λ (i : ℕ). list_after tr (reply i) (pairs_of tr short) (take k l) ++ drop k l) e ∙ front-reply tr (pairs_of tr short) k (reply k) l (fine-reply short b width clocks work k)

-- ---- the promises
module _ {short : Bool} {b : List ℕ} {width : ℕ} {clocks clocks' work work' : List ℕ} where
  -- the list over a front of the numbers
  pub within : (l part' : List ℕ) (k room : ℕ) (r : Result Summary Refusal) → k ≡ space (length l) room → Lists short b width clocks clocks' work work' (take k l) part' r
      → Within short b width clocks clocks' work work' l (part' ++ drop k l) room r
  within l part' k room r e w =
      let h : k ≤ length l = subst (λ (i : ℕ). i ≤ length l) (sym e) (min-le_left (length l) (5 * room)) in
      let t = length-take-le k l h in
      record {
        answer = w.answer ∙ ap (list_reply short b width (length clocks) (length work)) (t ∙ e);
        clocks-after = w.clocks-after;
        work-after = w.work-after;
        numbers_after = ap (λ (xs : List ℕ). xs ++ drop k l) w.list-after ∙ front_read short b width (length clocks) (length work) k l t
            ∙ ap (λ (i : ℕ). list_after (records_read b) (list_reply short b width (length clocks) (length work) i) (pairs_of (records_read b) short) l) e;
      }

  module _ {l l' : List ℕ} {room : ℕ} {r : Result Summary Refusal} (w : Within short b width clocks clocks' work work' l l' room r) where
    count-is : count_in r ≡ count_of (list_reply short b width (length clocks) (length work) (space (length l) room))
    count-is = counted_is r ∙ ap count_of w.answer

    pub fits : (count_in r ≤ room) × (5 * count_in r ≤ length l)
    fits =
        let f = fine-reply short b width (length clocks) (length work) (space (length l) room) in
        let p = room_of _ (space (length l) room) room _ (min-le_right (length l) (5 * room)) f in
        let q = size_of _ (space (length l) room) _ f in
        let h = min-le_left (length l) (5 * room) in
        (omega (arith, p, count-is), omega (arith, q, h, count-is))

  pub copied : {l l' : List ℕ} {pairs pairs' : List Pair} {r : Result Summary Refusal} → Within short b width clocks clocks' work work' l l' (length pairs) r → pairs' ≡ puts pairs l' (count_in r)
      → PairLists short b width clocks clocks' work work' l l' pairs pairs' r
  copied {l} {l'} {pairs} {pairs'} {r} w e = record {
    answer = w.answer;
    clocks-after = w.clocks-after;
    work-after = w.work-after;
    numbers_after = w.numbers_after;
    pairs-after = e ∙ rw (w.numbers_after, count-is w) (pairs-read short b width (length clocks) (length work) (space (length l) (length pairs)) l pairs (min-le_right (length l) (5 * length pairs)));
  }

  -- the pairs and the numbers say the same: each of the first pairs is what five numbers say
  pub both_say : {l l' : List ℕ} {pairs pairs' : List Pair} {r : Result Summary Refusal} → PairLists short b width clocks clocks' work work' l l' pairs pairs' r → pairs' ≡ puts pairs l' (count_in r)
  both_say {l} {l'} {pairs} {pairs'} {r} w =
      let c : count_in r ≡ count_of (list_reply short b width (length clocks) (length work) (space (length l) (length pairs))) = counted_is r ∙ ap count_of w.answer in
      w.pairs-after ∙ sym (rw (w.numbers_after, c) (pairs-read short b width (length clocks) (length work) (space (length l) (length pairs)) l pairs (min-le_right (length l) (5 * length pairs))))

-- 24: the list has more entries than the numbers hold, or more than there are pairs
pub either-space : (count numbers pairs : ℕ) → list_for count (space numbers pairs) ≡ (leb count (numbers / 5) && leb count pairs)
either-space count numbers pairs = go (leb count (numbers / 5)) refl (leb count pairs) refl
  where
    go : (s : Bool) → leb count (numbers / 5) ≡ s → (t : Bool) → leb count pairs ≡ t → leb count (space numbers pairs / 5) ≡ (s && t)
    go true e true f = le-leb count (space numbers pairs / 5) (omega (arith, leb-true count (numbers / 5) e, leb-true count pairs f))
    go true e false f = lt-leb count (space numbers pairs / 5) (omega (arith, leb-false count pairs f))
    go false e true f = lt-leb count (space numbers pairs / 5) (omega (arith, leb-false count (numbers / 5) e))
    go false e false f = lt-leb count (space numbers pairs / 5) (omega (arith, leb-false count (numbers / 5) e))
