-- How the pair question on an accepted trace ends. Assumes nothing.
use Prim.Native.Nat.{ℕ, ◌*◌, ◌-◌, ◌/◌, ◌≤◌, ◌<◌}
use mathlib.Core.Path.{◌≡◌, refl, sym, ap, ◌∙◌, subst}
use mathlib.Core.Logic.{◌≢◌}
use mathlib.Core.Bool.{Bool, true, false}
use mathlib.Core.List.{List, ◌++◌}
use native.Mathlib.Omega.{arith}
use borrow.Author.Tests.{le-leb, lt-leb, le-ltb}
use lib.Dec.{T}
use lib.ListN.{length, get_or, drop, replicate}
use Rattle.records.specs.declared.Record.{Record}
use Rattle.records.specs.Records.{at, event_of}
use Rattle.ranks.specs.Ranks.{ranks_of}
use Rattle.order.specs.Fill.{chains_used}
use Rattle.coverage.specs.Race.{Race, raceb}
use Rattle.coverage.specs.Leading.{coveredb, entries}
use Rattle.coverage.proofs.Order.{race-of}
use Rattle.std.proofs.Common.{Result, Ok}
use Rattle.trace.specs.declared.Refusal.{Refusal}
use Rattle.pair.specs.declared.Verdict.{Verdict}
use Rattle.pair.specs.declared.Verdict.TheVariants.{Open, Covered}
use Rattle.races.specs.Traces.{setting_of}
use Rattle.races.specs.loops.FilledClocks.{FilledClocks, rows, Clear}
use Rattle.pair.specs.loops.Leading.{mark, Marks}
use Rattle.trace.specs.Reply.{refused, gives, demand}
use Rattle.pair.specs.Pair.{is_open, pair_paper, answered, with_entries, kept_entries, pair_filled, GivesCover}
use Rattle.pair.specs.loops.Answers.{AnswersRace, AnswersFilled}
use Rattle.pair.specs.loops.Kept.{Markable, MarksKept}
use Rattle.races.proofs.FilledLaws.{ranks-length}
use Rattle.races.proofs.CandidateLaws.{racing}
use Rattle.pair.proofs.RecordRows.{row_low}
use Rattle.pair.proofs.RowMarks.{marks-tell, marks-room}
use Rattle.pair.proofs.CoverLaws.{row_told}

-- A race, by its mark.
module _ (tr : List Record) (a b : ℕ) (list list' : List ℕ) (k : ℕ) where
  pub answers-covered : coveredb (setting_of tr) a b ≡ true → GivesCover tr a b k list list' → AnswersRace tr a b list list' (Ok (Covered k))
  unfolding answered
  answers-covered e g = record { answer = rw e; list-after = rw e g }

  pub answers-open : coveredb (setting_of tr) a b ≡ false → k ≡ length (entries (setting_of tr) b) → list' ≡ with_entries (kept_entries tr b) list → AnswersRace tr a b list list' (Ok (Open k))
  unfolding answered
  answers-open e n g = record { answer = rw e (ap (λ (x : ℕ). gives (is_open x)) n); list-after = rw e g }

-- Records a and b over filled clocks.
module _ (tr : List Record) (events a b : ℕ) (list : List ℕ) (r : Result Verdict Refusal) where
  refuses-filled : (n : ℕ) → pair_filled tr events (length list) a b ≡ refused n 0 → pair_paper r ≡ refused n 0 → AnswersFilled tr events a b list list r
  refuses-filled n e f = record { answer = f ∙ sym e; list-after = rw e refl }

  pub no_race : raceb (setting_of tr) a b ≡ false → pair_paper r ≡ refused 12 0 → AnswersFilled tr events a b list list r
  unfolding pair_filled demand
  no_race e = refuses-filled 12 (rw e)

  pub no-list : raceb (setting_of tr) a b ≡ true → length list / 2 < events → pair_paper r ≡ refused 24 0 → AnswersFilled tr events a b list list r
  unfolding pair_filled demand
  no-list e l = refuses-filled 24 (rw (e, lt-leb events (length list / 2) l))

  pub race-answered : raceb (setting_of tr) a b ≡ true → events ≤ length list / 2 → (list' : List ℕ) → AnswersRace tr a b list list' r → AnswersFilled tr events a b list list' r
  unfolding pair_filled demand
  race-answered e l list' g = record { answer = rw (e, le-leb events (length list / 2) l) g.answer; list-after = rw (e, le-leb events (length list / 2) l) g.list-after }

pub out_of_order : (tr : List Record) (a b : ℕ) → b ≤ a → raceb (setting_of tr) a b ≡ false
unfolding raceb
out_of_order tr a b l = rw (le-ltb a b l)

-- A race over filled clocks: what leads to b is marked, read and taken away again.
module _ {tr : List Record} {ranks chosen : List ℕ} {width : ℕ} {clocks : List ℕ} (f : FilledClocks tr ranks chosen width clocks) {events : ℕ} {work : List ℕ} (w : Clear tr events work) (a b : ℕ) (e : raceb (setting_of tr) a b ≡ true) where
  race : Race (setting_of tr) a b
  race = race-of (setting_of tr) a b (subst T (sym e) tt)

  first_inside : a < length tr
  first_inside = omega (arith, race.first, race.inside)

  filled-by : (ranks' : List ℕ) → ranks' ≡ ranks_of tr → FilledClocks tr ranks' chosen width clocks
  filled-by ranks' q = record { acceptable = f.acceptable; ranks_are = q; chosen_are = f.chosen_are; narrow = f.narrow; enough = f.enough; rest = f.rest; clocks_are = f.clocks_are }

  pub markable : {chains : ℕ} → chains ≡ chains_used tr → {u : ℕ} → u ≡ get_or ranks (event_of (at tr b)) 0 - 1 → Markable tr chosen width chains clocks work ranks u b
  markable k q = record {
    filled = filled-by (ranks_of tr) refl;
    chains_are = k;
    clear = record { events_are = refl; work_room = w.work_room; zeros = w.zeros };
    row_room = omega (arith, ranks-length f);
    access = (racing tr a b (subst T (sym e) tt)).second;
    row_is = sym (row_told f b race.inside q);
  }

  module _ {work' : List ℕ} (m : MarksKept tr b work work') {t : ℕ} (q : t ≡ get_or ranks (event_of (at tr a)) 0 - 1) where
    mark-of-a : get_or work' t 0 ≡ mark (coveredb (setting_of tr) a b)
    mark-of-a = ap (λ (r : ℕ). get_or work' r 0) (sym (row_told f a first_inside q)) ∙ marks-tell m.marks a first_inside

    pub row_in : t < length work'
    row_in = omega (arith, row_told f a first_inside q, row_low f.acceptable a first_inside, marks-room m.marks)

    covered-if : (x : Bool) → get_or work' t 0 ≡ mark x → get_or work' t 0 ≡ 1 → x ≡ true
    covered-if true o z = refl
    covered-if false o z = absurd (omega arith)

    open-if : (x : Bool) → get_or work' t 0 ≡ mark x → get_or work' t 0 ≢ 1 → x ≡ false
    open-if true o n = absurd (n o)
    open-if false o n = refl

    is-covered : get_or work' t 0 ≡ 1 → coveredb (setting_of tr) a b ≡ true
    is-covered z = covered-if (coveredb (setting_of tr) a b) mark-of-a z

    room : (list : List ℕ) → events ≤ length list / 2 → 2 * rows tr ≤ length list
    room list l = omega (arith, w.events_are)

    -- what writing the entries takes, and what it gives
    pub for-cover : get_or work' t 0 ≡ 1 → (ranks' : List ℕ) → ranks' ≡ ranks_of tr → (list : List ℕ) → events ≤ length list / 2 → (FilledClocks tr ranks' chosen width clocks × Marks tr ranks' work' b) × (Race (setting_of tr) a b × T (coveredb (setting_of tr) a b) × (2 * rows tr ≤ length list))
    for-cover z ranks' o list l = ((filled-by ranks' o, record { acceptable = f.acceptable; ranks_are = o; inside = race.inside; work_is = m.marks.work_is }), (race, subst T (sym (is-covered z)) tt, room list l))

    pub for-kept : (list : List ℕ) → events ≤ length list / 2 → Marks tr (ranks_of tr) work' b × (2 * rows tr ≤ length list)
    for-kept list l = (m.marks, room list l)

    pub covered : get_or work' t 0 ≡ 1 → (list list' : List ℕ) (k : ℕ) → events ≤ length list / 2 → GivesCover tr a b k list list' → AnswersFilled tr events a b list list' (Ok (Covered k))
    covered z list list' k l g = race-answered tr events a b list (Ok (Covered k)) e l list' (answers-covered tr a b list list' k (is-covered z) g)

    pub uncovered : get_or work' t 0 ≢ 1 → (list list' : List ℕ) (k : ℕ) → events ≤ length list / 2 → (k ≡ length (entries (setting_of tr) b)) × (list' ≡ with_entries (kept_entries tr b) list) → AnswersFilled tr events a b list list' (Ok (Open k))
    uncovered n list list' k l (x, y) = race-answered tr events a b list (Ok (Open k)) e l list' (answers-open tr a b list list' k (open-if (coveredb (setting_of tr) a b) mark-of-a n) x y)

  module _ {work' : List ℕ} (m : MarksKept tr b work work') where
    pub marks-fit : events ≤ length work'
    marks-fit = omega (arith, w.events_are, marks-room m.marks)

    pub as_before : (after : List ℕ) → after ≡ replicate events 0 ++ drop events work' → after ≡ work
    as_before after o = o ∙ (rw w.events_are (ap (λ (l : List ℕ). replicate (rows tr) 0 ++ l) m.rest.beyond) ∙ sym w.zeros)
