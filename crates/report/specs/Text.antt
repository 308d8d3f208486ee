-- What the trace program prints, as lines of bytes, for every input. Assumes nothing.
use Rattle.std.specs.Prelude.{ℕ, zero, suc, ◌+◌, ◌*◌, ◌≤◌, ◌≡◌, true, cond, List, [], ◌∷◌, ◌++◌, ltb, length, get_or, drop}
use Rattle.records.specs.declared.Record.{Record}
use Rattle.records.specs.Records.{at}
use Rattle.records.specs.declared.Trace.{Trace}
use Rattle.trace.specs.Reply.{Reply, refused, gives}
use Rattle.trace.specs.Reading.{records_read, Accepts}
use Rattle.races.specs.declared.Summary.{Summary}
use Rattle.slices.specs.Slices.{zeros}
use Rattle.races.specs.Lists.{entry_numbers, list_reply, pairs_of, shape_of, mark_of}
use Rattle.listing.specs.Lines.{header_line, pair_line, refused_line, put_at, after_line}

-- "then the short list: first, second, cell, shape (ww, wr or rw, first access then second), mark (open or covered)."; records are numbered from 1
unfoldable pub pair_lines : List Record → List (ℕ × ℕ) → List (List ℕ)
pair_lines tr [] = []
pair_lines tr ((a, b) ∷ ps) = pair_line (a + 1) (b + 1) (at tr b).second (shape_of tr a b) (mark_of tr a b) ∷ pair_lines tr ps

-- "prints one header line .., then the short list"; "A refusal prints one line only"
unfoldable pub reply_lines : List Record → Reply Summary → List (List ℕ)
reply_lines tr (refused n p) = refused_line n p ∷ []
reply_lines tr (gives s) = header_line s.events s.records s.chains s.count ∷ pair_lines tr (pairs_of tr true)

-- "uses width 32 and spaces that never give 22 or 24": 32 × 1,024 clocks, 1,024 bytes, 8,192 entries
abbrev pub program_reply : List ℕ → Reply Summary
program_reply b = list_reply true b 32 32768 1024 40960

-- the sentence as a theorem, which adds that 21 is never given either: an accepted trace is refused by 23 alone
abbrev pub SpacesSuffice : Type 0
SpacesSuffice = (b : List ℕ) (t : Trace) → Accepts b t → (k p : ℕ) → program_reply b ≡ refused k p → k ≡ 23

-- "13: program only, more than 32,768 bytes."; "Order: 13, 1, 2, 3, .."
unfoldable pub lines_of : List ℕ → List (List ℕ)
lines_of b = cond (ltb 32768 (length b)) (refused_line 13 0 ∷ []) (reply_lines (records_read b) (program_reply b))

-- the whole text
unfoldable pub text : List (List ℕ) → List ℕ
text [] = []
text (l ∷ ls) = l ++ text ls

-- Lines printed one after the other into lent bytes, each where it fits: the bytes then, and the position after them.
unfoldable pub put_lines : List ℕ → ℕ → List (List ℕ) → List ℕ
put_lines s at [] = s
put_lines s at (l ∷ ls) = put_lines (put_at s at l) (after_line s at l) ls

unfoldable pub after_lines : List ℕ → ℕ → List (List ℕ) → ℕ
after_lines s at [] = at
after_lines s at (l ∷ ls) = after_lines (put_at s at l) (after_line s at l) ls

pub record Prints (s : List ℕ) (at : ℕ) (ls : List (List ℕ)) (s' : List ℕ) (r : ℕ) : Type 0 where
  pub contents : s' ≡ put_lines s at ls
  pub answer : r ≡ after_lines s at ls

-- the line of entry i of a list of numbers, and of k entries from i on
unfoldable pub entry_line : List ℕ → ℕ → List ℕ
entry_line list i =
    pair_line (get_or list (entry_numbers * i) 0) (get_or list (entry_numbers * i + 1) 0) (get_or list (entry_numbers * i + 2) 0)
    (get_or list (entry_numbers * i + 3) 0) (get_or list (entry_numbers * i + 4) 0)

unfoldable pub entry_lines : List ℕ → ℕ → ℕ → List (List ℕ)
entry_lines list i zero = []
entry_lines list i (suc k) = entry_line list i ∷ entry_lines list (suc i) k

-- the program's spaces
abbrev pub no_clocks : List ℕ
no_clocks = zeros 32768

abbrev pub no_work : List ℕ
no_work = zeros 1024

abbrev pub no_list : List ℕ
no_list = zeros 40960

-- The whole text stands from the first byte on, the bytes after it are as before, and the answer is its length.
pub record Whole (b s s' : List ℕ) (r : ℕ) : Type 0 where
  pub contents : s' ≡ text (lines_of b) ++ drop (length (text (lines_of b))) s
  pub answer : r ≡ length (text (lines_of b))

-- In 262,144 bytes, the space that the trace program lends, no line of any input's text is left out.
abbrev pub WholeForEveryInput : Type 0
WholeForEveryInput = (b s s' : List ℕ) (r : ℕ) → 262144 ≤ length s → Prints s 0 (lines_of b) s' r → Whole b s s' r
