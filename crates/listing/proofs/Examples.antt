-- Document 01's lines for trace T, and a refusal's.
-- Assumes nothing.
use mathlib.Core.Path.{◌≡◌, refl}
use Rattle.listing.specs.Lines.{ascii, digits, decimal, line, shape_word, mark_word, header_line, pair_line, refused_line}

pub header-of-T : header_line 3 12 2 2 ≡ ascii "events 3 records 12 chains 2 pairs 2\n"
unfolding header_line line decimal digits ascii
header-of-T = refl

pub first-of-T : pair_line 7 10 2 2 1 ≡ ascii "7 10 2 wr open\n"
unfolding pair_line shape_word mark_word line decimal digits ascii
first-of-T = refl

pub second-of-T : pair_line 6 11 1 2 0 ≡ ascii "6 11 1 wr covered\n"
unfolding pair_line shape_word mark_word line decimal digits ascii
second-of-T = refl

pub refused-23 : refused_line 23 9 ≡ ascii "refused 23 9\n"
unfolding refused_line line decimal digits ascii
refused-23 = refl
