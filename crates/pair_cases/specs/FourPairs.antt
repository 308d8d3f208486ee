-- What the test program lends. Assumes nothing.
use Rattle.std.specs.Prelude.{List, replicate}
use Rattle.pair_lists.specs.declared.Pair.{Pair}
use Rattle.pair_lists.specs.Pairs.{no_pair}

abbrev pub zero_pairs : List Pair
zero_pairs = replicate 4 no_pair
