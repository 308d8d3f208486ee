use mathlib.Core.Path.{refl}
use Rattle.listing.proofs.Store.{both}
use Rattle.listing.proofs.put_number.Goals as goal

pub returns : goal.returns
returns c = both c.put_digits-last.ensures (record { contents = refl; size = refl; next = refl })
