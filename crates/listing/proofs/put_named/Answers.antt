use Rattle.listing.proofs.Store.{both}
use Rattle.listing.proofs.put_named.Goals as goal

pub returns : goal.returns
returns c =
    let at-put-word = c in
    both at-put-word.put_word-at_number.ensures c.put_number.ensures
