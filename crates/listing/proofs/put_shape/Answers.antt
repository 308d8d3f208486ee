use Rattle.listing.proofs.Store.{shape-written}
use Rattle.listing.proofs.put_shape.Goals as goal

pub returns : goal.returns
returns c =
    let at-shape-word = c in
    shape-written _ _ at-shape-word.shape_word.ensures c.put_word.ensures
