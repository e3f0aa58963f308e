-- `key_association::listing::listed` meets its contract.
use Rattle.key_association.specs.Listing.{fresh_of}
use Rattle.key_association.proofs.listing.listed.Goals as goal

pub returns : goal.returns
unfolding fresh_of
returns c = simp (c.mint-2.ensures, c.mint.ensures, c.width-w.ensures.0)
