-- `frame_octets::framed::open_under` meets its contract.
use mathlib.Core.Path.{◌≡◌, refl}
use lib.ListN.{length}
use borrow.Author.Rules.{rules}
use Rattle.frame_octets.proofs.FramedLaws.{opened_written}
use Rattle.frame_octets.proofs.framed.open_under.Goals as goal

pub returns : goal.returns
returns c = let x = c.args in
    let tek-wide : length x.k.tek ≡ 16 = search rules in
    let vector-wide : length x.k.vector ≡ 16 = search rules in
    opened_written x.k.tek x.k.vector x.frame.now x.out.now _ _ tek-wide vector-wide refl c.open_frame.ensures
