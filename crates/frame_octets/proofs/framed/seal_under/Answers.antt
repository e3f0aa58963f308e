-- `frame_octets::framed::seal_under` meets its contract.
use mathlib.Core.Path.{◌≡◌, refl}
use lib.ListN.{length}
use borrow.Author.Rules.{rules}
use Rattle.frame_octets.proofs.FramedLaws.{sealed_written}
use Rattle.frame_octets.proofs.framed.seal_under.Goals as goal

pub returns : goal.returns
returns c = let x = c.args in
    let tek-wide : length x.k.tek ≡ 16 = search rules in
    let vector-wide : length x.k.vector ≡ 16 = search rules in
    sealed_written x.k.tek x.k.vector x.frame.now x.out.now _ _ tek-wide vector-wide refl c.seal_frame.ensures
