-- `message_reader::read::taken` meets its contract.
use Rattle.message_reader.specs.Taken.{taken_from, first_of, place_in}
use Rattle.message_compounds.specs.declared.compound.Compounds.{Compounds}
use Rattle.message_holders.specs.declared.pass.Body.{Body}
use Rattle.message_rules.specs.declared.fields.Reading.{Reading}
use Rattle.message_rules.specs.Attributes.{be16, be32}
use Rattle.questions.specs.Answer.{Done}
use lib.ListN.{get_or}
use mathlib.Core.List.{List}
use mathlib.Core.Path.{◌≡◌, refl}
use Prim.Native.Nat.{ℕ}
use Rattle.message_reader.proofs.read.taken.Goals as goal

-- the reading, each of its numbers by itself
joined : (m : List ℕ) (b : Body) (k : Compounds) {code identifier ak said life error : ℕ} {v w x y : List ℕ}
    → code ≡ get_or m 0 0 → identifier ≡ get_or m 1 0
    → v ≡ first_of m b 0 → ak ≡ get_or v 0 0
    → w ≡ first_of m b 1 → said ≡ be16 w
    → x ≡ first_of m b 2 → life ≡ be32 x
    → y ≡ first_of m b 3 → error ≡ get_or y 0 0
    → ◌≡◌ {A = Reading} (record {
      answer = Done;
      fields = record {
        code = code;
        identifier = identifier;
        ak = record { 0 = ak };
        said = said;
        life = life;
        error = error;
        count = k.count;
        descriptors = k.descriptors;
        older = k.older;
        newer = k.newer;
      };
      key = place_in b 4;
      digest = place_in b 5;
    }) (taken_from m b k)
unfolding taken_from
joined m b k c i v a w s x l y e = rw (c, i, a, v, s, w, l, x, e, y) refl

pub returns : goal.returns
returns c = joined c.args.m.now c.args.b c.args.k
    c.octet.ensures
    c.octet-2.ensures
    c.part.ensures
    c.octet-3.ensures
    c.part-2.ensures
    c.be16_of.ensures
    c.part-3.ensures
    c.be32_of.ensures
    c.part-4.ensures
    c.octet-4.ensures
