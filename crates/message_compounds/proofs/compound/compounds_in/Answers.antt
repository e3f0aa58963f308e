-- `message_compounds::compound::compounds_in` meets its contract.
use Rattle.message_compounds.specs.Compounds.{compounds_of}
use borrow.Author.Tests.{ne_eqb}
use Rattle.message_compounds.proofs.compound.compounds_in.Goals as goal

pub returns-in-8 : goal.returns-in-8
unfolding compounds_of
returns-in-8 c = rw (c.in-8.is, c.pair_in.ensures)

pub returns-in-5 : goal.returns-in-5
unfolding compounds_of
returns-in-5 c = rw (c.in-5.is, c.four_in.ensures)

pub returns-in_default : goal.returns-in_default
unfolding compounds_of
returns-in_default c = simp (ne_eqb c.args.c 8 c.in_default.in_default-own.rest.0.1, ne_eqb c.args.c 5 c.in_default.in_default-own.rest.1) c.no_compounds.ensures
