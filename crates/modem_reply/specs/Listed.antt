-- Which SAIDs an Authorization Reply lists, and which TEK machines go on after it (document 01, "Modem: authorization machine": D-C).
use Rattle.std.specs.Prelude.{ℕ, Bool, ◌&&◌, ◌||◌, not, eqb, ltb, get_or}
use Rattle.message_rules.specs.declared.fields.Descriptor.{Descriptor}
use Rattle.message_rules.specs.declared.fields.Fields.{Fields}
use Rattle.message_rules.specs.Fields.{no_descriptor_of}
use Rattle.modem_transitions.specs.Transitions.{A}

abbrev pub descriptor_at_of : Fields → ℕ → Descriptor
descriptor_at_of f i = get_or f.descriptors i no_descriptor_of

-- One of the Reply's descriptors has a SAID with a suite
abbrev pub has_at : Fields → ℕ → ℕ → ℕ → Bool
has_at f i said suite = ltb i f.count && eqb (descriptor_at_of f i).said said && eqb (descriptor_at_of f i).suite suite

unfoldable pub lists : Fields → ℕ → ℕ → Bool
lists f said suite = has_at f 0 said suite || has_at f 1 said suite || has_at f 2 said suite || has_at f 3 said suite

-- A machine survives where its slot is in use, its SAID is listed with its suite and it is not in A
abbrev pub survives : Bool → Fields → ℕ → ℕ → ℕ → Bool
survives used f said suite state = used && lists f said suite && not (eqb state A)
