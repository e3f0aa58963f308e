-- `modem_transitions::transitions::tek_next` meets its contract.
use Rattle.modem_transitions.proofs.TableLaws.{all_within, ruled, entry_is}
use Rattle.modem_transitions.specs.Transitions.{next_in, tek_transitions, tek_next_of}
use Rattle.std.proofs.Common.{◌≡◌, ℕ, true, List, [], ◌∷◌, refl, ◌∙◌}
use Rattle.modem_transitions.proofs.transitions.tek_next.Goals as goal

-- the table, as the code has it
table : List (List ℕ)
table =
    (6 ∷ 0 ∷ 0 ∷ 0 ∷ 0 ∷ 0 ∷ [])
    ∷ (1 ∷ 6 ∷ 6 ∷ 6 ∷ 6 ∷ 6 ∷ [])
    ∷ (6 ∷ 2 ∷ 6 ∷ 6 ∷ 5 ∷ 6 ∷ [])
    ∷ (6 ∷ 6 ∷ 1 ∷ 6 ∷ 6 ∷ 4 ∷ [])
    ∷ (6 ∷ 6 ∷ 6 ∷ 1 ∷ 1 ∷ 2 ∷ [])
    ∷ (6 ∷ 1 ∷ 6 ∷ 6 ∷ 4 ∷ 6 ∷ [])
    ∷ (6 ∷ 6 ∷ 6 ∷ 4 ∷ 6 ∷ 6 ∷ [])
    ∷ (6 ∷ 3 ∷ 6 ∷ 6 ∷ 3 ∷ 6 ∷ [])
    ∷ (6 ∷ 0 ∷ 6 ∷ 6 ∷ 0 ∷ 6 ∷ [])
    ∷ []

inside : all_within 9 tek_transitions ≡ true
unfolding tek_transitions
inside = refl

whole : ruled tek_next_of table 9 6 ≡ true
unfolding next_in tek_transitions table
whole = refl

pub returns : goal.returns
unfolding table
returns c = c.entry.ensures ∙ entry_is tek_transitions table inside whole c.args.event c.args.state
