-- `modem_transitions::transitions::authorization_next` meets its contract.
use Rattle.modem_transitions.proofs.TableLaws.{all_within, ruled, entry_is}
use Rattle.modem_transitions.specs.Transitions.{next_in, authorization_transitions, authorization_next_of}
use Rattle.std.proofs.Common.{◌≡◌, ℕ, true, List, [], ◌∷◌, refl, ◌∙◌}
use Rattle.modem_transitions.proofs.transitions.authorization_next.Goals as goal

-- the table, as the code has it
table : List (List ℕ)
table =
    (1 ∷ 6 ∷ 6 ∷ 6 ∷ 6 ∷ 6 ∷ [])
    ∷ (6 ∷ 4 ∷ 6 ∷ 4 ∷ 6 ∷ 6 ∷ [])
    ∷ (6 ∷ 5 ∷ 6 ∷ 5 ∷ 6 ∷ 6 ∷ [])
    ∷ (6 ∷ 2 ∷ 6 ∷ 2 ∷ 6 ∷ 6 ∷ [])
    ∷ (6 ∷ 1 ∷ 6 ∷ 3 ∷ 0 ∷ 6 ∷ [])
    ∷ (6 ∷ 6 ∷ 3 ∷ 6 ∷ 6 ∷ 6 ∷ [])
    ∷ (6 ∷ 6 ∷ 3 ∷ 3 ∷ 6 ∷ 6 ∷ [])
    ∷ (6 ∷ 6 ∷ 3 ∷ 6 ∷ 6 ∷ 6 ∷ [])
    ∷ []

inside : all_within 8 authorization_transitions ≡ true
unfolding authorization_transitions
inside = refl

whole : ruled authorization_next_of table 8 6 ≡ true
unfolding next_in authorization_transitions table
whole = refl

pub returns : goal.returns
unfolding table
returns c = c.entry.ensures ∙ entry_is authorization_transitions table inside whole c.args.event c.args.state
