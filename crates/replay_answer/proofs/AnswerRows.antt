-- Answers as computed rows: what is written for an answer and for the counts.
use mathlib.Core.Path.{◌≡◌, refl}
use mathlib.Core.List.{[], ◌∷◌}
use Rattle.replay_read.specs.declared.calls.Kind.TheVariants as kind
use Rattle.text.specs.Decimal.{decimal_with, decimal_of, number_text}
use Rattle.text.specs.Hex.{hex_digit_of, hex_of}
use Rattle.replay_answer.specs.Answer.{comma_hex, answer_text, counts_text}

-- "0,3,0a,ff" with its line feed
sealed : answer_text kind.SealDown 0 3 (10 ∷ []) (255 ∷ []) [] []
    ≡ 48 ∷ 44 ∷ 51 ∷ 44 ∷ 48 ∷ 97 ∷ 44 ∷ 102 ∷ 102 ∷ 10 ∷ []
unfolding answer_text decimal_of decimal_with comma_hex hex_of hex_digit_of
sealed = refl

-- "14" with its line feed
no_key : answer_text kind.SealUp 14 3 (10 ∷ []) (255 ∷ []) [] []
    ≡ 49 ∷ 52 ∷ 10 ∷ []
unfolding answer_text decimal_of decimal_with comma_hex hex_of hex_digit_of
no_key = refl

-- "0,0102" with its line feed
sent : answer_text kind.Up 0 0 [] [] [] (1 ∷ 2 ∷ [])
    ≡ 48 ∷ 44 ∷ 48 ∷ 49 ∷ 48 ∷ 50 ∷ 10 ∷ []
unfolding answer_text decimal_of decimal_with comma_hex hex_of hex_digit_of
sent = refl

-- "0," with its line feed
sent_nothing : answer_text kind.Clock 0 0 [] [] [] []
    ≡ 48 ∷ 44 ∷ 10 ∷ []
unfolding answer_text decimal_of decimal_with comma_hex hex_of hex_digit_of
sent_nothing = refl

-- "13,0102" with its line feed
no_key_opens : answer_text kind.OpenUp 13 0 (10 ∷ []) (255 ∷ []) [] (1 ∷ 2 ∷ [])
    ≡ 49 ∷ 51 ∷ 44 ∷ 48 ∷ 49 ∷ 48 ∷ 50 ∷ 10 ∷ []
unfolding answer_text decimal_of decimal_with comma_hex hex_of hex_digit_of
no_key_opens = refl

-- "0,0a,ff" with its line feed
opened : answer_text kind.OpenDown 0 0 (10 ∷ []) (255 ∷ []) [] (1 ∷ 2 ∷ [])
    ≡ 48 ∷ 44 ∷ 48 ∷ 97 ∷ 44 ∷ 102 ∷ 102 ∷ 10 ∷ []
unfolding answer_text decimal_of decimal_with comma_hex hex_of hex_digit_of
opened = refl

-- "0" with its line feed
listed : answer_text kind.List 0 0 [] [] [] (1 ∷ 2 ∷ [])
    ≡ 48 ∷ 10 ∷ []
unfolding answer_text decimal_of decimal_with comma_hex hex_of hex_digit_of
listed = refl

-- "0,3,0aff" with its line feed
sealed_frame : answer_text kind.SealDownFrame 0 3 [] [] (10 ∷ 255 ∷ []) []
    ≡ 48 ∷ 44 ∷ 51 ∷ 44 ∷ 48 ∷ 97 ∷ 102 ∷ 102 ∷ 10 ∷ []
unfolding answer_text decimal_of decimal_with comma_hex hex_of hex_digit_of
sealed_frame = refl

-- "15" with its line feed
short_frame : answer_text kind.SealUpFrame 15 3 [] [] (10 ∷ 255 ∷ []) []
    ≡ 49 ∷ 53 ∷ 10 ∷ []
unfolding answer_text decimal_of decimal_with comma_hex hex_of hex_digit_of
short_frame = refl

-- "0,0aff" with its line feed
opened_frame : answer_text kind.OpenUpFrame 0 0 [] [] (10 ∷ 255 ∷ []) (1 ∷ 2 ∷ [])
    ≡ 48 ∷ 44 ∷ 48 ∷ 97 ∷ 102 ∷ 102 ∷ 10 ∷ []
unfolding answer_text decimal_of decimal_with comma_hex hex_of hex_digit_of
opened_frame = refl

-- "13,0102" with its line feed
no_key_opens_frame : answer_text kind.OpenDownFrame 13 0 [] [] (10 ∷ 255 ∷ []) (1 ∷ 2 ∷ [])
    ≡ 49 ∷ 51 ∷ 44 ∷ 48 ∷ 49 ∷ 48 ∷ 50 ∷ 10 ∷ []
unfolding answer_text decimal_of decimal_with comma_hex hex_of hex_digit_of
no_key_opens_frame = refl

-- "13," with its line feed
nothing_goes_out : answer_text kind.OpenUpFrame 13 0 [] [] [] []
    ≡ 49 ∷ 51 ∷ 44 ∷ 10 ∷ []
unfolding answer_text decimal_of decimal_with comma_hex hex_of hex_digit_of
nothing_goes_out = refl

-- "frames,1,0,12,3" with its line feed
counted : counts_text 1 0 12 3
    ≡ 102 ∷ 114 ∷ 97 ∷ 109 ∷ 101 ∷ 115 ∷ 44 ∷ 49 ∷ 44 ∷ 48 ∷ 44 ∷ 49 ∷ 50 ∷ 44 ∷ 51 ∷ 10 ∷ []
unfolding counts_text number_text decimal_of decimal_with
counted = refl
