-- The line of an answer and the line of the counts, each with its line feed.
use Rattle.std.specs.Prelude.{Bool, true, false, List, [], ◌∷◌, ◌++◌, ℕ, ◌≤◌, eqb, length}
use Rattle.replay_read.specs.declared.calls.Kind.{Kind}
use Rattle.replay_read.specs.declared.calls.Kind.TheVariants as kind
use Rattle.text.specs.Decimal.{decimal_of, number_text}
use Rattle.text.specs.Hex.{hex_of}

-- A text, or nothing
abbrev pub text_if : Bool → List ℕ → List ℕ
text_if true l = l
text_if false l = []

-- A comma and octets in hexadecimal
unfoldable pub comma_hex : List ℕ → List ℕ
comma_hex l = 44 ∷ hex_of l

-- A TEK and a vector
abbrev pub keys_text : List ℕ → List ℕ → List ℕ
keys_text tek vector = comma_hex tek ++ comma_hex vector

-- Of a message: where the number is 0, the octets sent
abbrev pub sent_text : ℕ → List ℕ → List ℕ
sent_text number sent = text_if (eqb number 0) (comma_hex sent)

-- Of a sealing: where the number is 0, the key's number, the TEK and the vector
abbrev pub seal_text : ℕ → ℕ → List ℕ → List ℕ → List ℕ
seal_text number key tek vector = text_if (eqb number 0) ((44 ∷ decimal_of key) ++ keys_text tek vector)

-- Of an opening: where the number is 0, the TEK and the vector; where it is 13, the octets sent
abbrev pub open_text : ℕ → List ℕ → List ℕ → List ℕ → List ℕ
open_text number tek vector sent = text_if (eqb number 0) (keys_text tek vector) ++ text_if (eqb number 13) (comma_hex sent)

-- Of a sealing of a frame's octets: where the number is 0, the key's number and the octets
abbrev pub seal_frame_text : ℕ → ℕ → List ℕ → List ℕ
seal_frame_text number key frame = text_if (eqb number 0) ((44 ∷ decimal_of key) ++ comma_hex frame)

-- Of an opening of them: where the number is 0, the octets; where it is 13, the octets sent
abbrev pub open_frame_text : ℕ → List ℕ → List ℕ → List ℕ
open_frame_text number frame sent = text_if (eqb number 0) (comma_hex frame) ++ text_if (eqb number 13) (comma_hex sent)

-- What follows the number
abbrev pub rest_text : Kind → ℕ → ℕ → List ℕ → List ℕ → List ℕ → List ℕ → List ℕ
rest_text kind.List number key tek vector frame sent = []
rest_text kind.Clock number key tek vector frame sent = sent_text number sent
rest_text kind.Established number key tek vector frame sent = sent_text number sent
rest_text kind.Reauth number key tek vector frame sent = sent_text number sent
rest_text kind.Up number key tek vector frame sent = sent_text number sent
rest_text kind.Down number key tek vector frame sent = sent_text number sent
rest_text kind.SealDown number key tek vector frame sent = seal_text number key tek vector
rest_text kind.SealUp number key tek vector frame sent = seal_text number key tek vector
rest_text kind.OpenUp number key tek vector frame sent = open_text number tek vector sent
rest_text kind.OpenDown number key tek vector frame sent = open_text number tek vector sent
rest_text kind.SealDownFrame number key tek vector frame sent = seal_frame_text number key frame
rest_text kind.SealUpFrame number key tek vector frame sent = seal_frame_text number key frame
rest_text kind.OpenUpFrame number key tek vector frame sent = open_frame_text number frame sent
rest_text kind.OpenDownFrame number key tek vector frame sent = open_frame_text number frame sent

-- The answer's number in base ten, what its kind brings, and a line feed
unfoldable pub answer_text : Kind → ℕ → ℕ → List ℕ → List ℕ → List ℕ → List ℕ → List ℕ
answer_text k number key tek vector frame sent = decimal_of number ++ rest_text k number key tek vector frame sent ++ (10 ∷ [])

-- "frames,"
abbrev pub frames_name : List ℕ
frames_name = 102 ∷ 114 ∷ 97 ∷ 109 ∷ 101 ∷ 115 ∷ 44 ∷ []

-- The frames taken and refused at the head-end and at the modem
unfoldable pub counts_text : ℕ → ℕ → ℕ → ℕ → List ℕ
counts_text head_taken_of head_refused_of modem_taken_of modem_refused_of =
    frames_name
    ++ number_text head_taken_of 44
    ++ number_text head_refused_of 44
    ++ number_text modem_taken_of 44
    ++ number_text modem_refused_of 10

-- Characters that the longest answer needs at most: a frame of 8,192 octets and what else stands on its line
abbrev pub answer_line : ℕ
answer_line = 17408

-- Room for any answer, and what is put into it: a TEK and a vector are at most 16 octets, a frame as many as a line says, and 342 octets are sent at
-- most
pub record Room (tek vector frame sent out : List ℕ) : Type 0 where
  pub tek-fits : length tek ≤ 16
  pub vector_fits : length vector ≤ 16
  pub frame-fits : length frame ≤ 8192
  pub sent_fits : length sent ≤ 342
  pub out_fits : answer_line ≤ length out
