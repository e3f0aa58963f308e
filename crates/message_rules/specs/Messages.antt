-- Questions 6 to 9 of a message, and the half of 11 that needs no state (document 01, "Messages" and "The questions, in order").
use Rattle.std.specs.Prelude.{ℕ, ◌+◌, ◌*◌, ◌%◌, List, [], ◌∷◌, ◌++◌, Bool, true, ◌&&◌, ◌||◌, not, cond, length, get_or, take, drop, leb, ltb, eqb}
use Rattle.questions.specs.Answer.{Answer}
use Rattle.questions.specs.declared.refusal.Refusal.TheVariants.{CutMessage, CodeNotReceived, BadAttribute, WrongAttributes, WrongIdentifier}
use Rattle.questions.specs.Questions.{Question, first_no}
use Rattle.message_rules.specs.declared.fields.Receiver.{Receiver}
use Rattle.message_rules.specs.declared.fields.Receiver.TheVariants.{HeadEnd, Modem}
use Rattle.message_rules.specs.Attributes.{Item, items, values, count_of, value_at, last_type, be16, be32}
use Rattle.message_rules.specs.Ranges.{Required, required_of, is_required_of, sound}

-- ---- the parts of a message: code, Identifier, Length (2 octets, big-endian), as many octets of attributes; the rest is padding
abbrev pub code_of : List ℕ → ℕ
code_of s = get_or s 0 0

abbrev pub identifier_of : List ℕ → ℕ
identifier_of s = get_or s 1 0

unfoldable pub length_of : List ℕ → ℕ
length_of s = get_or s 2 0 * 256 + get_or s 3 0

unfoldable pub body_of : List ℕ → List ℕ
body_of s = take (length_of s) (drop 4 s)

-- ---- 6: four octets, a Length of at most 1,490, and that many after them
unfoldable pub is_whole : List ℕ → Bool
is_whole s = leb 4 (length s) && leb (length_of s) 1490 && leb (4 + length_of s) (length s)

-- ---- 7: the codes that an end receives
unfoldable pub receives : Receiver → ℕ → Bool
receives HeadEnd c = eqb c 4 || eqb c 7 || eqb c 12
receives Modem c = (leb 5 c && leb c 6) || (leb 8 c && leb c 11)

-- The end that receives a code
unfoldable pub receiver_of : ℕ → Receiver
receiver_of c = cond (eqb c 4 || eqb c 7 || eqb c 12) HeadEnd Modem

-- ---- 9: each required attribute as often as required, in the message and in its compounds
unfoldable pub has_required : List Required → List Item → Bool
has_required [] l = true
has_required (t ∷ ts) l = leb t.least (count_of t.kind l) && leb (count_of t.kind l) t.most && has_required ts l

unfoldable pub insides_have_required : ℕ → List (List ℕ) → Bool
insides_have_required k [] = true
insides_have_required k (v ∷ vs) = has_required (required_of k) (items v) && insides_have_required k vs

-- every compound of a type that the code needs
unfoldable pub compounds_have_required : ℕ → ℕ → List Item → Bool
compounds_have_required c k l = not (is_required_of c k) || insides_have_required k (values k l)

-- the digest, where the code needs one, is the last attribute of all
unfoldable pub digest_last : ℕ → List Item → Bool
digest_last c l = not (is_required_of c 11) || eqb (last_type l) 11

-- the SAIDs of the SA-Descriptors are different
unfoldable pub is_none : ℕ → List ℕ → Bool
is_none x [] = true
is_none x (y ∷ ys) = not (eqb x y) && is_none x ys

unfoldable pub different : List ℕ → Bool
different [] = true
different (x ∷ xs) = is_none x xs && different xs

abbrev pub said_in_of : List ℕ → ℕ
said_in_of v = be16 (value_at 12 0 (items v))

unfoldable pub saids_in_of : List (List ℕ) → List ℕ
saids_in_of [] = []
saids_in_of (v ∷ vs) = said_in_of v ∷ saids_in_of vs

unfoldable pub saids_differ_of : ℕ → List Item → Bool
saids_differ_of c l = not (is_required_of c 23) || different (saids_in_of (values 23 l))

-- of two TEK-Parameters the newer's number is the older's and 1, mod 16, and the older's life is below the newer's
abbrev pub number_in : List ℕ → ℕ
number_in v = get_or (value_at 10 0 (items v)) 0 0

abbrev pub life_in : List ℕ → ℕ
life_in v = be32 (value_at 9 0 (items v))

unfoldable pub in_order_of : List ℕ → List ℕ → Bool
in_order_of older newer = eqb (number_in newer) ((number_in older + 1) % 16) && ltb (life_in older) (life_in newer)

unfoldable pub pair_in_order : ℕ → List Item → Bool
pair_in_order c l = not (is_required_of c 13) || in_order_of (value_at 13 0 l) (value_at 13 1 l)

-- Question 9 of the attributes of a message of a code; the widths of a known SAID's suite are asked by the modem
unfoldable pub complete : ℕ → List Item → Bool
complete c l =
    has_required (required_of c) l
    && digest_last c l
    && compounds_have_required c 13 l
    && compounds_have_required c 23 l
    && saids_differ_of c l
    && pair_in_order c l

-- ---- the questions in order
abbrev pub question7 : Receiver → List ℕ → Bool
question7 e s = receives e (code_of s)

abbrev pub question8 : List ℕ → Bool
question8 s = sound (code_of s) (body_of s)

abbrev pub question9 : List ℕ → Bool
question9 s = complete (code_of s) (items (body_of s))

unfoldable pub message_questions : Receiver → List ℕ → List Question
message_questions e s =
    record { refusal = CutMessage; met = is_whole s }
    ∷ record { refusal = CodeNotReceived; met = question7 e s }
    ∷ record { refusal = BadAttribute; met = question8 s }
    ∷ record { refusal = WrongAttributes; met = question9 s }
    ∷ []

-- What the reading inside an end answers; the end asks 10 and 11 after it
unfoldable pub message_answer : Receiver → List ℕ → Answer
message_answer e s = first_no (message_questions e s)

-- ---- 11, the half that needs no end's state: TEK Invalid and Authentication Information carry Identifier 0
abbrev pub identifier_allowed : ℕ → ℕ → Bool
identifier_allowed c identifier = not (eqb c 11 || eqb c 12) || eqb identifier 0

-- The questions of the reader by itself, which knows no end's state: 6 to 9, then that half of 11
unfoldable pub reader_questions : Receiver → List ℕ → List Question
reader_questions e s = message_questions e s ++ (record { refusal = WrongIdentifier; met = identifier_allowed (code_of s) (identifier_of s) } ∷ [])

unfoldable pub reader_answer_of : Receiver → List ℕ → Answer
reader_answer_of e s = first_no (reader_questions e s)
