-- What the exported calls answer, and write.
use Rattle.std.specs.Prelude.{ℕ, zero, suc, Bool, true, false, List, ◌++◌, eqb, ltb, length, drop}

-- one of two numbers
abbrev pub pick : Bool → ℕ → ℕ → ℕ
pick true a b = a
pick false a b = b

-- by the lengths of key, vector, frame and output: 1 for a key or a vector that has not 16 octets, 2 for an output shorter than the frame, 15 for a
-- frame of fewer than 12, and 0 for none of these
unfoldable pub refusal_of : ℕ → ℕ → ℕ → ℕ → ℕ
refusal_of k v s o = pick (eqb k 16) (pick (eqb v 16) (pick (ltb o s) 2 (pick (ltb s 12) 15 0)) 1) 1

-- the same by the lists themselves
abbrev pub refusal : List ℕ → List ℕ → List ℕ → List ℕ → ℕ
refusal k v s o = refusal_of (length k) (length v) (length s) (length o)

-- what the output o holds after the answer n: at 0 what f makes, in front of what o held behind it; at others what it held
unfoldable pub written : ℕ → (List ℕ → List ℕ → List ℕ → List ℕ) → List ℕ → List ℕ → List ℕ → List ℕ → List ℕ
written zero f k v s o = f k v s ++ drop (length s) o
written (suc n) f k v s o = o
