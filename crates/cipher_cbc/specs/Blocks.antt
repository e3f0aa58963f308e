-- The parts of `Cbc` that the code writes one after the other: whole blocks, and the residual block behind them.
use Rattle.std.specs.Prelude.{ℕ, ◌-◌, ◌/◌, ◌%◌, List, length}
use Rattle.cipher_aes.specs.Field.{xors}
use Rattle.cipher_cbc.specs.Cbc.{chained_blocks}

-- 800-38A 6.2 and 11.1: all of p sealed behind v, what is less than a block too
abbrev pub seal_blocks_of : (List ℕ → List ℕ) → List ℕ → List ℕ → List ℕ
seal_blocks_of e v p = chained_blocks (λ u b. e (xors b u)) (λ u b. e (xors b u)) e (length p / 16) v p

-- 11.1: octets p, less than a block, behind the block v: each is added to one of v encrypted, the first to the first
abbrev pub residual : (List ℕ → List ℕ) → List ℕ → List ℕ → List ℕ
residual e v p = xors p (e v)

-- the place where the whole blocks of f that begin at place i end
abbrev pub blocks_end : ℕ → List ℕ → ℕ
blocks_end i f = length f - (length f - i) % 16
