-- Laws of the keys made of one SAID: deadlines rise by at least H a generation, and a generation is minted no earlier than the
-- deadline of the one two before it.
use mathlib.Core.Path.{◌≡◌, refl, sym, ◌∙◌, ap, subst}
use mathlib.Core.Bool.{Bool, true, false}
use mathlib.Core.Logic.{◌⊎◌, inl, inr}
use Prim.Native.Nat.{ℕ, ◌+◌, ◌*◌, ◌<◌, ◌≤◌}
use mathlib.Core.List.Memᴰ
use mathlib.Core.List.{List, [], ◌∷◌, ◌++◌, Memᴰ, append_assoc, append-nil}
use native.Mathlib.Omega.{arith}
use native.Mathlib.Nat.{mul-le-mul_right}
use lib.Dec.{ltb}
use Rattle.questions.proofs.ListLaws.{Each, each_nil, each_cons, each_snoc, snoc_cases, snoc_last, IfLt, if_lt}
use Rattle.key_association.specs.Made.{Made, SaidSuite, Generations, made_at, listed_generations, mints_by, mints, with_made, with_all_made, generations_to, Accepted, listing, clock, keys_made_from, keys_made}

-- What holds of any two keys made of one SAID
pub record Paced (half : ℕ) (ms : List Made) : Type 0 where
  -- a generation is made once
  pub once : (a b : Made) → Memᴰ a ms → Memᴰ b ms → a.generation ≡ b.generation → a ≡ b
  -- each generation's deadline is at least H after the one before it
  pub rise : (a b : Made) → Memᴰ a ms → Memᴰ b ms → a.generation ≤ b.generation
      → a.deadline + b.generation * half ≤ b.deadline + a.generation * half
  -- a generation is minted no earlier than the deadline of any that is two or more before it
  pub late : (a b : Made) → Memᴰ a ms → Memᴰ b ms → a.generation + 2 ≤ b.generation → a.deadline ≤ b.second

-- The keys made so far of the SAID of a line, which holds the last two
pub record Follows (half : ℕ) (ms : List Made) (l : Generations) : Type 0 where
  pub paced : Paced half ms
  pub older_in : Memᴰ l.older ms
  pub newer_in : Memᴰ l.newer ms
  pub next : l.newer.generation ≡ l.older.generation + 1
  pub top : Each (λ (k : Made). k.generation ≤ l.newer.generation) ms

-- ---- one key more, above all that are there
module _ (half : ℕ) (ms : List Made) (p : Paced half ms) (k : Made) (below : Each (λ (a : Made). a.generation < k.generation) ms)
    (rises : Each (λ (a : Made). a.deadline + k.generation * half ≤ k.deadline + a.generation * half) ms)
    (waits : Each (λ (a : Made). a.generation + 2 ≤ k.generation → a.deadline ≤ k.second) ms) where
  same : (a : Made) → a ≡ k → a.generation ≡ k.generation
  same a e = ap (λ (x : Made). x.generation) e

  more_once : (a b : Made) → Memᴰ a ms ⊎ (a ≡ k) → Memᴰ b ms ⊎ (b ≡ k) → a.generation ≡ b.generation → a ≡ b
  more_once a b (inl m) (inl n) e = p.once a b m n e
  more_once a b (inl m) (inr q) e = absurd (omega (arith, below a m, same b q))
  more_once a b (inr r) (inl n) e = absurd (omega (arith, below b n, same a r))
  more_once a b (inr r) (inr q) e = r ∙ sym q

  more_rise : (a b : Made) → Memᴰ a ms ⊎ (a ≡ k) → Memᴰ b ms ⊎ (b ≡ k) → a.generation ≤ b.generation
      → a.deadline + b.generation * half ≤ b.deadline + a.generation * half
  more_rise a b (inl m) (inl n) e = p.rise a b m n e
  more_rise a b (inl m) (inr q) e = subst (λ (x : Made). a.deadline + x.generation * half ≤ x.deadline + a.generation * half) (sym q) (rises a m)
  more_rise a b (inr r) (inl n) e = absurd (omega (arith, below b n, same a r))
  more_rise a b (inr r) (inr q) e = subst (λ (x : Made). x.deadline + b.generation * half ≤ b.deadline + x.generation * half) (q ∙ sym r) (omega arith)

  more_late : (a b : Made) → Memᴰ a ms ⊎ (a ≡ k) → Memᴰ b ms ⊎ (b ≡ k) → a.generation + 2 ≤ b.generation → a.deadline ≤ b.second
  more_late a b (inl m) (inl n) e = p.late a b m n e
  more_late a b (inl m) (inr q) e = subst (λ (x : Made). a.deadline ≤ x.second) (sym q) (waits a m (omega (arith, e, same b q)))
  more_late a b (inr r) (inl n) e = absurd (omega (arith, below b n, same a r))
  more_late a b (inr r) (inr q) e = absurd (omega (arith, e, same a r, same b q))

  paced_more : Paced half (ms ++ (k ∷ []))
  paced_more =
      record {
        once = λ a b m n e. more_once a b (snoc_cases ms k a m) (snoc_cases ms k b n) e;
        rise = λ a b m n e. more_rise a b (snoc_cases ms k a m) (snoc_cases ms k b n) e;
        late = λ a b m n e. more_late a b (snoc_cases ms k a m) (snoc_cases ms k b n) e;
      }

-- the key after the newer of a line, H or more above it, minted when the older is past
module _ (half : ℕ) (ms : List Made) (l : Generations) (f : Follows half ms l) (k : Made)
    (after : k.generation ≡ l.newer.generation + 1) (higher : l.newer.deadline + half ≤ k.deadline) (waited : l.older.deadline ≤ k.second) where
  under : Each (λ (a : Made). a.generation < k.generation) ms
  under a m = omega (arith, f.top a m)

  climbs : Each (λ (a : Made). a.deadline + k.generation * half ≤ k.deadline + a.generation * half) ms
  climbs a m =
      let to-newer : a.deadline + l.newer.generation * half ≤ l.newer.deadline + a.generation * half
      = f.paced.rise a l.newer m f.newer_in (f.top a m) in
      let one : k.generation * half ≡ l.newer.generation * half + half = ap (λ (n : ℕ). n * half) after ∙ one_more l.newer.generation in
      omega (arith, to-newer, one, higher)
    where
      one_more : (n : ℕ) → (n + 1) * half ≡ n * half + half
      one_more n = omega arith

  stays : Each (λ (a : Made). a.generation + 2 ≤ k.generation → a.deadline ≤ k.second) ms
  stays a m apart =
      let early : a.generation ≤ l.older.generation = omega (arith, f.next) in
      let to-older : a.deadline + l.older.generation * half ≤ l.older.deadline + a.generation * half
      = f.paced.rise a l.older m f.older_in early in
      omega (arith, to-older, mul-le-mul_right half early, waited)

  pub grows : Follows half (ms ++ (k ∷ [])) (with_made l k)
  grows =
      record {
        paced = paced_more half ms f.paced k under climbs stays;
        older_in = Memᴰ.append_left (k ∷ []) f.newer_in;
        newer_in = snoc_last ms k;
        next = after;
        top = each_snoc (λ (x : Made). x.generation ≤ k.generation) ms k (λ x m. omega (arith, under x m)) (omega arith);
      }

-- ---- a listing, and the clock's rule
nothing_paced : (half : ℕ) → Paced half []
nothing_paced half =
    record {
      once = λ a b m n e. elim m [ ];
      rise = λ a b m n e. elim m [ ];
      late = λ a b m n e. elim m [ ];
    }

first_paced : (half : ℕ) (k : Made) → Paced half (k ∷ [])
first_paced half k = paced_more half [] (nothing_paced half) k (each_nil _) (each_nil _) (each_nil _)

module _ (half t : ℕ) (m : List ℕ) (at : ℕ) where
  pub listed_follows : (s : SaidSuite) → Follows half ((listed_generations half t m at s).older ∷ (listed_generations half t m at s).newer ∷ []) (listed_generations half t m at s)
  listed_follows s =
      let l = listed_generations half t m at s in
      record {
        paced = paced_more half (l.older ∷ []) (first_paced half l.older) l.newer
            (each_cons _ (omega arith) (each_nil _)) (each_cons _ (omega arith) (each_nil _)) (each_cons _ (λ apart. absurd (omega (arith, apart))) (each_nil _));
        older_in = Memᴰ.head refl;
        newer_in = Memᴰ.tail (Memᴰ.head refl);
        next = refl;
        top = each_cons _ (omega arith) (each_cons _ (omega arith) (each_nil _));
      }

  by_case : (b c : Bool) (ms : List Made) (l : Generations) → Follows half ms l → IfLt t l.older.deadline b → IfLt t l.newer.deadline c
      → Follows half (ms ++ mints_by b c half t m at l) (with_all_made l (mints_by b c half t m at l))
  by_case true c ms l f live _ = subst (λ (ks : List Made). Follows half ks l) (sym (append-nil ms)) f
  by_case false true ms l f past live =
      grows half ms l f (made_at l.said l.suite (l.newer.generation + 1) t (l.newer.deadline + half) m at) refl (omega arith) past
  by_case false false ms l f past over =
      let k₁ = made_at l.said l.suite (l.newer.generation + 1) t (t + half) m at in
      let k₂ = made_at l.said l.suite (l.newer.generation + 2) t (t + 2 * half) m (at + 32) in
      let f₁ : Follows half (ms ++ (k₁ ∷ [])) (with_made l k₁) = grows half ms l f k₁ refl (omega (arith, over)) past in
      let f₂ : Follows half (ms ++ (k₁ ∷ []) ++ (k₂ ∷ [])) (with_made (with_made l k₁) k₂) = grows half (ms ++ (k₁ ∷ [])) (with_made l k₁) f₁ k₂ (omega arith) (omega arith) over in
      rw append_assoc at f₂

  -- what the clock mints goes on in the same way
  pub mints_follow : (ms : List Made) (l : Generations) → Follows half ms l → Follows half (ms ++ mints half t m at l) (generations_to half t m at l)
  mints_follow ms l f = by_case (ltb t l.older.deadline) (ltb t l.newer.deadline) ms l f (if_lt t l.older.deadline) (if_lt t l.newer.deadline)

-- ---- the keys made of one SAID, by its listing and any clock calls
pub record ClockCall : Type 0 where
  pub second : ℕ
  pub material : List ℕ

abbrev pub clocks : List ClockCall → List Accepted
clocks [] = []
clocks (c ∷ cs) = clock c.second c.material ∷ clocks cs

module _ (half : ℕ) where
  from_line : (cs : List ClockCall) (ms : List Made) (l : Generations) → Follows half ms l → Paced half (ms ++ keys_made_from half (l ∷ []) (clocks cs))
  from_line [] ms l f = subst (Paced half) (sym (append-nil ms)) f.paced
  from_line (c ∷ cs) ms l f =
      let new = mints half c.second c.material 0 l in
      let next = generations_to half c.second c.material 0 l in
      let rest = keys_made_from half (next ∷ []) (clocks cs) in
      let later : Paced half ((ms ++ new) ++ rest) = from_line cs (ms ++ new) next (mints_follow half c.second c.material 0 ms l f) in
      let alone : new ++ [] ≡ new = append-nil new in
      rw (alone, ← (append_assoc ms new rest)) later

  pub made_paced : (t : ℕ) (m : List ℕ) (s : SaidSuite) (cs : List ClockCall) → Paced half (keys_made half (listing t (s ∷ []) m ∷ clocks cs))
  made_paced t m s cs =
      let l = listed_generations half t m 0 s in
      from_line cs (l.older ∷ l.newer ∷ []) l (listed_follows half t m 0 s)
