-- The keys made of each SAID beside the line of its last two: how they go on with a listing and with the clock.
use mathlib.Core.Path.{◌≡◌, refl, sym, ◌∙◌, ap, subst}
use mathlib.Core.List.Memᴰ
use mathlib.Core.List.{List, [], ◌∷◌, ◌++◌, map, Memᴰ}
use Prim.Native.Nat.{ℕ, ◌+◌}
use Rattle.key_traffic.specs.Suites.{width_of}
use Rattle.questions.proofs.ListLaws.{Each, each_nil, each_cons}
use Rattle.key_association.specs.Made.{Made, SaidSuite, Generations, listed_generations, all_listed_generations, mints, with_all_made, generations_to, all_generations_to}
use Rattle.key_association.proofs.MadeLaws.{Follows, listed_follows, mints_follow}

pub record Log : Type 0 where
  pub line : Generations
  pub made : List Made

abbrev pub generations_in : List Log → List Generations
generations_in gs = map (λ (g : Log). g.line) gs

-- ---- a listing, and the clock's rule
abbrev pub log_listed_of : ℕ → ℕ → List ℕ → ℕ → SaidSuite → Log
log_listed_of half t m at s =
    record { line = listed_generations half t m at s; made = (listed_generations half t m at s).older ∷ (listed_generations half t m at s).newer ∷ [] }

abbrev pub log_to : ℕ → ℕ → List ℕ → ℕ → Log → Log
log_to half t m at g = record { line = generations_to half t m at g.line; made = g.made ++ mints half t m at g.line }

abbrev pub logs_listed : ℕ → ℕ → List ℕ → ℕ → List SaidSuite → List Log
logs_listed half t m at [] = []
logs_listed half t m at (s ∷ ss) = log_listed_of half t m at s ∷ logs_listed half t m (at + 64) ss

abbrev pub logs_to : ℕ → ℕ → List ℕ → ℕ → List Log → List Log
logs_to half t m at [] = []
logs_to half t m at (g ∷ gs) = log_to half t m at g ∷ logs_to half t m (at + 64) gs

module _ (half t : ℕ) (m : List ℕ) where
  pub lines_listed : (at : ℕ) (ss : List SaidSuite) → generations_in (logs_listed half t m at ss) ≡ all_listed_generations half t m at ss
  lines_listed at [] = refl
  lines_listed at (s ∷ ss) = ap (λ (ls : List Generations). listed_generations half t m at s ∷ ls) (lines_listed (at + 64) ss)

  pub lines_to : (at : ℕ) (gs : List Log) → generations_in (logs_to half t m at gs) ≡ all_generations_to half t m at (generations_in gs)
  lines_to at [] = refl
  lines_to at (g ∷ gs) = ap (λ (ls : List Generations). generations_to half t m at g.line ∷ ls) (lines_to (at + 64) gs)

  -- ---- each goes on as the keys of one SAID do
  pub listed_good : (at : ℕ) (ss : List SaidSuite) → Each (λ (g : Log). Follows half g.made g.line) (logs_listed half t m at ss)
  listed_good at [] = each_nil _
  listed_good at (s ∷ ss) = each_cons (λ (g : Log). Follows half g.made g.line) (listed_follows half t m at s) (listed_good (at + 64) ss)

  pub to_good : (at : ℕ) (gs : List Log) → Each (λ (g : Log). Follows half g.made g.line) gs → Each (λ (g : Log). Follows half g.made g.line) (logs_to half t m at gs)
  to_good at [] good = each_nil _
  to_good at (g ∷ gs) good =
      each_cons (λ (x : Log). Follows half x.made x.line) (mints_follow half t m at g.made g.line (good g (Memᴰ.head refl)))
      (to_good (at + 64) gs (λ x i. good x (Memᴰ.tail i)))

-- ---- a key made of a SAID, whose suite has a width; and that it stays one
pub record MadeIn (gs : List Log) (said wide : ℕ) (k : Made) : Type 0 where
  pub log : Log
  pub there : Memᴰ log gs
  pub same : log.line.said ≡ said
  pub width : width_of log.line.suite ≡ wide
  pub made : Memᴰ k log.made

-- What was made by one list of logs is made by another
abbrev pub Grows : List Log → List Log → Type 0
Grows gs hs = (said wide : ℕ) (k : Made) → MadeIn gs said wide k → MadeIn hs said wide k

pub grows_same : (gs : List Log) → Grows gs gs
grows_same gs said wide k i = i

pub grows_listed : (gs hs : List Log) → Grows gs (gs ++ hs)
grows_listed gs hs said wide k i =
    record { log = i.log; there = Memᴰ.append_left hs i.there; same = i.same; width = i.width; made = i.made }

module _ (half t : ℕ) (m : List ℕ) where
  stays : (l : Generations) (ks : List Made) → ((with_all_made l ks).said ≡ l.said) × ((with_all_made l ks).suite ≡ l.suite)
  stays l [] = (refl, refl)
  stays l (k ∷ ks) = stays (record { said = l.said; suite = l.suite; older = l.newer; newer = k }) ks

  pub to_said : (at : ℕ) (g : Log) → (log_to half t m at g).line.said ≡ g.line.said
  to_said at g = (stays g.line (mints half t m at g.line)).0

  pub to_suite : (at : ℕ) (g : Log) → (log_to half t m at g).line.suite ≡ g.line.suite
  to_suite at g = (stays g.line (mints half t m at g.line)).1

  pub grows_clocked : (at : ℕ) (gs : List Log) → Grows gs (logs_to half t m at gs)
  grows_clocked at gs said wide k i = go at gs i.log i.there i.same i.width i.made
    where
      go : (at : ℕ) (gs : List Log) (g : Log) → Memᴰ g gs → g.line.said ≡ said → width_of g.line.suite ≡ wide → Memᴰ k g.made
          → MadeIn (logs_to half t m at gs) said wide k
      go at [] g q e f j = elim q [ ]
      go at (x ∷ gs) g (Memᴰ.head q) e f j =
          record {
            log = log_to half t m at x;
            there = Memᴰ.head refl;
            same = to_said at x ∙ ap (λ (y : Log). y.line.said) (sym q) ∙ e;
            width = ap width_of (to_suite at x) ∙ ap (λ (y : Log). width_of y.line.suite) (sym q) ∙ f;
            made = Memᴰ.append_left (mints half t m at x.line) (subst (λ (y : Log). Memᴰ k y.made) q j);
          }
      go at (x ∷ gs) g (Memᴰ.tail q) e f j =
          let later = go (at + 64) gs g q e f j in
          record { log = later.log; there = Memᴰ.tail later.there; same = later.same; width = later.width; made = later.made }

-- ---- one SAID, one log
abbrev pub Apart : List Log → Type 0
Apart gs = (g h : Log) → Memᴰ g gs → Memᴰ h gs → g.line.said ≡ h.line.said → g ≡ h
