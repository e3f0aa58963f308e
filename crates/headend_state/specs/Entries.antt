-- The entries of the listed modems (document 01, "Traffic keys at the head-end": listing a modem).
use Rattle.std.specs.Prelude.{Bool, true, false, cond, ◌&&◌, ◌||◌, List, [], ◌∷◌, ℕ, suc, ltb, eqb, get_or, set, take}
use Rattle.key_association.specs.declared.listing.Listing.{Listing}
use Rattle.key_association.specs.Listing.{names_of}
use Rattle.headend_state.specs.declared.state.Entry.{Entry}
use Rattle.headend_state.specs.declared.state.HeadEnd.{HeadEnd}
use Rattle.headend_state.specs.declared.entries.Known.{Known}
use Rattle.headend_state.specs.State.{no_entry_of, with_entries}

-- The entries in use
abbrev pub entries_of : HeadEnd → List Entry
entries_of h = take h.modems h.entries

-- How many of the 16 places are in use
abbrev pub in_use_of : ℕ → ℕ
in_use_of modems = cond (ltb modems 16) modems 16

-- ---- by the address: the first entry that has it, with its place
abbrev pub known_here_of : ℕ → Entry → Known
known_here_of at e = record { is_listed = true; at = at; entry = e }

abbrev pub known_none_of : ℕ → Known
known_none_of at = record { is_listed = false; at = at; entry = no_entry_of }

abbrev pub here_or : Bool → ℕ → Entry → Known → Known
here_or true at e later = known_here_of at e
here_or false at e later = later

unfoldable pub known_from : ℕ → ℕ → List Entry → Known
known_from address at [] = known_none_of at
known_from address at (e ∷ es) = here_or (eqb e.address address) at e (known_from address (suc at) es)

abbrev pub known_of : HeadEnd → ℕ → Known
known_of h address = known_from address 0 (entries_of h)

abbrev pub with_entry_of : HeadEnd → ℕ → Entry → HeadEnd
with_entry_of h at e = with_entries h h.modems (set h.entries at e) h.used

-- ---- what a listing names
abbrev pub said_at : Listing → ℕ → ℕ
said_at l i = get_or l.saids i 0

abbrev pub suite_at : Listing → ℕ → ℕ
suite_at l i = get_or l.suites i 0

-- A SAID is this modem's if its listing names it
abbrev pub lists : Listing → ℕ → Bool
lists l said = names_of l.count (said_at l 0) (said_at l 1) (said_at l 2) (said_at l 3) said

-- The same with the suite that stands beside it
abbrev pub lists_at : Listing → ℕ → ℕ → ℕ → Bool
lists_at l i said suite = ltb i l.count && eqb (said_at l i) said && eqb (suite_at l i) suite

unfoldable pub lists_suite : Listing → ℕ → ℕ → Bool
lists_suite l said suite = lists_at l 0 said suite || lists_at l 1 said suite || lists_at l 2 said suite || lists_at l 3 said suite
