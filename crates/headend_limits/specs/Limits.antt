-- Question 1 of the head-end's state and of a listing's fields (document 01, question 1; docs/DECISIONS.md, "Limits of the head-end's state").
use Rattle.std.specs.Prelude.{Bool, true, cond, ◌&&◌, ◌||◌, not, List, [], ◌∷◌, ◌++◌, ℕ, ◌+◌, leb, ltb, eqb}
use Rattle.key_traffic.specs.Numbers.{ak_in_range_of}
use Rattle.questions.specs.Settings.{settings_fit_of}
use Rattle.key_traffic.specs.Suites.{suite_known_of}
use Rattle.key_association.specs.declared.listing.Listing.{Listing}
use Rattle.key_association.specs.Listing.{names_of}
use Rattle.key_traffic.specs.Addresses.{said_fits_of, address_fits_of}
use Rattle.headend_state.specs.declared.state.AuthKeys.{AuthKeys}
use Rattle.headend_state.specs.declared.state.Entry.{Entry}
use Rattle.headend_state.specs.declared.state.HeadEnd.{HeadEnd}
use Rattle.headend_state.specs.Entries.{entries_of, said_at, suite_at, lists}

-- ---- a listing

-- The SAID at a place has 14 bits and a known suite, where the place is in use
unfoldable pub place_fits_of : Listing → ℕ → Bool
place_fits_of l i = leb l.count i || (said_fits_of (said_at l i) && suite_known_of (suite_at l i))

-- 1 to 4 SAIDs, each with a suite
unfoldable pub listing_fits_of : Listing → Bool
listing_fits_of l =
    leb 1 l.count && leb l.count 4
    && place_fits_of l 0 && place_fits_of l 1 && place_fits_of l 2 && place_fits_of l 3

-- The SAID at a place is none of those before it, where the place is in use
unfoldable pub new_at : Listing → ℕ → Bool
new_at l i = leb l.count i || not (names_of i (said_at l 0) (said_at l 1) (said_at l 2) (said_at l 3) (said_at l i))

-- No SAID twice
unfoldable pub saids_differ_of : Listing → Bool
saids_differ_of l = new_at l 1 && new_at l 2 && new_at l 3

-- ---- an entry
abbrev pub maximum : ℕ → ℕ → ℕ
maximum a b = cond (ltb a b) b a

-- The older key runs out at most A after the clock; the newer at most A after the older, or after the clock where the older is past;
-- and after the older, unless there is none
unfoldable pub auth_keys_fit_of : ℕ → ℕ → AuthKeys → Bool
auth_keys_fit_of life clock k =
    ak_in_range_of k.next
    && leb k.older (clock + life)
    && leb k.newer (maximum clock k.older + life)
    && (ltb k.older k.newer || (eqb k.older 0 && eqb k.newer 0))

unfoldable pub entry_fits_of : ℕ → ℕ → Entry → Bool
entry_fits_of life clock e =
    address_fits_of e.address
    && leb e.allowed 1
    && listing_fits_of e.listing
    && saids_differ_of e.listing
    && auth_keys_fit_of life clock e.keys

-- ---- entries beside each other

-- The SAID at a place of one listing is named by another
unfoldable pub shares_at : Listing → ℕ → Listing → Bool
shares_at l i m = ltb i l.count && lists m (said_at l i)

unfoldable pub shares : Listing → Listing → Bool
shares l m = shares_at l 0 m || shares_at l 1 m || shares_at l 2 m || shares_at l 3 m

-- An entry has another address and no SAID in common with a listing: each SAID is under one modem
unfoldable pub is_apart_of : ℕ → Listing → Entry → Bool
is_apart_of address l e = not (eqb e.address address) && not (shares l e.listing)

unfoldable pub all_apart_of : ℕ → Listing → List Entry → Bool
all_apart_of address l [] = true
all_apart_of address l (e ∷ es) = is_apart_of address l e && all_apart_of address l es

-- Each entry is within its limits and apart from all before it
unfoldable pub entries_from : ℕ → ℕ → List Entry → List Entry → Bool
entries_from life clock before [] = true
entries_from life clock before (e ∷ es) =
    entry_fits_of life clock e && all_apart_of e.address e.listing before && entries_from life clock (before ++ (e ∷ [])) es

-- ---- the state
unfoldable pub head_fits_of : HeadEnd → Bool
head_fits_of h =
    settings_fit_of h.settings
    && leb h.clock 1000000000000
    && leb h.modems 16
    && leb h.used 64
    && entries_from h.settings.ak.life h.clock [] (entries_of h)
