-- The head-end's state with parts exchanged, a fresh one, and what a call hands back.
use Rattle.std.specs.Prelude.{ℕ, List, replicate}
use Rattle.questions.specs.Answer.{Answer}
use Rattle.questions.specs.declared.settings.Settings.{Settings}
use Rattle.key_association.specs.Listing.{no_listing_of}
use Rattle.headend_state.specs.declared.state.AuthKeys.{AuthKeys}
use Rattle.headend_state.specs.declared.state.Entry.{Entry}
use Rattle.headend_state.specs.declared.state.HeadEnd.{HeadEnd}
use Rattle.headend_state.specs.declared.state.Called.{Called}

-- ---- nothing there
abbrev pub no_keys : AuthKeys
no_keys = record { next = record { 0 = 0 }; older = 0; newer = 0 }

abbrev pub no_entry_of : Entry
no_entry_of = record { address = 0; allowed = 0; listing = no_listing_of; keys = no_keys }

-- A fresh head-end starts at clock 0 (document 01, "Settings"), and has listed nothing
abbrev pub fresh_of : Settings → HeadEnd
fresh_of s =
    record {
      settings = s;
      clock = 0;
      modems = 0;
      entries = replicate 16 no_entry_of;
      used = 0;
      taken = 0;
      refused = 0;
    }

-- ---- parts exchanged
abbrev pub with_entries : HeadEnd → ℕ → List Entry → ℕ → HeadEnd
with_entries h modems entries used =
    record {
      settings = h.settings;
      clock = h.clock;
      modems = modems;
      entries = entries;
      used = used;
      taken = h.taken;
      refused = h.refused;
    }

abbrev pub with_clock_of : HeadEnd → ℕ → HeadEnd
with_clock_of h t =
    record {
      settings = h.settings;
      clock = t;
      modems = h.modems;
      entries = h.entries;
      used = h.used;
      taken = h.taken;
      refused = h.refused;
    }

-- ---- what a call hands back where it writes nothing
abbrev pub answered_call : Answer → HeadEnd → Called
answered_call a h = record { answer = a; state = h; count = 0 }
