-- Demand 3, part 2: the keys made by a list are those made by its listings and clock calls alone.
use mathlib.Core.Path.{◌≡◌, refl, sym, ◌∙◌, ap, subst}
use mathlib.Core.Bool.{Bool, true, false, ◌&&◌}
use mathlib.Core.List.{List, [], ◌∷◌, ◌++◌, map}
use Prim.Native.Nat.{ℕ, ◌<◌, ◌≤◌}
use native.Mathlib.Omega.{arith}
use lib.ListN.{length, get_or, length-take}
use lib.Seq.{get_or-take, map-set_same}
use Rattle.questions.specs.Answer.{Answer}
use Rattle.questions.specs.declared.settings.Settings.{Settings}
use Rattle.questions.specs.Refusal.{is_done_of}
use Rattle.questions.specs.Settings.{half_of, settings_fit_of}
use Rattle.questions.proofs.TestLaws.{both}
use Rattle.questions.proofs.AnswerLaws.{is-done}
use Rattle.key_association.specs.declared.record.Assoc.{Assoc}
use Rattle.key_association.specs.declared.listing.Listing.{Listing}
use Rattle.key_association.specs.Made.{Accepted, keys_made}
use Rattle.key_association.specs.Made.{listing as madeByListing}
use Rattle.headend_state.specs.declared.state.HeadEnd.{HeadEnd}
use Rattle.headend_state.specs.State.{no_entry_of}
use Rattle.headend_state.specs.Entries.{entries_of, known_of}
use Rattle.key_traffic.specs.Addresses.{address_fits_of}
use Rattle.headend_answers.specs.Answers.{with_keys_of, keys_after, state_after}
use Rattle.headend_limits.proofs.LimitsLaws.{known_place}
use Rattle.headend_calls.specs.Calls as Head
use Rattle.headend_calls.specs.Minting.{named_pairs, accepted_list}
use Rattle.headend_calls.proofs.FrameAnswers.{SameButCounts, open_same, open_frame_same}
use Rattle.modem_calls.specs.Calls as Mdm
use Rattle.modem_calls.proofs.PairLaws.{established_keeps, reauth_keeps, receive_keeps, clock_done}
use Rattle.modem_frames.proofs.FrameKept.{open_keeps, open_frame_keeps, clock_depends}
use Rattle.demand_plant.specs.World.{World, fresh, Step, list, clock, established, reauth, up, down, seal_down, seal_up, open_up_of, open_down, seal_down_frame_of, seal_up_frame_of, open_up_frame_of, open_down_frame_of, with_head, clock_answers_of, clocked_by}
use Rattle.demand_plant.specs.Run.{Did, after, Counts}
use Rattle.demand_plant.specs.KeysMade.{accepted_if, clock_if, accepted_in, accepted_by, struck}
use Rattle.demand_plant.proofs.LogLaws.{Log}
use Rattle.demand_plant.proofs.EntryLogs.{receive_state}
use Rattle.demand_plant.proofs.Alike.{bare, Alike, list_answers, list_alike, list_records, clock_answers, clock_alike, clock_records}
use Rattle.demand_plant.proofs.Inv.{Inv}
use Rattle.demand_plant.proofs.Theorem.{next, begins}

-- ---- worlds whose listings and clock calls go alike
pub record Like (w x : World) : Type 0 where
  pub heads : Alike w.head x.head
  pub records : w.records ≡ x.records
  pub clocks : w.modem.clock ≡ x.modem.clock

-- a message changes no more than authorization keys
granted_alike : (h g : HeadEnd) → Alike h g → (address : ℕ) → (known_of h address).is_listed ≡ true → Alike (state_after h (known_of h address)) g
granted_alike h g same address listed =
    let k = known_of h address in
    let p = known_place h address listed in
    let inside : k.at < h.modems = in_use p.0 in
    let held : get_or h.entries k.at no_entry_of ≡ k.entry = sym (get_or-take h.modems h.entries k.at no_entry_of inside) ∙ p.1 in
    record {
      settings = same.settings;
      clock = same.clock;
      modems = same.modems;
      used = same.used;
      entries = map-set_same bare h.entries k.at (with_keys_of k.entry (keys_after h k.entry)) no_entry_of (ap bare (sym held)) ∙ same.entries;
    }
  where
    in_use : (known_of h address).at < length (entries_of h) → (known_of h address).at < h.modems
    in_use less = omega (arith, less, length-take h.modems h.entries)

module _ {D half own : ℕ} {w x : World} {tr us : List Did} {gs hs : List Log} (v : Inv D half own w tr gs) (u : Inv D half own x us hs) (like : Like w x) where
  -- ---- a step that is struck out
  pub up_like : (address : ℕ) (read write octets auth : List ℕ) (lent : ℕ) → Like (after w (up address read write octets auth lent)) x
  up_like address read write octets auth lent =
      record {
        heads = receive_state w.head w.records address read write octets auth lent (λ (h : HeadEnd). Alike h x.head) like.heads (granted_alike w.head x.head like.heads address);
        records = like.records;
        clocks = like.clocks;
      }

  -- an opening changes no more than the counts
  counted_like : (h : HeadEnd) → SameButCounts w.head h → Like (with_head w h w.records) x
  counted_like h same =
      record {
        heads = record {
          settings = same.settings ∙ like.heads.settings;
          clock = same.clock ∙ like.heads.clock;
          modems = same.modems ∙ like.heads.modems;
          used = same.used ∙ like.heads.used;
          entries = ap (map bare) same.entries ∙ like.heads.entries;
        };
        records = like.records;
        clocks = like.clocks;
      }

  pub open_up_like : (direction address said : ℕ) (number : _) (write : List ℕ) (tek vector lent : ℕ) → Like (after w (open_up_of direction address said number write tek vector lent)) x
  open_up_like direction address said number write tek vector lent =
      counted_like (after w (open_up_of direction address said number write tek vector lent)).head (open_same w.head w.records direction address said number write tek vector lent)

  pub open_up_frame_like : (direction address said : ℕ) (number : _) (frame write : List ℕ) (lent invalid : ℕ) → Like (after w (open_up_frame_of direction address said number frame write lent invalid)) x
  open_up_frame_like direction address said number frame write lent invalid =
      counted_like (after w (open_up_frame_of direction address said number frame write lent invalid)).head (open_frame_same w.head w.records direction address said number frame write lent invalid)

  -- ---- a listing
  module _ (address allowed : ℕ) (l : Listing) (m : List ℕ) where
    pub list_accepts : accepted_in w (list address allowed l m) ≡ accepted_in x (list address allowed l m)
    list_accepts =
        ap (λ (a : Answer). accepted_if a (accepted_list w.head l m)) (list_answers w.head x.head like.heads v.head.within.fits u.head.within.fits w.records address allowed l m ∙ ap (λ (ys : List Assoc). (Head.list_of x.head ys address allowed l m).answer) like.records)
        ∙ ap (λ (n : ℕ). accepted_if (Head.list_of x.head x.records address allowed l m).answer (madeByListing n (named_pairs l) m)) like.heads.clock

    pub list_like : Like (after w (list address allowed l m)) (after x (list address allowed l m))
    list_like =
        record {
          heads = subst (λ (ys : List Assoc). Alike (Head.list_of w.head w.records address allowed l m).state (Head.list_of x.head ys address allowed l m).state) like.records
              (list_alike w.head x.head like.heads v.head.within.fits u.head.within.fits w.records address allowed l m);
          records = list_records w.head x.head like.heads v.head.within.fits u.head.within.fits w.records address allowed l m ∙ ap (λ (ys : List Assoc). Head.list_records_of x.head ys address allowed l m) like.records;
          clocks = like.clocks;
        }

  -- ---- the clock
  module _ (t : ℕ) (m write : List ℕ) (lent : ℕ) where
    same_answers : clock_answers_of w t m write lent ≡ clock_answers_of x t m write lent
    same_answers =
        ap (λ (a : Answer). is_done_of a && is_done_of (Mdm.clock_of w.modem t write lent).called.answer)
        (clock_answers w.head x.head like.heads v.head.within.fits u.head.within.fits w.records t m ∙ ap (λ (ys : List Assoc). (Head.clock_of x.head ys t m).answer) like.records)
        ∙ ap (λ (a : Answer). is_done_of (Head.clock_of x.head x.records t m).answer && is_done_of a) (clock_depends w.modem x.modem t write lent v.fits u.fits like.clocks)

    pub clock_accepts : accepted_in w (clock t m write lent) ≡ accepted_in x (clock t m write lent)
    clock_accepts = ap (λ (b : Bool). clock_if b t m) same_answers

    moved : (b : Bool) → clock_answers_of w t m write lent ≡ b → Like (clocked_by b w t m write lent) (clocked_by b x t m write lent)
    moved false e = like
    moved true e =
        let d = both (is_done_of (Head.clock_of w.head w.records t m).answer) (is_done_of (Mdm.clock_of w.modem t write lent).called.answer) e in
        let d' = both (is_done_of (Head.clock_of x.head x.records t m).answer) (is_done_of (Mdm.clock_of x.modem t write lent).called.answer) (sym same_answers ∙ e) in
        record {
          heads = subst (λ (ys : List Assoc). Alike (Head.clock_of w.head w.records t m).state (Head.clock_of x.head ys t m).state) like.records
              (clock_alike w.head x.head like.heads v.head.within.fits u.head.within.fits w.records t m);
          records = clock_records w.head x.head like.heads v.head.within.fits u.head.within.fits w.records t m ∙ ap (λ (ys : List Assoc). Head.clock_records_of x.head ys t m) like.records;
          clocks = (clock_done w.modem lent t write (is-done (Mdm.clock_of w.modem t write lent).called.answer d.1)).clock
              ∙ sym (clock_done x.modem lent t write (is-done (Mdm.clock_of x.modem t write lent).called.answer d'.1)).clock;
        }

    pub clock_like : Like (after w (clock t m write lent)) (after x (clock t m write lent))
    clock_like = subst (λ (b : Bool). Like (clocked_by (clock_answers_of w t m write lent) w t m write lent) (clocked_by b x t m write lent)) same_answers (moved (clock_answers_of w t m write lent) refl)

-- ---- a whole list
module _ {D half own : ℕ} (own-fits : address_fits_of own ≡ true) where
  pub made_alike : (ss : List Step) {w x : World} {tr us : List Did} {gs hs : List Log} → Inv D half own w tr gs → Inv D half own x us hs → Like w x → Counts D tr w ss
      → accepted_by w ss ≡ accepted_by x (struck ss)
  made_alike [] v u like c = refl
  made_alike (list address allowed l m ∷ ss) {w} {x} v u like c =
      ap (λ (a : List Accepted). a ++ accepted_by (after w (list address allowed l m)) ss) (list_accepts v u like address allowed l m)
      ∙ ap (λ (a : List Accepted). accepted_in x (list address allowed l m) ++ a)
      (made_alike ss (next own-fits v (list address allowed l m) c.0).inv (next own-fits u (list address allowed l m) tt).inv (list_like v u like address allowed l m) c.1)
  made_alike (clock t m write lent ∷ ss) {w} {x} v u like c =
      ap (λ (a : List Accepted). a ++ accepted_by (after w (clock t m write lent)) ss) (clock_accepts v u like t m write lent)
      ∙ ap (λ (a : List Accepted). accepted_in x (clock t m write lent) ++ a)
      (made_alike ss (next own-fits v (clock t m write lent) c.0).inv (next own-fits u (clock t m write lent) tt).inv (clock_like v u like t m write lent) c.1)
  made_alike (established lent ∷ ss) {w} {x} v u like c =
      made_alike ss (next own-fits v (established lent) c.0).inv u (record { heads = like.heads; records = like.records; clocks = (established_keeps w.modem lent).clock ∙ like.clocks }) c.1
  made_alike (reauth lent ∷ ss) {w} {x} v u like c =
      made_alike ss (next own-fits v (reauth lent) c.0).inv u (record { heads = like.heads; records = like.records; clocks = (reauth_keeps w.modem lent).clock ∙ like.clocks }) c.1
  made_alike (up address read write octets auth lent ∷ ss) v u like c =
      made_alike ss (next own-fits v (up address read write octets auth lent) c.0).inv u (up_like v u like address read write octets auth lent) c.1
  made_alike (down read write octets lent ∷ ss) {w} {x} v u like c =
      made_alike ss (next own-fits v (down read write octets lent) c.0).inv u (record { heads = like.heads; records = like.records; clocks = (receive_keeps w.modem lent octets read write).clock ∙ like.clocks }) c.1
  made_alike (seal_down address said tek vector ∷ ss) v u like c = made_alike ss (next own-fits v (seal_down address said tek vector) c.0).inv u like c.1
  made_alike (seal_up said tek vector ∷ ss) v u like c = made_alike ss (next own-fits v (seal_up said tek vector) c.0).inv u like c.1
  made_alike (open_up_of direction address said number write tek vector lent ∷ ss) v u like c =
      made_alike ss (next own-fits v (open_up_of direction address said number write tek vector lent) c.0).inv u (open_up_like v u like direction address said number write tek vector lent) c.1
  made_alike (open_down direction address said number write tek vector lent ∷ ss) {w} {x} v u like c =
      made_alike ss (next own-fits v (open_down direction address said number write tek vector lent) c.0).inv u
      (record { heads = like.heads; records = like.records; clocks = (open_keeps w.modem direction address said number write tek vector lent).clock ∙ like.clocks }) c.1
  made_alike (seal_down_frame_of address said frame lent ∷ ss) v u like c = made_alike ss (next own-fits v (seal_down_frame_of address said frame lent) c.0).inv u like c.1
  made_alike (seal_up_frame_of said frame lent ∷ ss) v u like c = made_alike ss (next own-fits v (seal_up_frame_of said frame lent) c.0).inv u like c.1
  made_alike (open_up_frame_of direction address said number frame write lent invalid ∷ ss) v u like c =
      made_alike ss (next own-fits v (open_up_frame_of direction address said number frame write lent invalid) c.0).inv u (open_up_frame_like v u like direction address said number frame write lent invalid) c.1
  made_alike (open_down_frame_of direction address said number frame write lent messages ∷ ss) {w} {x} v u like c =
      made_alike ss (next own-fits v (open_down_frame_of direction address said number frame write lent messages) c.0).inv u
      (record { heads = like.heads; records = like.records; clocks = (open_frame_keeps w.modem direction address said number frame write lent messages).clock ∙ like.clocks }) c.1

module _ (settings : Settings) (address said : ℕ) (records : List Assoc) (fits : settings_fit_of settings ≡ true) (address-fits : address_fits_of address ≡ true) (said_fits : said ≤ 16383) where
  abbrev start : World
  start = fresh settings address said records

  -- the keys made by a list, and by its listings and clock calls run from the fresh pair
  pub keys_alone : (D : ℕ) (ss : List Step) → Counts D [] start ss → keys_made (half_of settings.tek) (accepted_by start ss) ≡ keys_made (half_of settings.tek) (accepted_by start (struck ss))
  keys_alone D ss c =
      let v = begins settings address said records fits address-fits said_fits D in
      ap (keys_made (half_of settings.tek))
      (made_alike address-fits ss v v (record { heads = record { settings = refl; clock = refl; modems = refl; used = refl; entries = refl }; records = refl; clocks = refl }) c)
