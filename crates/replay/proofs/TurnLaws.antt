-- Laws of what was written at the front of a lent slice, of an answer, and of a line by the call that it says.
use mathlib.Core.Path.{◌≡◌, refl, sym, ◌∙◌, ap, subst}
use mathlib.Core.List.{List, [], ◌∷◌, ◌++◌}
use Rattle.std.specs.Prelude.{Option, None, Some}
use Prim.Native.Nat.{ℕ, ◌+◌, ◌≤◌, ◌<◌}
use native.Mathlib.Omega.{arith}
use lib.ListN.{length, take, drop, replicate, length-append, length-drop, length-replicate}
use borrow.Author.Tests.{lt-leb}
use Rattle.key_traffic.specs.Octets.{overlay}
use lib.Seq.{length-take-le}
use Rattle.replay_read.specs.declared.calls.Kind.{Kind}
use Rattle.replay_read.specs.declared.calls.Call.{Call}
use Rattle.demand_plant.specs.World.{Step}
use Rattle.replay_read.specs.declared.kept.ReadCall.{ReadCall}
use Rattle.replay_fields.specs.declared.octets.Place.{Place}
use Rattle.replay_answer.specs.Answer.{answer_text, answer_line}
use Rattle.text.proofs.HexLaws.{octets_length}
use Rattle.replay_fields.specs.Fields.{is_line}
use Rattle.replay_read.specs.Call.{LineCall, call_of}
use Rattle.replay_read.specs.Reads.{Reads}
use Rattle.replay_apply.specs.declared.ends.Ends.{Ends}
use Rattle.replay_apply.specs.declared.ends.Applied.{Applied}
use Rattle.replay_apply.specs.Steps.{world_of, step_for}
use Rattle.replay_apply.specs.Gave.{gave_of}
use Rattle.replay_apply.specs.Applied.{applied_of}
use Rattle.replay.specs.declared.turn.Turned.{Turned}
use Rattle.replay.specs.Turn.{step_for_line, octets_at_of, Within, step_read, PlacesFit, no_call_text, answered_by_of, ends_after, turn_text_for, turn_ends_for, AnswersStep, GivenFits, given_text, PutsGiven}

-- The octets in front are those that were written
pub take_front : (w rest : List ℕ) → take (length w) (w ++ rest) ≡ w
take_front [] rest = refl
take_front (x ∷ w) rest = ap (λ (l : List ℕ). x ∷ l) (take_front w rest)

-- What was written fits the slice
written_fits : (lent w after : List ℕ) → after ≡ overlay lent w → length w ≤ length after
written_fits lent w after e =
    let parts : length after ≡ length w + length (drop (length w) lent) = ap length e ∙ length-append w (drop (length w) lent) in
    omega (arith, parts)

-- ---- a call that was applied, with the slices lent to it after it; `lent` is that for a frame before it
module _ (e : Ends) (c : Call) (octets auth read write lent : List ℕ) (a : Applied) (tek vector sent frame : List ℕ)
    (is : a ≡ applied_of (world_of e) (step_for c octets auth read write 16 16 342 (length lent)))
    (tek-is : tek ≡ overlay (replicate 16 0) (gave_of (world_of e) (step_for c octets auth read write 16 16 342 (length lent))).out.tek)
    (vector-is : vector ≡ overlay (replicate 16 0) (gave_of (world_of e) (step_for c octets auth read write 16 16 342 (length lent))).out.vector)
    (sent_is : sent ≡ overlay (replicate 342 0) (gave_of (world_of e) (step_for c octets auth read write 16 16 342 (length lent))).sent)
    (frame_is : frame ≡ overlay lent (gave_of (world_of e) (step_for c octets auth read write 16 16 342 (length lent))).frame) where
  abbrev s : Step
  s = step_for c octets auth read write 16 16 342 (length lent)

  wide : a.width ≡ length (gave_of (world_of e) s).out.tek
  wide = ap (λ (y : Applied). y.width) is

  long : a.frame ≡ length (gave_of (world_of e) s).frame
  long = ap (λ (y : Applied). y.frame) is

  many : a.count ≡ length (gave_of (world_of e) s).sent
  many = ap (λ (y : Applied). y.count) is

  width_fits : a.width ≤ length tek
  width_fits = let h = written_fits (replicate 16 0) (gave_of (world_of e) s).out.tek tek tek-is in omega (arith, h, wide)

  frame-fits : a.frame ≤ length frame
  frame-fits = let h = written_fits lent (gave_of (world_of e) s).frame frame frame_is in omega (arith, h, long)

  count_fits : a.count ≤ length sent
  count_fits = let h = written_fits (replicate 342 0) (gave_of (world_of e) s).sent sent sent_is in omega (arith, h, many)

  pub given_fits : (out : List ℕ) → length tek ≡ 16 → length vector ≡ 16 → length sent ≡ 342 → length frame ≤ 8192 → answer_line ≤ length out
      → GivenFits a tek vector frame sent out
  given_fits out t v m f room =
      let w = width_fits in
      let z = frame-fits in
      let k = count_fits in
      let w' : a.width ≤ length vector = omega (arith, w, t, v) in
      let lt = length-take-le a.width tek w in
      let lv = length-take-le a.width vector w' in
      let lf = length-take-le a.frame frame z in
      let ls = length-take-le a.count sent k in
      record {
        tek_there = w;
        vector_there = w';
        frame_there = z;
        sent_there = k;
        room = record {
          tek-fits = omega (arith, w, t, lt);
          vector_fits = omega (arith, w, t, lv);
          frame-fits = omega (arith, z, f, lf);
          sent_fits = omega (arith, k, m, ls);
          out_fits = room;
        };
      }

  tek_shown : take a.width tek ≡ (gave_of (world_of e) s).out.tek
  tek_shown = ap (λ n. take n tek) wide ∙ ap (take (length (gave_of (world_of e) s).out.tek)) tek-is ∙ take_front _ _

  frame_shown : take a.frame frame ≡ (gave_of (world_of e) s).frame
  frame_shown = ap (λ n. take n frame) long ∙ ap (take (length (gave_of (world_of e) s).frame)) frame_is ∙ take_front _ _

  sent_shown : take a.count sent ≡ (gave_of (world_of e) s).sent
  sent_shown = ap (λ n. take n sent) many ∙ ap (take (length (gave_of (world_of e) s).sent)) sent_is ∙ take_front _ _

  vector_shown : take a.width vector ≡ take (length (gave_of (world_of e) s).out.tek) (overlay (replicate 16 0) (gave_of (world_of e) s).out.vector)
  vector_shown = ap (λ n. take n vector) wide ∙ ap (take (length (gave_of (world_of e) s).out.tek)) vector-is

  abbrev text_with : Kind → List ℕ → List ℕ → List ℕ → List ℕ → List ℕ
  text_with k t v f x = answer_text k (applied_of (world_of e) s).number (gave_of (world_of e) s).key.0 t v f x

  answer_is : (k : Kind) → given_text k a tek vector frame sent ≡ answered_by_of e s k
  unfolding answered_by_of
  answer_is k =
      ap (λ (y : Applied). answer_text k y.number y.key.0 (take a.width tek) (take a.width vector) (take a.frame frame) (take a.count sent)) is
      ∙ ap (λ (l : List ℕ). text_with k l (take a.width vector) (take a.frame frame) (take a.count sent)) tek_shown
      ∙ ap (λ (l : List ℕ). text_with k (gave_of (world_of e) s).out.tek l (take a.frame frame) (take a.count sent)) vector_shown
      ∙ ap (λ (l : List ℕ). text_with k (gave_of (world_of e) s).out.tek
      (take (length (gave_of (world_of e) s).out.tek) (overlay (replicate 16 0) (gave_of (world_of e) s).out.vector)) l (take a.count sent)) frame_shown
      ∙ ap (λ (l : List ℕ). text_with k (gave_of (world_of e) s).out.tek
      (take (length (gave_of (world_of e) s).out.tek) (overlay (replicate 16 0) (gave_of (world_of e) s).out.vector)) (gave_of (world_of e) s).frame l) sent_shown

  pub step_answered : (k : Kind) (out after : List ℕ) (count : ℕ) → PutsGiven k a tek vector frame sent out count after → AnswersStep e s k out a.ends count after
  unfolding ends_after
  step_answered k out after count (n, written) =
      (ap (λ (y : Applied). y.ends) is, n ∙ ap length (answer_is k), written ∙ ap (overlay out) (answer_is k))

-- ---- a line by what it says
abbrev Turns : Ends → Option LineCall → List ℕ → Turned → List ℕ → Type 0
Turns e o out r after = (r.ends ≡ turn_ends_for e o) × (r.count ≡ length (turn_text_for e o)) × (after ≡ overlay out (turn_text_for e o))

-- A line that is too long is no call
pub too_long : (e : Ends) (line out after : List ℕ) (r : Turned) → 16384 < length line → r ≡ record { count = 2; ends = e } → after ≡ overlay out no_call_text
    → Turns e (call_of line) out r after
unfolding call_of is_line
too_long e line out after r h p q = simp (lt-leb (length line) 16384 h) ((ap (λ (y : Turned). y.ends) p, ap (λ (y : Turned). y.count) p, q))

-- One that says none is none
pub says_none : (e : Ends) (line out after : List ℕ) (o : Option LineCall) (r : Turned) → Reads line o None
    → r ≡ record { count = 2; ends = e } → after ≡ overlay out no_call_text → Turns e o out r after
says_none e line out after None r reads p q = (ap (λ (y : Turned). y.ends) p, ap (λ (y : Turned). y.count) p, q)
says_none e line out after (Some t) r reads p q = absurd reads

-- One that says a call is that call's step, with the octets and the keys that it says
abbrev Answers : Ends → Step → Kind → List ℕ → Turned → List ℕ → Type 0
Answers e s k out r after = AnswersStep e s k out r.ends r.count after

same_step : (c : Call) (o o' a a' k k' w w' : List ℕ) (n n' : ℕ) → o ≡ o' → a ≡ a' → k ≡ k' → w ≡ w' → n ≡ n'
    → step_for c o a k w 16 16 342 n ≡ step_for c o' a' k' w' 16 16 342 n'
same_step c o o' a a' k k' w w' n n' p q r s t =
    ap (λ (l : List ℕ). step_for c l a k w 16 16 342 n) p ∙ ap (λ (l : List ℕ). step_for c o' l k w 16 16 342 n) q
    ∙ ap (λ (l : List ℕ). step_for c o' a' l w 16 16 342 n) r ∙ ap (λ (l : List ℕ). step_for c o' a' k' l 16 16 342 n) s
    ∙ ap (λ (m : ℕ). step_for c o' a' k' w' 16 16 342 m) t

pub says_call : (e : Ends) (line out after : List ℕ) (o : Option LineCall) (c : ReadCall) (r : Turned) → Reads line o (Some c)
    → Answers e (step_read c line) c.call.kind out r after → Turns e o out r after
says_call e line out after None c r reads h = absurd reads
says_call e line out after (Some t) c r reads h =
    let step : step_read c line ≡ step_for_line t =
    same_step c.call _ _ _ _ _ _ _ _ _ _ reads.octets_at.says reads.auth_at.says reads.read_at.says reads.write_at.says (ap length reads.octets_at.says)
    ∙ ap (λ (k : Call). step_for k t.octets t.auth t.read t.write 16 16 342 (length t.octets)) reads.call_is in
    let stepped = subst (λ (x : Step). Answers e x c.call.kind out r after) step h in
    subst (λ (k : Kind). Answers e (step_for_line t) k out r after) (ap (λ (k : Call). k.kind) reads.call_is) stepped

-- where the line has the digits of a call that it says
pub places_fit : (line : List ℕ) (o : Option LineCall) (c : ReadCall) → Reads line o (Some c) → PlacesFit c line
places_fit line None c reads = absurd reads
places_fit line (Some t) c reads = record { octets = reads.octets_at.within; auth = reads.auth_at.within; read = reads.read_at.within; write = reads.write_at.within }

-- ---- the octets and the keys of a line, taken out of it
octets_count : (line : List ℕ) (p : Place) → Within p line → length (octets_at_of line p) ≡ p.count
octets_count line p h = octets_length p.count (drop p.at line) (simp length-drop (omega arith))

octets_taken : (line out : List ℕ) (p : Place) (after : List ℕ) → after ≡ overlay out (octets_at_of line p) → Within p line → take p.count after ≡ octets_at_of line p
octets_taken line out p after e h =
    let w = octets_at_of line p in
    ap (λ k. take k after) (sym (octets_count line p h)) ∙ ap (take (length w)) e ∙ take_front w (drop (length w) out)

-- the slice lent for a frame is as long as the octets of the line
pub frame_lent : (line : List ℕ) (p : Place) → Within p line → length line ≤ 16384 → length (take p.count (replicate {A = ℕ} 8192 0)) ≡ p.count
frame_lent line p h k =
    let n = length-replicate {A = ℕ} 8192 0 in
    length-take-le p.count (replicate {A = ℕ} 8192 0) (omega (arith, h, k, n))

pub call_line : (e : Ends) (line : List ℕ) (c : ReadCall) (octets auth read write out after : List ℕ) (n : ℕ) (r : Turned) → PlacesFit c line
    → octets ≡ overlay (replicate 8192 0) (octets_at_of line c.octets) → auth ≡ overlay (replicate 8192 0) (octets_at_of line c.auth)
    → read ≡ overlay (replicate 8192 0) (octets_at_of line c.read) → write ≡ overlay (replicate 8192 0) (octets_at_of line c.write)
    → n ≡ c.octets.count
    → Answers e (step_for c.call (take c.octets.count octets) (take c.auth.count auth) (take c.read.count read) (take c.write.count write) 16 16 342 n) c.call.kind out r after
    → Answers e (step_read c line) c.call.kind out r after
call_line e line c octets auth read write out after n r f p q s u v x =
    subst (λ (z : Step). Answers e z c.call.kind out r after)
    (same_step c.call _ _ _ _ _ _ _ _ _ _ (octets_taken line (replicate 8192 0) c.octets octets p f.octets) (octets_taken line (replicate 8192 0) c.auth auth q f.auth)
    (octets_taken line (replicate 8192 0) c.read read s f.read) (octets_taken line (replicate 8192 0) c.write write u f.write)
    (v ∙ sym (octets_count line c.octets f.octets)))
    x
