-- Laws of each kind of call: what is read of its fields is what the form says of them.
use Rattle.std.proofs.Common.{◌≡◌, refl, sym, ap, subst, List, ℕ, ◌+◌, min, cond, Option, None, Some, nat_eq, nat_le, ◌≤◌, ◌<◌, ◌∙◌, length, drop}
use borrow.Author.Tests.{le-leb, lt-leb}
use mathlib.Core.Bool.{and_assoc, and-true}
use Rattle.std.specs.Prelude.{option_and_then}
use Rattle.replay_read.specs.declared.calls.Kind.{Kind}
use Rattle.replay_read.specs.declared.calls.Kind.TheVariants as kind
use Rattle.replay_fields.specs.declared.fields.Cuts.{Cuts}
use Rattle.replay_read.specs.declared.kept.ReadCall.{ReadCall}
use Rattle.replay_fields.specs.Fields.{fields_of, is_line}
use Rattle.replay_fields.specs.Places.{Cut, text_of, fields_from_of, num_of, octets_for, pairs_of, flag_of_given}
use Rattle.replay_read.specs.Calls.{call_with, plain}
use Rattle.replay_read.specs.Call.{kind_named_of, tell_of, tell_by, call_of, tell_list, tell_clock, tell_bare, tell_up, tell_down}
use Rattle.replay_read.specs.CallPlaces.{no_place_of, alone_of}
use Rattle.replay_read.specs.Reads.{Reads}
use Rattle.replay_read.proofs.StepLaws.{nowhere, Told, place_says, nested, step_count, step_num, step_flag, step_octets, step_pairs, read}

module _ (l : List ℕ) (c : Cuts) where
  -- ---- as the code reads them

  abbrev pub clock_read : Option ReadCall
  clock_read = cond (nat_eq c.count 4) (option_and_then (λ second. (option_and_then (λ octets. (option_and_then (λ key. Some (record { call = plain kind.Clock 0 0 second 0 0; octets = octets; auth = no_place_of; read = no_place_of; write = key })) (octets_for l c.third))) (octets_for l c.second))) (num_of (text_of l c.first))) None

  abbrev pub bare_read : Kind → Option ReadCall
  bare_read k = cond (nat_eq c.count 1) (Some (alone_of (plain k 0 0 0 0 0))) None

  abbrev pub up_read : Option ReadCall
  up_read = cond (nat_eq c.count 6) (option_and_then (λ address. (option_and_then (λ read. (option_and_then (λ write. (option_and_then (λ auth. (option_and_then (λ octets. Some (record { call = plain kind.Up address 0 0 0 0; octets = octets; auth = auth; read = read; write = write })) (octets_for l c.fifth))) (octets_for l c.fourth))) (octets_for l c.third))) (octets_for l c.second))) (num_of (text_of l c.first))) None

  abbrev pub down_read : Option ReadCall
  down_read = cond (nat_eq c.count 4) (option_and_then (λ read. (option_and_then (λ key. (option_and_then (λ octets. Some (record { call = plain kind.Down 0 0 0 0 0; octets = octets; auth = no_place_of; read = read; write = key })) (octets_for l c.third))) (octets_for l c.second))) (octets_for l c.first)) None

  abbrev pub list_read : Option ReadCall
  list_read = cond (nat_le 6 c.count) (option_and_then (λ address. (option_and_then (λ allowed. (option_and_then (λ octets. (option_and_then (λ listing. Some (record { call = call_with kind.List address (min allowed 255) 0 0 0 listing; octets = octets; auth = no_place_of; read = no_place_of; write = no_place_of })) (pairs_of (fields_from_of l (c.third.end + 1))))) (octets_for l c.third))) (flag_of_given (text_of l c.second)))) (num_of (text_of l c.first))) None

  -- ---- what is read

  module _ (cut : Cut l c) (r : Option ReadCall) where
    pub clock_reads : r ≡ clock_read → Reads l (tell_clock (fields_of l)) r
    unfolding tell_clock
    clock_reads e =
        subst (λ x. Reads l (tell_clock (fields_of l)) x) (sym e)
        (Told.reads (nested l (simp (and_assoc, and-true))
        (step_count l _ _ (ap (λ n. nat_eq n 4) cut.counted)
        (step_num l cut.first_is _
        (step_octets l cut.second_is _
        (step_octets l cut.third_is _
        (read l (record { call_is = refl; octets_at = place_says l _ _ cut.second_is; auth_at = nowhere l; read_at = nowhere l; write_at = place_says l _ _ cut.third_is }))))))))

    pub bare_reads : (k : Kind) → r ≡ bare_read k → Reads l (tell_bare k (fields_of l)) r
    unfolding tell_bare
    bare_reads k e =
        subst (λ x. Reads l (tell_bare k (fields_of l)) x) (sym e)
        (Told.reads (nested l (simp and-true)
        (step_count l _ _ (ap (λ n. nat_eq n 1) cut.counted)
        (read l (record { call_is = refl; octets_at = nowhere l; auth_at = nowhere l; read_at = nowhere l; write_at = nowhere l })))))

    pub up_reads : r ≡ up_read → Reads l (tell_up (fields_of l)) r
    unfolding tell_up
    up_reads e =
        subst (λ x. Reads l (tell_up (fields_of l)) x) (sym e)
        (Told.reads (nested l (simp (and_assoc, and-true))
        (step_count l _ _ (ap (λ n. nat_eq n 6) cut.counted)
        (step_num l cut.first_is _
        (step_octets l cut.second_is _
        (step_octets l cut.third_is _
        (step_octets l cut.fourth_is _
        (step_octets l cut.fifth_is _
        (read l (record { call_is = refl; octets_at = place_says l _ _ cut.fifth_is; auth_at = place_says l _ _ cut.fourth_is; read_at = place_says l _ _ cut.second_is; write_at = place_says l _ _ cut.third_is }))))))))))

    pub down_reads : r ≡ down_read → Reads l (tell_down (fields_of l)) r
    unfolding tell_down
    down_reads e =
        subst (λ x. Reads l (tell_down (fields_of l)) x) (sym e)
        (Told.reads (nested l (simp (and_assoc, and-true))
        (step_count l _ _ (ap (λ n. nat_eq n 4) cut.counted)
        (step_octets l cut.first_is _
        (step_octets l cut.second_is _
        (step_octets l cut.third_is _
        (read l (record { call_is = refl; octets_at = place_says l _ _ cut.third_is; auth_at = nowhere l; read_at = place_says l _ _ cut.first_is; write_at = place_says l _ _ cut.second_is }))))))))

    pub list_reads : r ≡ list_read → Reads l (tell_list (fields_of l)) r
    unfolding tell_list
    list_reads e =
        subst (λ x. Reads l (tell_list (fields_of l)) x) (sym e)
        (Told.reads (nested l (simp (and_assoc, and-true))
        (step_count l _ _ (ap (λ n. nat_le 6 n) cut.counted)
        (step_num l cut.first_is _
        (step_flag l cut.second_is _
        (step_octets l cut.third_is _
        (step_pairs l (drop 4 (fields_of l)) _ _ cut.rest_is
        (read l (record { call_is = refl; octets_at = place_says l _ _ cut.third_is; auth_at = nowhere l; read_at = nowhere l; write_at = nowhere l })))))))))

-- ---- a line

module _ (l : List ℕ) where
  pub long_reads : (r : Option ReadCall) → 16384 < length l → r ≡ None → Reads l (call_of l) r
  unfolding call_of is_line
  long_reads r h e = simp (lt-leb (length l) 16384 h, e) tt

  module _ (c : Cuts) (cut : Cut l c) (short : length l ≤ 16384) where
    called : call_of l ≡ tell_by (kind_named_of (text_of l c.name)) (fields_of l)
    unfolding call_of is_line
    called = simp (le-leb (length l) 16384 short) (ap (λ (t : List ℕ). tell_by (kind_named_of t) (fields_of l)) (sym cut.name_is.text))

    pub other_reads : (r : Option ReadCall) → kind_named_of (text_of l c.name) ≡ None → r ≡ None → Reads l (call_of l) r
    other_reads r h e =
        subst (λ o. Reads l o r) (sym (called ∙ ap (λ k. tell_by k (fields_of l)) h)) (subst (λ o. Reads l None o) (sym e) tt)

    pub known_reads : (k : Kind) (r : Option ReadCall) → kind_named_of (text_of l c.name) ≡ Some k → Reads l (tell_of k (fields_of l)) r → Reads l (call_of l) r
    known_reads k r h s = subst (λ o. Reads l o r) (sym (called ∙ ap (λ k. tell_by k (fields_of l)) h)) s
