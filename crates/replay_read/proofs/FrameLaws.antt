-- Laws of the calls on a frame: what is read of their fields is what the form says of them.
use Rattle.std.proofs.Common.{◌≡◌, refl, sym, ap, ◌∙◌, subst, List, ℕ, min, Bool, true, false, ◌&&◌, cond, Option, None, Some, nat_eq}
use mathlib.Core.Bool.{and_assoc, and-true}
use Rattle.std.specs.Bool.{then_some}
use Rattle.std.specs.Prelude.{option_and_then}
use Rattle.replay_read.specs.declared.calls.Kind.{Kind}
use Rattle.replay_read.specs.declared.calls.Kind.TheVariants as kind
use Rattle.replay_read.specs.declared.calls.Call.{Call}
use Rattle.replay_fields.specs.declared.fields.Field.{Field}
use Rattle.replay_fields.specs.declared.fields.Cuts.{Cuts}
use Rattle.replay_read.specs.declared.kept.ReadCall.{ReadCall}
use Rattle.replay_fields.specs.Fields.{fields_of, is_number, number_in}
use Rattle.replay_fields.specs.Listing.{word_in}
use Rattle.replay_fields.specs.Places.{Holds, Cut, text_of, num_of, octets_for}
use Rattle.replay_read.specs.Calls.{plain}
use Rattle.replay_read.specs.Call.{LineCall, octet_in_of, tell_seal_down, tell_seal_up, tell_open, tell_seal_down_frame, tell_seal_up_frame, tell_open_frame}
use Rattle.replay_read.specs.CallPlaces.{no_place_of, alone_of, seal_down_in, seal_up_in, open_in}
use Rattle.replay_read.specs.Reads.{Reads}
use Rattle.replay_read.proofs.StepLaws.{nowhere, Told, place_says, nested, step_count, step_some, step_octets, read}

-- ---- the numbers of a call

pub seal_down_is : (k : Kind) (a s : List ℕ) (r : Option Call)
    → r ≡ option_and_then (λ address. option_and_then (λ said. Some (plain k address 0 0 (min said 65535) 0)) (num_of s)) (num_of a) → r ≡ seal_down_in k a s
unfolding seal_down_in num_of
seal_down_is k a s r e = e ∙ go (is_number a) (is_number s)
  where
    go : (x y : Bool)
        → option_and_then (λ address. option_and_then (λ said. Some (plain k address 0 0 (min said 65535) 0)) (then_some y (number_in s))) (then_some x (number_in a))
        ≡ then_some (x && y) (plain k (number_in a) 0 0 (word_in s) 0)
    go false y = refl
    go true false = refl
    go true true = refl

pub seal_up_is : (k : Kind) (s : List ℕ) (r : Option Call) → r ≡ option_and_then (λ said. Some (plain k 0 0 0 (min said 65535) 0)) (num_of s) → r ≡ seal_up_in k s
unfolding seal_up_in num_of
seal_up_is k s r e = e ∙ go (is_number s)
  where
    go : (x : Bool) → option_and_then (λ said. Some (plain k 0 0 0 (min said 65535) 0)) (then_some x (number_in s)) ≡ then_some x (plain k 0 0 0 (word_in s) 0)
    go false = refl
    go true = refl

pub open_is : (k : Kind) (d a s m : List ℕ) (r : Option Call)
    → r ≡ option_and_then (λ direction. option_and_then (λ address. option_and_then (λ said. option_and_then (λ number. Some (plain k address (min direction 255) 0 (min said 65535) (min number 255))) (num_of m)) (num_of s)) (num_of a)) (num_of d)
    → r ≡ open_in k d a s m
unfolding open_in num_of
open_is k d a s m r e = e ∙ go (is_number d) (is_number a) (is_number s) (is_number m)
  where
    go : (x y z w : Bool)
        → option_and_then (λ direction. option_and_then (λ address. option_and_then (λ said. option_and_then (λ number. Some (plain k address (min direction 255) 0 (min said 65535) (min number 255))) (then_some w (number_in m))) (then_some z (number_in s))) (then_some y (number_in a))) (then_some x (number_in d))
        ≡ then_some (x && y && z && w) (plain k (number_in a) (octet_in_of d) 0 (word_in s) (octet_in_of m))
    go false y z w = refl
    go true false z w = refl
    go true true false w = refl
    go true true true false = refl
    go true true true true = refl

-- ---- a step that reads them

module _ (l : List ℕ) {said : LineCall} {f : Field} {t : List ℕ} (h : Holds l f t) where
  pub step_seal_up : {b : Bool} (i : Kind) (k : Call → Option ReadCall) → Told l b said (k (plain i 0 0 0 (word_in t) 0))
      → Told l (is_number t && b) said (option_and_then k (seal_up_in i (text_of l f)))
  unfolding seal_up_in
  step_seal_up {b} i k s =
      subst (λ (x : List ℕ). Told l (is_number t && b) said (option_and_then k (seal_up_in i x))) (sym h.text)
      (step_some l k (is_number t) (plain i 0 0 0 (word_in t) 0) s)

  module _ {g : Field} {u : List ℕ} (q : Holds l g u) where
    pub step_seal_down : {b : Bool} (i : Kind) (k : Call → Option ReadCall) → Told l b said (k (plain i (number_in t) 0 0 (word_in u) 0))
        → Told l (is_number t && is_number u && b) said (option_and_then k (seal_down_in i (text_of l f) (text_of l g)))
    unfolding seal_down_in
    step_seal_down {b} i k s =
        subst (λ (x : List ℕ). Told l (is_number t && is_number u && b) said (option_and_then k (seal_down_in i x (text_of l g)))) (sym h.text)
        (subst (λ (x : List ℕ). Told l (is_number t && is_number u && b) said (option_and_then k (seal_down_in i t x))) (sym q.text)
        (step_some l k (is_number t && is_number u) (plain i (number_in t) 0 0 (word_in u) 0) s))

    module _ {g' g'' : Field} {u' u'' : List ℕ} (q' : Holds l g' u') (q'' : Holds l g'' u'') where
      pub step_open : {b : Bool} (i : Kind) (k : Call → Option ReadCall)
          → Told l b said (k (plain i (number_in u) (octet_in_of t) 0 (word_in u') (octet_in_of u'')))
          → Told l (is_number t && is_number u && is_number u' && is_number u'' && b) said (option_and_then k (open_in i (text_of l f) (text_of l g) (text_of l g') (text_of l g'')))
      unfolding open_in
      step_open {b} i k s =
          let tests = is_number t && is_number u && is_number u' && is_number u'' in
          subst (λ (x : List ℕ). Told l (tests && b) said (option_and_then k (open_in i x (text_of l g) (text_of l g') (text_of l g'')))) (sym h.text)
          (subst (λ (x : List ℕ). Told l (tests && b) said (option_and_then k (open_in i t x (text_of l g') (text_of l g'')))) (sym q.text)
          (subst (λ (x : List ℕ). Told l (tests && b) said (option_and_then k (open_in i t u x (text_of l g'')))) (sym q'.text)
          (subst (λ (x : List ℕ). Told l (tests && b) said (option_and_then k (open_in i t u u' x))) (sym q''.text)
          (step_some l k tests (plain i (number_in u) (octet_in_of t) 0 (word_in u') (octet_in_of u'')) s))))

module _ (l : List ℕ) (c : Cuts) where
  -- ---- as the code reads them

  abbrev pub seal_down_read : Option ReadCall
  seal_down_read = cond (nat_eq c.count 3) (option_and_then (λ call. Some (alone_of call)) (seal_down_in kind.SealDown (text_of l c.first) (text_of l c.second))) None

  abbrev pub seal_up_read : Option ReadCall
  seal_up_read = cond (nat_eq c.count 2) (option_and_then (λ call. Some (alone_of call)) (seal_up_in kind.SealUp (text_of l c.first))) None

  abbrev pub open_read : Kind → Option ReadCall
  open_read k = cond (nat_eq c.count 6) (option_and_then (λ call. (option_and_then (λ write. Some (record { call = call; octets = no_place_of; auth = no_place_of; read = no_place_of; write = write })) (octets_for l c.fifth))) (open_in k (text_of l c.first) (text_of l c.second) (text_of l c.third) (text_of l c.fourth))) None

  abbrev pub seal_down_frame_read : Option ReadCall
  seal_down_frame_read = cond (nat_eq c.count 4) (option_and_then (λ call. (option_and_then (λ octets. Some (record { call = call; octets = octets; auth = no_place_of; read = no_place_of; write = no_place_of })) (octets_for l c.third))) (seal_down_in kind.SealDownFrame (text_of l c.first) (text_of l c.second))) None

  abbrev pub seal_up_frame_read : Option ReadCall
  seal_up_frame_read = cond (nat_eq c.count 3) (option_and_then (λ call. (option_and_then (λ octets. Some (record { call = call; octets = octets; auth = no_place_of; read = no_place_of; write = no_place_of })) (octets_for l c.second))) (seal_up_in kind.SealUpFrame (text_of l c.first))) None

  abbrev pub open_frame_read : Kind → Option ReadCall
  open_frame_read k = cond (nat_eq c.count 7) (option_and_then (λ call. (option_and_then (λ write. (option_and_then (λ octets. Some (record { call = call; octets = octets; auth = no_place_of; read = no_place_of; write = write })) (octets_for l c.sixth))) (octets_for l c.fifth))) (open_in k (text_of l c.first) (text_of l c.second) (text_of l c.third) (text_of l c.fourth))) None

  -- ---- what is read

  module _ (cut : Cut l c) (r : Option ReadCall) where
    pub seal_down_reads : r ≡ seal_down_read → Reads l (tell_seal_down (fields_of l)) r
    unfolding tell_seal_down
    seal_down_reads e =
        subst (λ x. Reads l (tell_seal_down (fields_of l)) x) (sym e)
        (Told.reads (nested l (simp (and_assoc, and-true))
        (step_count l _ _ (ap (λ n. nat_eq n 3) cut.counted)
        (step_seal_down l cut.first_is cut.second_is _ _
        (read l (record { call_is = refl; octets_at = nowhere l; auth_at = nowhere l; read_at = nowhere l; write_at = nowhere l }))))))

    pub seal_up_reads : r ≡ seal_up_read → Reads l (tell_seal_up (fields_of l)) r
    unfolding tell_seal_up
    seal_up_reads e =
        subst (λ x. Reads l (tell_seal_up (fields_of l)) x) (sym e)
        (Told.reads (nested l (simp and-true)
        (step_count l _ _ (ap (λ n. nat_eq n 2) cut.counted)
        (step_seal_up l cut.first_is _ _
        (read l (record { call_is = refl; octets_at = nowhere l; auth_at = nowhere l; read_at = nowhere l; write_at = nowhere l }))))))

    pub open_reads : (k : Kind) → r ≡ open_read k → Reads l (tell_open k (fields_of l)) r
    unfolding tell_open
    open_reads k e =
        subst (λ x. Reads l (tell_open k (fields_of l)) x) (sym e)
        (Told.reads (nested l (simp (and_assoc, and-true))
        (step_count l _ _ (ap (λ n. nat_eq n 6) cut.counted)
        (step_open l cut.first_is cut.second_is cut.third_is cut.fourth_is _ _
        (step_octets l cut.fifth_is _
        (read l (record { call_is = refl; octets_at = nowhere l; auth_at = nowhere l; read_at = nowhere l; write_at = place_says l _ _ cut.fifth_is })))))))

    pub seal_down_frame_reads : r ≡ seal_down_frame_read → Reads l (tell_seal_down_frame (fields_of l)) r
    unfolding tell_seal_down_frame
    seal_down_frame_reads e =
        subst (λ x. Reads l (tell_seal_down_frame (fields_of l)) x) (sym e)
        (Told.reads (nested l (simp (and_assoc, and-true))
        (step_count l _ _ (ap (λ n. nat_eq n 4) cut.counted)
        (step_seal_down l cut.first_is cut.second_is _ _
        (step_octets l cut.third_is _
        (read l (record { call_is = refl; octets_at = place_says l _ _ cut.third_is; auth_at = nowhere l; read_at = nowhere l; write_at = nowhere l })))))))

    pub seal_up_frame_reads : r ≡ seal_up_frame_read → Reads l (tell_seal_up_frame (fields_of l)) r
    unfolding tell_seal_up_frame
    seal_up_frame_reads e =
        subst (λ x. Reads l (tell_seal_up_frame (fields_of l)) x) (sym e)
        (Told.reads (nested l (simp (and_assoc, and-true))
        (step_count l _ _ (ap (λ n. nat_eq n 3) cut.counted)
        (step_seal_up l cut.first_is _ _
        (step_octets l cut.second_is _
        (read l (record { call_is = refl; octets_at = place_says l _ _ cut.second_is; auth_at = nowhere l; read_at = nowhere l; write_at = nowhere l })))))))

    pub open_frame_reads : (k : Kind) → r ≡ open_frame_read k → Reads l (tell_open_frame k (fields_of l)) r
    unfolding tell_open_frame
    open_frame_reads k e =
        subst (λ x. Reads l (tell_open_frame k (fields_of l)) x) (sym e)
        (Told.reads (nested l (simp (and_assoc, and-true))
        (step_count l _ _ (ap (λ n. nat_eq n 7) cut.counted)
        (step_open l cut.first_is cut.second_is cut.third_is cut.fourth_is _ _
        (step_octets l cut.fifth_is _
        (step_octets l cut.sixth_is _
        (read l (record { call_is = refl; octets_at = place_says l _ _ cut.sixth_is; auth_at = nowhere l; read_at = nowhere l; write_at = place_says l _ _ cut.fifth_is }))))))))
