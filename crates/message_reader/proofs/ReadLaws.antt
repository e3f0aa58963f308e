-- The reading of a message: the first question that is answered with no, or the fields.
use Prim.Native.Nat.{ℕ, ◌+◌, ◌≤◌}
use mathlib.Core.Path.{◌≡◌, refl, sym, ap, ◌∙◌}
use mathlib.Core.List.{List}
use mathlib.Core.Bool.{Bool, true, false, ◌&&◌}
use lib.ListN.{length, get_or, take, drop}
use lib.Seq.{take-add, drop_at, length-take-le, get_or-take}
use lib.Dec.{leb}
use native.Mathlib.Omega.{arith}
use borrow.Author.Tests.{leb-true}
use Rattle.questions.specs.declared.refusal.Refusal.TheVariants.{CutMessage, CodeNotReceived, BadAttribute, WrongAttributes}
use Rattle.std.specs.Prelude.{Result}
use Rattle.questions.specs.declared.refusal.Refusal.{Refusal}
use Rattle.questions.specs.Answer.{Answer, Done, Refused}
use Rattle.questions.proofs.TestLaws.{both}
use Rattle.message_rules.specs.declared.fields.Receiver.{Receiver}
use Rattle.message_rules.specs.declared.fields.Reading.{Reading}
use Rattle.message_rules.specs.Attributes.{items}
use Rattle.message_rules.specs.Ranges.{sound}
use Rattle.message_rules.specs.Messages.{code_of, length_of, body_of, is_whole, receives, complete, question8, question9, message_questions, message_answer, reader_answer_of}
use Rattle.message_rules.specs.Fields.{fields_of}
use Rattle.message_rules.specs.Reading.{place_of, taken_of, reading_for, read_of, reader_of}
use Rattle.message_holders.specs.declared.pass.Body.{Body}
use Rattle.message_compounds.specs.declared.compound.Compounds.{Compounds}
use Rattle.message_holders.specs.Pass.{body_pass}
use Rattle.message_compounds.specs.Compounds.{compounds_of}
use Rattle.message_reader.specs.Taken.{complete_in, taken_from, refused_reading, as_asked, handed_back}
use Rattle.message_reader.proofs.CodeLaws.{Code, received_code}
use Rattle.message_reader.proofs.SoundLaws.{compounds_in_of, sound_code}
use Rattle.message_reader.proofs.CompleteLaws.{whole_code}
use Rattle.message_reader.proofs.TakenLaws.{taken_code}

-- ---- the questions in order
module _ (e : Receiver) (s : List ℕ) where
  pub no_6 : is_whole s ≡ false → refused_reading CutMessage ≡ read_of e s
  unfolding read_of message_answer message_questions
  no_6 q6 = rw q6 refl

  pub no_7 : is_whole s ≡ true → receives e (code_of s) ≡ false → refused_reading CodeNotReceived ≡ read_of e s
  unfolding read_of message_answer message_questions
  no_7 q6 q7 = rw (q6, q7) refl

  no_8 : is_whole s ≡ true → receives e (code_of s) ≡ true → question8 s ≡ false → refused_reading BadAttribute ≡ read_of e s
  unfolding read_of message_answer message_questions
  no_8 q6 q7 q8 = rw (q6, q7, q8) refl

  no_9 : is_whole s ≡ true → receives e (code_of s) ≡ true → question8 s ≡ true → question9 s ≡ false → refused_reading WrongAttributes ≡ read_of e s
  unfolding read_of message_answer message_questions
  no_9 q6 q7 q8 q9 = rw (q6, q7, q8, q9) refl

  no_none : is_whole s ≡ true → receives e (code_of s) ≡ true → question8 s ≡ true → question9 s ≡ true → taken_of s ≡ read_of e s
  unfolding read_of message_answer message_questions
  no_none q6 q7 q8 q9 = rw (q6, q7, q8, q9) refl

-- ---- the message without its padding
pub whole_fits : (s : List ℕ) → is_whole s ≡ true → (4 ≤ length s) × (4 + length_of s ≤ length s)
unfolding is_whole
whole_fits s e =
    let w = both (leb 4 (length s) && leb (length_of s) 1490) (leb (4 + length_of s) (length s)) e in
    (leb-true 4 (length s) (both (leb 4 (length s)) (leb (length_of s) 1490) w.0).0, leb-true (4 + length_of s) (length s) w.1)

body_is : (s : List ℕ) (n : ℕ) → 4 ≤ length s → drop 4 (take (4 + n) s) ≡ take n (drop 4 s)
body_is s n long = ap (drop 4) (take-add 4 n s) ∙ drop_at (take 4 s) (take n (drop 4 s)) 4 (length-take-le 4 s long)

-- ---- the questions as the code asks them
module _ (e : Receiver) (s : List ℕ) (q6 : is_whole s ≡ true) {c n : ℕ} (ec : c ≡ code_of s) (q7 : receives e c ≡ true) (en : n ≡ length_of s) where
  abbrev m : List ℕ
  m = take (4 + n) s

  received : receives e (code_of s) ≡ true
  received = ap (receives e) (sym ec) ∙ q7

  code : Code c
  code = received_code e c q7

  body : drop 4 m ≡ body_of s
  unfolding body_of
  body = body_is s n (whole_fits s q6).0 ∙ ap (λ (k : ℕ). take k (drop 4 s)) en

  at_8 : sound c (drop 4 m) ≡ question8 s
  at_8 = rw (ec, body) refl

  at_9 : complete c (items (drop 4 m)) ≡ question9 s
  at_9 = rw (ec, body) refl

  module _ {b : Body} (eb : b ≡ body_pass c m) where
    pub bad_body : b.sound ≡ false → refused_reading BadAttribute ≡ read_of e s
    bad_body f =
        let q : (body_pass c m).sound ≡ false = ap (λ (x : Body). x.sound) (sym eb) ∙ f in
        no_8 e s q6 received (sym at_8 ∙ sym (sound_code m code) ∙ ap (λ (x : Bool). x && (compounds_in_of c m).sound) q)

    module _ {k : Compounds} (ek : k ≡ compounds_of c m b.count b.compounds) where
      sound_is : b.sound && k.sound ≡ question8 s
      sound_is = rw (ek, eb) (sound_code m code ∙ at_8)

      whole_is : complete_in c b && k.complete ≡ question9 s
      whole_is = rw (ek, eb) (whole_code m code ∙ at_9)

      pub bad_inside : b.sound ≡ true → k.sound ≡ false → refused_reading BadAttribute ≡ read_of e s
      bad_inside t f =
          let q : b.sound && k.sound ≡ false = rw (t, f) refl in
          no_8 e s q6 received (sym sound_is ∙ q)

      module _ (t : b.sound ≡ true) (t' : k.sound ≡ true) where
        all_sound : question8 s ≡ true
        all_sound =
            let q : b.sound && k.sound ≡ true = rw (t, t') refl in
            sym sound_is ∙ q

        pub wrong : complete_in c b && k.complete ≡ false → refused_reading WrongAttributes ≡ read_of e s
        wrong q = no_9 e s q6 received all_sound (sym whole_is ∙ q)

        pub taken_is : complete_in c b && k.complete ≡ true → taken_from m b k ≡ read_of e s
        unfolding taken_of
        taken_is q =
            let complete = (both (complete_in c b) k.complete q).0 in
            let first : c ≡ get_or m 0 0 = ec ∙ sym (get_or-take (4 + n) s 0 0 (omega arith)) in
            let second : get_or m 1 0 ≡ get_or s 1 0 = get_or-take (4 + n) s 1 0 (omega arith) in
            let complete' : complete_in c (body_pass c m) ≡ true = ap (complete_in c) (sym eb) ∙ complete in
            let here : ◌≡◌ {A = Reading} (record {
              answer = Done;
              fields = fields_of c (get_or m 1 0) (items (drop 4 m));
              key = place_of c 7 (items (drop 4 m));
              digest = place_of c 11 (items (drop 4 m));
            }) (taken_of s) = rw (ec, body, second) refl in
            let there : taken_from m b k ≡ taken_of s = rw (ek, eb) (taken_code m code first complete' ∙ here) in
            there ∙ no_none e s q6 received all_sound (sym whole_is ∙ q)

-- ---- what is handed back of a reading, from its questions one after the other
module _ (s : List ℕ) where
  handed_reading : (a : Answer) (r : Result Reading Refusal) → r ≡ as_asked (reading_for a s) → handed_back r ≡ reading_for a s
  unfolding taken_of
  handed_reading Done r q = ap handed_back q
  handed_reading (Refused no') r q = ap handed_back q

  pub handed_read : (e : Receiver) (r : Result Reading Refusal) → r ≡ as_asked (read_of e s) → handed_back r ≡ read_of e s
  unfolding read_of
  handed_read e r = handed_reading (message_answer e s) r

  pub handed_reader : (e : Receiver) (r : Result Reading Refusal) → r ≡ as_asked (reader_of e s) → handed_back r ≡ reader_of e s
  unfolding reader_of
  handed_reader e r = handed_reading (reader_answer_of e s) r
