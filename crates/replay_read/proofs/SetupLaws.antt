-- Laws of the set-up lines: what is read of them is what the form says of their fields.
use Rattle.std.proofs.Common.{◌≡◌, refl, ap, ◌∙◌, List, ℕ, ◌+◌, min, Bool, true, false, ◌&&◌, cond, Option, None, Some, nat_eq, nat_le, length, drop, arith}
use lib.Dec.{eqb, leb}
use Rattle.std.specs.Bool.{then_some}
use Rattle.std.specs.Prelude.{option_and_then}
use Rattle.questions.specs.declared.settings.Settings.{Settings}
use Rattle.replay_read.specs.declared.setup.ReadModem.{ReadModem}
use Rattle.replay_read.specs.declared.setup.Three.{Three}
use Rattle.replay_fields.specs.Fields.{fields_of, field, is_line, is_number, number_in}
use Rattle.replay_fields.specs.Listing.{word_in}
use Rattle.replay_read.specs.Setup.{three_numbers, is_settings, settings_in, settings_of, is_modem, modem_of, three_at_of}
use Rattle.replay_fields.specs.Places.{text_of, field_at, fields_from_of, after_field, num_of}
use Rattle.replay_fields.proofs.FieldLaws.{from_start, nth_holds, nth_rest}

module _ (l : List ℕ) where
  -- the place after the three fields from a place on
  abbrev next_of : ℕ → ℕ
  next_of at = (after_field l (after_field l (field_at l at))).end + 1

  -- ---- a modem

  -- as the code reads it
  abbrev pub modem_read : Option ReadModem
  modem_read =
      cond (nat_le (length l) 16384 && nat_eq (length (fields_of l)) 2)
      (option_and_then (λ address. option_and_then (λ said. Some (record { address = address; said = min said 65535 }))
      (num_of (text_of l (after_field l (field_at l 0)))))
      (num_of (text_of l (field_at l 0))))
      None

  pub modem_is : (r : Option ReadModem) → r ≡ modem_read → r ≡ modem_of l
  unfolding modem_of is_line is_modem num_of
  modem_is r e =
      let fs = fields_of l in
      let first : text_of l (field_at l 0) ≡ field fs 0 = (nth_holds l 0 0 (from_start l)).text in
      let second : text_of l (after_field l (field_at l 0)) ≡ field fs 1 = (nth_holds l 1 _ (nth_rest l 0 0 (from_start l))).text in
      e ∙ rw (first, second) (go (leb (length l) 16384) (eqb (length fs) 2) (is_number (field fs 0)) (is_number (field fs 1)))
    where
      go : (x y a b : Bool)
          → cond (x && y) (option_and_then {U = ReadModem} (λ address. option_and_then {U = ReadModem} (λ said. Some (record { address = address; said = min said 65535 }))
          (then_some b (number_in (field (fields_of l) 1)))) (then_some a (number_in (field (fields_of l) 0)))) None
          ≡ then_some (x && (y && a && b)) (record { address = number_in (field (fields_of l) 0); said = word_in (field (fields_of l) 1) })
      go false y a b = refl
      go true false a b = refl
      go true true false b = refl
      go true true true false = refl
      go true true true true = refl

  -- ---- three fields, where all but the first k are left

  module _ (k at : ℕ) (e : fields_from_of l at ≡ drop k (fields_of l)) where
    second_rest : fields_from_of l ((field_at l at).end + 1) ≡ drop (k + 1) (fields_of l)
    second_rest = nth_rest l k at e

    third_rest : fields_from_of l ((after_field l (field_at l at)).end + 1) ≡ drop (k + 2) (fields_of l)
    third_rest =
        let n : k + 1 + 1 ≡ k + 2 = omega arith in
        nth_rest l (k + 1) ((field_at l at).end + 1) second_rest ∙ ap (λ (i : ℕ). drop i (fields_of l)) n

    first_text : text_of l (field_at l at) ≡ field (fields_of l) k
    first_text = (nth_holds l k at e).text

    second_text : text_of l (after_field l (field_at l at)) ≡ field (fields_of l) (k + 1)
    second_text = (nth_holds l (k + 1) _ second_rest).text

    third_text : text_of l (after_field l (after_field l (field_at l at))) ≡ field (fields_of l) (k + 2)
    third_text = (nth_holds l (k + 2) _ third_rest).text

    three_is : three_at_of l at
        ≡ then_some (three_numbers (fields_of l) k) (record {
          first = number_in (field (fields_of l) k);
          second = number_in (field (fields_of l) (k + 1));
          third = number_in (field (fields_of l) (k + 2));
          next = next_of at;
        })
    unfolding three_at_of three_numbers
    three_is = rw (first_text, second_text, third_text) refl

    three_rest : fields_from_of l (next_of at) ≡ drop (k + 3) (fields_of l)
    three_rest =
        let n : k + 2 + 1 ≡ k + 3 = omega arith in
        nth_rest l (k + 2) ((after_field l (field_at l at)).end + 1) third_rest ∙ ap (λ (i : ℕ). drop i (fields_of l)) n

  -- ---- settings

  abbrev settings_from : Three → Three → Three → Settings
  settings_from a b c =
      record {
        tek = record { life = a.first; grace = a.second };
        ak = record { life = a.third; grace = b.first };
        waits = record { authorize = b.second; reauthorize = b.third; operational = c.first; rekey = c.second; reject = c.third };
      }

  -- as the code reads them
  abbrev read_third : Three → Three → Three → Option Settings
  read_third a b c = Some (settings_from a b c)

  abbrev read_second : Three → Three → Option Settings
  read_second a b = option_and_then (read_third a b) (three_at_of l b.next)

  abbrev read_first : Three → Option Settings
  read_first a = option_and_then (read_second a) (three_at_of l a.next)

  abbrev pub settings_read : Option Settings
  settings_read = cond (nat_le (length l) 16384 && nat_eq (length (fields_of l)) 9) (option_and_then read_first (three_at_of l 0)) None

  -- three fields of the line, and the place after them
  abbrev three : ℕ → ℕ → Three
  three k at =
      record {
        first = number_in (field (fields_of l) k);
        second = number_in (field (fields_of l) (k + 1));
        third = number_in (field (fields_of l) (k + 2));
        next = next_of at;
      }

  stepped : {A B : Type 0} (f : A → Option B) (t : Bool) (v : A) → option_and_then f (then_some t v) ≡ cond t (f v) None
  stepped f true v = refl
  stepped f false v = refl

  pub settings_are : (r : Option Settings) → r ≡ settings_read → r ≡ settings_of l
  unfolding settings_of is_line is_settings settings_in
  settings_are r e =
      let fs = fields_of l in
      let r₁ = three_rest 0 0 (from_start l) in
      let r₂ = three_rest 3 (next_of 0) r₁ in
      let a₀ = three 0 0 in
      let b₀ = three 3 (next_of 0) in
      let c₀ = three 6 (next_of (next_of 0)) in
      let c₃ : option_and_then (read_third a₀ b₀) (three_at_of l b₀.next) ≡ cond (three_numbers fs 6) (Some (settings_from a₀ b₀ c₀)) None =
      ap (option_and_then (read_third a₀ b₀)) (three_is 6 (next_of (next_of 0)) r₂) ∙ stepped (read_third a₀ b₀) (three_numbers fs 6) c₀ in
      let c₂ : option_and_then (read_second a₀) (three_at_of l a₀.next) ≡ cond (three_numbers fs 3) (cond (three_numbers fs 6) (Some (settings_from a₀ b₀ c₀)) None) None =
      ap (option_and_then (read_second a₀)) (three_is 3 (next_of 0) r₁)
      ∙ stepped (read_second a₀) (three_numbers fs 3) b₀
      ∙ ap (λ (o : Option Settings). cond (three_numbers fs 3) o None) c₃ in
      let c₁ : option_and_then read_first (three_at_of l 0) ≡ cond (three_numbers fs 0) (cond (three_numbers fs 3) (cond (three_numbers fs 6) (Some (settings_from a₀ b₀ c₀)) None) None) None =
      ap (option_and_then read_first) (three_is 0 0 (from_start l))
      ∙ stepped read_first (three_numbers fs 0) a₀
      ∙ ap (λ (o : Option Settings). cond (three_numbers fs 0) o None) c₂ in
      e
      ∙ ap (λ (o : Option Settings). cond (leb (length l) 16384 && eqb (length fs) 9) o None) c₁
      ∙ go (leb (length l) 16384) (eqb (length fs) 9) (three_numbers fs 0) (three_numbers fs 3) (three_numbers fs 6) (settings_from (three 0 0) (three 3 (next_of 0)) (three 6 (next_of (next_of 0))))
    where
      go : (x y p q r : Bool) (s : Settings) → cond (x && y) (cond p (cond q (cond r (Some s) None) None) None) None ≡ then_some (x && (y && p && q && r)) s
      go false y p q r s = refl
      go true false p q r s = refl
      go true true false q r s = refl
      go true true true false r s = refl
      go true true true true false s = refl
      go true true true true true s = refl

-- ---- three numbers of a line

-- as the code reads them
abbrev pub three_read : List ℕ → ℕ → Option Three
three_read l at =
    option_and_then (λ first.
    option_and_then (λ second.
    option_and_then (λ third. Some (record { first = first; second = second; third = third; next = (after_field l (after_field l (field_at l at))).end + 1 }))
    (num_of (text_of l (after_field l (after_field l (field_at l at))))))
    (num_of (text_of l (after_field l (field_at l at)))))
    (num_of (text_of l (field_at l at)))

pub three_are : (l : List ℕ) (at : ℕ) (r : Option Three) → r ≡ three_read l at → r ≡ three_at_of l at
unfolding three_at_of num_of
three_are l at r e = e ∙ go (is_number (text_of l (field_at l at))) (is_number (text_of l (after_field l (field_at l at)))) (is_number (text_of l (after_field l (after_field l (field_at l at)))))
  where
    go : (x y z : Bool)
        → option_and_then {U = Three} (λ first. option_and_then {U = Three} (λ second. option_and_then {U = Three} (λ third. Some (record { first = first; second = second; third = third; next = (after_field l (after_field l (field_at l at))).end + 1 }))
        (then_some z (number_in (text_of l (after_field l (after_field l (field_at l at)))))))
        (then_some y (number_in (text_of l (after_field l (field_at l at))))))
        (then_some x (number_in (text_of l (field_at l at))))
        ≡ then_some (x && y && z) (record {
          first = number_in (text_of l (field_at l at));
          second = number_in (text_of l (after_field l (field_at l at)));
          third = number_in (text_of l (after_field l (after_field l (field_at l at))));
          next = (after_field l (after_field l (field_at l at))).end + 1;
        })
    go false y z = refl
    go true false z = refl
    go true true false = refl
    go true true true = refl
