-- What the set-up lines say: the names, the settings, and a modem.
use Rattle.std.specs.Prelude.{Option, Bool, ◌&&◌, List, [], ◌∷◌, ℕ, ◌+◌, eqb, length}
use Rattle.std.specs.Bool.{then_some}
use Rattle.questions.specs.declared.settings.Settings.{Settings}
use Rattle.replay_read.specs.declared.setup.ReadModem.{ReadModem}
use Rattle.replay_read.specs.declared.setup.Three.{Three}
use Rattle.text.specs.Same.{same_octets_of}
use Rattle.replay_fields.specs.Fields.{fields_of, field, is_line, is_number, number_in}
use Rattle.replay_fields.specs.Listing.{word_in}
use Rattle.replay_fields.specs.Places.{text_of, field_at, after_field}

-- "life,grace,aklife,akgrace,authorize,reauthorize,operational,rekey,reject"
abbrev pub settings_names : List ℕ
settings_names =
    108 ∷ 105 ∷ 102 ∷ 101 ∷ 44
    ∷ 103 ∷ 114 ∷ 97 ∷ 99 ∷ 101 ∷ 44
    ∷ 97 ∷ 107 ∷ 108 ∷ 105 ∷ 102 ∷ 101 ∷ 44
    ∷ 97 ∷ 107 ∷ 103 ∷ 114 ∷ 97 ∷ 99 ∷ 101 ∷ 44
    ∷ 97 ∷ 117 ∷ 116 ∷ 104 ∷ 111 ∷ 114 ∷ 105 ∷ 122 ∷ 101 ∷ 44
    ∷ 114 ∷ 101 ∷ 97 ∷ 117 ∷ 116 ∷ 104 ∷ 111 ∷ 114 ∷ 105 ∷ 122 ∷ 101 ∷ 44
    ∷ 111 ∷ 112 ∷ 101 ∷ 114 ∷ 97 ∷ 116 ∷ 105 ∷ 111 ∷ 110 ∷ 97 ∷ 108 ∷ 44
    ∷ 114 ∷ 101 ∷ 107 ∷ 101 ∷ 121 ∷ 44
    ∷ 114 ∷ 101 ∷ 106 ∷ 101 ∷ 99 ∷ 116 ∷ []

-- "address,said"
abbrev pub modem_names : List ℕ
modem_names = 97 ∷ 100 ∷ 100 ∷ 114 ∷ 101 ∷ 115 ∷ 115 ∷ 44 ∷ 115 ∷ 97 ∷ 105 ∷ 100 ∷ []

unfoldable pub settings_names_of : List ℕ → Bool
settings_names_of l = same_octets_of l settings_names

unfoldable pub modem_names_of : List ℕ → Bool
modem_names_of l = same_octets_of l modem_names

-- Three fields from a place on are numbers
unfoldable pub three_numbers : List (List ℕ) → ℕ → Bool
three_numbers fs i = is_number (field fs i) && is_number (field fs (i + 1)) && is_number (field fs (i + 2))

-- Nine fields, each a number
unfoldable pub is_settings : List (List ℕ) → Bool
is_settings fs = eqb (length fs) 9 && three_numbers fs 0 && three_numbers fs 3 && three_numbers fs 6

-- In the order of the names
unfoldable pub settings_in : List (List ℕ) → Settings
settings_in fs =
    record {
      tek = record { life = number_in (field fs 0); grace = number_in (field fs 1) };
      ak = record { life = number_in (field fs 2); grace = number_in (field fs 3) };
      waits =
          record {
            authorize = number_in (field fs 4);
            reauthorize = number_in (field fs 5);
            operational = number_in (field fs 6);
            rekey = number_in (field fs 7);
            reject = number_in (field fs 8);
          };
    }

-- What a line of settings says, if it is one
unfoldable pub settings_of : List ℕ → Option Settings
settings_of l = then_some (is_line l && is_settings (fields_of l)) (settings_in (fields_of l))

-- Two fields, each a number
unfoldable pub is_modem : List (List ℕ) → Bool
is_modem fs = eqb (length fs) 2 && is_number (field fs 0) && is_number (field fs 1)

-- What the line of a modem says, if it is one. A SAID above 65,535 is taken as 65,535
unfoldable pub modem_of : List ℕ → Option ReadModem
modem_of l =
    then_some
    (is_line l && is_modem (fields_of l))
    (record { address = number_in (field (fields_of l) 0); said = word_in (field (fields_of l) 1) })

-- As the code reads them: three numbers, and the place after them
unfoldable pub three_at_of : List ℕ → ℕ → Option Three
three_at_of l at =
    then_some
    (is_number (text_of l (field_at l at))
    && is_number (text_of l (after_field l (field_at l at)))
    && is_number (text_of l (after_field l (after_field l (field_at l at)))))
    (record {
      first = number_in (text_of l (field_at l at));
      second = number_in (text_of l (after_field l (field_at l at)));
      third = number_in (text_of l (after_field l (after_field l (field_at l at))));
      next = (after_field l (after_field l (field_at l at))).end + 1;
    })
