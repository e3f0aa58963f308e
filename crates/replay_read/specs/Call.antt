-- What a line of a call says: its name is the first field, and by its name the others.
use Rattle.std.specs.Prelude.{Option, None, Some, cond, ◌&&◌, List, [], ◌∷◌, ℕ, min, leb, eqb, length, drop}
use Rattle.std.specs.Bool.{then_some}
use Rattle.replay_read.specs.declared.calls.Kind.{Kind}
use Rattle.replay_read.specs.declared.calls.Call.{Call}
use Rattle.replay_read.specs.declared.calls.Kind.TheVariants as kind
use Rattle.replay_read.specs.Calls.{call_with, plain}
use Rattle.text.specs.Same.{same_octets_of}
use Rattle.replay_fields.specs.Fields.{fields_of, field, is_line, is_number, number_in, is_flag}
use Rattle.text.specs.Hex.{is_octets, octets_value}
use Rattle.replay_fields.specs.Listing.{word_in, is_pairs, listing_in}

-- A call, with the octets that it brings: a message or material, the AUTH-Key, and the message keys for what is read and for what is written
pub record LineCall : Type 0 where
  pub call : Call
  pub octets : List ℕ
  pub auth : List ℕ
  pub read : List ℕ
  pub write : List ℕ

-- One that brings no keys
abbrev pub keyless : Call → List ℕ → LineCall
keyless call octets = record { call = call; octets = octets; auth = []; read = []; write = [] }

-- ---- what fields say

-- A DIRECTION or a NUMBER: one above 255 is taken as 255, which the engine refuses; a flag is what it is
abbrev pub octet_in_of : List ℕ → ℕ
octet_in_of f = min (number_in f) 255

-- ---- the calls

-- list,ADDRESS,ALLOWED,MATERIAL,SAID,SUITE[,SAID,SUITE]..
unfoldable pub tell_list : List (List ℕ) → Option LineCall
tell_list fs =
    then_some
    (leb 6 (length fs) && is_number (field fs 1) && is_flag (field fs 2) && is_octets (field fs 3) && is_pairs (drop 4 fs))
    (keyless
    (call_with kind.List (number_in (field fs 1)) (octet_in_of (field fs 2)) 0 0 0 (listing_in (drop 4 fs)))
    (octets_value (field fs 3)))

-- clock,SECOND,MATERIAL,WRITEKEY
unfoldable pub tell_clock : List (List ℕ) → Option LineCall
tell_clock fs =
    then_some
    (eqb (length fs) 4 && is_number (field fs 1) && is_octets (field fs 2) && is_octets (field fs 3))
    (record {
      call = plain kind.Clock 0 0 (number_in (field fs 1)) 0 0;
      octets = octets_value (field fs 2);
      auth = [];
      read = [];
      write = octets_value (field fs 3);
    })

-- established and reauth: the name alone
unfoldable pub tell_bare : Kind → List (List ℕ) → Option LineCall
tell_bare k fs = then_some (eqb (length fs) 1) (keyless (plain k 0 0 0 0 0) [])

-- up,ADDRESS,READKEY,WRITEKEY,AUTHKEY,OCTETS
unfoldable pub tell_up : List (List ℕ) → Option LineCall
tell_up fs =
    then_some
    (eqb (length fs) 6 && is_number (field fs 1) && is_octets (field fs 2) && is_octets (field fs 3) && is_octets (field fs 4) && is_octets (field fs 5))
    (record {
      call = plain kind.Up (number_in (field fs 1)) 0 0 0 0;
      octets = octets_value (field fs 5);
      auth = octets_value (field fs 4);
      read = octets_value (field fs 2);
      write = octets_value (field fs 3);
    })

-- down,READKEY,WRITEKEY,OCTETS
unfoldable pub tell_down : List (List ℕ) → Option LineCall
tell_down fs =
    then_some
    (eqb (length fs) 4 && is_octets (field fs 1) && is_octets (field fs 2) && is_octets (field fs 3))
    (record {
      call = plain kind.Down 0 0 0 0 0;
      octets = octets_value (field fs 3);
      auth = [];
      read = octets_value (field fs 1);
      write = octets_value (field fs 2);
    })

-- sealdown,ADDRESS,SAID
unfoldable pub tell_seal_down : List (List ℕ) → Option LineCall
tell_seal_down fs =
    then_some
    (eqb (length fs) 3 && is_number (field fs 1) && is_number (field fs 2))
    (keyless (plain kind.SealDown (number_in (field fs 1)) 0 0 (word_in (field fs 2)) 0) [])

-- sealup,SAID
unfoldable pub tell_seal_up : List (List ℕ) → Option LineCall
tell_seal_up fs =
    then_some
    (eqb (length fs) 2 && is_number (field fs 1))
    (keyless (plain kind.SealUp 0 0 0 (word_in (field fs 1)) 0) [])

-- openup and opendown, DIRECTION,ADDRESS,SAID,NUMBER,WRITEKEY
unfoldable pub tell_open : Kind → List (List ℕ) → Option LineCall
tell_open k fs =
    then_some
    (eqb (length fs) 6 && is_number (field fs 1) && is_number (field fs 2) && is_number (field fs 3) && is_number (field fs 4) && is_octets (field fs 5))
    (record {
      call = plain k (number_in (field fs 2)) (octet_in_of (field fs 1)) 0 (word_in (field fs 3)) (octet_in_of (field fs 4));
      octets = [];
      auth = [];
      read = [];
      write = octets_value (field fs 5);
    })

-- sealdownframe,ADDRESS,SAID,OCTETS
unfoldable pub tell_seal_down_frame : List (List ℕ) → Option LineCall
tell_seal_down_frame fs =
    then_some
    (eqb (length fs) 4 && is_number (field fs 1) && is_number (field fs 2) && is_octets (field fs 3))
    (keyless (plain kind.SealDownFrame (number_in (field fs 1)) 0 0 (word_in (field fs 2)) 0) (octets_value (field fs 3)))

-- sealupframe,SAID,OCTETS
unfoldable pub tell_seal_up_frame : List (List ℕ) → Option LineCall
tell_seal_up_frame fs =
    then_some
    (eqb (length fs) 3 && is_number (field fs 1) && is_octets (field fs 2))
    (keyless (plain kind.SealUpFrame 0 0 0 (word_in (field fs 1)) 0) (octets_value (field fs 2)))

-- openupframe and opendownframe, DIRECTION,ADDRESS,SAID,NUMBER,WRITEKEY,OCTETS
unfoldable pub tell_open_frame : Kind → List (List ℕ) → Option LineCall
tell_open_frame k fs =
    then_some
    (eqb (length fs) 7 && is_number (field fs 1) && is_number (field fs 2) && is_number (field fs 3) && is_number (field fs 4) && is_octets (field fs 5) && is_octets (field fs 6))
    (record {
      call = plain k (number_in (field fs 2)) (octet_in_of (field fs 1)) 0 (word_in (field fs 3)) (octet_in_of (field fs 4));
      octets = octets_value (field fs 6);
      auth = [];
      read = [];
      write = octets_value (field fs 5);
    })

-- By its kind
abbrev pub tell_of : Kind → List (List ℕ) → Option LineCall
tell_of kind.List fs = tell_list fs
tell_of kind.Clock fs = tell_clock fs
tell_of kind.Established fs = tell_bare kind.Established fs
tell_of kind.Reauth fs = tell_bare kind.Reauth fs
tell_of kind.Up fs = tell_up fs
tell_of kind.Down fs = tell_down fs
tell_of kind.SealDown fs = tell_seal_down fs
tell_of kind.SealUp fs = tell_seal_up fs
tell_of kind.OpenUp fs = tell_open kind.OpenUp fs
tell_of kind.OpenDown fs = tell_open kind.OpenDown fs
tell_of kind.SealDownFrame fs = tell_seal_down_frame fs
tell_of kind.SealUpFrame fs = tell_seal_up_frame fs
tell_of kind.OpenUpFrame fs = tell_open_frame kind.OpenUpFrame fs
tell_of kind.OpenDownFrame fs = tell_open_frame kind.OpenDownFrame fs

-- ---- the names

-- The kind of a call on a frame's octets that a name says: "sealdownframe", "sealupframe", "openupframe", "opendownframe"
unfoldable pub octets_named_of : List ℕ → Option Kind
octets_named_of f =
    cond (same_octets_of f (115 ∷ 101 ∷ 97 ∷ 108 ∷ 100 ∷ 111 ∷ 119 ∷ 110 ∷ 102 ∷ 114 ∷ 97 ∷ 109 ∷ 101 ∷ [])) (Some kind.SealDownFrame)
    (cond (same_octets_of f (115 ∷ 101 ∷ 97 ∷ 108 ∷ 117 ∷ 112 ∷ 102 ∷ 114 ∷ 97 ∷ 109 ∷ 101 ∷ [])) (Some kind.SealUpFrame)
    (cond (same_octets_of f (111 ∷ 112 ∷ 101 ∷ 110 ∷ 117 ∷ 112 ∷ 102 ∷ 114 ∷ 97 ∷ 109 ∷ 101 ∷ [])) (Some kind.OpenUpFrame)
    (cond (same_octets_of f (111 ∷ 112 ∷ 101 ∷ 110 ∷ 100 ∷ 111 ∷ 119 ∷ 110 ∷ 102 ∷ 114 ∷ 97 ∷ 109 ∷ 101 ∷ [])) (Some kind.OpenDownFrame)
    None)))

-- With those of a frame's key, "sealdown", "sealup", "openup", "opendown"
unfoldable pub frame_named_of : List ℕ → Option Kind
frame_named_of f =
    cond (same_octets_of f (115 ∷ 101 ∷ 97 ∷ 108 ∷ 100 ∷ 111 ∷ 119 ∷ 110 ∷ [])) (Some kind.SealDown)
    (cond (same_octets_of f (115 ∷ 101 ∷ 97 ∷ 108 ∷ 117 ∷ 112 ∷ [])) (Some kind.SealUp)
    (cond (same_octets_of f (111 ∷ 112 ∷ 101 ∷ 110 ∷ 117 ∷ 112 ∷ [])) (Some kind.OpenUp)
    (cond (same_octets_of f (111 ∷ 112 ∷ 101 ∷ 110 ∷ 100 ∷ 111 ∷ 119 ∷ 110 ∷ [])) (Some kind.OpenDown)
    (octets_named_of f))))

-- With those of a message, "up" and "down"
unfoldable pub carried_named_of : List ℕ → Option Kind
carried_named_of f =
    cond (same_octets_of f (117 ∷ 112 ∷ [])) (Some kind.Up)
    (cond (same_octets_of f (100 ∷ 111 ∷ 119 ∷ 110 ∷ [])) (Some kind.Down)
    (frame_named_of f))

-- The kind that a name says: "list", "clock", "established", "reauth", or one of those above
unfoldable pub kind_named_of : List ℕ → Option Kind
kind_named_of f =
    cond (same_octets_of f (108 ∷ 105 ∷ 115 ∷ 116 ∷ [])) (Some kind.List)
    (cond (same_octets_of f (99 ∷ 108 ∷ 111 ∷ 99 ∷ 107 ∷ [])) (Some kind.Clock)
    (cond (same_octets_of f (101 ∷ 115 ∷ 116 ∷ 97 ∷ 98 ∷ 108 ∷ 105 ∷ 115 ∷ 104 ∷ 101 ∷ 100 ∷ [])) (Some kind.Established)
    (cond (same_octets_of f (114 ∷ 101 ∷ 97 ∷ 117 ∷ 116 ∷ 104 ∷ [])) (Some kind.Reauth)
    (carried_named_of f))))

-- By its name, if it is one
abbrev pub tell_by : Option Kind → List (List ℕ) → Option LineCall
tell_by None fs = None
tell_by (Some k) fs = tell_of k fs

-- What a line says; one that is longer than a line, or whose first field is no name, is no call (so is an empty one)
unfoldable pub call_of : List ℕ → Option LineCall
call_of l = cond (is_line l) (tell_by (kind_named_of (field (fields_of l) 0)) (fields_of l)) None
