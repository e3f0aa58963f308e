-- A run of the program `replay` line by line: four lines of set-up, then calls on the fresh pair of demand 3's. A wrong start answers "?" alone, and
-- set-up values out of their limits "1" alone; what has no form comes before what is out of its limits.
use Rattle.std.specs.Prelude.{Option, None, Some, is_some, Bool, cond, ◌&&◌, List, [], ◌∷◌, ℕ, replicate}
use Rattle.questions.specs.declared.settings.Settings.{Settings}
use Rattle.questions.specs.Refusal.{is_done_of}
use Rattle.questions.specs.Settings.{no_settings_of}
use Rattle.key_association.specs.Search.{blank}
use Rattle.headend_calls.specs.Calls as Head
use Rattle.modem_calls.specs.Calls as Mdm
use Rattle.demand_plant.specs.World.{fresh}
use Rattle.replay_read.specs.declared.setup.ReadModem.{ReadModem}
use Rattle.replay_read.specs.Setup.{settings_names_of, modem_names_of, settings_of, modem_of}
use Rattle.replay_answer.specs.Answer.{counts_text}
use Rattle.replay_apply.specs.declared.ends.Ends.{Ends}
use Rattle.replay_apply.specs.Steps.{ends_of}
use Rattle.replay.specs.declared.start.Stage.{Stage}
use Rattle.replay.specs.declared.start.Stage.TheVariants.{SettingsNames, SettingsValues, ModemNames, ModemValues, Running, Stopped}
use Rattle.replay.specs.declared.start.Replay.{Replay}
use Rattle.replay.specs.Turn.{no_call_text, turn_text, turn_ends}

-- The fresh pair with 64 blank records lent
abbrev pub fresh_ends_of : Settings → ℕ → ℕ → Ends
fresh_ends_of settings address said = ends_of (fresh settings address said (replicate 64 blank))

-- Before the first line
abbrev pub beginning : Replay
beginning = record { stage = SettingsNames; settings = no_settings_of; ends = fresh_ends_of no_settings_of 0 0 }

abbrev pub at_stage_of : Replay → Stage → Replay
at_stage_of s stage = record { stage = stage; settings = s.settings; ends = s.ends }

-- ---- the state after a line

abbrev pub settings_read_of : Option Settings → Replay → Replay
settings_read_of None s = at_stage_of s Stopped
settings_read_of (Some settings) s = record { stage = ModemNames; settings = settings; ends = s.ends }

-- Whether both ends take the set-up values
abbrev pub both_fit_of : Settings → ℕ → ℕ → Bool
both_fit_of settings address said = is_done_of (Head.new_value settings).answer && is_done_of (Mdm.new_value settings address said).answer

abbrev pub modem_read_of : Option ReadModem → Replay → Replay
modem_read_of None s = at_stage_of s Stopped
modem_read_of (Some r) s =
    cond (both_fit_of s.settings r.address r.said)
    (record { stage = Running; settings = s.settings; ends = fresh_ends_of s.settings r.address r.said })
    (at_stage_of s Stopped)

abbrev pub after_line_at : Stage → Replay → List ℕ → Replay
after_line_at SettingsNames s line = at_stage_of s (cond (settings_names_of line) SettingsValues Stopped)
after_line_at SettingsValues s line = settings_read_of (settings_of line) s
after_line_at ModemNames s line = at_stage_of s (cond (modem_names_of line) ModemValues Stopped)
after_line_at ModemValues s line = modem_read_of (modem_of line) s
after_line_at Running s line = record { stage = Running; settings = s.settings; ends = turn_ends s.ends line }
after_line_at Stopped s line = s

unfoldable pub after_line : Replay → List ℕ → Replay
after_line s line = after_line_at s.stage s line

-- ---- what is answered to it

-- "1" and a line feed
abbrev pub limits_text : List ℕ
limits_text = 49 ∷ 10 ∷ []

abbrev pub start_text : Bool → List ℕ
start_text form = cond form [] no_call_text

abbrev pub modem_text : Option ReadModem → Replay → List ℕ
modem_text None s = no_call_text
modem_text (Some r) s = cond (both_fit_of s.settings r.address r.said) [] limits_text

abbrev pub line_text_at : Stage → Replay → List ℕ → List ℕ
line_text_at SettingsNames s line = start_text (settings_names_of line)
line_text_at SettingsValues s line = start_text (is_some (settings_of line))
line_text_at ModemNames s line = start_text (modem_names_of line)
line_text_at ModemValues s line = modem_text (modem_of line) s
line_text_at Running s line = turn_text s.ends line
line_text_at Stopped s line = []

abbrev pub line_text : Replay → List ℕ → List ℕ
line_text s line = line_text_at s.stage s line

-- ---- the end: the counts of frames; fewer than four lines are a wrong start
abbrev pub end_text_at : Stage → Ends → List ℕ
end_text_at SettingsNames e = no_call_text
end_text_at SettingsValues e = no_call_text
end_text_at ModemNames e = no_call_text
end_text_at ModemValues e = no_call_text
end_text_at Running e = counts_text e.head.taken e.head.refused e.modem.taken e.modem.refused
end_text_at Stopped e = []

abbrev pub end_text : Replay → List ℕ
end_text s = end_text_at s.stage s.ends
