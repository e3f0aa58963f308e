-- `replay::line::take_line` meets its contract.
use Rattle.replay.specs.declared.start.Stage.TheVariants.{SettingsNames, SettingsValues, ModemNames, ModemValues, Running, Stopped}
use Rattle.replay.proofs.LineLaws.{taken_at, taken_none}
use Rattle.replay.proofs.line.take_line.Goals as goal

pub returns-in-SettingsNames : goal.returns-in-SettingsNames
returns-in-SettingsNames c = taken_at c.args.s c.args.line.now c.args.out.now _ _ SettingsNames c.in-SettingsNames.is c.take_settings_names.ensures

pub returns-in-SettingsValues : goal.returns-in-SettingsValues
returns-in-SettingsValues c = taken_at c.args.s c.args.line.now c.args.out.now _ _ SettingsValues c.in-SettingsValues.is c.take_settings.ensures

pub returns-in-ModemNames : goal.returns-in-ModemNames
returns-in-ModemNames c = taken_at c.args.s c.args.line.now c.args.out.now _ _ ModemNames c.in-ModemNames.is c.take_modem_names.ensures

pub returns-in-ModemValues : goal.returns-in-ModemValues
returns-in-ModemValues c = taken_at c.args.s c.args.line.now c.args.out.now _ _ ModemValues c.in-ModemValues.is c.take_modem.ensures

pub returns-in-Running : goal.returns-in-Running
returns-in-Running c = taken_at c.args.s c.args.line.now c.args.out.now _ _ Running c.in-Running.is c.take_call.ensures

pub returns-in-Stopped : goal.returns-in-Stopped
returns-in-Stopped c = taken_at c.args.s c.args.line.now c.args.out.now _ _ Stopped c.in-Stopped.is (taken_none _ _ _ _ c.take_none.ensures)
