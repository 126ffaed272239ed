use Rattle.zeus_audit.proofs.Implies.{sound_serial}
use Rattle.zeus_audit.proofs.law.a_sound_report_is_a_serial_history.Goals as goal

pub returns : goal.returns
returns c = sound_serial
