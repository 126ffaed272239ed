-- The number by which a program ends.
use Rattle.std.specs.Prelude.{ℕ}
use Rattle.zeus_io.specs.declared.status.Status.{Status}
use Rattle.zeus_io.specs.declared.status.Status.TheVariants.{Done, Unfinished, Usage, Script, ReadFault, WriteFault, OutOfMemory, Unsound}

-- the exit status: 0 where the defined answer is there, and a number for each other end
abbrev pub exit_status : Status → ℕ
exit_status Done = 0
exit_status Unfinished = 1
exit_status Usage = 2
exit_status Script = 3
exit_status ReadFault = 4
exit_status WriteFault = 5
exit_status OutOfMemory = 6
exit_status Unsound = 7
