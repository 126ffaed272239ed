-- The numbers of the statuses tell them apart.
use Rattle.std.proofs.Common.{◌≡◌, arith, refl}
use Rattle.zeus_io.specs.Status.{exit_status}
use Rattle.zeus_io.specs.declared.status.Status.{Status}
use Rattle.zeus_io.specs.declared.status.Status.TheVariants.{Done, Unfinished, Usage, Script, ReadFault, WriteFault, OutOfMemory, Unsound}

-- the status of number 4 is ReadFault
pub is_read_fault : (s : Status) → exit_status s ≡ 4 → s ≡ ReadFault
is_read_fault Done e = absurd (omega (arith, e))
is_read_fault Unfinished e = absurd (omega (arith, e))
is_read_fault Usage e = absurd (omega (arith, e))
is_read_fault Script e = absurd (omega (arith, e))
is_read_fault ReadFault e = refl
is_read_fault WriteFault e = absurd (omega (arith, e))
is_read_fault OutOfMemory e = absurd (omega (arith, e))
is_read_fault Unsound e = absurd (omega (arith, e))

-- the status of number 5 is WriteFault
pub is_write_fault : (s : Status) → exit_status s ≡ 5 → s ≡ WriteFault
is_write_fault Done e = absurd (omega (arith, e))
is_write_fault Unfinished e = absurd (omega (arith, e))
is_write_fault Usage e = absurd (omega (arith, e))
is_write_fault Script e = absurd (omega (arith, e))
is_write_fault ReadFault e = absurd (omega (arith, e))
is_write_fault WriteFault e = refl
is_write_fault OutOfMemory e = absurd (omega (arith, e))
is_write_fault Unsound e = absurd (omega (arith, e))

-- the status of number 6 is OutOfMemory
pub is_out_of_memory : (s : Status) → exit_status s ≡ 6 → s ≡ OutOfMemory
is_out_of_memory Done e = absurd (omega (arith, e))
is_out_of_memory Unfinished e = absurd (omega (arith, e))
is_out_of_memory Usage e = absurd (omega (arith, e))
is_out_of_memory Script e = absurd (omega (arith, e))
is_out_of_memory ReadFault e = absurd (omega (arith, e))
is_out_of_memory WriteFault e = absurd (omega (arith, e))
is_out_of_memory OutOfMemory e = refl
is_out_of_memory Unsound e = absurd (omega (arith, e))
