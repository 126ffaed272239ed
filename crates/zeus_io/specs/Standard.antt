-- What the adapters over a reader and a writer have inside.
use Rattle.std.specs.Prelude.{ℕ}
use Rattle.zeus_io.specs.declared.standard.StdSource.{StdSource}
use Rattle.zeus_io.specs.declared.standard.StdSink.{StdSink}

-- the reader
abbrev pub reader_of : {I : Type 0} → StdSource I → I
reader_of source = source.input

-- how many reads of the reader failed
abbrev pub read_faults : {I : Type 0} → StdSource I → ℕ
read_faults source = source.faults

-- the writer
abbrev pub writer_of : {O : Type 0} → StdSink O → O
writer_of sink = sink.output

-- how many writes to the writer failed
abbrev pub write_faults : {O : Type 0} → StdSink O → ℕ
write_faults sink = sink.faults
