-- So far this many reads were written.
use Rattle.std.proofs.Common.{Ok, ℕ, codes}
use Rattle.cds_generate.specs.Generated.{texts_below}
use Rattle.cds_generate.specs.Writing.{Took}
use Rattle.cds_generate.proofs.writing.write_reads.Given as goal

abbrev pub invariant-reads : goal.invariant-reads
invariant-reads g l = Took (Ok tt) (g.K.Sink.told l.initial.sink) (texts_below l.counter (λ (_ : ℕ). codes "read\n")) (g.K.Sink.told l.sink)
