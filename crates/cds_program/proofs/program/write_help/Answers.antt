use Rattle.std.proofs.Common.{subst}
use Rattle.cds_subcommands.specs.Run.{WritesText}
use Rattle.cds_program.proofs.program.write_help.Goals as goal

pub returns-clause-writes : goal.returns-clause-writes
returns-clause-writes g c = λ before held.
    subst (λ text. WritesText c.write_text.result text before (g.K.Sink.told c.write_text.new.sink).holds) c.as_bytes.ensures.value (c.write_text.ensures.writes before held)
