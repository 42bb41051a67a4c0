use Rattle.std.proofs.Common.{arith}
use Rattle.std.proofs.lemmas.Grind.{common_steps}
use Rattle.std.proofs.lemmas.List.{map-append}
use Rattle.std.proofs.lemmas.List.Concat.{flat_map-append}
use Rattle.std.proofs.lemmas.List.Elements.{filter_map-append}
use Rattle.cds_replay.proofs.report.put_rows.Goals as goal

pub loop-kept-preserved : goal.loop-kept-preserved
loop-kept-preserved c = grind (arith, common_steps, filter_map-append, map-append, flat_map-append)
