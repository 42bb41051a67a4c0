use Rattle.std.proofs.Common.{refl}
use Rattle.cds_changes.proofs.examples.nested_subtrees.Goals as goal

pub returns : goal.returns
returns c = refl
