use Rattle.std.proofs.Common.{refl}
use Rattle.std.specs.Fmt.{digits}
use Rattle.cds_generate.specs.Library.{drawn_changes}
use Rattle.cds_generate.specs.History.{after_steps}
use Rattle.cds_generate.specs.Generated.{texts_below, script_of, generated}
use Rattle.cds_generate.proofs.examples.one_track.Goals as goal

pub returns : goal.returns
unfolding digits drawn_changes after_steps texts_below script_of generated
returns c = refl
