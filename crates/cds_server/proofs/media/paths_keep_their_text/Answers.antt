use Rattle.cds_server.proofs.Medias.{texts-kept}
use Rattle.cds_server.proofs.media.paths_keep_their_text.Goals as goal

pub returns : goal.returns
returns c = texts-kept
