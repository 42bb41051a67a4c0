use Rattle.cds_serve.proofs.Named.{tell-the-server}
use Rattle.cds_serve.proofs.laws.names_tell_the_server.Goals as goal

pub returns : goal.returns
returns c = tell-the-server
