use Rattle.cds_store.proofs.Views.{shown}
use Rattle.cds_store.proofs.laws.stores_show_their_catalogs.Goals as goal

pub returns : goal.returns
returns c = shown
