use Rattle.std.proofs.Common.{ℕ, List, Option, option_map, Bor}
use Rattle.cds_gena.proofs.Delivered.{asked-are}
use Rattle.cds_gena.proofs.gena.read_gena.Goals as goal

abbrev text : Option (Bor (List ℕ)) → Option (List ℕ)
text value = option_map (λ x. x.now) value

pub returns-then-has_method-clause-delivered : goal.returns-then-has_method-clause-delivered
returns-then-has_method-clause-delivered c =
    asked-are (text c.field_of-sid.result) (text c.field_of-callback.result) (text c.field_of-nt.result) (text c.field_of-timeout.result)
    c.subscribe_of.result c.subscribe_of.ensures
