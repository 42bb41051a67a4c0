use Rattle.std.proofs.Common.{ap}
use Rattle.std.proofs.Common.{nat_eq, cond, Some, sym}
use Rattle.cds_commands.specs.Subscriptions.{granted}
use Rattle.cds_gena.specs.declared.error.GenaError.TheVariants.{Spent}
use Rattle.cds_gena.specs.Subscribed.{last_number, if_full}
use Rattle.cds_gena.proofs.Commands.{as-many}
use Rattle.cds_gena.proofs.laws.grants_are_refused.Goals as goal

pub returns : goal.returns
returns c = λ start now commands. ap (λ n. cond (nat_eq (granted commands) last_number) (Some Spent) (if_full n)) (sym (as-many start now commands))
