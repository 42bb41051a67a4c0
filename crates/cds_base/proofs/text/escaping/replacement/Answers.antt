use Rattle.std.proofs.Common.{arith}
use Rattle.std.proofs.lemmas.Bool.Decides.{nat_tests}
use Rattle.cds_base.proofs.Escapes.{kept_char}
use Rattle.cds_base.proofs.text.escaping.replacement.Goals as goal

pub returns-in_default : goal.returns-in_default
returns-in_default c = kept_char c.args.c (grind (arith, nat_tests))
