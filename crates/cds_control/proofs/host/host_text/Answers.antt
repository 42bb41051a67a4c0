use Rattle.std.proofs.Common.{cond, Some, None, sym, ap}
use Rattle.cds_control.proofs.Hosts.{no-host}
use Rattle.cds_control.proofs.host.host_text.Goals as goal

pub returns-in-Err : goal.returns-in-Err
returns-in-Err c = sym (ap (λ b. cond b (Some c.args.bytes.now) None) (no-host c.args.bytes.now c.in-Err.ensures.cases.0))
