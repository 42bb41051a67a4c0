use Rattle.std.proofs.Common.{Err}
use Rattle.cds_control.proofs.reading.read_request.Goals as goal

pub returns-in_ok-text-in-Err : goal.returns-in_ok-text-in-Err
returns-in_ok-text-in-Err c = λ published host. (Err c.in-Err.refusal, c.in-Err.ensures, c.in_ok-text-in-Err.ensures published host)
