-- How many commands were appended, by whether one was accepted.
use Rattle.std.proofs.Common.{◌≡◌, Bool, true, false, cond, length, Option, Some, None, refl, sym, true≢false}
use Rattle.std.specs.Prelude.{is_some}
use Rattle.cds_commands.specs.Commands.{Command}
use Rattle.cds_serve.specs.Served.{added}

pub counted-so : (command : Option Command) (accepted : Bool) → accepted ≡ is_some command → cond accepted 1 0 ≡ length (added command)
counted-so None true is = absurd (true≢false is)
counted-so None false is = refl
counted-so (Some command) true is = refl
counted-so (Some command) false is = absurd (true≢false (sym is))
