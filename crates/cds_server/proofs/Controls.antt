-- A control request, for who calls a server with one.
use Rattle.std.proofs.Common.{◌≡◌, false, true, cond, ℕ, List, Some, ap, ◌∙◌}
use Rattle.std.specs.Prelude.{codes}
use Rattle.cds_http.specs.declared.message.Start.TheVariants.{Request}
use Rattle.cds_http.specs.declared.message.Message.{Message}
use Rattle.cds_commands.specs.Commands.{Command, Start}
use Rattle.cds_gena.specs.Asked.{field_of}
use Rattle.cds_soap.specs.Laws.{is_host}
use Rattle.cds_server.specs.Route.{Answers, Controls, Goes, asks_events, control_at, route, route_by}
use Rattle.cds_server.specs.Outcome.{and_command}
use Rattle.cds_server.specs.Replies.{command_at}
use Rattle.cds_server.proofs.Stands.{other-commands}

-- it asks of no subscription
pub control-unasked : (m : Message) → m.start ≡ Request (codes "POST") (codes "/control") → asks_events m.start ≡ false
control-unasked m is = ap asks_events is

-- with a HOST in its form it goes to control there
pub control-goes : (m : Message) (host : List ℕ) → m.start ≡ Request (codes "POST") (codes "/control") → field_of (codes "host") m.fields ≡ Some host
    → is_host host ≡ true → route m ≡ Goes (Controls host)
control-goes m host is at form =
    ap (λ s. route_by s m.fields) is ∙ ap (λ o. Goes (control_at o)) at ∙ ap (λ b. Goes (cond b (Controls host) (Answers 400))) form

-- and is no command
pub control-commands : (start : Start) (commands : List Command) (now : ℕ) (m : Message) → m.start ≡ Request (codes "POST") (codes "/control")
    → and_command (command_at start commands now m) commands ≡ commands
control-commands start commands now m is = other-commands start commands now m (control-unasked m is)
