-- A server that was just opened stands for no commands, and names its device.
use Rattle.std.proofs.Common.{[], ap, ◌∙◌}
use Rattle.cds_commands.specs.Commands.{Start}
use Rattle.cds_commands.specs.Names.{names_of}
use Rattle.cds_server.specs.Published.{device_name}
use Rattle.cds_serve.proofs.crew.open_turn.Goals as goal

pub returns-clause-uuid : goal.returns-clause-uuid
returns-clause-uuid c =
    c.device_name-uuid.ensures c.in_ok-served.served.start [] c.in_ok-served.ensures.stands
    ∙ ap (λ (s : Start). device_name (names_of s)) c.in_ok-served.ensures.start
