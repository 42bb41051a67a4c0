-- The job and its answer go from one thread to another.
use denote.Param.Send.{sendable}
use Rattle.cds_serve.proofs.Crossing.{scanned-send, scanner-send}
use Rattle.cds_serve.proofs.crew.join_scanner.Goals as goal

pub join-theirs-requires-send-J : goal.join-theirs-requires-send-J
join-theirs-requires-send-J g c κs within = search (scanner-send, sendable) depth 20

pub join-theirs-requires-send-J-Out : goal.join-theirs-requires-send-J-Out
join-theirs-requires-send-J-Out g c κs within = search (scanned-send, sendable) depth 20
