-- A scanner that scans once goes to another thread, as each scanner does.
use Rattle.std.proofs.Crossing.{crosses}
use denote.RattleType.{RattleType}
use denote.Param.Send.{IsSend, sendable}
use denote.Param.SendFields.{declared_send}
use Rattle.cds_outside.specs.contracts.gate.NoGate as NoGate
use Rattle.cds_memory.specs.contracts.clock.MemClock as MemClock
use Rattle.cds_memory.specs.contracts.folder.MemFolder as MemFolder
use Rattle.cds_serve.specs.contracts.scanner.Scanner as Scanner
use Rattle.cds_serve.proofs.Crossing.{scanner-send}
use Rattle.cds_server_tests.specs.contracts.sharing_tests.Once as Once
use Rattle.cds_server_tests.proofs.sharing_tests.start_once.Goals as goal

folder-send : IsSend MemFolder.the_row
folder-send = search (crosses, sendable) depth 60 fits 20000

clock-send : IsSend MemClock.the_row
clock-send = search (crosses, sendable) depth 60 fits 20000

gate-send : IsSend NoGate.the_row
gate-send = search (crosses, sendable) depth 60

inner-send : (R : RattleType) → IsSend R → IsSend (Scanner.the_row R MemFolder.the_row MemClock.the_row NoGate.the_row)
inner-send R r = scanner-send R MemFolder.the_row MemClock.the_row NoGate.the_row r folder-send clock-send gate-send

once-send : (R : RattleType) → IsSend R → IsSend (Once.the_row R)
once-send R r = declared_send (Once.the_type R) (inner-send R r, tt)

pub start-requires-send-J : goal.start-requires-send-J
start-requires-send-J g c κs within = search (once-send, sendable) depth 20

pub join-requires-send-J : goal.join-requires-send-J
join-requires-send-J g c κs within = search (once-send, sendable) depth 20
