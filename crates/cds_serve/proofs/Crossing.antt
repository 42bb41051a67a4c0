-- A server goes from one thread to another, and many threads may look at one; so do the jobs that share it, and their answers.
use Rattle.std.proofs.Crossing.{crosses}
use Rattle.std.proofs.MapsCrossing.{crosses as maps}
use denote.RattleType.{RattleType}
use denote.Param.Send.{IsSend, IsSync, sendable}
use Rattle.atomic_table.proofs.shared.Seat.TheSendSync.{the_send as seat-send}
use Rattle.atomic_table.proofs.shared.Shared.TheSendSync.{the_send as shared-send, the_sync as shared-sync}
use Rattle.atomic_table.proofs.send_lease.SendLease.TheSendSync.{the_send as lease-send, the_sync as lease-sync}
use Rattle.cds_base.specs.contracts.text.Text as Text
use Rattle.cds_object.specs.contracts.path.Path as Path
use Rattle.cds_object.specs.contracts.row.Row as Row
use Rattle.cds_store.specs.contracts.store.Store as Store
use Rattle.cds_gena.specs.contracts.book.Book as Book
use Rattle.cds_moderator.specs.contracts.moderator.Moderator as Moderator
use Rattle.cds_server.specs.contracts.server.Server as Server
use Rattle.cds_ssdp.specs.contracts.device.Device as Device
use Rattle.cds_serve.specs.contracts.served.Served as Served
use Rattle.cds_serve.specs.contracts.notifier.Notified as Notified
use Rattle.cds_serve.specs.contracts.notifier.Notifier as Notifier
use Rattle.cds_serve.specs.contracts.scanner.Scanned as Scanned
use Rattle.cds_serve.specs.contracts.scanner.Scanner as Scanner
use Rattle.cds_serve.specs.contracts.worker.Worked as Worked
use Rattle.cds_serve.specs.contracts.worker.Worker as Worker

-- ---- a server goes

text-send : IsSend Text.the_row
text-send = search (crosses, maps, sendable) depth 60

path-send : IsSend Path.the_row
path-send = search (text-send, crosses, maps, sendable) depth 60

row-send : IsSend Row.the_row
row-send = search (text-send, crosses, maps, sendable) depth 60

store-send : IsSend Store.the_row
store-send = search (path-send, row-send, crosses, maps, sendable) depth 60 fits 20000

book-send : IsSend Book.the_row
book-send = search (text-send, crosses, maps, sendable) depth 60

moderator-send : IsSend Moderator.the_row
moderator-send = search (crosses, maps, sendable) depth 60

server-send : IsSend Server.the_row
server-send = search (store-send, book-send, moderator-send, crosses, maps, sendable) depth 60

served-send : IsSend (Served.the_row Server.the_row)
served-send = search (server-send, crosses, maps, sendable) depth 60

-- ---- threads look at it

text-sync : IsSync Text.the_row
text-sync = search (crosses, maps, sendable) depth 60

path-sync : IsSync Path.the_row
path-sync = search (text-sync, crosses, maps, sendable) depth 60

row-sync : IsSync Row.the_row
row-sync = search (text-sync, crosses, maps, sendable) depth 60

store-sync : IsSync Store.the_row
store-sync = search (path-sync, row-sync, crosses, maps, sendable) depth 60 fits 20000

book-sync : IsSync Book.the_row
book-sync = search (text-sync, crosses, maps, sendable) depth 60

moderator-sync : IsSync Moderator.the_row
moderator-sync = search (crosses, maps, sendable) depth 60

server-sync : IsSync Server.the_row
server-sync = search (store-sync, book-sync, moderator-sync, crosses, maps, sendable) depth 60

served-sync : IsSync (Served.the_row Server.the_row)
served-sync = search (server-sync, crosses, maps, sendable) depth 60

-- ---- the jobs and their answers

ruleset shares = (served-send, served-sync, seat-send, shared-send, shared-sync, lease-send, lease-sync, crosses, sendable)

pub notifier-send : (R T L G : RattleType) → IsSend R → IsSend T → IsSend L → IsSend G → IsSend (Notifier.the_row R T L G)
notifier-send R T L G r t l g = search shares depth 60 fits 20000

pub notified-send : IsSend Notified.the_row
notified-send = search shares depth 60 fits 20000

pub scanner-send : (R F T G : RattleType) → IsSend R → IsSend F → IsSend T → IsSend G → IsSend (Scanner.the_row R F T G)
scanner-send R F T G r f t g = search shares depth 60 fits 20000

pub scanned-send : (F : RattleType) → IsSend F → IsSend (Scanned.the_row F)
scanned-send F f = search shares depth 60 fits 20000

device-send : IsSend Device.the_row
device-send = search (text-send, crosses, maps, sendable) depth 60

pub worker-send : (R D T L G F : RattleType) → IsSend R → IsSend D → IsSend T → IsSend L → IsSend G → IsSend F → IsSend (Worker.the_row R D T L G F)
worker-send R D T L G F r d t l g f = search (device-send, shares) depth 60 fits 20000

pub worked-send : (D F : RattleType) → IsSend D → IsSend F → IsSend (Worked.the_row D F)
worked-send D F d f = search shares depth 60 fits 20000
