use Rattle.std.proofs.Common.{subst, sym}
use Rattle.cds_http.specs.Written.{CanBeWritten}
use Rattle.cds_server.proofs.Done.{lease-can}
use Rattle.cds_server.proofs.events.put_lease.Goals as goal

pub write_reply-requires : goal.write_reply-requires
write_reply-requires c = subst CanBeWritten (sym c.in_ok-fields.ensures.fields) (lease-can c.args.lease.sid.0 c.args.lease.seconds c.lease_fields.ensures.few)
