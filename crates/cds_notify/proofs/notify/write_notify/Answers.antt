use Rattle.std.proofs.Common.{subst, sym, ap, ◌∙◌}
use Rattle.cds_http.specs.Written.{CanBeWritten}
use Rattle.cds_notify.specs.Notify.{note_fields}
use Rattle.cds_notify.proofs.Notes.{fields-can}
use Rattle.cds_notify.proofs.notify.write_notify.Goals as goal

pub write_request-requires : goal.write_request-requires
write_request-requires c =
    subst CanBeWritten (sym (c.in_ok-fields.ensures.fields ∙ ap (λ h. note_fields h c.args.to.now.sid.0 c.args.to.now.seq) c.slice-host.ensures.value))
    (fields-can c.in_ok-url.url c.args.to.now.sid.0 c.args.to.now.seq c.slice-host.ensures.valid c.note_fields.ensures.few)
