use Rattle.std.proofs.Common.{List, subst, sym}
use Rattle.cds_http.specs.declared.fields.Field.{Field}
use Rattle.cds_http.specs.Written.{CanBeWritten}
use Rattle.cds_media.proofs.Stands.{fields-can}
use Rattle.cds_media.proofs.head.write_media_head.Goals as goal

pub write_reply_head-requires : goal.write_reply_head-requires
write_reply_head-requires c =
    subst (λ (fields : List Field). CanBeWritten fields) (sym c.in_ok-fields.ensures) (fields-can c.args.size c.args.plan c.ranges.size.fits c.requires.fits)
