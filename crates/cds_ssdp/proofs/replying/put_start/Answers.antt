use Rattle.std.proofs.Common.{◌++◌, codes, ap, ◌∙◌}
use Rattle.cds_http.specs.Written.{field_line}
use Rattle.cds_ssdp.specs.Replies.{first_lines, start_lines}
use Rattle.cds_ssdp.proofs.Joined.{three}
use Rattle.cds_ssdp.proofs.replying.put_start.Goals as goal

pub returns : goal.returns
unfolding start_lines
returns c =
    three _ _ _ _ first_lines (field_line (codes "LOCATION") c.as_bytes.result.now) (field_line (codes "SERVER") (codes "unix/1.0 UPnP/2.0 cds/1.0"))
    c.in_ok-put_first.ensures c.in_ok-put_field.ensures c.in_ok-put_field-2.ensures
    ∙ ap (λ l. c.args.out.now.items ++ start_lines l) c.as_bytes.ensures.value
