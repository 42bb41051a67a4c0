use Rattle.std.proofs.Common.{refl}
use Rattle.std.specs.Fmt.{digits}
use Rattle.uuid.specs.Text.{by_index}
use Rattle.cds_ssdp.specs.Targets.{device_name}
use Rattle.cds_ssdp.specs.Replies.{first_lines, start_lines, last_lines, reply_text}
use Rattle.cds_ssdp.proofs.examples.replies_are_written.Goals as goal

pub returns : goal.returns
unfolding digits by_index device_name first_lines start_lines last_lines reply_text
returns c = (refl, refl)
