-- The request is the one of the ask; that the reply is carried, the prover finds alone.
use Rattle.std.proofs.Common.{◌∙◌}
use Rattle.cds_replay.proofs.control.carried_reply.Goals as goal

pub reply_to-requires : goal.reply_to-requires
reply_to-requires g c = c.as_slice.ensures.value ∙ c.in_ok-request.ensures
