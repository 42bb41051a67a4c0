use Rattle.cds_markup.specs.Utf8.{byte_at, begins_character, behind_first, any_at}
use Rattle.cds_markup.proofs.Decoded.{read_after}
use Rattle.cds_markup.proofs.utf8.BytesRest.any.Goals as goal

pub returns : goal.returns
unfolding any_at
returns c =
    read_after (byte_at begins_character c.args.self.now) behind_first c.in_ok-first.first c.first.new.self c.behind_first.result c.behind_first.new.self c.in_ok-first.ensures.step
    c.behind_first.ensures
