use Rattle.cds_markup.specs.Runs.{is_plain}
use Rattle.cds_markup.proofs.Quiet.{front_within, front_is, collects, plain_ascii}
use Rattle.cds_markup.proofs.letters.Letters.push_run.Goals as goal

pub split_at-requires : goal.split_at-requires
split_at-requires c = front_within (is_plain c.args.plain) c.args.bytes.now c.run-count.result c.run-count.ensures

pub push_ascii-requires : goal.push_ascii-requires
push_ascii-requires c = rw (c.split_at.ensures.front, front_is (is_plain c.args.plain) c.args.bytes.now c.run-count.result c.run-count.ensures) (plain_ascii c.args.plain c.args.bytes.now)

pub returns : goal.returns
returns c =
    collects c.args.going (is_plain c.args.plain) c.args.self.now c.args.bytes.now c.split_at.result.0.now c.push_ascii.new.self c.run-count.result c.if-not-going.false c.run-count.ensures
    c.split_at.ensures.front c.in_ok-push_ascii.ensures
