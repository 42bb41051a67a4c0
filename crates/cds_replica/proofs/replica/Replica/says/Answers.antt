use Rattle.std.proofs.Common.{◌≡◌, rules, ap, ◌∙◌}
use Rattle.cds_follow.specs.declared.says.Says.TheVariants.{Gap}
use Rattle.cds_replica.specs.Steps.{kept_says}
use Rattle.cds_replica.proofs.Keeping.{says-kept}
use Rattle.cds_replica.proofs.Honest.{says-given, completes-given}
use Rattle.cds_replica.proofs.Attempted.{says-by_attempt}
use Rattle.cds_replica.proofs.replica.Replica.says.Goals as goal

pub returns-in-Some-clause-says : goal.returns-in-Some-clause-says
returns-in-Some-clause-says c wrap turns stood =
    let kept : Gap c.in-Some.missing ≡ kept_says c.args.self.now = search rules in
    kept ∙ ap kept_says stood ∙ says-kept wrap turns

pub returns-in-None-clause-says : goal.returns-in-None-clause-says
returns-in-None-clause-says c wrap turns stood =
    let kept : c.says.result ≡ kept_says c.args.self.now = search rules in
    kept ∙ ap kept_says stood ∙ says-kept wrap turns

pub returns-in-Some-clause-given : goal.returns-in-Some-clause-given
returns-in-Some-clause-given c =
    let kept : Gap c.in-Some.missing ≡ kept_says c.args.self.now = search rules in
    says-given c.args.self.now (Gap c.in-Some.missing) kept

pub returns-in-None-clause-given : goal.returns-in-None-clause-given
returns-in-None-clause-given c =
    let kept : c.says.result ≡ kept_says c.args.self.now = search rules in
    says-given c.args.self.now c.says.result kept

pub returns-in-Some-clause-complete : goal.returns-in-Some-clause-complete
returns-in-Some-clause-complete c =
    let kept : Gap c.in-Some.missing ≡ kept_says c.args.self.now = search rules in
    completes-given c.args.self.now (Gap c.in-Some.missing) kept

pub returns-in-None-clause-complete : goal.returns-in-None-clause-complete
returns-in-None-clause-complete c =
    let kept : c.says.result ≡ kept_says c.args.self.now = search rules in
    completes-given c.args.self.now c.says.result kept

pub returns-in-Some-clause-attempt : goal.returns-in-Some-clause-attempt
returns-in-Some-clause-attempt c = says-by_attempt c.args.self.now (Gap c.in-Some.missing) (returns-in-Some-clause-says c)

pub returns-in-None-clause-attempt : goal.returns-in-None-clause-attempt
returns-in-None-clause-attempt c = says-by_attempt c.args.self.now c.says.result (returns-in-None-clause-says c)
