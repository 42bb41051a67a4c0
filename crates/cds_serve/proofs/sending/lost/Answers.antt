use Rattle.std.proofs.Common.{subst}
use Rattle.cds_serve.specs.Sent.{GivesEach, sent_despite}
use Rattle.cds_serve.proofs.sending.lost.Goals as goal

pub returns-in-Failed : goal.returns-in-Failed
returns-in-Failed c = λ request before after given. subst (λ f. GivesEach (sent_despite f request) before after) c.in-Failed.is given

pub returns-in-Over : goal.returns-in-Over
returns-in-Over c = λ request before after given. subst (λ f. GivesEach (sent_despite f request) before after) c.in-Over.is given

pub returns-in-Mem : goal.returns-in-Mem
returns-in-Mem c = λ request before after given. subst (λ f. GivesEach (sent_despite f request) before after) c.in-Mem.is given
