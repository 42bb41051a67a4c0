use Rattle.std.proofs.Common.{true, refl, rules}
use Rattle.cds_gena.specs.Subscribed.{raised}
use Rattle.cds_gena.proofs.Walks.{all-walked}
use Rattle.cds_gena.proofs.book.raise.Goals as goal

pub returns : goal.returns
returns c = all-walked _ (λ e. true) (raised c.args.wrap) _ (λ k v b w g call. search rules) _ _ (λ e. refl) c.retain.ensures.filtered
