use Rattle.std.proofs.Common.{rules, refl, true}
use Rattle.cds_gena.specs.Subscribed.{until}
use Rattle.cds_gena.proofs.Walks.{all-walked}
use Rattle.cds_gena.proofs.book.put_off.Goals as goal

pub returns : goal.returns
returns c = all-walked _ (λ e. true) (until c.args.number c.args.end) _ (λ k v b w g call. search rules) _ _ (λ e. refl) c.retain.ensures.filtered
