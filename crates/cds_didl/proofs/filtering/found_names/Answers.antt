-- The loop has seen just the parts of the text.
use Rattle.std.proofs.Common.{◌==◌, [], map, ap, subst, sym, ◌∙◌, rules}
use Rattle.std.proofs.lemmas.Iterator.Consumers.{YieldsList-end, YieldsList-at}
use Rattle.std.proofs.lemmas.Iterator.Splits.{YieldsList-from_slice_split}
use Rattle.cds_didl.specs.Filter.{trimmed, HaveTheKnown}
use Rattle.cds_didl.proofs.OneByOne.{map-twice}
use Rattle.cds_didl.proofs.KnownNames.{none-found}
use Rattle.cds_didl.proofs.filtering.found_names.Goals as goal

pub loop-part-init : goal.loop-part-init
loop-part-init c = subst (λ found. HaveTheKnown found []) (sym c.new-found.ensures) none-found

pub returns : goal.returns
returns c =
    let seen = YieldsList-end
    (YieldsList-at c.into_iter-part-iterator.ensures.into_iter_gives
    (YieldsList-from_slice_split _ (λ b. b == 44) c.args.text.now c.split-part-items.ensures.rest c.split-part-items.ensures.done c.split-part-items.ensures.closure
    (λ x r q k. search rules)))
    c.loop-part.yielded _ c.loop-part.yielded_by _ _ c.in-None.is c.next.ensures.steps in
    subst (HaveTheKnown c.loop-part.found) (map-twice (λ x. x.now) trimmed c.loop-part.yielded ∙ ap (map trimmed) seen.0) c.loop-part.invariant
