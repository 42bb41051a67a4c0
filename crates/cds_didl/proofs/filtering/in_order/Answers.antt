-- One more name of the order.
use Rattle.std.proofs.Common.{[], ◌∷◌, ◌++◌, map, take, ap, sym, ◌∙◌}
use Rattle.std.specs.List.{filter_map}
use Rattle.cds_didl.specs.Filter.{name_in}
use Rattle.cds_didl.proofs.KnownNames.{one-in-order}
use Rattle.cds_didl.proofs.filtering.in_order.Goals as goal

pub loop-name-preserved : goal.loop-name-preserved
loop-name-preserved c =
    let h = name_in c.args.found.now in
    let i = c.loop-name.name-index in
    let order = c.args.order.now in
    c.in_ok-push_found.ensures ∙ ap (λ names. names ++ filter_map h (c.as_bytes.result.now ∷ [])) c.loop-name.invariant
    ∙ ap (λ name. filter_map h (map (λ n. n.now) (take i order)) ++ filter_map h (name ∷ [])) c.as_bytes.ensures.value
    ∙ sym (one-in-order h order i _ c.loop-name-test.true)
