-- The list that is looked through has the known names.
use Rattle.std.proofs.Common.{rules, tests}
use Rattle.std.specs.Str.{bytes_eq}
use Rattle.std.proofs.lemmas.Iterator.{YieldsList-from_slice}
use Rattle.std.proofs.lemmas.Iterator.Search.{any_from_yields_List}
use Rattle.cds_didl.specs.Filter.{is_known}
use Rattle.cds_didl.proofs.filtering.is_known.Goals as goal

pub returns : goal.returns
unfolding is_known
returns c =
    any_from_yields_List (λ n. bytes_eq n.now c.args.name.now) _ _ c.any.result c.any.ensures.ran
    (YieldsList-from_slice _ c.iter.ensures.rest) (λ x b q k. search (rules, tests))
