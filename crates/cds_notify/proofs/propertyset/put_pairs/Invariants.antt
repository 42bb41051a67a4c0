use Rattle.std.proofs.Common.{◌≡◌, ◌++◌, drop}
use Rattle.std.specs.List.{flat_map}
use Rattle.cds_notify.specs.Propertyset.{further_text}
use Rattle.cds_notify.proofs.propertyset.put_pairs.Given as goal

-- what is written so far, and the pairs that are left
abbrev pub invariant-loop-pair : goal.invariant-loop-pair
invariant-loop-pair l =
    l.out.items ++ flat_map further_text (drop l.pair-index l.rest) ≡ l.initial.out.items ++ flat_map further_text l.rest
