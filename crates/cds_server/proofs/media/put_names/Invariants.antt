-- So far the names before the ones that are left were appended.
use Rattle.std.proofs.Common.{◌≡◌, ◌++◌, length}
use Rattle.std.specs.Prelude.{string_bytes}
use Rattle.cds_server.specs.Media.{path_text}
use Rattle.cds_server.proofs.media.put_names.Given as goal

abbrev pub invariant-names : goal.invariant-names
invariant-names l = string_bytes l.text ++ path_text l.left ≡ string_bytes l.initial.text ++ path_text l.names

abbrev pub decreases-names : goal.decreases-names
decreases-names l = length l.left
