-- The first comment of the name is among those that are left.
use Rattle.std.proofs.Common.{◌≡◌, drop}
use Rattle.cds_object.specs.ContentOf.{first_comment}
use Rattle.cds_object.proofs.from_flac.value_of.Given as goal

abbrev pub invariant-loop-comment : goal.invariant-loop-comment
invariant-loop-comment l = first_comment l.name l.comments ≡ first_comment l.name (drop l.comment-index l.comments)
