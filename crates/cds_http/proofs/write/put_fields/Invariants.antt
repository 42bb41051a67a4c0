use Rattle.std.proofs.Common.{◌≡◌, ◌++◌, take}
use Rattle.cds_http.specs.Written.{field_lines}
use Rattle.cds_http.proofs.write.put_fields.Given as goal

abbrev pub invariant-loop-field : goal.invariant-loop-field
invariant-loop-field l = l.out.items ≡ l.initial.out.items ++ field_lines (take l.field-index l.field-items)
