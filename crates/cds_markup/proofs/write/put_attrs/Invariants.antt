use Rattle.std.proofs.Common.{◌≡◌, ◌≤◌, ◌++◌, drop, string_bytes}
use Rattle.cds_markup.specs.Written.{tag_attrs, written_attrs}
use Rattle.cds_markup.proofs.write.put_attrs.Given as goal

-- what is written so far and what is left are all, and no more have a namespace than were written
abbrev pub invariant-loop-attr : goal.invariant-loop-attr
invariant-loop-attr l = record {
  all : string_bytes l.out ++ written_attrs (tag_attrs l.before (drop l.attr-index l.attrs)) ≡ string_bytes l.initial.out ++ written_attrs (tag_attrs 0 l.attrs);
  few : l.before ≤ l.attr-index;
}
