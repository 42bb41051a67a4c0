-- What was built so far is what the characters so far say.
use Rattle.std.proofs.Common.{◌≡◌, false}
use Rattle.cds_markup.proofs.Terms.{encode_utf8_all, line_ends}
use Rattle.cds_markup.proofs.ScanForms.{ends_return}
use Rattle.cds_markup.proofs.marks.lines_of.Given as goal

abbrev pub invariant-loop-c : goal.invariant-loop-c
invariant-loop-c l = record {
  said : l.lines ≡ line_ends (encode_utf8_all l.yielded);
  behind : l.behind_return ≡ ends_return false (encode_utf8_all l.yielded);
}
