-- What was built so far is the escaped text of the characters so far.
use Rattle.std.proofs.Common.{◌≡◌, string_bytes}
use Rattle.std.specs.Str.{encode_utf8_all}
use Rattle.cds_base.specs.Escape.{escaped}
use Rattle.cds_base.proofs.text.escaping.escaped_text.Given as goal

abbrev pub invariant-loop-c : goal.invariant-loop-c
invariant-loop-c l = string_bytes l.built ≡ escaped (encode_utf8_all l.yielded)
