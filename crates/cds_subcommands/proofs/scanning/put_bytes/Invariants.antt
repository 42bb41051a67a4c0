use Rattle.std.proofs.Common.{◌≡◌, ◌++◌, take}
use Rattle.std.specs.List.{flat_map}
use Rattle.cds_script.specs.Word.{encoded_byte}
use Rattle.cds_subcommands.proofs.scanning.put_bytes.Given as goal

-- the bytes so far are written
abbrev pub invariant-loop-byte : goal.invariant-loop-byte
invariant-loop-byte l = l.out.items ≡ l.initial.out.items ++ flat_map encoded_byte (take l.byte-index l.bytes)
