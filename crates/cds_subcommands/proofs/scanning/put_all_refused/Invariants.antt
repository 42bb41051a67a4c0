use Rattle.std.proofs.Common.{◌≡◌, ◌++◌, take}
use Rattle.std.specs.List.{flat_map}
use Rattle.cds_subcommands.specs.Scan.{refused_line}
use Rattle.cds_subcommands.proofs.scanning.put_all_refused.Given as goal

-- the files so far are written
abbrev pub invariant-loop-file : goal.invariant-loop-file
invariant-loop-file l = l.out.items ≡ l.initial.out.items ++ flat_map refused_line (take l.file-index l.files)
