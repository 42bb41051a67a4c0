-- The limit that all inputs share.
use Rattle.std.specs.Prelude.{◌≡◌, ◌*◌}
use Rattle.cds_base.specs.declared.limits.TheConstants.{INPUT_LIMIT}

-- The limit is 64 MiB.
abbrev pub InputLimitIs64MiB : Type 0
InputLimitIs64MiB = INPUT_LIMIT ≡ 64 * 1024 * 1024
