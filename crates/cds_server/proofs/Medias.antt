-- The texts of paths.
use Rattle.std.proofs.Common.{◌∙◌, ap}
use Rattle.std.specs.List.{join_with_byte}
use Rattle.std.proofs.lemmas.List.Splits.{join_with_byte-slice_split}
use Rattle.cds_scan.proofs.Standing.{read_is_names}
use Rattle.cds_server.specs.Media.{PathsKeepTheirText}

pub texts-kept : PathsKeepTheirText
texts-kept text path read = ap (join_with_byte 47) (read_is_names text path read) ∙ join_with_byte-slice_split 47 text
