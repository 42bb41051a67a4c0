-- The definition computes.
use lib.Utf8.{encode}
use Rattle.std.proofs.Common.{refl}
use Rattle.std.specs.Str.{is_utf8, chars}
use Rattle.cds_flac.specs.Comment.{comment_of}
use Rattle.cds_flac.specs.Reading.{metadata, comment_block, counted_comments, text_at, block_body, header_at, stream_head, sound_at, marker_at, most_blocks}
use Rattle.cds_flac.proofs.examples.title_is_read.Goals as goal

pub returns : goal.returns
unfolding metadata comment_block counted_comments text_at block_body header_at stream_head sound_at marker_at most_blocks comment_of is_utf8 chars encode
returns c = refl
