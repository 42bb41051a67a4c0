-- What proofs of crates above cite: the laws of documents, and what the grammar says of tags and of what is written.
use Rattle.std.proofs.Common.{sym, ap, ◌∙◌}
use Rattle.std.specs.Prelude.{⊤}
use lib.Utf8.{encode}
use Rattle.cds_markup.specs.Bytes.{answer_of}
use Rattle.cds_markup.specs.Children.{PlacesAreOne}
use Rattle.cds_markup.specs.Utf8.{any_at}
use Rattle.cds_markup.specs.Marks.{parts_of}
use Rattle.cds_markup.proofs.Terms.{some-is}
pub use Rattle.cds_markup.proofs.GivenLaws.{one-answer, all-are-answered, one-element, parts-stand-before, leaves-have-one-end, parts-are-one, parts-are-told, parts-are-given, parts-are-of-roots, one-telling, nothing-counts-past-the-limit}
pub use Rattle.cds_markup.proofs.EachPart.{parts-are-found}
pub use Rattle.cds_markup.proofs.Readings.{documents-are-read, parts-are-built}
pub use Rattle.cds_markup.proofs.Built.{start-parts, tree-first, no-misc, no-prolog}
pub use Rattle.cds_markup.proofs.Trails.{tree-is}
pub use Rattle.cds_markup.proofs.WrittenTags.{small-name, without-prefix, behind-prefix, xmlns-name, Stands, TagStands, start-of, end-of}
pub use Rattle.cds_markup.proofs.DraftsForm.{drafts-are-read}
pub use Rattle.cds_markup.proofs.Outlines.{outline-name, outline-elements, outline-text}

pub places-are-one : PlacesAreOne
places-are-one bytes found one other a b = some-is (sym a.place ∙ ap found (parts-are-one bytes a.parts b.parts a.given b.given) ∙ b.place)

-- what a proof unfolds to compute answers and parts on bytes that are written out
unfoldable pub markup_on_literals : ⊤
unfolding answer_of any_at parts_of encode
markup_on_literals = tt
