-- What an object says of itself, and when two objects say the same.
use Rattle.std.specs.Prelude.{◌&&◌, ℕ, Bool, true, false, nat_eq, List}
use Rattle.std.specs.Option.{option_eq}
use Rattle.std.specs.Cmp.Lexicographic.{pointwise}
use Rattle.cds_object.specs.declared.content.Content.{Content}
use Rattle.cds_object.specs.declared.content.TrackContent.{TrackContent}
use Rattle.cds_object.specs.declared.content.Content.TheVariants.{Folder, Track}

-- whether two texts have the same bytes
abbrev pub same_text : List ℕ → List ℕ → Bool
same_text = pointwise nat_eq

-- whether two tracks say the same in every field
abbrev pub same_track : TrackContent → TrackContent → Bool
same_track a b =
    same_text a.title b.title && option_eq same_text a.artist b.artist && option_eq same_text a.album b.album
    && option_eq same_text a.genre b.genre && option_eq nat_eq a.number b.number && nat_eq a.size b.size
    && option_eq nat_eq a.duration b.duration && nat_eq a.rate b.rate && nat_eq a.channels b.channels && nat_eq a.bits b.bits

-- whether two contents are equal: all their fields are
abbrev pub same_content : Content → Content → Bool
same_content (Folder a) (Folder b) = same_text a b
same_content (Folder a) (Track b) = false
same_content (Track a) (Folder b) = false
same_content (Track a) (Track b) = same_track a b

-- whether both are folders or both are tracks
abbrev pub same_kind : Content → Content → Bool
same_kind (Folder a) (Folder b) = true
same_kind (Folder a) (Track b) = false
same_kind (Track a) (Folder b) = false
same_kind (Track a) (Track b) = true
