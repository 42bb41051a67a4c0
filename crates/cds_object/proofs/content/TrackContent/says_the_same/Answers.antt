-- The fields are compared from the left by the definition and from the right by the derived comparison.
use Rattle.std.proofs.Common.{◌≡◌, ◌∙◌, refl, Bool, true, false, ◌&&◌, nat_eq}
use Rattle.std.specs.Option.{option_eq}
use Rattle.cds_object.specs.Content.{same_text, same_track}
use Rattle.cds_object.specs.declared.content.TrackContent.{TrackContent}
use Rattle.cds_object.proofs.content.TrackContent.says_the_same.Goals as goal

regrouped : (a b c : Bool) → a && (b && c) ≡ a && b && c
regrouped true b c = refl
regrouped false b c = refl

all_regrouped : (a b c d e f g h i j : Bool) → a && (b && (c && (d && (e && (f && (g && (h && (i && j)))))))) ≡ a && b && c && d && e && f && g && h && i && j
all_regrouped a b c d e f g h i j = simp regrouped

fields_regrouped : (a b : TrackContent) →
    same_text a.title b.title && (option_eq same_text a.artist b.artist && (option_eq same_text a.album b.album
    && (option_eq same_text a.genre b.genre && (option_eq nat_eq a.number b.number && (nat_eq a.size b.size
    && (option_eq nat_eq a.duration b.duration && (nat_eq a.rate b.rate && (nat_eq a.channels b.channels && nat_eq a.bits b.bits))))))))
    ≡ same_track a b
fields_regrouped a b = all_regrouped (same_text a.title b.title) (option_eq same_text a.artist b.artist) (option_eq same_text a.album b.album)
    (option_eq same_text a.genre b.genre) (option_eq nat_eq a.number b.number) (nat_eq a.size b.size)
    (option_eq nat_eq a.duration b.duration) (nat_eq a.rate b.rate) (nat_eq a.channels b.channels) (nat_eq a.bits b.bits)

pub returns : goal.returns
returns c = c.eq.ensures ∙ fields_regrouped c.args.self.now c.args.other.now
