-- Contents: `same_content` decides whether two say the same.
use Rattle.std.proofs.Common.{◌≡◌, ℕ, Bool, true, List, Option, Some, None, refl, sym, ap, subst, true≢false, nat_eq}
use Rattle.std.specs.Bool.{Decides}
use Rattle.std.specs.Option.{option_eq}
use Rattle.std.specs.Cmp.{first_so, second_so}
use Rattle.std.specs.Cmp.Lexicographic.{bytes_decides}
use Rattle.std.proofs.lemmas.Bool.{and_from, eqb-true, eq-eqb}
use Rattle.cds_object.specs.Content.{same_text, same_track, same_content, same_kind}
use Rattle.cds_object.specs.declared.content.Content.{Content}
use Rattle.cds_object.specs.declared.content.TrackContent.{TrackContent}
use Rattle.cds_object.specs.declared.content.Content.TheVariants.{Folder, Track}

number_decides : (a b : ℕ) → Decides (nat_eq a b) (a ≡ b)
number_decides a b = (eqb-true a b, eq-eqb a b)

option_is : {T : Type 0} {E : T → T → Bool} → ((x y : T) → E x y ≡ true → x ≡ y) → (a b : Option T) → option_eq E a b ≡ true → a ≡ b
option_is each None None e = refl
option_is each None (Some y) e = absurd (true≢false (sym e))
option_is each (Some x) None e = absurd (true≢false (sym e))
option_is each (Some x) (Some y) e = ap Some (each x y e)

option_itself : {T : Type 0} (E : T → T → Bool) → ((x : T) → E x x ≡ true) → (a : Option T) → option_eq E a a ≡ true
option_itself E each None = refl
option_itself E each (Some x) = each x

text_is : (a b : List ℕ) → same_text a b ≡ true → a ≡ b
text_is a b = (bytes_decides a b).0

text_itself : (a : List ℕ) → same_text a a ≡ true
text_itself a = (bytes_decides a a).1 refl

number_is : (a b : ℕ) → nat_eq a b ≡ true → a ≡ b
number_is a b = (number_decides a b).0

number_itself : (a : ℕ) → nat_eq a a ≡ true
number_itself a = (number_decides a a).1 refl

track_is : (a b : TrackContent) → same_track a b ≡ true → a ≡ b
track_is a b e =
    let bits = second_so _ _ e in
    let e9 = first_so _ _ e in
    let channels = second_so _ _ e9 in
    let e8 = first_so _ _ e9 in
    let rate = second_so _ _ e8 in
    let e7 = first_so _ _ e8 in
    let duration = second_so _ _ e7 in
    let e6 = first_so _ _ e7 in
    let size = second_so _ _ e6 in
    let e5 = first_so _ _ e6 in
    let number = second_so _ _ e5 in
    let e4 = first_so _ _ e5 in
    let genre = second_so _ _ e4 in
    let e3 = first_so _ _ e4 in
    let album = second_so _ _ e3 in
    let e2 = first_so _ _ e3 in
    let artist = second_so _ _ e2 in
    let title = first_so _ _ e2 in
    λ i. record {
      title = text_is a.title b.title title i;
      artist = option_is text_is a.artist b.artist artist i;
      album = option_is text_is a.album b.album album i;
      genre = option_is text_is a.genre b.genre genre i;
      number = option_is number_is a.number b.number number i;
      size = number_is a.size b.size size i;
      duration = option_is number_is a.duration b.duration duration i;
      rate = number_is a.rate b.rate rate i;
      channels = number_is a.channels b.channels channels i;
      bits = number_is a.bits b.bits bits i;
    }

track_itself : (a : TrackContent) → same_track a a ≡ true
track_itself a =
    and_from _ _
    (and_from _ _
    (and_from _ _
    (and_from _ _
    (and_from _ _
    (and_from _ _
    (and_from _ _
    (and_from _ _
    (and_from _ _ (text_itself a.title) (option_itself _ text_itself a.artist))
    (option_itself _ text_itself a.album))
    (option_itself _ text_itself a.genre))
    (option_itself _ number_itself a.number))
    (number_itself a.size))
    (option_itself _ number_itself a.duration))
    (number_itself a.rate))
    (number_itself a.channels))
    (number_itself a.bits)

pub same_content_is : (a b : Content) → same_content a b ≡ true → a ≡ b
same_content_is (Folder a) (Folder b) e = ap Folder (text_is a b e)
same_content_is (Folder a) (Track b) e = absurd (true≢false (sym e))
same_content_is (Track a) (Folder b) e = absurd (true≢false (sym e))
same_content_is (Track a) (Track b) e = ap Track (track_is a b e)

pub same_content_itself : (a : Content) → same_content a a ≡ true
same_content_itself (Folder a) = text_itself a
same_content_itself (Track a) = track_itself a

pub same_content_decides : (a b : Content) → Decides (same_content a b) (a ≡ b)
same_content_decides a b = (same_content_is a b, λ e. subst (λ c. same_content a c ≡ true) e (same_content_itself a))

pub same_kind_itself : (a : Content) → same_kind a a ≡ true
same_kind_itself (Folder a) = refl
same_kind_itself (Track a) = refl
