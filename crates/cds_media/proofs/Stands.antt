-- The fields of a reply can be written.
use Rattle.std.proofs.Common.{◌≡◌, ℕ, ◌-◌, ◌<◌, ◌≤◌, ◌^◌, true, ◌&&◌, List, [], ◌∷◌, ◌++◌, codes, refl, ap, ◌∙◌, arith}
use Rattle.std.specs.List.{list_all}
use Rattle.std.specs.Fmt.{decimal}
use Rattle.std.proofs.lemmas.Bool.Decides.{nat_tests}
use Rattle.httparse.specs.Grammar.{is_token, is_token_byte}
use Rattle.cds_base.proofs.Plain.{ArePrinted, and-first, and-second, decimal-digits, is_printed, printed-append, printed-plain}
use Rattle.cds_http.specs.Written.{CanBeWritten, can_stand}
use Rattle.cds_media.specs.declared.slice.Plan.{Plan}
use Rattle.cds_media.specs.declared.slice.Plan.TheVariants.{Whole, Part, None as Nothing}
use Rattle.cds_media.specs.Heads.{fields_of, part_text, places_text, refused_text}
use Rattle.cds_media.specs.Plans.{FitsIn}

printed-stands : (b : ℕ) → is_printed b ≡ true → can_stand b ≡ true
printed-stands b e = grind (arith, nat_tests)

all-stand : (text : List ℕ) → ArePrinted text → list_all can_stand text ≡ true
all-stand [] h = refl
all-stand (b ∷ rest) h =
    ap (λ t. t && list_all can_stand rest) (printed-stands b (and-first (is_printed b) (list_all is_printed rest) h))
    ∙ all-stand rest (and-second (is_printed b) (list_all is_printed rest) h)

printed-number : (n : ℕ) → n < 2 ^ 64 → ArePrinted (decimal n)
printed-number n small = printed-plain (decimal n) (decimal-digits n small).plain

part-printed : (size from to : ℕ) → size < 2 ^ 64 → from < to → to ≤ size → ArePrinted (part_text size from to)
part-printed size from to small some within =
    printed-append (places_text from to ++ codes "/") (decimal size)
    (printed-append (places_text from to) (codes "/")
    (printed-append (codes "bytes " ++ decimal from ++ codes "-") (decimal (to - 1))
    (printed-append (codes "bytes " ++ decimal from) (codes "-")
    (printed-append (codes "bytes ") (decimal from) refl (printed-number from (omega (arith, small, some, within))))
    refl)
    (printed-number (to - 1) (omega (arith, small, within))))
    refl)
    (printed-number size small)

refused-printed : (size : ℕ) → size < 2 ^ 64 → ArePrinted (refused_text size)
refused-printed size small = printed-append (codes "bytes */") (decimal size) refl (printed-number size small)

pub fields-can : (size : ℕ) (plan : Plan) → size < 2 ^ 64 → FitsIn size plan → CanBeWritten (fields_of size plan)
unfolding is_token_byte
fields-can size Whole small fits = refl
fields-can size (Part from to) small fits =
    let value = all-stand (part_text size from to) (part-printed size from to small fits.0 fits.1) in
    λ i. (is_token (codes "CONTENT-TYPE") && list_all can_stand (codes "audio/flac"))
    && ((is_token (codes "ACCEPT-RANGES") && list_all can_stand (codes "bytes"))
    && ((is_token (codes "CONTENT-RANGE") && value i) && true))
fields-can size Nothing small fits =
    let value = all-stand (refused_text size) (refused-printed size small) in
    λ i. (is_token (codes "CONTENT-RANGE") && value i) && true
