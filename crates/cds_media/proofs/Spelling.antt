-- A range is read exactly from its form.
use Rattle.std.proofs.Common.{◌≡◌, ◌==◌, ℕ, ◌+◌, ◌<◌, min, nat_eq, nat_lt, Bool, true, false, cond, Option, Some, None, List, [], ◌∷◌, ◌++◌, codes, length, take, drop, get_or, refl, sym, ap, subst, ◌∙◌, arith, zero-add}
use Rattle.std.specs.List.{list_all, position, position_from, position_or_len, starts_with}
use Rattle.std.specs.Char.{is_digit}
use Rattle.std.proofs.Math.Seq.{drop-append-add}
use Rattle.std.proofs.lemmas.Bool.{ltb-true}
use Rattle.std.proofs.lemmas.Bool.Decides.{Decides-eqb, nat_tests}
use Rattle.std.proofs.lemmas.Iterator.Adapters.{position_from-zero}
use Rattle.std.proofs.lemmas.List.Sums.{passes_at_first, split_at_first}
use Rattle.std.proofs.lemmas.Option.{same_Some}
use Rattle.std.proofs.lemmas.Slice.Eq.{starts_is}
use Rattle.std.specs.Option.{option_map}
use Rattle.cds_base.specs.Number.{is_number_in, value_in}
use Rattle.cds_base.proofs.Plain.{and-first, and-second}
use Rattle.cds_media.specs.declared.range.ByteRange.{ByteRange}
use Rattle.cds_media.specs.declared.range.ByteRange.TheVariants.{Closed, Open, Suffix}
use Rattle.cds_media.specs.Ranges.{CountsAs, Spells, closed_range, greatest, is_dash, number_of, one_range, range_around, range_by, range_in}

-- ---- numbers

counted : (digits : List ℕ) (n : ℕ) → number_of digits ≡ Some n → CountsAs digits n
counted digits n is = by (is_number_in 10 digits) refl is
  where
    by : (t : Bool) → is_number_in 10 digits ≡ t → cond t (Some (min (value_in 10 digits) greatest)) None ≡ Some n → CountsAs digits n
    by true e is = (e, sym (same_Some (min (value_in 10 digits) greatest) n is))
    by false e is = absurd (grind arith)

number-read : (digits : List ℕ) (n : ℕ) → CountsAs digits n → number_of digits ≡ Some n
number-read digits n (all, is) = ap (λ t. cond t (Some (min (value_in 10 digits) greatest)) None) all ∙ ap Some (sym is)

-- ---- the dash

abbrev is_ten : ℕ → Bool
is_ten byte = is_digit byte 10

digit-no-dash : (b : ℕ) → is_ten b ≡ true → is_dash b ≡ false
digit-no-dash b is = by (b == 45) refl
  where
    by : (t : Bool) → (b == 45) ≡ t → t ≡ false
    by true e = let same : b ≡ 45 = grind (arith, nat_tests) in let no : true ≡ false = sym is ∙ ap is_ten same in cc
    by false e = refl

dash-from : (at : ℕ) (front back : List ℕ) → list_all is_ten front ≡ true → position_from is_dash at (front ++ 45 ∷ back) ≡ Some (at + length front)
dash-from at [] back all = ap Some (omega arith)
dash-from at (b ∷ front) back all =
    ap (λ t. cond t (Some at) (position_from is_dash (at + 1) (front ++ 45 ∷ back))) (digit-no-dash b (and-first (is_ten b) (list_all is_ten front) all))
    ∙ dash-from (at + 1) front back (and-second (is_ten b) (list_all is_ten front) all)
    ∙ ap Some (omega arith)

dash-found : (front back : List ℕ) → list_all is_ten front ≡ true → position is_dash (front ++ 45 ∷ back) ≡ Some (length front)
dash-found front back all =
    position_from-zero is_dash (front ++ 45 ∷ back) ∙ dash-from 0 front back all ∙ ap Some (zero-add (length front))

take-front : (front back : List ℕ) → take (length front) (front ++ back) ≡ front
take-front [] back = refl
take-front (b ∷ front) back = ap (λ xs. b ∷ xs) (take-front front back)

parted : (front back : List ℕ) → list_all is_ten front ≡ true → one_range (front ++ 45 ∷ back) ≡ range_by front back
parted front back all =
    ap (range_around (front ++ 45 ∷ back)) (dash-found front back all)
    ∙ ap (λ x. range_by x (drop (length front + 1) (front ++ 45 ∷ back))) (take-front front (45 ∷ back))
    ∙ ap (λ x. range_by front x) (drop-append-add front (45 ∷ back) 1)

dash-is : (b : ℕ) → is_dash b ≡ true → b ≡ 45
dash-is b e = grind (arith, nat_tests)

dash-splits : (text : List ℕ) (at : ℕ) → position is_dash text ≡ Some at → text ≡ take at text ++ 45 ∷ drop (at + 1) text
dash-splits text at is = by (nat_lt (position_or_len is_dash text) (length text)) refl is
  where
    by : (t : Bool) → nat_lt (position_or_len is_dash text) (length text) ≡ t → cond t (Some (position_or_len is_dash text)) None ≡ Some at → text ≡ take at text ++ 45 ∷ drop (at + 1) text
    by true e is =
        let inside : position_or_len is_dash text < length text = ltb-true (position_or_len is_dash text) (length text) e in
        subst (λ (n : ℕ). text ≡ take n text ++ 45 ∷ drop (n + 1) text) (same_Some (position_or_len is_dash text) at is)
        (split_at_first is_dash text 0 inside
        ∙ ap (λ b. take (position_or_len is_dash text) text ++ b ∷ drop (position_or_len is_dash text + 1) text) (dash-is (get_or text (position_or_len is_dash text) 0) (passes_at_first is_dash text 0 inside)))
    by false e is = absurd (grind arith)

-- ---- from the text to the form

abbrev formed : List ℕ → List ℕ → List ℕ
formed before after = codes "bytes=" ++ (before ++ 45 ∷ after)

suffix-form : (after : List ℕ) (count : Option ℕ) (range : ByteRange) → number_of after ≡ count → option_map Suffix count ≡ Some range → Spells (formed [] after) range
suffix-form after None range is e = absurd (grind arith)
suffix-form after (Some n) range is e = subst (Spells (formed [] after)) (same_Some (Suffix n) range e) (after, refl, counted after n is)

open-form : (before : List ℕ) (first : Option ℕ) (range : ByteRange) → number_of before ≡ first → option_map Open first ≡ Some range → Spells (formed before []) range
open-form before None range is e = absurd (grind arith)
open-form before (Some n) range is e = subst (Spells (formed before [])) (same_Some (Open n) range e) (before, refl, counted before n is)

closed-form : (before after : List ℕ) (first last : Option ℕ) (range : ByteRange) → number_of before ≡ first → number_of after ≡ last
    → closed_range first last ≡ Some range → Spells (formed before after) range
closed-form before after None last range is was e = absurd (grind arith)
closed-form before after (Some a) None range is was e = absurd (grind arith)
closed-form before after (Some a) (Some b) range is was e =
    subst (Spells (formed before after)) (same_Some (Closed a b) range e) (before, after, refl, counted before a is, counted after b was)

longer : (d : ℕ) (digits : List ℕ) → (length (d ∷ digits) == 0) ≡ false
longer d digits = grind (arith, nat_tests)

open-is : (d : ℕ) (before : List ℕ) → range_by (d ∷ before) [] ≡ option_map Open (number_of (d ∷ before))
open-is d before = ap (λ t. cond t (option_map Suffix (number_of [])) (option_map Open (number_of (d ∷ before)))) (longer d before)

closed-is : (d : ℕ) (before : List ℕ) (x : ℕ) (after : List ℕ) → range_by (d ∷ before) (x ∷ after) ≡ closed_range (number_of (d ∷ before)) (number_of (x ∷ after))
closed-is d before x after =
    ap (λ t. cond t (option_map Suffix (number_of (x ∷ after))) (cond (length (x ∷ after) == 0) (option_map Open (number_of (d ∷ before))) (closed_range (number_of (d ∷ before)) (number_of (x ∷ after))))) (longer d before)
    ∙ ap (λ t. cond t (option_map Open (number_of (d ∷ before))) (closed_range (number_of (d ∷ before)) (number_of (x ∷ after)))) (longer x after)

form : (before after : List ℕ) (range : ByteRange) → range_by before after ≡ Some range → Spells (formed before after) range
form [] after range e = suffix-form after (number_of after) range refl e
form (d ∷ before) [] range e = open-form (d ∷ before) (number_of (d ∷ before)) range refl (sym (open-is d before) ∙ e)
form (d ∷ before) (x ∷ after) range e =
    closed-form (d ∷ before) (x ∷ after) (number_of (d ∷ before)) (number_of (x ∷ after)) range refl refl (sym (closed-is d before x after) ∙ e)

around-form : (text : List ℕ) (at : Option ℕ) (range : ByteRange) → position is_dash text ≡ at → range_around text at ≡ Some range → Spells (codes "bytes=" ++ text) range
around-form text None range is e = absurd (grind arith)
around-form text (Some at) range is e =
    subst (λ (rest : List ℕ). Spells (codes "bytes=" ++ rest) range) (sym (dash-splits text at is)) (form (take at text) (drop (at + 1) text) range e)

read-form : (text : List ℕ) (range : ByteRange) → range_in text ≡ Some range → Spells text range
read-form text range is = by (starts_with nat_eq text (codes "bytes=")) refl is
  where
    by : (t : Bool) → starts_with nat_eq text (codes "bytes=") ≡ t → cond t (one_range (drop 6 text)) None ≡ Some range → Spells text range
    by true e is =
        let front : text ≡ codes "bytes=" ++ drop 6 text = (starts_is {E = nat_eq} Decides-eqb text (codes "bytes=") (starts_with nat_eq text (codes "bytes=")) refl).0 e in
        subst (λ (whole : List ℕ). Spells whole range) (sym front) (around-form (drop 6 text) (position is_dash (drop 6 text)) range refl is)
    by false e is = absurd (grind arith)

-- ---- from the form to the range

digits-of : (digits : List ℕ) → is_number_in 10 digits ≡ true → list_all is_ten digits ≡ true
digits-of [] some = absurd (grind arith)
digits-of (d ∷ digits) some = some

by-closed : (a b : List ℕ) (first last : ℕ) → CountsAs a first → CountsAs b last → range_by a b ≡ Some (Closed first last)
by-closed [] b first last (none, is) right = absurd (grind arith)
by-closed (d ∷ a) [] first last left (none, is) = absurd (grind arith)
by-closed (d ∷ a) (x ∷ b) first last left right =
    closed-is d a x b ∙ ap (λ n. closed_range n (number_of (x ∷ b))) (number-read (d ∷ a) first left) ∙ ap (λ n. closed_range (Some first) n) (number-read (x ∷ b) last right)

by-open : (a : List ℕ) (first : ℕ) → CountsAs a first → range_by a [] ≡ Some (Open first)
by-open [] first (none, is) = absurd (grind arith)
by-open (d ∷ a) first left = open-is d a ∙ ap (option_map Open) (number-read (d ∷ a) first left)

form-read : (text : List ℕ) (range : ByteRange) → Spells text range → range_in text ≡ Some range
form-read text (Closed first last) (a, b, is, left, right) =
    ap range_in is ∙ parted a b (digits-of a left.0) ∙ by-closed a b first last left right
form-read text (Open first) (a, is, left) = ap range_in is ∙ parted a [] (digits-of a left.0) ∙ by-open a first left
form-read text (Suffix count) (n, is, right) = ap range_in is ∙ parted [] n refl ∙ ap (option_map Suffix) (number-read n count right)

pub spelled : (text : List ℕ) (range : ByteRange) → (range_in text ≡ Some range → Spells text range) × (Spells text range → range_in text ≡ Some range)
spelled text range = (read-form text range, form-read text range)
