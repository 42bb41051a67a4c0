-- Texts with their letters folded: which comes first, and what follows a text at the start of another.
use Rattle.std.proofs.Common.{◌≡◌, ◌++◌, ◌<◌, ◌≤◌, ◌&&◌, ◌||◌, cond, nat_eq, ℕ, List, [], ◌∷◌, length, drop, Bool, true, false, refl, sym, ap, ◌∙◌, arith}
use Rattle.std.specs.Char.{to_ascii_lowercase}
use Rattle.std.specs.declared.cmp.Ordering.TheVariants.{Less, Greater}
use Rattle.std.proofs.lemmas.List.{drop_all, drop_more}
use Rattle.cds_criteria.specs.Meaning.{folded, text_order, begins_with, has_part, has_folded}
use Rattle.cds_criteria.specs.Folds.{first_is}

-- a text that ends first comes first
pub ends_first : (a b : List ℕ) (at : ℕ) → length a ≤ at → at < length b → text_order (drop at a) (drop at b) ≡ Less
ends_first a b at ends more = ap (λ x. text_order x (drop at b)) (drop_all at a ends) ∙ ap (text_order []) (drop_more b at 0 more)

pub ends_last : (a b : List ℕ) (at : ℕ) → at < length a → length b ≤ at → text_order (drop at a) (drop at b) ≡ Greater
ends_last a b at more ends = ap (text_order (drop at a)) (drop_all at b ends) ∙ ap (λ x. text_order x []) (drop_more a at 0 more)

and_true : (v : Bool) → (v && true) ≡ v
and_true true = refl
and_true false = refl

-- a text that begins with another has room for it
second : (v w : Bool) → (v && w) ≡ true → w ≡ true
second true w e = e
second false w e = absurd (cc)

pub has_room : (value text : List ℕ) → begins_with (folded value) (folded text) ≡ true → length value ≤ length text
has_room [] text e = omega arith
has_room (a ∷ value) [] e = absurd (cc)
has_room (a ∷ value) (b ∷ text) e =
    let rest = has_room value text (second (nat_eq (to_ascii_lowercase a) (to_ascii_lowercase b)) (begins_with (folded value) (folded text)) e) in
    omega (arith, rest)

-- a `.` follows a text at the start of another
dot_by : (v w x y : Bool) → x ≡ cond w y false → (v && x) ≡ cond (v && w) y false
dot_by true w x y e = e
dot_by false w x y e = refl

pub dot_after : (value text : List ℕ) → begins_with (folded value ++ 46 ∷ []) (folded text) ≡ cond (begins_with (folded value) (folded text)) (first_is 46 (folded (drop (length value) text))) false
dot_after [] [] = refl
dot_after [] (b ∷ text) = and_true (nat_eq 46 (to_ascii_lowercase b))
dot_after (a ∷ value) [] = refl
dot_after (a ∷ value) (b ∷ text) =
    dot_by (nat_eq (to_ascii_lowercase a) (to_ascii_lowercase b)) (begins_with (folded value) (folded text)) (begins_with (folded value ++ 46 ∷ []) (folded text)) (first_is 46 (folded (drop (length value) text)))
    (dot_after value text)

-- every text has the empty text as a part
nothing_here : (text : List ℕ) → has_part [] text ≡ true
nothing_here [] = refl
nothing_here (b ∷ text) = refl

pub empty_here : (value text : List ℕ) → length value < 1 → true ≡ has_folded value text
empty_here [] text l = sym (nothing_here (folded text))
empty_here (a ∷ value) text l = absurd (omega (arith, l))
