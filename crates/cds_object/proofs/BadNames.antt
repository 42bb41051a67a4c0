-- The place of the first name that cannot stand in a path.
use Rattle.std.proofs.Common.{◌≡◌, ℕ, ◌+◌, Bool, true, false, cond, List, [], ◌∷◌, ◌++◌, length, drop, Option, Some, None, refl, sym, ap, ◌∙◌, append_assoc, append-nil, arith, length-append}
use Rattle.std.specs.List.{flat_map, join_with_byte}
use Rattle.std.specs.Option.{option_map}
use Rattle.std.proofs.Math.Seq.{drop-append_seam}
use Rattle.std.proofs.lemmas.Grind.{flat_map-append}
use Rattle.std.proofs.lemmas.List.Splits.{join_with_byte-slice_split}
use Rattle.cds_object.specs.First.{NoneRefused}
use Rattle.cds_object.specs.Path.{bad_name_at}
use Rattle.cds_object.specs.Laws.{names_of, cannot_stand, IsBadNamePlace, bad_names_have_their_place}
use Rattle.cds_object.proofs.Firsts.{walk, walk_finds, walk_passes, found_by_walk, passed_by_walk}

-- the text of some names, each with a `/` behind it
abbrev text_before : List (List ℕ) → List ℕ
text_before names = flat_map (λ n. n ++ 47 ∷ []) names

place_more : (before : List (List ℕ)) (name : List ℕ) → length (text_before (before ++ name ∷ [])) ≡ length (text_before before) + length name + 1
place_more before name =
    let long : text_before (before ++ name ∷ []) ≡ text_before before ++ text_before (name ∷ []) = flat_map-append (λ n. n ++ 47 ∷ []) before (name ∷ []) in
    let one : text_before (name ∷ []) ≡ name ++ 47 ∷ [] = append-nil (name ++ 47 ∷ []) in
    ap length long ∙ length-append (text_before before) (text_before (name ∷ [])) ∙ ap (λ x. length (text_before before) + length x) one
    ∙ ap (λ k. length (text_before before) + k) (length-append name (47 ∷ [])) ∙ omega arith

-- the definition is the walk, with the place of what it finds
abbrev Walked : List (List ℕ) → List (List ℕ) → Type 0
Walked before rest = bad_name_at (length before) (length (text_before before)) rest ≡ option_map (λ b. length (text_before b)) (walk cannot_stand before rest)

at_walk : (before rest : List (List ℕ)) → Walked before rest
at_walk before [] = refl
at_walk before (name ∷ rest) = by (cannot_stand before name) (at_walk (before ++ name ∷ []) rest) where
  by : (b : Bool) → Walked (before ++ name ∷ []) rest
      → cond b (Some (length (text_before before))) (bad_name_at (length before + 1) (length (text_before before) + length name + 1) rest) ≡ option_map (λ b. length (text_before b)) (cond b (Some before) (walk cannot_stand (before ++ name ∷ []) rest))
  by true more = refl
  by false more =
      let number : length before + 1 ≡ length (before ++ name ∷ []) = sym (length-append before (name ∷ [])) in
      let place : length (text_before before) + length name + 1 ≡ length (text_before (before ++ name ∷ [])) = sym (place_more before name) in
      ap (λ n. bad_name_at n (length (text_before before) + length name + 1) rest) number ∙ ap (λ k. bad_name_at (length (before ++ name ∷ [])) k rest) place ∙ more

-- the names that are left, joined, are what is left of the text
joined : (before rest : List (List ℕ)) (name : List ℕ) → join_with_byte 47 (before ++ name ∷ rest) ≡ text_before before ++ join_with_byte 47 (name ∷ rest)
joined [] rest name = refl
joined (n ∷ []) rest name =
    let left = join_with_byte 47 (name ∷ rest) in
    sym (ap (λ x. x ++ left) (append-nil (n ++ 47 ∷ [])) ∙ append_assoc n (47 ∷ []) left)
joined (n ∷ m ∷ before) rest name =
    let left = join_with_byte 47 (name ∷ rest) in
    ap (λ x. n ++ 47 ∷ x) (joined (m ∷ before) rest name) ∙ sym (append_assoc (n ++ 47 ∷ []) (text_before (m ∷ before)) left ∙ append_assoc n (47 ∷ []) (text_before (m ∷ before) ++ left))

left_at : (text : List ℕ) (before rest : List (List ℕ)) (name : List ℕ) → names_of text ≡ before ++ name ∷ rest → drop (length (text_before before)) text ≡ join_with_byte 47 (name ∷ rest)
left_at text before rest name e =
    let whole : text ≡ text_before before ++ join_with_byte 47 (name ∷ rest) = sym (join_with_byte-slice_split 47 text) ∙ ap (join_with_byte 47) e ∙ joined before rest name in
    ap (drop (length (text_before before))) whole ∙ drop-append_seam (text_before before) (join_with_byte 47 (name ∷ rest))

placed : (text : List ℕ) (at : ℕ) → bad_name_at 0 0 (names_of text) ≡ Some at → IsBadNamePlace text at
placed text at e = by (walk cannot_stand [] (names_of text)) refl (sym (at_walk [] (names_of text)) ∙ e) where
  by : (o : Option (List (List ℕ))) → walk cannot_stand [] (names_of text) ≡ o → option_map (λ b. length (text_before b)) o ≡ Some at → IsBadNamePlace text at
  by None is e = absurd (cc)
  by (Some before) is e =
      let first = walk_finds cannot_stand (names_of text) before is in
      let place : at ≡ length (text_before before) = cc in record {
        before = before;
        name = first.0;
        rest = first.1;
        first = first.2;
        place = place;
        here = ap (λ k. drop k text) place ∙ left_at text before first.1 first.0 first.2.split;
      }

found_there : (text : List ℕ) (at : ℕ) → IsBadNamePlace text at → bad_name_at 0 0 (names_of text) ≡ Some at
found_there text at is =
    at_walk [] (names_of text)
    ∙ ap (option_map (λ b. length (text_before b))) (found_by_walk cannot_stand (names_of text) is.before is.name is.rest is.first)
    ∙ ap Some (sym is.place)

all_stand : (text : List ℕ) → bad_name_at 0 0 (names_of text) ≡ None → NoneRefused cannot_stand (names_of text)
all_stand text e = walk_passes cannot_stand (names_of text) (by (walk cannot_stand [] (names_of text)) refl (sym (at_walk [] (names_of text)) ∙ e)) where
  by : (o : Option (List (List ℕ))) → walk cannot_stand [] (names_of text) ≡ o → option_map (λ b. length (text_before b)) o ≡ None → walk cannot_stand [] (names_of text) ≡ None
  by None is e = is
  by (Some before) is e = absurd (cc)

none_there : (text : List ℕ) → NoneRefused cannot_stand (names_of text) → bad_name_at 0 0 (names_of text) ≡ None
none_there text none = at_walk [] (names_of text) ∙ ap (option_map (λ b. length (text_before b))) (passed_by_walk cannot_stand (names_of text) none)

pub bad_places : bad_names_have_their_place
bad_places = (λ text at. (placed text at, found_there text at), λ text. (all_stand text, none_there text))
