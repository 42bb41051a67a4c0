-- The items of a text, one after the other, and the keys that they spell.
use Rattle.std.proofs.Common.{◌≡◌, ◌++◌, ◌+◌, ◌-◌, ◌==◌, ◌<◌, ◌≤◌, cond, not, ℕ, suc, List, [], ◌∷◌, length, take, drop, Bool, true, false, Some, None, Result, Ok, Err, refl, sym, ap, ◌∙◌, append_assoc, append-nil, length-drop, arith}
use Rattle.std.specs.List.{prefix_len}
use Rattle.std.proofs.lemmas.List.{nil_from_length}
use Rattle.cds_criteria.specs.Sorting.{SortKey, Item, key_of, items_from, before_first, items_read, with_key, key_or_place}

-- the items after the first, from the comma on
abbrev pub items_after : ℕ → List ℕ → List Item
items_after at [] = []
items_after at (b ∷ text) = items_from (at + 1) text

abbrev pub until_comma : List ℕ → ℕ
until_comma text = prefix_len (λ b. not (b == 44)) text

first-by : (v : Bool) (at b : ℕ) (text : List ℕ) → (b == 44) ≡ v
    → items_from (at + 1) text ≡ record { at = at + 1; text = take (until_comma text) text } ∷ items_after (at + 1 + until_comma text) (drop (until_comma text) text)
    → (elim v [ true ↦ record { at = at; text = [] } ∷ items_from (at + 1) text | false ↦ before_first at b (items_from (at + 1) text) ])
    ≡ record { at = at; text = take (cond (not v) (1 + until_comma text) 0) (b ∷ text) } ∷ items_after (at + cond (not v) (1 + until_comma text) 0) (drop (cond (not v) (1 + until_comma text) 0) (b ∷ text))
first-by true at b text e go = let same : at + 1 ≡ at + 0 + 1 = omega arith in ap (λ n. record { at = at; text = [] } ∷ items_from n text) same
first-by false at b text e go =
    let n : ℕ = until_comma text in
    let same : at + 1 + n ≡ at + suc n = omega arith in
    let one : suc n ≡ 1 + n = omega arith in
    ap (before_first at b) go
    ∙ ap (λ m. record { at = at; text = b ∷ take n text } ∷ items_after m (drop n text)) same
    ∙ ap (λ m. record { at = at; text = take m (b ∷ text) } ∷ items_after (at + m) (drop m (b ∷ text))) one

-- a text's items: the first, and those after it
pub first_item : (at : ℕ) (text : List ℕ)
    → items_from at text ≡ record { at = at; text = take (until_comma text) text } ∷ items_after (at + until_comma text) (drop (until_comma text) text)
first_item at [] = refl
first_item at (b ∷ text) = first-by (b == 44) at b text refl (first_item (at + 1) text)

-- keys before those that are read
abbrev pub with_keys : List SortKey → Result (List SortKey) ℕ → Result (List SortKey) ℕ
with_keys keys (Ok others) = Ok (keys ++ others)
with_keys keys (Err at) = Err at

pub with_none : (r : Result (List SortKey) ℕ) → with_keys [] r ≡ r
with_none (Ok keys) = refl
with_none (Err at) = refl

pub with_more : (keys : List SortKey) (key : SortKey) (r : Result (List SortKey) ℕ) → with_keys keys (with_key key r) ≡ with_keys (keys ++ key ∷ []) r
with_more keys key (Ok others) = ap (λ ks. Ok ks) (sym (append_assoc keys (key ∷ []) others))
with_more keys key (Err at) = refl

-- what is left of a text that begins this many bytes before its end, read after some keys
abbrev pub rest_read : List SortKey → ℕ → List ℕ → Result (List SortKey) ℕ
rest_read keys at rest = with_keys keys (items_read (items_from at rest))

pub read_first : (keys : List SortKey) (at : ℕ) (rest : List ℕ) → rest_read keys at rest ≡
    with_keys keys (key_or_place at (key_of (take (until_comma rest) rest)) (items_read (items_after (at + until_comma rest) (drop (until_comma rest) rest))))
read_first keys at rest = ap (λ items. with_keys keys (items_read items)) (first_item at rest)

-- an item that is no key refuses the text
pub refused_item : (keys : List SortKey) (at n : ℕ) (rest item : List ℕ) → n ≡ until_comma rest → item ≡ take n rest → key_of item ≡ None → rest_read keys at rest ≡ Err at
refused_item keys at n rest item e is none =
    read_first keys at rest
    ∙ ap (λ o. with_keys keys (key_or_place at o (items_read (items_after (at + until_comma rest) (drop (until_comma rest) rest)))))
    (ap (λ m. key_of (take m rest)) (sym e) ∙ ap key_of (sym is) ∙ none)

-- an item that is a key is read, and the items after it are left
pub one_key : (keys : List SortKey) (key : SortKey) (at n : ℕ) (rest item after : List ℕ) → n ≡ until_comma rest → item ≡ take n rest → after ≡ drop n rest → key_of item ≡ Some key
    → rest_read keys at rest ≡ with_keys (keys ++ key ∷ []) (items_read (items_after (at + n) after))
one_key keys key at n rest item after e is left some =
    read_first keys at rest
    ∙ ap (λ m. with_keys keys (key_or_place at (key_of (take m rest)) (items_read (items_after (at + m) (drop m rest))))) (sym e)
    ∙ ap (λ o. with_keys keys (key_or_place at o (items_read (items_after (at + n) (drop n rest))))) (ap key_of (sym is) ∙ some)
    ∙ with_more keys key (items_read (items_after (at + n) (drop n rest)))
    ∙ ap (λ t. with_keys (keys ++ key ∷ []) (items_read (items_after (at + n) t))) (sym left)

-- a comma begins the next item
next_item : (keys : List SortKey) (at next : ℕ) (after more : List ℕ) → 0 < length after → more ≡ drop 1 after → next ≡ at + 1
    → with_keys keys (items_read (items_after at after)) ≡ rest_read keys next more
next_item keys at next [] more h e is = absurd (omega (arith, h))
next_item keys at next (b ∷ after) more h e is = ap (λ n. rest_read keys n after) (sym is) ∙ ap (rest_read keys next) (sym e)

-- what is left of a text after some keys, in a text of a size
abbrev pub left_read : List SortKey → ℕ → List ℕ → Result (List SortKey) ℕ
left_read keys size rest = rest_read keys (size - length rest) rest

pub last_key : (keys : List SortKey) (key : SortKey) (size n : ℕ) (rest item after : List ℕ) → n ≡ until_comma rest → item ≡ take n rest → after ≡ drop n rest → key_of item ≡ Some key
    → length after ≡ 0 → left_read keys size rest ≡ Ok (keys ++ key ∷ [])
last_key keys key size n rest item after e is left some none =
    one_key keys key (size - length rest) n rest item after e is left some
    ∙ ap (λ t. with_keys (keys ++ key ∷ []) (items_read (items_after (size - length rest + n) t))) (nil_from_length after none)
    ∙ ap (λ ks. Ok ks) (append-nil (keys ++ key ∷ []))

pub further_key : (keys : List SortKey) (key : SortKey) (size n : ℕ) (rest item after more : List ℕ) → length rest ≤ size → n ≡ until_comma rest → item ≡ take n rest → after ≡ drop n rest
    → key_of item ≡ Some key → 0 < length after → more ≡ drop 1 after → left_read keys size rest ≡ left_read (keys ++ key ∷ []) size more
further_key keys key size n rest item after more within e is left some there tail =
    let long : length after ≡ length rest - n = ap length left ∙ length-drop n rest in
    let short : length more ≡ length after - 1 = ap length tail ∙ length-drop 1 after in
    one_key keys key (size - length rest) n rest item after e is left some
    ∙ next_item (keys ++ key ∷ []) (size - length rest + n) (size - length more) after more there tail (omega (arith, within, there, long, short))
