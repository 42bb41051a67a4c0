-- Keys that are read are spelled by their text, and keys that are spelled are read.
use Rattle.std.proofs.Common.{◌≡◌, ◌++◌, ◌+◌, ◌==◌, cond, ℕ, List, [], ◌∷◌, map, length, nat_lt, Bool, true, false, Option, Some, None, Result, Ok, Err, refl, sym, ap, subst, ◌∙◌, codes, append_assoc}
use Rattle.std.specs.List.{AllByRecursion}
use Rattle.std.specs.Str.{bytes_eq}
use Rattle.std.proofs.lemmas.Bool.{eqb-true, le-ltb}
use Rattle.cds_criteria.specs.Sorting.{SortKey, SortProperty, Title, Artist, Album, Genre, TrackNumber, ObjectUpdate, property_of, Item, key, key_text, key_among, key_of, all_keys, items_from, before_first, items_read, with_key, key_or_place, text_keys, parted, with_commas, keys_text}
use Rattle.cds_criteria.specs.Criteria.{property_text}
use Rattle.cds_criteria.specs.SortLaws as laws
use Rattle.cds_criteria.proofs.Same.{same_bytes}

abbrev texts : List Item → List (List ℕ)
texts items = map (λ (i : Item). i.text) items

abbrev Nonempty : List Item → Type 0
Nonempty [] = ⊥
Nonempty (item ∷ items) = Unit {0}

pick : (P : List Item → Type 0) (v : Bool) (x y : List Item) → (v ≡ true → P x) → (v ≡ false → P y) → P (elim v [ true ↦ x | false ↦ y ])
pick P true x y one other = one refl
pick P false x y one other = other refl

nonempty-first : (at b : ℕ) (items : List Item) → Nonempty (before_first at b items)
nonempty-first at b [] = tt
nonempty-first at b (item ∷ items) = tt

nonempty : (at : ℕ) (text : List ℕ) → Nonempty (items_from at text)
nonempty at [] = tt
nonempty at (b ∷ text) =
    pick Nonempty (b == 44) (record { at = at; text = [] } ∷ items_from (at + 1) text) (before_first at b (items_from (at + 1) text))
    (λ q. tt) (λ q. nonempty-first at b (items_from (at + 1) text))

commas-on : (items : List Item) → Nonempty items → with_commas (texts items) ≡ 44 ∷ parted (texts items)
commas-on [] n = absurd n
commas-on (item ∷ items) n = refl

first-on : (at b : ℕ) (items : List Item) → parted (texts (before_first at b items)) ≡ b ∷ parted (texts items)
first-on at b [] = refl
first-on at b (item ∷ items) = refl

items-text : (at : ℕ) (text : List ℕ) → parted (texts (items_from at text)) ≡ text
items-text at [] = refl
items-text at (b ∷ text) =
    pick (λ items. parted (texts items) ≡ b ∷ text) (b == 44) (record { at = at; text = [] } ∷ items_from (at + 1) text) (before_first at b (items_from (at + 1) text))
    (λ q. commas-on (items_from (at + 1) text) (nonempty (at + 1) text) ∙ (ap (λ t. 44 ∷ t) (items-text (at + 1) text) ∙ ap (λ c. c ∷ text) (sym (eqb-true b 44 q))))
    (λ q. first-on at b (items_from (at + 1) text) ∙ ap (λ t. b ∷ t) (items-text (at + 1) text))

abbrev OnKey : Option SortKey → List ℕ → Type 0
OnKey None item = Unit {0}
OnKey (Some key) item = key_text key ≡ item

among-by : (v : Bool) (key : SortKey) (other : Option SortKey) (item : List ℕ) → bytes_eq item (key_text key) ≡ v → OnKey other item → OnKey (cond v (Some key) other) item
among-by true key other item e o = sym (same_bytes item (key_text key) e)
among-by false key other item e o = o

among : (keys : List SortKey) (item : List ℕ) → OnKey (key_among keys item) item
among [] item = tt
among (key ∷ keys) item = among-by (bytes_eq item (key_text key)) key (key_among keys item) item refl (among keys item)

abbrev OnKeys : Result (List SortKey) ℕ → List (List ℕ) → Type 0
OnKeys (Err at) items = Unit {0}
OnKeys (Ok keys) items = map key_text keys ≡ items

keys-step : (at : ℕ) (o : Option SortKey) (r : Result (List SortKey) ℕ) (item : List ℕ) (items : List (List ℕ)) → OnKey o item → OnKeys r items → OnKeys (key_or_place at o r) (item ∷ items)
keys-step at None r item items o k = tt
keys-step at (Some key) (Err place) item items o k = tt
keys-step at (Some key) (Ok keys) item items o k = ap (λ t. t ∷ map key_text keys) o ∙ ap (λ t. item ∷ t) k

items-keys : (items : List Item) → OnKeys (items_read items) (texts items)
items-keys [] = refl
items-keys (item ∷ items) = keys-step item.at (key_of item.text) (items_read items) item.text (texts items) (among all_keys item.text) (items-keys items)

abbrev Spelled : Result (List SortKey) ℕ → List ℕ → Type 0
Spelled (Err at) text = Unit {0}
Spelled (Ok keys) text = keys_text keys ≡ text

spelled-from : (r : Result (List SortKey) ℕ) (items : List Item) (text : List ℕ) → OnKeys r (texts items) → parted (texts items) ≡ text → Spelled r text
spelled-from (Err at) items text k e = tt
spelled-from (Ok keys) items text k e = ap parted k ∙ e

text-spelled : (text : List ℕ) → Spelled (text_keys text) text
text-spelled [] = refl
text-spelled (b ∷ text) = spelled-from (items_read (items_from 0 (b ∷ text))) (items_from 0 (b ∷ text)) (b ∷ text) (items-keys (items_from 0 (b ∷ text))) (items-text 0 (b ∷ text))

all-spelled : (v : Bool) (text : List ℕ) → Spelled (cond v (Err 4096) (text_keys text)) text
all-spelled true text = tt
all-spelled false text = text-spelled text

pub spelled : laws.keys_are_spelled
spelled text keys e = subst (λ r. Spelled r text) e (all-spelled (nat_lt 4096 (length text)) text)

-- ---- keys that are spelled are read

has_comma : List ℕ → Bool
has_comma [] = false
has_comma (b ∷ text) = elim (b == 44) [ true ↦ true | false ↦ has_comma text ]

abbrev No : Bool → Type 0
No true = ⊥
No false = Unit {0}

abbrev Yes : Bool → Type 0
Yes true = Unit {0}
Yes false = ⊥

abbrev with_first : ℕ → List (List ℕ) → List (List ℕ)
with_first b [] = (b ∷ []) ∷ []
with_first b (text ∷ others) = (b ∷ text) ∷ others

first-texts : (at b : ℕ) (items : List Item) → texts (before_first at b items) ≡ with_first b (texts items)
first-texts at b [] = refl
first-texts at b (item ∷ items) = refl

plain-by : (v : Bool) (at b : ℕ) (items : List Item) (text : List ℕ) (tail : List (List ℕ)) → (elim v [ true ↦ true | false ↦ has_comma text ]) ≡ false
    → (has_comma text ≡ false → texts items ≡ text ∷ tail)
    → texts (elim v [ true ↦ record { at = at; text = [] } ∷ items | false ↦ before_first at b items ]) ≡ (b ∷ text) ∷ tail
plain-by true at b items text tail e go = absurd (subst Yes e tt)
plain-by false at b items text tail e go = first-texts at b items ∙ ap (with_first b) (go e)

inner : (rest : List ℕ) (tail : List (List ℕ)) → ((at : ℕ) → texts (items_from at rest) ≡ [] ∷ tail) → (text : List ℕ) → has_comma text ≡ false → (at : ℕ)
    → texts (items_from at (text ++ rest)) ≡ text ∷ tail
unfolding has_comma
inner rest tail h [] e at = h at
inner rest tail h (b ∷ text) e at = plain-by (b == 44) at b (items_from (at + 1) (text ++ rest)) text tail e (λ f. inner rest tail h text f (at + 1))

split : (others : List (List ℕ)) → AllByRecursion (λ t. has_comma t ≡ false) others → (text : List ℕ) → has_comma text ≡ false → (at : ℕ)
    → texts (items_from at (text ++ with_commas others)) ≡ text ∷ others
split [] a text e at = inner [] [] (λ at. refl) text e at
split (next ∷ others) a text e at =
    inner (44 ∷ (next ++ with_commas others)) (next ∷ others) (λ at. ap (λ ts. [] ∷ ts) (split others a.1 next a.0 (at + 1))) text e at

key_plain : (falls : Bool) (property : SortProperty) → has_comma (key_text (key falls property)) ≡ false
unfolding has_comma
key_plain true Title = refl
key_plain true Artist = refl
key_plain true Album = refl
key_plain true Genre = refl
key_plain true TrackNumber = refl
key_plain true ObjectUpdate = refl
key_plain false Title = refl
key_plain false Artist = refl
key_plain false Album = refl
key_plain false Genre = refl
key_plain false TrackNumber = refl
key_plain false ObjectUpdate = refl

keys_plain : (keys : List SortKey) → AllByRecursion (λ t. has_comma t ≡ false) (map key_text keys)
keys_plain [] = tt
keys_plain (k ∷ keys) = (key_plain k.falls k.property, keys_plain keys)

key_found : (falls : Bool) (property : SortProperty) → key_of (key_text (key falls property)) ≡ Some (key falls property)
key_found true Title = refl
key_found true Artist = refl
key_found true Album = refl
key_found true Genre = refl
key_found true TrackNumber = refl
key_found true ObjectUpdate = refl
key_found false Title = refl
key_found false Artist = refl
key_found false Album = refl
key_found false Genre = refl
key_found false TrackNumber = refl
key_found false ObjectUpdate = refl

head_of : List (List ℕ) → List ℕ
head_of [] = []
head_of (t ∷ ts) = t

tail_of : List (List ℕ) → List (List ℕ)
tail_of [] = []
tail_of (t ∷ ts) = ts

is_cons : List (List ℕ) → Bool
is_cons [] = false
is_cons (t ∷ ts) = true

reads : (items : List Item) (keys : List SortKey) → texts items ≡ map key_text keys → items_read items ≡ Ok keys
unfolding head_of tail_of is_cons
reads [] [] e = refl
reads [] (k ∷ keys) e = absurd (subst No (ap is_cons e) tt)
reads (item ∷ items) [] e = absurd (subst Yes (ap is_cons e) tt)
reads (item ∷ items) (k ∷ keys) e =
    ap (λ o. key_or_place item.at o (items_read items)) (ap key_of (ap head_of e) ∙ key_found k.falls k.property)
    ∙ ap (with_key k) (reads items keys (ap tail_of e))

begun : (falls : Bool) (text : List ℕ) → text_keys ((cond falls (codes "-") (codes "+")) ++ text) ≡ items_read (items_from 0 ((cond falls (codes "-") (codes "+")) ++ text))
begun true text = refl
begun false text = refl

pub read : laws.spelled_keys_are_read
read keys short = ap (λ v. cond v (Err 4096) (text_keys (keys_text keys))) (le-ltb 4096 (length (keys_text keys)) short) ∙ by keys
  where
    by : (keys : List SortKey) → text_keys (keys_text keys) ≡ Ok keys
    by [] = refl
    by (k ∷ keys) =
        ap text_keys (append_assoc (cond k.falls (codes "-") (codes "+")) (property_text (property_of k.property)) (with_commas (map key_text keys)))
        ∙ (begun k.falls (property_text (property_of k.property) ++ with_commas (map key_text keys))
        ∙ (ap (λ t. items_read (items_from 0 t)) (sym (append_assoc (cond k.falls (codes "-") (codes "+")) (property_text (property_of k.property)) (with_commas (map key_text keys))))
        ∙ reads (items_from 0 (key_text k ++ with_commas (map key_text keys))) (k ∷ keys) (split (map key_text keys) (keys_plain keys) (key_text k) (key_plain k.falls k.property) 0)))
