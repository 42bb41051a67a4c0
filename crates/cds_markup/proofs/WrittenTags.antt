-- What escaping writes is a value by the grammar, and content that means the text.
-- What is written of a tag is the tag by the grammar, and says the element's name and its attributes.
use Rattle.std.proofs.Common.{◌≡◌, ℕ, ◌+◌, ◌^◌, ◌<◌, ◌≤◌, nat_lt, Bool, true, false, not, ◌&&◌, ◌||◌, List, [], ◌∷◌, ◌++◌, length, Option, None, Some, refl, sym, ap, ◌∙◌, arith, append_assoc, append-nil, length-append, codes, ◌==◌, encode_utf8, subst, lit<, ◌⊎◌, inl, inr}
use Rattle.std.proofs.lemmas.Fmt.{decimal_is_IsNumeral, decimal_injective}
use Rattle.std.proofs.lemmas.Str.Parse.{digit_from_value}
use Rattle.std.specs.Fmt.{decimal}
use Rattle.std.specs.Str.Parse.{AllDigits}
use Rattle.cds_markup.specs.declared.name.Name.{Name}
use Rattle.cds_markup.specs.declared.tag.Declaration.{Declaration}
pub use Rattle.cds_markup.specs.Drafts.{CanBeDraftAttr as Stands, CanBeDraftTag as TagStands}
use Rattle.cds_markup.specs.Written.{numbered, under, declares, with_name, counted, tag_attrs, default_declared, tag_of, CanBeAttr, CanBeTag, written_attr, written_attrs, written_start, written_end}
use Rattle.cds_markup.proofs.Terms.{is_return, nat_tests, encode_ascii, bytes_eq-Decides, list_all, begins_name, is_in_name, Attr, QName, TagAttr, Tag, Character, Then, Many, IsName, IsQName, IsSpace, IsEquals, IsTagAttr, IsStartTag, IsEndTag, name_bytes, and_more, declarations, is_empty, tag_says, and-both, and-first, and-second, cases, clash, empty-is, some-is, AllByRecursion, list_any, bytes_eq, escaped, xml_space, is_declaration, declaration, is_sound, declared, space_of, attr_name, with_value, named_attrs, same_qname, same_name, no_attr_twice, no_name_twice, flat_map, is_allowed, is_blank, IsReference, named, ValuePiece, Literal, Referred-piece, Grammar-reference, Text, LeafThen, Inner, Meanings, and_behind, piece_says, with_line_ends, is_in_value, is_in_text, IsValuePiece, IsInside, IsValue, IsText, IsContent, contains, begins_with_text, line_ends, and_joined, meanings, depths, no-cons, eqb-true, list_all-append, flat_map-append, encode_utf8_all, escaped_byte}
use Rattle.cds_markup.proofs.NodesForm.{is-some, and-joined-more, and-joined-none}
use Rattle.cds_markup.proofs.Ways.{then-of, no-blanks}
use Rattle.cds_markup.proofs.TagForms.{and-behind}
use Rattle.cds_markup.proofs.Decoded.{encoded}
use Rattle.cds_base.specs.Characters.{AreAllowed}
use Rattle.cds_base.proofs.Escapes.{kept_char}

-- among what is written no byte ends a section or is a carriage return
abbrev is_quiet : ℕ → Bool
is_quiet b = not (b == 62) && not (b == 13)

both-quiet : (x y : List ℕ) → list_all is_quiet x ≡ true → list_all is_quiet y ≡ true → list_all is_quiet (x ++ y) ≡ true
both-quiet x y e d = list_all-append is_quiet x y ∙ and-both (list_all is_quiet x) (list_all is_quiet y) e d

quiet : (text : List ℕ) → list_all is_quiet (escaped text) ≡ true
quiet [] = refl
quiet (b ∷ text) = both-quiet (escaped_byte b) (escaped text) (grind (arith, nat_tests)) (quiet text)

-- such bytes have no end of a section, and the line ends that they say
one-no : (b c d : ℕ) (more : Bool) → is_quiet d ≡ true → more ≡ false → (((93 == b) && ((93 == c) && ((62 == d) && true))) || more) ≡ false
one-no b c d more e m = grind (arith, nat_tests)

no-section-end : (text : List ℕ) → list_all is_quiet text ≡ true → contains (codes "]]>") text ≡ false
no-section-end [] e = refl
no-section-end (b ∷ []) e = grind (arith, nat_tests)
no-section-end (b ∷ c ∷ []) e = grind (arith, nat_tests)
no-section-end (b ∷ c ∷ d ∷ rest) e =
    let more = and-second (is_quiet b) (list_all is_quiet (c ∷ d ∷ rest)) e in
    one-no b c d (contains (codes "]]>") (c ∷ d ∷ rest)) (and-first (is_quiet d) (list_all is_quiet rest) (and-second (is_quiet c) (list_all is_quiet (d ∷ rest)) more)) (no-section-end (c ∷ d ∷ rest) more)

ends-stay : (text : List ℕ) → list_all is_quiet text ≡ true → line_ends text ≡ text
ends-stay [] e = refl
ends-stay (b ∷ rest) e =
    let first = and-first (is_quiet b) (list_all is_quiet rest) e in
    let one : (b == 13) ≡ false = grind (arith, nat_tests) in
    simp one (ap (λ xs. b ∷ xs) (ends-stay rest (and-second (is_quiet b) (list_all is_quiet rest) e)))

-- every character is written as a reference to it, or is left as it is
abbrev is_marked : ℕ → Bool
is_marked c = c == 38 || c == 60 || c == 62 || c == 34 || c == 9 || c == 10 || c == 13

record Plain (c : ℕ) : Type 0 where
  stays : escaped (encode_utf8 c) ≡ encode_utf8 c
  none : is_marked c ≡ false

abbrev Kind : ℕ → Type 0
Kind c = IsReference (escaped (encode_utf8 c)) c ⊎ Plain c

or-else : (k c : ℕ) (name : List ℕ) → k < 128 → escaped_byte k ≡ 38 ∷ (name ++ 59 ∷ []) → named name ≡ Some k → ((c == k) ≡ false → Kind c) → Kind c
or-else k c name small form names other =
    cases (c == k)
    (λ e. inl (subst (λ (x : ℕ). IsReference (escaped (encode_utf8 x)) x) (sym (eqb-true c k e)) (record { name = name; form = ap escaped (encode_ascii k small) ∙ append-nil (escaped_byte k) ∙ form; names = names })))
    other

kind : (c : ℕ) → Kind c
kind c =
    or-else 38 c (codes "amp") (lit< tt) refl refl (λ a.
    or-else 60 c (codes "lt") (lit< tt) refl refl (λ b.
    or-else 62 c (codes "gt") (lit< tt) refl refl (λ d.
    or-else 34 c (codes "quot") (lit< tt) refl refl (λ e.
    or-else 39 c (codes "apos") (lit< tt) refl refl (λ f.
    or-else 9 c (codes "#9") (lit< tt) refl refl (λ g.
    or-else 10 c (codes "#10") (lit< tt) refl refl (λ h.
    or-else 13 c (codes "#13") (lit< tt) refl refl (λ i.
    inr (record { stays = kept_char c (rw (a, b, d, e, f, g, h, i) refl); none = rw (a, b, d, e, g, h, i) refl })))))))))

escaped-more : (c : ℕ) (cs : List ℕ) → escaped (encode_utf8_all (c ∷ cs)) ≡ escaped (encode_utf8 c) ++ escaped (encode_utf8_all cs)
escaped-more c cs = flat_map-append escaped_byte (encode_utf8 c) (encode_utf8_all cs)

-- a value: each character is a piece of it
record Pieces (bytes said : List ℕ) : Type 0 where
  pieces : List ValuePiece
  each : Many (IsValuePiece 34) bytes pieces
  says : flat_map piece_says pieces ≡ said
  no_ends : with_line_ends pieces ≡ pieces

one-more : (c : ℕ) (cs : List ℕ) (piece : ValuePiece) → IsValuePiece 34 (escaped (encode_utf8 c)) piece → piece_says piece ≡ encode_utf8 c → is_return piece ≡ false → Pieces (escaped (encode_utf8_all cs)) (encode_utf8_all cs) → Pieces (escaped (encode_utf8_all (c ∷ cs))) (encode_utf8_all (c ∷ cs))
one-more c cs piece is says lone p = record {
  pieces = piece ∷ p.pieces;
  each = (escaped (encode_utf8 c), escaped (encode_utf8_all cs), escaped-more c cs, is, p.each);
  says = ap (λ x. x ++ flat_map piece_says p.pieces) says ∙ ap (λ x. encode_utf8 c ++ x) p.says;
  no_ends = ap (and_behind piece) p.no_ends ∙ and-behind piece p.pieces lone;
}

blank-says : (c : ℕ) → is_marked c ≡ false → piece_says (Literal c) ≡ encode_utf8 c
blank-says c none =
    cases (is_blank c) (λ e. let same : c ≡ 32 = grind (arith, nat_tests) in subst (λ (x : ℕ). piece_says (Literal x) ≡ encode_utf8 x) (sym same) (sym (encode_ascii 32 (lit< tt)))) (λ e. rw e refl)

unmarked : (c : ℕ) → is_marked c ≡ false → (is_in_value 34 c ≡ true) × (is_in_text c ≡ true) × ((c == 13) ≡ false)
unmarked c none = (grind (arith, nat_tests), grind (arith, nat_tests), grind (arith, nat_tests))

pieces-of : (cs : List ℕ) → list_all is_allowed cs ≡ true → Pieces (escaped (encode_utf8_all cs)) (encode_utf8_all cs)
pieces-of [] e = record { pieces = []; each = refl; says = refl; no_ends = refl }
pieces-of (c ∷ cs) e =
    let p = pieces-of cs (and-second (is_allowed c) (list_all is_allowed cs) e) in
    elim (kind c) [
      | inl is ↦ one-more c cs (Referred-piece c) is refl refl p
      | inr plain ↦ let u = unmarked c plain.none in one-more c cs (Literal c) (record { spelled = plain.stays; allowed = and-first (is_allowed c) (list_all is_allowed cs) e; passes = u.0 }) (blank-says c plain.none) u.2 p
    ]

pub value-of : (text : List ℕ) → AreAllowed text → IsValue (codes "\"" ++ (escaped text ++ codes "\"")) text
value-of text (cs, allowed, are) =
    let p = pieces-of cs allowed in
    then-of (codes "\"") (escaped text ++ codes "\"") 34 refl (refl, refl)
    (then-of (escaped text) (codes "\"") text refl (subst (λ (t : List ℕ). IsInside 34 (escaped t) t) are (then-of (escaped (encode_utf8_all cs)) [] p.pieces (sym (append-nil (escaped (encode_utf8_all cs)))) p.each (refl, sym (ap (flat_map piece_says) p.no_ends ∙ p.says)))) (then-of (codes "\"") [] 34 refl (refl, refl) (refl, refl)))

-- content that says children, of which a literal text that is the first piece goes on where one stands before it
abbrev pub Clean : Inner → Type 0
Clean (LeafThen (Text text) more) = list_all is_quiet text ≡ true
Clean other = Unit {0}

pub record Means (scopes : List (List Declaration)) (bytes : List ℕ) (said : Option Meanings) (deep : ℕ) : Type 0 where
  pub content : Inner
  pub clean : Clean content
  pub is : IsContent content bytes
  pub means : meanings content scopes ≡ said
  pub depth : depths content ≡ deep

module _ (scopes : List (List Declaration)) (deep : ℕ) where
  -- a literal character before a literal text, which may be empty
  goes-on : (c : ℕ) (text rest cs : List ℕ) (more : Inner) (said : Option Meanings) → Plain c → is_allowed c ≡ true → Many (Character is_in_text) text cs → list_all is_quiet text ≡ true → IsContent more rest → begins_with_text more ≡ false
      → and_joined text (meanings more scopes) ≡ said → depths more ≡ deep → Means scopes (encode_utf8 c ++ (text ++ rest)) (and_joined (encode_utf8 c) said) deep
  goes-on c text rest cs more said plain ok each still others apart means depth =
      let all : List ℕ = encode_utf8 c ++ text in
      let no : list_all is_quiet all ≡ true = both-quiet (encode_utf8 c) text (subst (λ w. list_all is_quiet w ≡ true) plain.stays (quiet (encode_utf8 c))) still in
      let is_text : IsText all all = record {
        characters = record { says = refl; characters = c ∷ cs; each = (encode_utf8 c, text, refl, record { spelled = refl; allowed = ok; passes = (unmarked c plain.none).1 }, each); none = no-section-end all no };
        some = λ e. let first = encoded c in no-cons {a = first.0} {xs = first.1 ++ text} (sym e ∙ ap (λ xs. xs ++ text) first.2);
      } in record {
        content = LeafThen (Text all) more;
        clean = no;
        is = (all, rest, sym (append_assoc (encode_utf8 c) text rest), is_text, others, apart);
        means = ap (λ t. and_joined t (meanings more scopes)) (ends-stay all no) ∙ sym (and-joined-more (encode_utf8 c) text (meanings more scopes)) ∙ ap (and_joined (encode_utf8 c)) means;
        depth = depth;
      }

  literal-before : (c : ℕ) (back : List ℕ) (said : Option Meanings) → Plain c → is_allowed c ≡ true → Means scopes back said deep → Means scopes (encode_utf8 c ++ back) (and_joined (encode_utf8 c) said) deep
  literal-before c back said plain ok m = by m.content m.clean m.is m.means m.depth where
    by : (content : Inner) → Clean content → IsContent content back → meanings content scopes ≡ said → depths content ≡ deep → Means scopes (encode_utf8 c ++ back) (and_joined (encode_utf8 c) said) deep
    by (LeafThen (Text text) more) still (front, rest, e, is, others, lone) means depth =
        rw (e, ← is.characters.says) (goes-on c text rest is.characters.characters more said plain ok (rw is.characters.says is.characters.each) still others lone (ap (λ t. and_joined t (meanings more scopes)) (sym (ends-stay text still)) ∙ means) depth)
    by other still is means depth = goes-on c [] back [] other said plain ok refl refl is refl (and-joined-none (meanings other scopes) ∙ means) depth

  -- a text before other content
  characters-before : (cs back : List ℕ) (said : Option Meanings) → list_all is_allowed cs ≡ true → Means scopes back said deep → Means scopes (escaped (encode_utf8_all cs) ++ back) (and_joined (encode_utf8_all cs) said) deep
  characters-before [] back said allowed m = rw (and-joined-none said) m
  characters-before (c ∷ cs) back said allowed m =
      let after = escaped (encode_utf8_all cs) ++ back in
      let more = and_joined (encode_utf8_all cs) said in
      let r = characters-before cs back said (and-second (is_allowed c) (list_all is_allowed cs) allowed) m in
      rw (escaped-more c cs, append_assoc (escaped (encode_utf8 c)) (escaped (encode_utf8_all cs)) back, ← (and-joined-more (encode_utf8 c) (encode_utf8_all cs) said)) (elim (kind c) [
        | inl is ↦ record { content = LeafThen (Grammar-reference c) r.content; clean = tt; is = (escaped (encode_utf8 c), after, refl, is, r.is, refl); means = ap (and_joined (encode_utf8 c)) r.means; depth = r.depth }
        | inr plain ↦ rw plain.stays (literal-before c after more plain (and-first (is_allowed c) (list_all is_allowed cs) allowed) r)
      ])

pub text-before : (scopes : List (List Declaration)) (text back : List ℕ) (said : Option Meanings) (deep : ℕ) → AreAllowed text → Means scopes back said deep → Means scopes (escaped text ++ back) (and_joined text said) deep
text-before scopes text back said deep (cs, allowed, are) m = subst (λ t. Means scopes (escaped t ++ back) (and_joined t said) deep) are (characters-before scopes deep cs back said allowed m)

-- names of ASCII characters
abbrev pub is_small : ℕ → Bool
is_small b = nat_lt b 128 && is_in_name b

small-character : (test : ℕ → Bool) (b : ℕ) → is_small b ≡ true → test b ≡ true → Character test (b ∷ []) b
small-character test b e d =
    let low : b < 128 = grind (arith, nat_tests) in
    record { spelled = sym (encode_ascii b low); allowed = grind (arith, nat_tests); passes = d }

small-rest : (rest : List ℕ) → list_all is_small rest ≡ true → Many (Character is_in_name) rest rest
small-rest [] e = refl
small-rest (b ∷ rest) e =
    let first = and-first (is_small b) (list_all is_small rest) e in
    (b ∷ [], rest, refl, small-character is_in_name b first (and-second (nat_lt b 128) (is_in_name b) first), small-rest rest (and-second (is_small b) (list_all is_small rest) e))

pub small-name : (b : ℕ) (rest : List ℕ) → begins_name b ≡ true → list_all is_small (b ∷ rest) ≡ true → IsName (b ∷ rest) (b ∷ rest)
small-name b rest begins e =
    let first = and-first (is_small b) (list_all is_small rest) e in
    (refl, rest, then-of (b ∷ []) rest b refl (small-character begins_name b first begins) (small-rest rest (and-second (is_small b) (list_all is_small rest) e)))

digits-small : (ds : List ℕ) → AllDigits 10 ds → list_all is_small ds ≡ true
digits-small [] each = refl
digits-small (d ∷ ds) each =
    let is = digit_from_value d each.0 in
    let small : is_small d ≡ true = grind (arith, nat_tests) in
    and-both (is_small d) (list_all is_small ds) small (digits-small ds each.1)

pub xmlns-name : IsName (codes "xmlns") (codes "xmlns")
xmlns-name = small-name 120 (codes "mlns") refl refl

-- qualified names
pub without-prefix : (local : List ℕ) → IsName local local → IsQName local (record { prefix = []; local = local })
without-prefix local is = then-of local [] local (sym (append-nil local)) is (then-of [] [] None refl refl (refl, refl))

pub behind-prefix : (first : ℕ) (rest local : List ℕ) → IsName (first ∷ rest) (first ∷ rest) → IsName local local → IsQName (name_bytes (record { prefix = first ∷ rest; local = local })) (record { prefix = first ∷ rest; local = local })
behind-prefix first rest local is and_is =
    then-of (first ∷ rest) (codes ":" ++ local) (first ∷ rest) (append_assoc (first ∷ rest) (codes ":") local) is
    (then-of (codes ":" ++ local) [] (Some local) (sym (append-nil (codes ":" ++ local))) (then-of (codes ":") local tt refl refl and_is) (refl, refl))

-- white space and an equals sign
pub a-space : IsSpace (codes " ") tt
a-space = then-of (codes " ") [] 32 refl (refl, refl) no-blanks

pub a-equals : IsEquals (codes "=") tt
a-equals = then-of [] (codes "=") tt refl no-blanks (then-of (codes "=") [] tt refl refl no-blanks)

-- attributes whose names and values can stand
attrs-of : (attrs : List TagAttr) → AllByRecursion Stands attrs → Many (Then IsSpace (λ space. IsTagAttr)) (written_attrs attrs) attrs
attrs-of [] each = refl
attrs-of (a ∷ more) each =
    let value = codes "\"" ++ (escaped a.value ++ codes "\"") in (
      written_attr a,
      written_attrs more,
      refl,
      then-of (codes " ") (name_bytes a.name ++ (codes "=" ++ value)) tt refl a-space (then-of (name_bytes a.name) (codes "=" ++ value) a.name refl each.0.name
          (then-of (codes "=") value tt refl a-equals (then-of value [] a.value (sym (append-nil value)) (value-of a.value each.0.value) (refl, refl)))),
      attrs-of more each.1,
    )

-- the tags
pub start-of : (t : Tag) → TagStands t → IsStartTag (written_start t) t
start-of t s =
    then-of (codes "<") (name_bytes t.name ++ (written_attrs t.attrs ++ codes ">")) tt refl refl
    (then-of (name_bytes t.name ++ written_attrs t.attrs) (codes ">") t (sym (append_assoc (name_bytes t.name) (written_attrs t.attrs) (codes ">")))
    (then-of (name_bytes t.name) (written_attrs t.attrs) t.name refl s.name
    (then-of (written_attrs t.attrs) [] t.attrs (sym (append-nil (written_attrs t.attrs))) (attrs-of t.attrs s.attrs) (then-of [] [] tt refl no-blanks (refl, refl))))
    (then-of (codes ">") [] tt refl refl (refl, refl)))

pub end-of : (t : Tag) → IsEndTag t.name (written_end t) tt
end-of t = then-of (codes "</") (name_bytes t.name ++ codes ">") tt refl refl (then-of (name_bytes t.name) (codes ">") tt refl refl (then-of [] (codes ">") tt refl no-blanks refl))

-- bytes that are the same, and numbers that are not
bytes-same : (xs ys : List ℕ) → bytes_eq xs ys ≡ true → xs ≡ ys
bytes-same xs ys e = (bytes_eq-Decides xs ys).0 e

numbers-apart : (j k : ℕ) → j < 2 ^ 64 → k < 2 ^ 64 → (j ≡ k → ⊥) → bytes_eq (numbered j) (numbered k) ≡ false
numbers-apart j k low high apart =
    cases (bytes_eq (numbered j) (numbered k))
    (λ e. absurd (apart (decimal_injective j k low high (let same : numbered j ≡ numbered k = bytes-same (numbered j) (numbered k) e in cc))))
    (λ e. e)

-- what attributes of a tag say in scopes that are as they should be: each declaration among them is of another prefix than those behind it
abbrev Apart : List TagAttr → Type 0
Apart [] = Unit {0}
Apart (a ∷ tags) = (is_declaration a ≡ true → declared (declarations tags) (declaration a).prefix ≡ None) × Apart tags

record Say (In : List (List Declaration) → Type 0) (attrs : List Attr) (tags : List TagAttr) : Type 0 where
  stand : AllByRecursion Stands tags
  sound : list_all is_sound (declarations tags) ≡ true
  apart : Apart tags
  named : (scopes : List (List Declaration)) → In scopes → named_attrs scopes tags ≡ Some attrs

attr-before : (In To : List (List Declaration) → Type 0) (a : Attr) (attrs : List Attr) (t : TagAttr) (tags : List TagAttr) → is_declaration t ≡ false → Stands t → ((scopes : List (List Declaration)) → In scopes → To scopes)
    → ((scopes : List (List Declaration)) → In scopes → with_value t.value (attr_name scopes t.name) ≡ Some a) → Say To attrs tags → Say In (a ∷ attrs) (t ∷ tags)
attr-before In To a attrs t tags none stands to name s = record {
  stand = (stands, s.stand);
  sound = rw none s.sound;
  apart = (λ e. clash e none, s.apart);
  named = λ scopes h. rw (none, name scopes h, s.named scopes (to scopes h)) refl;
}

declared-before : (In : List (List Declaration) → Type 0) (attrs : List Attr) (t : TagAttr) (tags : List TagAttr) → is_declaration t ≡ true → Stands t → is_sound (declaration t) ≡ true
    → declared (declarations tags) (declaration t).prefix ≡ None → Say In attrs tags → Say In attrs (t ∷ tags)
declared-before In attrs t tags is stands sound other s = record {
  stand = (stands, s.stand);
  sound = rw is (and-both (is_sound (declaration t)) (list_all is_sound (declarations tags)) sound s.sound);
  apart = (λ e. other, s.apart);
  named = λ scopes h. rw is (s.named scopes h);
}

-- those of an element, where so many before them have a namespace: the prefixes that are declared are of later numbers
abbrev Among : List Declaration → List (List Declaration) → Type 0
Among ds scopes = (k : ℕ) (space : List ℕ) → declared ds (numbered k) ≡ Some space → space_of scopes (numbered k) ≡ Some space

record Kept (n : ℕ) (attrs : List Attr) (tags : List TagAttr) : Type 0 where
  say : Say (Among (declarations tags)) attrs tags
  free : (prefix : List ℕ) → ((k : ℕ) → n < k → k < 2 ^ 64 → bytes_eq (numbered k) prefix ≡ false) → declared (declarations tags) prefix ≡ None

undeclared : (n m : ℕ) (a : Attr) (attrs : List Attr) (tags : List TagAttr) (prefix : List ℕ) → n ≤ m → is_declaration (under prefix a) ≡ false → Stands (under prefix a)
    → ((scopes : List (List Declaration)) → attr_name scopes (record { prefix = prefix; local = a.name.local }) ≡ Some a.name) → Kept m attrs tags → Kept n (a ∷ attrs) (under prefix a ∷ tags)
undeclared n m a attrs tags prefix less none stands name p = record {
  say = attr-before (Among (declarations (under prefix a ∷ tags))) (Among (declarations tags)) a attrs (under prefix a) tags none stands (λ scopes h. rw none at h) (λ scopes h. rw (name scopes) refl) p.say;
  free = λ q h. rw none (p.free q (λ k over small. h k (omega arith) small));
}

with-own : (n : ℕ) (a : Attr) (attrs : List Attr) (tags : List TagAttr) → n + 1 < 2 ^ 64 → is_empty a.name.space ≡ false → CanBeAttr a → Kept (n + 1) attrs tags
    → Kept n (a ∷ attrs) (declares (numbered (n + 1)) a.name.space ∷ under (numbered (n + 1)) a ∷ tags)
with-own n a attrs tags low some can p =
    let own : List ℕ = numbered (n + 1) in
    let is_own : IsName own own = small-name 97 (decimal (n + 1)) refl (digits-small (decimal (n + 1)) (decimal_is_IsNumeral (n + 1) low).0.1) in
    let none : is_declaration (under own a) ≡ false = rw (is-some 97 (decimal (n + 1))) refl in
    let first : declared (declarations tags) own ≡ None = p.free own (λ k over small. numbers-apart k (n + 1) small low (λ e. omega arith)) in
    let other : declared (declarations (under own a ∷ tags)) own ≡ None = rw none first in
    let In = Among (declarations (declares own a.name.space ∷ under own a ∷ tags)) in record {
      say = declared-before In (a ∷ attrs) (declares own a.name.space) (under own a ∷ tags) refl (record { name = behind-prefix 120 (codes "mlns") own xmlns-name is_own; value = can.space }) (rw (is-some 97 (decimal (n + 1)), some) refl) other
          (attr-before In (Among (declarations tags)) a attrs (under own a) tags none (record { name = behind-prefix 97 (decimal (n + 1)) a.name.local is_own can.local; value = can.value })
          (λ scopes h k space e. h k space (cases (bytes_eq own (numbered k)) (λ same. absurd (let d = bytes-same own (numbered k) same in cc)) (λ not_own. rw (none, not_own) e)))
          (λ scopes h. rw (is-some 97 (decimal (n + 1)), h (n + 1) a.name.space (rw ((bytes_eq-Decides own own).1 refl) refl)) refl) p.say);
      free = λ q h. rw (none, h (n + 1) (omega arith) low) (p.free q (λ k over small. h k (omega arith) small));
    }

all-kept : (n : ℕ) (attrs : List Attr) → AllByRecursion CanBeAttr attrs → n + length attrs < 2 ^ 64 → Kept n attrs (tag_attrs n attrs)
all-kept n [] can low = record { say = record { stand = tt; sound = refl; apart = tt; named = λ scopes h. refl }; free = λ q h. refl }
all-kept n (a ∷ more) can low =
    cases (is_empty a.name.space)
    (λ e.
    let none : bytes_eq a.name.local (codes "xmlns") ≡ false = rw e at can.0.declares_none in
    rw e (undeclared n n a more (tag_attrs n more) [] (omega arith) (rw none refl) (record { name = without-prefix a.name.local can.0.local; value = can.0.value })
    (λ scopes. ap (λ space. Some (record { space = space; local = a.name.local })) (sym (empty-is a.name.space e))) (all-kept n more can.1 (omega arith))))
    (λ e. rw e (cases (bytes_eq a.name.space xml_space)
    (λ d. rw d (undeclared n (n + 1) a more (tag_attrs (n + 1) more) (codes "xml") (omega arith) refl (record { name = behind-prefix 120 (codes "ml") a.name.local (small-name 120 (codes "ml") refl refl) can.0.local; value = can.0.value })
    (λ scopes. ap (λ space. Some (record { space = space; local = a.name.local })) (sym (bytes-same a.name.space xml_space d))) (all-kept (n + 1) more can.1 (omega arith))))
    (λ d. rw d (with-own n a more (tag_attrs (n + 1) more) (omega arith) e can.0 (all-kept (n + 1) more can.1 (omega arith))))))

-- a qualified name that says another name in the same scopes is another one, and one that declares another prefix
abbrev Other : QName → List TagAttr → Type 0
Other q tags = AllByRecursion (λ b. q ≡ b.name → ⊥) tags

none-like : (q : QName) (tags : List TagAttr) → Other q tags → list_any (λ b. same_qname q b.name) tags ≡ false
none-like q [] each = refl
none-like q (b ∷ tags) each =
    cases (same_qname q b.name)
    (λ e.
    let p : q.prefix ≡ b.name.prefix = bytes-same q.prefix b.name.prefix (and-first (bytes_eq q.prefix b.name.prefix) (bytes_eq q.local b.name.local) e) in
    let l : q.local ≡ b.name.local = bytes-same q.local b.name.local (and-second (bytes_eq q.prefix b.name.prefix) (bytes_eq q.local b.name.local) e) in
    absurd (each.0 (rw (p, l) refl)))
    (λ e. rw e (none-like q tags each.1))

one-named : (value : List ℕ) (name : Option Name) (more : Option (List Attr)) (attrs : List Attr) → and_more (with_value value name) more ≡ Some attrs
    → (a : Attr) × (rest : List Attr) × (name ≡ Some a.name) × (more ≡ Some rest) × (a ∷ rest ≡ attrs)
one-named value (Some name) (Some rest) attrs e = (record { name = name; value = value }, rest, refl, refl, cc)
one-named value name more attrs e = absurd (cc)

bytes-self : (xs : List ℕ) → bytes_eq xs xs ≡ true
bytes-self xs = (bytes_eq-Decides xs xs).1 refl

other-names : (scopes : List (List Declaration)) (t : TagAttr) (name : Name) (tags : List TagAttr) (attrs : List Attr) → is_declaration t ≡ false → attr_name scopes t.name ≡ Some name → named_attrs scopes tags ≡ Some attrs
    → list_any (λ b. same_name name b.name) attrs ≡ false → Other t.name tags
other-names scopes t name [] attrs none is named apart = tt
other-names scopes t name (b ∷ tags) attrs none is named apart =
    cases (is_declaration b)
    (λ e. (λ same. let d : is_declaration t ≡ true = rw same e in clash d none, other-names scopes t name tags attrs none is (rw e at named) apart))
    (λ e.
    let r = one-named b.value (attr_name scopes b.name) (named_attrs scopes tags) attrs (rw e at named) in
    let none_so : (same_name name r.0.name || list_any (λ b. same_name name b.name) r.1) ≡ false = ap (list_any (λ b. same_name name b.name)) r.4 ∙ apart in
    let differ : (same_name name r.0.name ≡ false) × (list_any (λ b. same_name name b.name) r.1 ≡ false) = (grind arith, grind arith) in (
      λ same.
          let alike : name ≡ r.0.name = some-is (sym is ∙ ap (attr_name scopes) same ∙ r.2) in
          let d : same_name name r.0.name ≡ true = rw (alike, bytes-self r.0.name.space, bytes-self r.0.name.local) refl in
          clash d differ.0,
      other-names scopes t name tags r.1 none is r.3 differ.1,
    ))

other-prefixes : (t : TagAttr) (tags : List TagAttr) → is_declaration t ≡ true → declared (declarations tags) (declaration t).prefix ≡ None → Other t.name tags
other-prefixes t [] is none = tt
other-prefixes t (b ∷ tags) is none =
    cases (is_declaration b)
    (λ e. cases (bytes_eq (declaration b).prefix (declaration t).prefix) (λ same. absurd (let d = rw (e, same) at none in cc))
    (λ differs. (λ same. clash (bytes-self (declaration b).prefix) (rw same at differs), other-prefixes t tags is (rw (e, differs) at none))))
    (λ e. (λ same. let d : is_declaration b ≡ true = rw (← same) is in clash d e, other-prefixes t tags is (rw e at none)))

once-of : (scopes : List (List Declaration)) (tags : List TagAttr) (attrs : List Attr) → Apart tags → named_attrs scopes tags ≡ Some attrs → no_name_twice attrs ≡ true → no_attr_twice tags ≡ true
once-of scopes [] attrs apart named once = refl
once-of scopes (t ∷ tags) attrs apart named once =
    cases (is_declaration t)
    (λ e. rw (none-like t.name tags (other-prefixes t tags e (apart.0 e))) (once-of scopes tags attrs apart.1 (rw e at named) once))
    (λ e.
    let r = one-named t.value (attr_name scopes t.name) (named_attrs scopes tags) attrs (rw e at named) in
    let all : (not (list_any (λ b. same_name r.0.name b.name) r.1) && no_name_twice r.1) ≡ true = ap no_name_twice r.4 ∙ once in
    let more : (list_any (λ b. same_name r.0.name b.name) r.1 ≡ false) × (no_name_twice r.1 ≡ true) = (grind arith, grind arith) in
    rw (none-like t.name tags (other-names scopes t r.0.name tags r.1 e r.2 r.3 more.0)) (once-of scopes tags r.1 apart.1 r.3 more.1))

-- an element has fewer attributes than bytes are written of it
few-attrs : (n : ℕ) (attrs : List Attr) → length attrs ≤ length (tag_attrs n attrs)
few-attrs n [] = omega arith
few-attrs n (a ∷ more) =
    let one : 1 ≤ length (with_name n a) = grind arith in
    omega (arith, one, few-attrs (counted n a) more, length-append (with_name n a) (tag_attrs (counted n a) more))

few-written : (tags : List TagAttr) → length tags ≤ length (written_attrs tags)
few-written [] = omega arith
few-written (a ∷ tags) = omega (arith, few-written tags, length-append (written_attr a) (written_attrs tags))

-- the start tag of an element
pub record Starts (outer : List (List Declaration)) (name : Name) (attrs : List Attr) (t : Tag) : Type 0 where
  pub stands : TagStands t
  pub says : tag_says outer t ≡ Some (name, attrs)
  pub space : space_of (declarations t.attrs ∷ outer) [] ≡ Some name.space

pub tag-starts : (outer : List (List Declaration)) (around : List ℕ) (name : Name) (attrs : List Attr) (inside : List ℕ) → CanBeTag name attrs → length (written_start (tag_of around name attrs) ++ inside) < 2 ^ 64
    → space_of outer [] ≡ Some around → Starts outer name attrs (tag_of around name attrs)
tag-starts outer around name attrs inside can short is =
    let t = tag_of around name attrs in
    let k = all-kept 0 attrs can.each (omega (arith, simp length-append at short, few-written t.attrs, few-attrs 0 attrs, length-append (default_declared around name.space) (tag_attrs 0 attrs))) in
    let none = k.free [] (λ j over small. refl) in
    let scopes = declarations t.attrs ∷ outer in
    let s : Say (Among (declarations t.attrs)) attrs t.attrs × (space_of scopes [] ≡ Some name.space) =
    cases (bytes_eq around name.space) (λ e. rw e (k.say, rw none (is ∙ ap Some (bytes-same around name.space e))))
    (λ e. rw e (declared-before (Among (declarations (tag_attrs 0 attrs))) attrs (record { name = record { prefix = []; local = codes "xmlns" }; value = name.space }) (tag_attrs 0 attrs) refl (record { name = without-prefix (codes "xmlns") xmlns-name; value = can.space }) refl none k.say, refl)) in
    let named = s.0.named scopes (λ j space e. rw e refl) in
    record {
      stands = record { name = without-prefix name.local can.local; attrs = s.0.stand };
      says = rw (s.0.sound, once-of scopes t.attrs attrs s.0.apart named can.once, s.1, named, can.once) refl;
      space = s.1;
    }
