-- What is found where nothing refuses the bytes is among their parts, behind exactly the parts before it, and each part of bytes stands in them.
use Rattle.std.proofs.Common.{◌≡◌, ◌≢◌, ℕ, ◌+◌, ◌-◌, ◌<◌, ◌≤◌, Bool, true, false, not, ◌&&◌, ◌⊎◌, inl, inr, Option, Some, None, Ok, List, [], ◌∷◌, ◌++◌, codes, map, length, take, refl, sym, ap, subst, ◌∙◌, arith, append_assoc, encode_utf8}
use Rattle.cds_markup.proofs.Terms.{nat_tests, append-nil, length-append, encode_ascii, INPUT_LIMIT, is_blank, Attr, Part, Start, End, Run, Tag, Content, Inside, Open, OpenText, Leaf, is_text, Text, is_in_text, IsText, IsLeaf, TagEnds, LeafEnds, CanGoOn, Opens, TextByte, opened, reading, marks, Token, given, PartsAreFound, Reading, judge, text_or, text_with, begun_text, or_here, marked, is_in_content, TextGiven, Slashed as Slash-root_state, Blanks, Epilog, PartsBegin, parts_of, leaf_parts, OpensParts, first_non_blank, Telling, telling, begin_telling, told_on, told_within, IsPlain, IsBegun, Clear, TagGiven, PartsGiven, StartStands, TextStands, Stands, closes_section, brackets_with, line_ends, Mode, empty-is, and-first, and-second, and-no, and-both, and-so, no-cons, none-behind, some-is, clash, cases, heads, same_from_push, Grammar-reference as Reference, Grammar-section as Section, Grammar-comment as Comment, by-test}
use Rattle.cds_markup.specs.declared.name.Name.{Name}
use Rattle.cds_markup.specs.GivenParts.{Given}
use Rattle.cds_markup.proofs.GoingOn.{result-by, NoneBefore, front-of, judged-so, judged-cause, cause-refuses, goes-on, taken}
use Rattle.cds_markup.proofs.TokenTold.{byte-more, told-append, parts-at, parts-behind, parts-told, last-one, came-so, text-so}
use Rattle.cds_markup.proofs.Trails.{Tags, Shuts, Cuts, Where, Within, behind, sign, tag-to, tags-to, Keeps, Trail, trail-means, trail-opens, Front, front-less, ends-in, place-in, is-open, tag-at, tag-found, opens-found, opens-is, At-prolog, At-more, Closes, Grows, Leaves, root-trail, alone-trail, place-trail, slash-trail, chars-of, chars-plain, ToldAt, Late, letters-at, trail-told, gives, begun-high, read-to}
use Rattle.cds_markup.proofs.GivenLaws.{parts-are-one, parts-are-given}
use Rattle.cds_markup.proofs.Ways.{bytes_of}
use Rattle.cds_markup.proofs.Decoded.{encoded, wide-bytes}
use Rattle.cds_markup.proofs.ScanForms.{clean, small-or-wide}
use Rattle.cds_markup.proofs.Standing.{TagParts, InText, ends_by}
use Rattle.cds_markup.proofs.Placing.{no-blank}
use Rattle.cds_markup.proofs.ToldBytes.{view, ContentCases, content-byte, text-stays}

-- what is given up to a place begins what is given
pub given-front : (bytes front rest : List ℕ) (parts us : List Part) (q : Telling) → Given bytes parts → bytes ≡ front ++ rest → told_within INPUT_LIMIT begin_telling front ≡ Ok (us, q) → parts ≡ us ++ parts-at (told_within INPUT_LIMIT q rest)
given-front bytes front rest parts us q g e t =
    parts-are-one bytes parts (parts_of bytes) g (parts-are-given bytes) ∙ sym (parts-told bytes) ∙ ap (λ xs. parts-at (told_within INPUT_LIMIT begin_telling xs)) e
    ∙ ap parts-at (told-append INPUT_LIMIT front rest begin_telling ∙ ap (λ x. told_on x (λ y. told_within INPUT_LIMIT y rest)) t) ∙ parts-behind us (told_within INPUT_LIMIT q rest)

none-upto : (bytes : List ℕ) (at : ℕ) → Clear bytes at → NoneBefore bytes (at + 1)
none-upto bytes at c earlier less = c.none earlier (omega (arith, less))

abbrev FrontOf : (bytes : List ℕ) (at : ℕ) → Clear bytes at → List ℕ → Type 0
FrontOf bytes at c front = Front bytes (at + 1) (none-upto bytes at c) front

within-limit : (bytes front : List ℕ) (at : ℕ) (c : Clear bytes at) → FrontOf bytes at c front → length front ≤ INPUT_LIMIT
within-limit bytes front at c f =
    elim c.short [ inl less ↦ omega (arith, less, f.few) | inr few ↦ omega (arith, few, ap length f.spelled, length-append front f.rest) ]

-- where no text is open the parts of what stands there begin the parts
given-late : (bytes front rest : List ℕ) (parts ps : List Part) (mode : Mode) (opens : List Open) → Given bytes parts → bytes ≡ front ++ rest → Late INPUT_LIMIT mode opens front ps → (later : List Part) × (parts ≡ ps ++ later)
given-late bytes front rest parts ps mode opens g e s = (_, given-front bytes front rest parts ps (telling (reading [] mode opens) (marks s.begin None) (length front)) g e s.told)

-- start tags
starts : (bytes : List ℕ) (parts : List Part) → Given bytes parts → (tags : List Tag) (begin at : ℕ) (tag : Tag) → (found : TagEnds bytes tags begin at tag) → Clear bytes at → TagGiven bytes parts tags begin at tag found.before
starts bytes parts given tags begin at tag f clear =
    let start : List ℕ = 60 ∷ (f.inside ++ f.end ∷ []) in
    let empty : (b : Bool) × (f.end ≡ sign b) = elim f.ends [ inl e ↦ (true, e) | inr e ↦ (false, e) ] in
    let all : bytes ≡ (f.before ++ start) ++ f.rest = f.spelled ∙ ap (λ xs. f.before ++ (60 ∷ xs)) (sym (append_assoc f.inside (f.end ∷ []) f.rest)) ∙ sym (append_assoc f.before start f.rest) in
    let front : FrontOf bytes at clear (f.before ++ start) = record { rest = f.rest; spelled = all; few = omega (arith, f.begins, f.place, length-append f.before start, length-append f.inside (f.end ∷ [])) } in
    let b = ends-in tags f.before f.opens in
    let o = is-open tags b in
    let r = opens-found bytes (at + 1) (none-upto bytes at clear) tags f.before f.opens (front-less bytes (at + 1) (none-upto bytes at clear) f.before start front) in
    let k = tag-found bytes (at + 1) (none-upto bytes at clear) (place-in tags b) tags f.before start r.0 tag empty.0 o r.1 (record { inside = f.inside; spelled = ap (λ x. 60 ∷ (f.inside ++ x ∷ [])) empty.1; is = f.is_tag }) front in
    let first : Part = Start (length f.before) (length f.before + 1 + length f.inside) k.0.0 k.0.1 in
    let s = by-test (λ b. ToldAt INPUT_LIMIT (tag-to b) (tags-to b tag tags) (f.before ++ start) (r.0 ++ first ∷ []) → (mode : Mode) × (opens : List Open) × Late INPUT_LIMIT mode opens (f.before ++ start) (r.0 ++ first ∷ [])) (λ s. (_, _, s.0)) (λ s. (_, _, s)) empty.0 (trail-told INPUT_LIMIT k.2 (within-limit bytes (f.before ++ start) at clear front)) in
    let g = given-late bytes (f.before ++ start) f.rest parts (r.0 ++ first ∷ []) s.0 s.1 given all s.2 in
    record {
      name = k.0.0;
      attrs = k.0.1;
      earlier = r.0;
      later = g.0;
      says = k.1.says;
      opens = trail-opens o r.1;
      is = g.1 ∙ append_assoc r.0 (first ∷ []) g.0 ∙ ap (λ n. r.0 ++ Start n (n + 1 + length f.inside) k.0.0 k.0.1 ∷ g.0) (sym f.begins) ∙ ap (λ n. r.0 ++ Start begin n k.0.0 k.0.1 ∷ g.0) (sym f.place);
    }

-- references, sections and comments
leaves : (bytes : List ℕ) (parts : List Part) → Given bytes parts → (tags : List Tag) (begin at : ℕ) (leaf : Leaf) → (found : LeafEnds bytes tags begin at leaf) → is_text leaf ≡ false → Clear bytes at → PartsGiven parts (leaf_parts begin leaf) tags found.before
leaves bytes parts given [] begin at leaf f isn clear = absurd (f.inside refl)
leaves bytes parts given (tag ∷ outer) begin at leaf f isn clear =
    let all : bytes ≡ (f.before ++ f.front) ++ f.rest = f.spelled ∙ sym (append_assoc f.before f.front f.rest) in
    let front : FrontOf bytes at clear (f.before ++ f.front) = record { rest = f.rest; spelled = all; few = omega (arith, f.begins, f.place, length-append f.before f.front) } in
    let r = opens-found bytes (at + 1) (none-upto bytes at clear) (tag ∷ outer) f.before f.opens (front-less bytes (at + 1) (none-upto bytes at clear) f.before f.front front) in
    let b = ends_by false f.opens.3 in
    let t = At-more r.1 (Leaves b leaf f.is_leaf (ap (λ x. b && x) isn ∙ and-no b)) in
    let ps : List Part = r.0 ++ leaf_parts (length f.before) leaf in
    let s = subst (λ x. ToldAt INPUT_LIMIT (Within x) (tag ∷ outer) (f.before ++ f.front) ps) isn (trail-told INPUT_LIMIT t (within-limit bytes (f.before ++ f.front) at clear front)) in
    let g = given-late bytes (f.before ++ f.front) f.rest parts ps (Inside (Content 0)) (map opened (tag ∷ outer)) given all s in
    record { earlier = r.0; later = g.0; opens = trail-opens tt r.1; is = g.1 ∙ append_assoc r.0 (leaf_parts (length f.before) leaf) g.0 ∙ ap (λ n. r.0 ++ (leaf_parts n leaf ++ g.0)) (sym f.begins) }

-- The first character of a literal text that is no white space, by the grammar: one may be cut behind the text.
record First-at (at k : ℕ) (xs : List ℕ) (place : ℕ) : Type 0 where
  pre : List ℕ
  byte : ℕ
  post : List ℕ
  spelled : xs ≡ bytes_of pre ++ byte ∷ post
  place_is : place ≡ at + length (bytes_of pre)
  in_text : InText pre
  clear : clean k pre ≡ true
  no_blank : is_blank byte ≡ false
  no_markup : (byte ≢ 60) × (byte ≢ 38)

first-here : (at k b : ℕ) (ys : List ℕ) (place : ℕ) → is_blank b ≡ false → (b ≢ 60) × (b ≢ 38) → first_non_blank at (b ∷ ys) ≡ Some place → First-at at k (b ∷ ys) place
first-here at k b ys place d signs f = record { pre = []; byte = b; post = ys; spelled = refl; place_is = sym (some-is (rw d at f)) ∙ omega arith; in_text = tt; clear = refl; no_blank = d; no_markup = signs }

first-high : (at k b : ℕ) (ys : List ℕ) (place : ℕ) → 128 ≤ b → first_non_blank at (b ∷ ys) ≡ Some place → First-at at k (b ∷ ys) place
first-high at k b ys place high f = first-here at k b ys place (no-blank b high) (λ e. omega (arith, e, high), λ e. omega (arith, e, high)) f

first-at : (cs : List ℕ) (k at : ℕ) (begun : List ℕ) (place : ℕ) → InText cs → clean k cs ≡ true → (begun ≡ []) ⊎ IsBegun begun → first_non_blank at (bytes_of cs ++ begun) ≡ Some place → First-at at k (bytes_of cs ++ begun) place
first-at [] k at [] place i l cut f = absurd (cc)
first-at [] k at (b ∷ ys) place i l (inl z) f = no-cons (sym z)
first-at [] k at (b ∷ ys) place i l (inr g) f = first-high at k b ys place (begun-high b ys g) f
first-at (c ∷ cs) k at begun place i l cut f = elim (small-or-wide c) [
  | inr high ↦ let w = wide-bytes c high in rw w.2 (first-high at k w.0 ((w.1 ++ bytes_of cs) ++ begun) place w.3.0 (rw w.2 at f))
  | inl low ↦
      let one = encode_ascii c low in
      let g : first_non_blank at (c ∷ (bytes_of cs ++ begun)) ≡ Some place = rw one at f in
      rw one (cases (is_blank c) (λ d. more one d (first-at cs (brackets_with k c) (at + 1) begun place i.2 (and-second (not (closes_section k c)) (clean (brackets_with k c) cs) l) cut (rw d at g)))
      (λ d. first-here at k c (bytes_of cs ++ begun) place d (λ z. clash i.1 (ap is_in_text z), λ z. clash i.1 (ap is_in_text z)) g))
] where
  more : encode_utf8 c ≡ c ∷ [] → is_blank c ≡ true → First-at (at + 1) (brackets_with k c) (bytes_of cs ++ begun) place → First-at at k (c ∷ (bytes_of cs ++ begun)) place
  more one d r = record {
    pre = c ∷ r.pre;
    byte = r.byte;
    post = r.post;
    spelled = ap (λ ys. c ∷ ys) r.spelled ∙ ap (λ xs. (xs ++ bytes_of r.pre) ++ r.byte ∷ r.post) (sym one);
    place_is = r.place_is ∙ omega (arith, length-append (encode_utf8 c) (bytes_of r.pre), ap length one);
    in_text = (i.0, i.1, r.in_text);
    clear = and-both (not (closes_section k c)) (clean (brackets_with k c) r.pre) (and-first (not (closes_section k c)) (clean (brackets_with k c) cs) l) r.clear;
    no_blank = r.no_blank;
    no_markup = r.no_markup;
  }

-- the byte in a text, of which the last character may be cut
text-byte : (bytes : List ℕ) (tag : Tag) (outer : List Tag) (before text begun rest : List ℕ) (earlier : List Part) (at : ℕ) → Trail (Within false) (tag ∷ outer) before earlier → bytes ≡ before ++ ((text ++ begun) ++ rest) → IsPlain text → (begun ≡ []) ⊎ IsBegun begun → first_non_blank (length before) (text ++ begun) ≡ Some at
    → (at < length before + length (text ++ begun) → NoneBefore bytes (at + 1)) → (byte : ℕ) × TextByte bytes (tag ∷ outer) at byte × (length before ≤ at) × (at < length before + length (text ++ begun))
text-byte bytes tag outer before text begun rest earlier at tr e plain cut first none =
    let c = chars-of text text plain in
    let b = first-at c.0 0 (length before) begun at c.2 c.3 cut (subst (λ xs. first_non_blank (length before) (xs ++ begun) ≡ Some at) c.1 first) in
    let front : List ℕ = before ++ bytes_of b.pre in
    let inner : text ++ begun ≡ bytes_of b.pre ++ b.byte ∷ b.post = ap (λ xs. xs ++ begun) c.1 ∙ b.spelled in
    let less : at < length before + length (text ++ begun) = omega (arith, b.place_is, ap length inner, length-append (bytes_of b.pre) (b.byte ∷ b.post)) in
    let place : at ≡ length front = b.place_is ∙ sym (length-append before (bytes_of b.pre)) in
    let all : bytes ≡ front ++ b.byte ∷ (b.post ++ rest) = e ∙ ap (λ xs. before ++ (xs ++ rest)) inner ∙ ap (λ xs. before ++ xs) (append_assoc (bytes_of b.pre) (b.byte ∷ b.post) rest) ∙ sym (append_assoc before (bytes_of b.pre) (b.byte ∷ (b.post ++ rest))) in
    let r = read-to bytes (front ++ b.byte ∷ []) (b.post ++ rest) (all ∙ sym (append_assoc front (b.byte ∷ []) (b.post ++ rest))) (λ k small. none less k (omega (arith, small, place, length-append front (b.byte ∷ [])))) in (
      b.byte,
      record {
        before = front;
        rest = b.post ++ rest;
        spelled = all;
        place = place;
        opens = opens b.pre b.in_text b.clear;
        inside = λ d. absurd (cc);
        no_blank = b.no_blank;
        no_markup = b.no_markup;
        may_be = subst CanGoOn (sym (ap (λ n. take (n + 1) bytes) place ∙ ap (take (length front + 1)) all ∙ front-of front b.byte (b.post ++ rest))) (goes-on (front ++ b.byte ∷ []) r.0 r.1);
      },
      omega (arith, b.place_is),
      less,
    ) where
      opens : (pre : List ℕ) → InText pre → clean 0 pre ≡ true → Opens (tag ∷ outer) (before ++ bytes_of pre)
      opens [] i c = subst (Opens (tag ∷ outer)) (sym (append-nil before)) (opens-is (tag ∷ outer) before earlier (trail-opens tt tr))
      opens (x ∷ pre) i c =
          let leaf : IsText (bytes_of (x ∷ pre)) (bytes_of (x ∷ pre)) = record { characters = chars-plain (x ∷ pre) i c; some = λ d. no-cons (sym d ∙ ap (λ xs. xs ++ bytes_of pre) (encoded x).2) } in
          opens-is (tag ∷ outer) (before ++ bytes_of (x ∷ pre)) _ (trail-opens tt (At-more tr (Leaves false (Text (bytes_of (x ∷ pre))) leaf refl)))

-- Each part of bytes stands in them.

-- lists of parts
parts-last : (front earlier later : List Part) (p part : Part) → front ++ p ∷ [] ≡ earlier ++ part ∷ later → ((earlier ≡ front) × (part ≡ p)) ⊎ ((rest : List Part) × (front ≡ earlier ++ part ∷ rest))
parts-last front earlier [] p part e = let s = same_from_push front earlier p part e in inl (sym s.0, sym s.1)
parts-last front earlier (q ∷ later) p part e =
    let l = last-one q later in
    let s = same_from_push front (earlier ++ part ∷ l.0) p l.1 (e ∙ ap (λ ps. earlier ++ part ∷ ps) l.2 ∙ sym (append_assoc earlier (part ∷ l.0) (l.1 ∷ []))) in
    inr (l.0, s.0)

abbrev Each : List ℕ → List Part → Type 0
Each bytes parts = (earlier later : List Part) (part : Part) → parts ≡ earlier ++ part ∷ later → Stands bytes earlier part

-- The last part stands, or it is one before it.
each-more : (bytes : List ℕ) (front : List Part) (p : Part) → Each bytes front → Stands bytes front p → Each bytes (front ++ p ∷ [])
each-more bytes front p before stands earlier later part is =
    elim (parts-last front earlier later p part is) [ inl h ↦ subst (λ x. Stands bytes x part) (sym h.0) (subst (Stands bytes front) (sym h.1) stands) | inr h ↦ before earlier h.0 part h.1 ]

module _ (bytes : List ℕ) (most : ℕ) (clears : (k : ℕ) → k < most → Clear bytes k) where
  abbrev started : (tags : List Tag) (tag : Tag) (before bs : List ℕ) (empty : Bool) (rest : List ℕ) (earlier : List Part) (at : ℕ) (name : Name) (attrs : List Attr) → OpensParts tags before earlier → TagParts bs tag (sign empty ∷ []) → bytes ≡ before ++ (bs ++ rest) → Keeps tags tag name attrs → at + 1 ≡ length before + length bs
      → length (before ++ bs) ≤ most → StartStands bytes earlier (length before) at name attrs
  started tags tag before bs empty rest earlier at name attrs o p e keeps place few = record {
    tags = tags;
    tag = tag;
    found = tag-at bytes tags before bs rest tag empty at (opens-is tags before earlier o) p e place;
    parts = o;
    says = keeps.says;
    room = keeps.room;
    clear = clears at (omega (arith, place, few, length-append before bs));
  }

  -- texts and other leaves
  text-stands : (tag : Tag) (outer : List Tag) (before text begun rest : List ℕ) (earlier : List Part) → Trail (Within false) (tag ∷ outer) before earlier → bytes ≡ before ++ (text ++ (begun ++ rest)) → IsPlain text → (begun ≡ []) ⊎ IsBegun begun → text ++ begun ≢ [] → length before + length (text ++ begun) ≤ most
      → TextStands bytes earlier (length before) (first_non_blank (length before) (text ++ begun)) (line_ends text)
  text-stands tag outer before text begun rest earlier tr e plain cut some h = record {
    tags = tag ∷ outer;
    before = before;
    front = text;
    begun = begun;
    rest = rest;
    spelled = e;
    begins = refl;
    inside = λ d. absurd (cc);
    parts = trail-opens tt tr;
    plain = plain;
    cut = cut;
    some = some;
    says = refl;
    is_non_blank = refl;
    found = λ at d.
        let b = text-byte bytes tag outer before text begun rest earlier at tr (e ∙ ap (λ xs. before ++ xs) (sym (append_assoc text begun rest))) plain cut d (λ g. none-upto bytes at (clears at (omega (arith, g, h)))) in
        (b.0, b.1, clears at (omega (arith, b.3, h)));
  }

  leaf-stands : (b : Bool) (tag : Tag) (outer : List Tag) (before bs rest : List ℕ) (earlier : List Part) (l : Leaf) (text : List ℕ) → Trail (Within b) (tag ∷ outer) before earlier → bytes ≡ before ++ (bs ++ rest) → length (before ++ bs) ≤ most → is_text l ≡ false → IsLeaf bs l → 1 ≤ length bs
      → leaf_parts (length before) l ≡ Run (length before) (Some (length before)) text ∷ [] → Stands bytes earlier (Run (length before) (Some (length before)) text)
  leaf-stands b tag outer before bs rest earlier l text tr all few isn h some p =
      let at : ℕ = length before + length bs - 1 in
      let here : at + 1 ≡ length before + length bs = omega (arith, some) in
      let o = trail-opens tt tr in
      inl (record { tags = tag ∷ outer; begin = length before; at = at; leaf = l; found = record { before = before; front = bs; rest = rest; spelled = all; begins = refl; place = here; opens = opens-is (tag ∷ outer) before earlier o; inside = λ z. absurd (cc); is_leaf = h }; no_text = isn; parts = o; is = p; clear = clears at (omega (arith, here, few, length-append before bs)) })

  grow-each : {w v : Where} {tags more : List Tag} {before bs : List ℕ} {found : List Part} (rest : List ℕ) (earlier : List Part) → Grows w tags v more before bs found → Trail w tags before earlier → bytes ≡ before ++ (bs ++ rest) → length (before ++ bs) ≤ most → Each bytes earlier → Each bytes (earlier ++ found)
  grow-each rest earlier (Tags {tag} {tags} {before} {bytes = bs} w empty name attrs end k p keeps place) tr e h again = each-more bytes earlier (Start (length before) end name attrs) again (started tags tag before bs empty rest earlier end name attrs (trail-opens k tr) p e keeps place h)
  grow-each rest earlier (Shuts {tags} {before} end place) tr e h again =
      let s = (trail-means tr).0 in
      let slash : List ℕ = 60 ∷ (s.inside ++ 47 ∷ []) in
      let start = s.place in
      let all = e ∙ ap (λ xs. xs ++ 62 ∷ rest) s.spelled ∙ append_assoc s.before slash (62 ∷ rest) in
      let long = length-append before (62 ∷ []) in
      let a = started s.tags s.tag s.before slash true (62 ∷ rest) s.earlier s.end s.name s.attrs s.opens (record { inside = s.inside; spelled = refl; is = s.is_tag }) all (record { says = s.says; room = s.room }) (omega (arith, start, ap length s.spelled, length-append s.before slash)) (omega (arith, h, long, ap length s.spelled)) in
      subst (λ n. Each bytes (earlier ++ End n ∷ [])) (omega (arith, start, place))
      (each-more bytes earlier (End s.end) again (inr (record { front = s.earlier; begin = length s.before; name = s.name; attrs = s.attrs; start = a; is = s.is; more = rest; slash = refl; closes = refl; clear = clears (s.end + 1) (omega (arith, start, h, long)) })))
  grow-each rest earlier (Leaves {tag} {outer} {before} {bytes = bs} b (Text text) h apart) tr e few again =
      let plain : IsPlain bs = record { says = refl; characters = h.characters.characters; each = h.characters.each; none = h.characters.none } in
      let none = append-nil bs in
      let s = text-stands tag outer before bs [] rest earlier (subst (λ x. Trail (Within x) (tag ∷ outer) before earlier) (and-so b apart) tr) e plain (inl refl) (λ z. h.some (h.characters.says ∙ sym none ∙ z)) (omega (arith, few, length-append before bs, ap length none)) in
      rw h.characters.says (each-more bytes earlier (Run (length before) (first_non_blank (length before) bs) (line_ends bs)) again (inr (rw none at s)))
  grow-each rest earlier (Leaves {tag} {outer} {before} {bytes = bs} b (Reference c) h apart) tr e few again =
      each-more bytes earlier (Run (length before) (Some (length before)) (encode_utf8 c)) again (leaf-stands b tag outer before bs rest earlier (Reference c) (encode_utf8 c) tr e few refl h (omega (arith, ap length h.form)) refl)
  grow-each rest earlier (Leaves {tag} {outer} {before} {bytes = bs} b (Section text) h apart) tr e few again =
      each-more bytes earlier (Run (length before) (Some (length before)) (line_ends text)) again (leaf-stands b tag outer before bs rest earlier (Section text) (line_ends text) tr e few refl h (omega (arith, ap length (h.spelled ∙ ap (λ xs. xs ++ h.back) h.first), length-append (codes "<![CDATA[") h.back)) refl)
  grow-each rest earlier (Leaves b Comment h apart) tr e few again = subst (Each bytes) (sym (append-nil earlier)) again
  grow-each rest earlier (Closes {outer} {before} {bytes = bs} b tag z) tr e h again =
      let o = trail-opens tt tr in
      let at : ℕ = length before + length bs - 1 in
      let some : 1 ≤ length bs = omega (arith, ap length (z.spelled ∙ ap (λ ys. ys ++ z.back) z.first), length-append (codes "</") z.back) in
      let here : at + 1 ≡ length before + length bs = omega (arith, some) in
      each-more bytes earlier (End (length before)) again (inl (record {
        tag = tag;
        outer = outer;
        at = at;
        found = record { before = before; closing = bs; rest = rest; spelled = e; begins = refl; place = here; opens = opens-is (tag ∷ outer) before earlier o; is_end = z };
        parts = o;
        clear = clears at (omega (arith, here, h, length-append before bs));
      }))
  grow-each rest earlier (Cuts {tag} {outer} {before} text begun plain cut) tr e h again =
      each-more bytes earlier (Run (length before) (first_non_blank (length before) (text ++ begun)) (line_ends text)) again
      (inr (text-stands tag outer before text begun rest earlier tr (e ∙ ap (λ xs. before ++ xs) (append_assoc text begun rest)) plain (inr cut) (λ z. cut.0 (empty-is begun (grind (arith, nat_tests, ap length z, length-append text begun)))) (omega (arith, h, length-append before (text ++ begun)))))

  each-trail : {w : Where} {tags : List Tag} {front : List ℕ} {parts : List Part} → Trail w tags front parts → (rest : List ℕ) → bytes ≡ front ++ rest → length front ≤ most → Each bytes parts
  each-trail (At-prolog p) rest e h = λ earlier later part is. none-behind earlier part later is
  each-trail (At-more {before = before} {bytes = bs} {earlier = earlier} t g) rest e h =
      let all = e ∙ append_assoc before bs rest in
      grow-each rest earlier g t all h (each-trail t (bs ++ rest) all (omega (arith, length-append before bs, h)))

-- the place up to which the parts are given
pub each : (bytes : List ℕ) (parts : List Part) → Given bytes parts → Each bytes parts
each bytes parts given = let t = place-trail given.front parts given.stand in each-trail bytes (length given.front) clears t.2 given.rest given.spelled (omega arith) where
  clears : (k : ℕ) → k < length given.front → Clear bytes k
  clears k h =
      let g = gives INPUT_LIMIT given.front parts given.stand given.within in
      let few = given.within in
      record { none = λ earlier less. subst (λ xs. NoneBefore xs (length given.front)) (sym given.spelled) ((came-so INPUT_LIMIT given.front g.us g.at g.told).none given.rest) earlier (omega (arith, less, h)); short = inl (omega (arith, few, h)) }

-- What stands up to a place at which no text ends begins the parts.
pub parts-begin : PartsBegin
parts-begin front rest [] earlier parts few given (inl (o, ends)) = (parts, ap (λ ps. ps ++ parts) (sym o.1))
parts-begin front rest (t ∷ outer) earlier parts few given (inl (o, ends)) = given-late (front ++ rest) front rest parts earlier (Inside (Content 0)) (map opened (t ∷ outer)) given refl (trail-told INPUT_LIMIT (alone-trail t outer front earlier o ends) few)
parts-begin front rest tags earlier parts few given (inr (inl s)) = given-late (front ++ rest) front rest parts earlier (Epilog Blanks) [] given refl (trail-told INPUT_LIMIT (root-trail front earlier s) few)
parts-begin front rest tags earlier parts few given (inr (inr s)) = given-late (front ++ rest) front rest parts earlier (Inside Slash-root_state) (map opened s.tags) given refl (trail-told INPUT_LIMIT (slash-trail front earlier s) few).0

-- A character of a literal text that is no white space is in a part, or behind one of its text.

-- the text in which a character that is no white space was found at a place, or is at this one, at its own first byte
first-byte : (k : ℕ) (o : Open) (outer : List Open) (begin : ℕ) (text : Option OpenText) (at b from p : ℕ) (s : Reading) (ts : List Token) → is_blank b ≡ false → (b ≢ 60) × (b ≢ 38) → (text_or at text).at ≡ from → or_here (text_or at text).non_blank false at ≡ Some p
    → ContentCases (reading [] (Inside (Content k)) (o ∷ outer)) b s ts → (t : OpenText) × (is_in_content s.mode ≡ true) × (view s (at + 1) (marked (reading [] (Inside (Content k)) (o ∷ outer)) (marks begin text) at s ts).1.text ≡ Some t)
    × ((marked (reading [] (Inside (Content k)) (o ∷ outer)) (marks begin text) at s ts).0 ≡ []) × (t.at ≡ from) × (t.non_blank ≡ Some p)
first-byte k o outer begin text at b from p s ts blank signs a d (inl (c, l, f, is, e)) =
    let t = text_or at text in
    rw (f, is) (text_with t at c, refl, ap (λ n. Some (text_with (text_or n text) n c)) (omega arith), refl, a, ap (λ x. or_here t.non_blank x at) (elim (small-or-wide c) [ inl low ↦ ap is_blank (heads c b [] [] (sym (encode_ascii c low) ∙ sym e)).0 ∙ blank | inr high ↦ no-blank c high ]) ∙ d)
first-byte k o outer begin text at b from p s ts blank signs a d (inr (inl (f, is, u))) = rw (f, is) (begun_text at (text_or at text), refl, ap (λ n. Some (begun_text n (text_or n text))) (omega arith), refl, a, d)
first-byte k o outer begin text at b from p s ts blank signs a d (inr (inr (f, none, apart, rest, sign))) = absurd (elim sign [ inl e ↦ signs.0 e | inr e ↦ signs.1 e ])

-- the text that stands before a place, and where it begins
pub record Behind-text (tags : List Tag) (front : List ℕ) : Type 0 where
  pub before : List ℕ
  pub earlier : List Part
  pub between : List ℕ
  pub trail : Trail (Within false) tags before earlier
  pub spelled : front ≡ before ++ between
  pub plain : IsPlain between

no-text : (tags : List Tag) → behind tags ≡ Within true → ⊥
no-text [] e = absurd (cc)
no-text (t ∷ outer) e = absurd (cc)

last-text : {w : Where} {tags : List Tag} {front : List ℕ} {parts : List Part} → Trail w tags front parts → w ≡ Within true → Behind-text tags front
last-text (At-more {earlier = earlier} t (Leaves {tag} {outer} {before} {bytes} b (Text text) h a)) e = record {
  before = before;
  earlier = earlier;
  between = bytes;
  trail = subst (λ x. Trail (Within x) (tag ∷ outer) before earlier) (and-so b a) t;
  spelled = refl;
  plain = record { says = refl; characters = h.characters.characters; each = h.characters.each; none = h.characters.none };
}
last-text (At-more t (Tags w true name attrs end k p keeps place)) e = absurd (cc)
last-text (At-more t (Shuts {tags} end place)) e = absurd (no-text tags e)
last-text (At-more t (Closes {outer} b tag h)) e = absurd (no-text outer e)
last-text other e = absurd (cc)

behind-text : (b : Bool) (tags : List Tag) (front : List ℕ) (parts : List Part) → Trail (Within b) tags front parts → Behind-text tags front
behind-text true tags front parts t = last-text t refl
behind-text false tags front parts t = record { before = front; earlier = parts; between = []; trail = t; spelled = sym (append-nil front); plain = chars-plain [] tt refl }

-- the place in that text that is the first that is no white space
shows-by : (bytes : List ℕ) (tag : Tag) (outer : List Tag) (at byte : ℕ) (x : TextByte bytes (tag ∷ outer) at byte) (t : Behind-text (tag ∷ outer) x.before) → Clear bytes at → (o : Option ℕ) → first_non_blank (length t.before) t.between ≡ o
    → (place : ℕ) × (or_here o false at ≡ Some place) × (length t.before ≤ place) × (place ≤ at) × (byte : ℕ) × TextByte bytes (tag ∷ outer) place byte
shows-by bytes tag outer at byte x t clear None e = (at, refl, omega (arith, x.place, ap length t.spelled, length-append t.before t.between), omega arith, byte, x)
shows-by bytes tag outer at byte x t clear (Some p) e =
    let long = ap length t.spelled ∙ length-append t.before t.between in
    let none = append-nil t.between in
    let whole : bytes ≡ t.before ++ ((t.between ++ []) ++ byte ∷ x.rest) = x.spelled ∙ ap (λ xs. xs ++ byte ∷ x.rest) t.spelled ∙ append_assoc t.before t.between (byte ∷ x.rest) ∙ ap (λ xs. t.before ++ (xs ++ byte ∷ x.rest)) (sym none) in
    let b = text-byte bytes tag outer t.before t.between [] (byte ∷ x.rest) t.earlier p t.trail whole t.plain (inl refl) (ap (first_non_blank (length t.before)) none ∙ e) (λ g k h. none-upto bytes at clear k (omega (arith, g, h, x.place, long, ap length none))) in
    (p, refl, b.2, omega (arith, b.3, x.place, long, ap length none), b.0, b.1)

text-in : (bytes : List ℕ) (parts : List Part) → Given bytes parts → (tag : Tag) (outer : List Tag) (at byte : ℕ) (x : TextByte bytes (tag ∷ outer) at byte) (t : Behind-text (tag ∷ outer) x.before) → Clear bytes at → length (x.before ++ byte ∷ []) ≤ INPUT_LIMIT → TextGiven bytes parts (tag ∷ outer) at
text-in bytes parts given tag outer at byte x t clear short =
    let opens : List Open = map opened (tag ∷ outer) in
    let here : at ≡ length t.before + length t.between = x.place ∙ ap length t.spelled ∙ length-append t.before t.between in
    let one = length-append x.before (byte ∷ []) in
    let l = letters-at INPUT_LIMIT tag outer t.before t.between t.between t.earlier (trail-told INPUT_LIMIT t.trail (omega (arith, short, one, here, x.place))) t.plain (omega (arith, short, one, here, x.place, length-append t.before t.between)) in
    let open_ = l.1.text in
    let r0 = reading [] (Inside (Content l.0)) opens in
    let q0 = telling r0 (marks l.1.begin open_) at in
    let told0 : told_within INPUT_LIMIT begin_telling x.before ≡ Ok (t.earlier, q0) = ap (told_within INPUT_LIMIT begin_telling) t.spelled ∙ l.1.told ∙ ap (λ k. Ok (t.earlier, telling r0 (marks l.1.begin open_) k)) (length-append t.before t.between ∙ sym here) in
    let reach = (came-so INPUT_LIMIT x.before t.earlier q0 told0).reached in
    let read = text-so open_ (length t.before) at t.between l.1.so here in
    let shows = shows-by bytes tag outer at byte x t clear (first_non_blank (length t.before) t.between) refl in
    let goes : (s : Reading) × (ts : List Token) × (judge r0 byte ≡ Ok (s, ts)) = result-by (judge r0 byte) (λ y d. (y.0, y.1, d))
    (λ stop d. absurd (clear.none at (omega arith) (rw (x.place, x.spelled) (cause-refuses stop (x.before ++ byte ∷ x.rest) (length x.before) (judged-cause x.before r0 byte x.rest reach stop d))))) in
    let took = (judged-so x.before r0 byte [] reach goes.0 goes.1 goes.2).1 in
    let m = marked r0 (marks l.1.begin open_) at goes.0 goes.1 in
    let f = first-byte l.0 (opened tag) (map opened outer) l.1.begin open_ at byte (length t.before) shows.0 goes.0 goes.1 x.no_blank x.no_markup read.at (ap (λ o. or_here o false at) read.non_blank ∙ shows.1)
    (content-byte x.before [] l.0 (opened tag) (map opened outer) byte goes.0 goes.1 reach took) in
    let st = text-stays INPUT_LIMIT x.rest (x.before ++ byte ∷ []) (telling goes.0 m.1 (at + 1)) f.0 shows.0 (taken x.before r0 byte reach goes.0 goes.1 took).reached f.1 f.2 f.5 in
    let told1 = byte-more INPUT_LIMIT x.before t.earlier q0 byte goes.0 goes.1 told0 (omega (arith, short, one, x.place)) goes.2 in
    record {
      earlier = t.earlier;
      later = st.1;
      before = t.before;
      between = t.between;
      rest = byte ∷ x.rest;
      non_blank = shows.0;
      text = st.0;
      spelled = x.spelled ∙ ap (λ xs. xs ++ byte ∷ x.rest) t.spelled ∙ append_assoc t.before t.between (byte ∷ x.rest);
      place = here;
      plain = t.plain;
      opens = trail-opens tt t.trail;
      from = shows.2;
      to = shows.3;
      letter = (shows.4, shows.5);
      is =
          given-front bytes (x.before ++ byte ∷ []) x.rest parts (t.earlier ++ m.0) (telling goes.0 m.1 (at + 1)) given (x.spelled ∙ sym (append_assoc x.before (byte ∷ []) x.rest)) told1
          ∙ rw (f.3, append-nil t.earlier) (ap (λ ps. t.earlier ++ ps) (st.2 ∙ ap (λ a. Run a (Some shows.0) st.0 ∷ st.1) f.4));
    }

texts : (bytes : List ℕ) (parts : List Part) → Given bytes parts → (tags : List Tag) (at byte : ℕ) → TextByte bytes tags at byte → Clear bytes at → TextGiven bytes parts tags at
texts bytes parts given [] at byte x clear = absurd (x.inside refl)
texts bytes parts given (tag ∷ outer) at byte x clear =
    let front : FrontOf bytes at clear (x.before ++ byte ∷ []) = record { rest = x.rest; spelled = x.spelled ∙ sym (append_assoc x.before (byte ∷ []) x.rest); few = omega (arith, x.place, length-append x.before (byte ∷ [])) } in
    let r = opens-found bytes (at + 1) (none-upto bytes at clear) (tag ∷ outer) x.before x.opens (front-less bytes (at + 1) (none-upto bytes at clear) x.before (byte ∷ []) front) in
    text-in bytes parts given tag outer at byte x (behind-text (ends_by false x.opens.3) (tag ∷ outer) x.before r.0 r.1) clear (within-limit bytes (x.before ++ byte ∷ []) at clear front)

pub parts-are-found : PartsAreFound
parts-are-found bytes parts given = record { each = each bytes parts given; starts = starts bytes parts given; leaves = leaves bytes parts given; texts = texts bytes parts given }
