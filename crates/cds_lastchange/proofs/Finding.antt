-- What shows first in a document is what its first part that does not stand says.
use Rattle.std.proofs.Common.{◌≡◌, ℕ, ◌<◌, ◌≤◌, true, false, ◌⊎◌, inl, inr, Option, Some, None, Ok, Err, List, [], ◌∷◌, ◌++◌, codes, length, get_or, refl, sym, ap, subst, ◌∙◌, arith, length-append, encode_utf8}
use Rattle.std.proofs.lemmas.List.{get_or_at}
use Rattle.cds_base.specs.declared.limits.TheConstants.{INPUT_LIMIT}
use Rattle.cds_markup.specs.declared.name.Name.{Name}
use Rattle.cds_markup.specs.declared.name.Attr.{Attr}
use Rattle.cds_markup.specs.declared.part.Part.{Part}
use Rattle.cds_markup.specs.declared.part.Part.TheVariants.{Start, End, Run}
use Rattle.cds_markup.specs.declared.tag.Tag.{Tag}
use Rattle.cds_markup.specs.Grammar.{Leaf, Text, Reference, Section, Comment, is_text, IsLeaf}
use Rattle.cds_markup.specs.Document.{line_ends}
use Rattle.cds_markup.specs.Parts.{leaf_parts, OpensParts}
use Rattle.cds_markup.specs.Refusal.{TagEnds, LeafEnds, TextByte}
use Rattle.cds_markup.specs.GivenParts.{Given}
use Rattle.cds_markup.specs.PartsFound.{Clear, StartStands, Stands}
use Rattle.cds_markup.proofs.Public.{leaves-have-one-end, parts-are-found, parts-stand-before}
use Rattle.cds_lastchange.specs.declared.judge.Judge.{Judge}
use Rattle.cds_lastchange.specs.Refusal.{may_stand, IsMisplaced, is_indirect, IsIndirect, IsStray, Shows}
use Rattle.cds_lastchange.specs.Judged.{part_judged, parts_judged, nothing_said}
use Rattle.cds_lastchange.proofs.Judging.{Answer, ok-err}
use Rattle.cds_lastchange.proofs.Places.{longer, leaf-there, text-there}
use Rattle.cds_lastchange.proofs.Levels.{level_of, and-ok, judged-front, stands-level, strange-start, start-strange, FirstFault}

-- bytes at one place
pub same-byte : (v w : List ℕ) (b c : ℕ) (x y : List ℕ) → v ++ b ∷ x ≡ w ++ c ∷ y → length v ≡ length w → b ≡ c
same-byte v w b c x y e n = sym (get_or_at v b x 0 (length v) refl) ∙ ap (λ xs. get_or xs (length v) 0) e ∙ get_or_at w c y 0 (length v) (sym n)

-- a leaf that is no text begins with `<` or `&`
pub record Begins (front : List ℕ) : Type 0 where
  pub first : ℕ
  pub more : List ℕ
  pub is : front ≡ first ∷ more
  pub markup : (first ≡ 60) ⊎ (first ≡ 38)

word-begins : (bytes front back : List ℕ) (first : ℕ) (more : List ℕ) → bytes ≡ front ++ back → front ≡ first ∷ more → (first ≡ 60) ⊎ (first ≡ 38) → Begins bytes
word-begins bytes front back first more e d m = record { first = first; more = more ++ back; is = e ∙ ap (λ xs. xs ++ back) d; markup = m }

pub leaf-begins : (front : List ℕ) (leaf : Leaf) → IsLeaf front leaf → is_text leaf ≡ false → Begins front
leaf-begins front (Text text) g e = let no : true ≡ false = e in absurd (cc)
leaf-begins front (Reference c) g e = record { first = 38; more = g.name ++ 59 ∷ []; is = g.form; markup = inr refl }
leaf-begins front (Section text) g e = word-begins front g.front g.back 60 (codes "![CDATA[") g.spelled g.first (inl refl)
leaf-begins front Comment g e = word-begins front g.front g.back 60 (codes "!--") g.spelled g.first (inl refl)

pub leaf-no-text : (bytes : List ℕ) (tags others : List Tag) (at shown byte : ℕ) (leaf : Leaf) → LeafEnds bytes tags at shown leaf → is_text leaf ≡ false → TextByte bytes others at byte → ⊥
leaf-no-text bytes tags others at shown byte leaf l plain t =
    let b = leaf-begins l.front leaf l.is_leaf plain in
    let both : l.before ++ b.first ∷ (b.more ++ l.rest) ≡ t.before ++ byte ∷ t.rest = sym (l.spelled ∙ ap (λ xs. l.before ++ (xs ++ l.rest)) b.is) ∙ t.spelled in
    let same = same-byte l.before t.before b.first byte (b.more ++ l.rest) t.rest both (sym l.begins ∙ t.place) in
    by b.first b.markup same
  where
    by : (first : ℕ) → (first ≡ 60) ⊎ (first ≡ 38) → first ≡ byte → ⊥
    by first (inl e) s = t.no_markup.0 (sym s ∙ e)
    by first (inr e) s = t.no_markup.1 (sym s ∙ e)

-- places within the bytes
pub tag-within : (bytes : List ℕ) (tags : List Tag) (begin at : ℕ) (tag : Tag) → TagEnds bytes tags begin at tag → at < length bytes
tag-within bytes tags begin at tag t =
    omega (arith, ap length t.spelled, length-append t.before (60 ∷ (t.inside ++ t.end ∷ t.rest)), length-append t.inside (t.end ∷ t.rest), t.begins, t.place)

pub leaf-within : (bytes : List ℕ) (tags : List Tag) (begin at : ℕ) (leaf : Leaf) → LeafEnds bytes tags begin at leaf → at < length bytes
leaf-within bytes tags begin at leaf l =
    omega (arith, ap length l.spelled, length-append l.before (l.front ++ l.rest), length-append l.front l.rest, l.begins, l.place)

pub text-within : (bytes : List ℕ) (tags : List Tag) (at byte : ℕ) → TextByte bytes tags at byte → at < length bytes
text-within bytes tags at byte t = omega (arith, ap length t.spelled, length-append t.before (byte ∷ t.rest), t.place)

leaf-from : (bytes : List ℕ) (tags : List Tag) (begin at : ℕ) (leaf : Leaf) → LeafEnds bytes tags begin at leaf → is_text leaf ≡ false → begin ≤ at
leaf-from bytes tags begin at leaf l plain =
    let b = leaf-begins l.front leaf l.is_leaf plain in omega (arith, l.place, ap length b.is)

pub shown-within : (bytes : List ℕ) (shown at : ℕ) → Shows bytes shown at → shown < length bytes
shown-within bytes shown at (inl s) = tag-within bytes s.tags at shown s.tag s.ends
shown-within bytes shown at (inr (inl s)) = leaf-within bytes s.tags at shown s.leaf s.ends
shown-within bytes shown at (inr (inr s)) = omega (arith, text-within bytes s.tags at s.byte s.begins, s.here)

-- a part, the place where it shows that it does not stand, and the place that is answered
pub record OfStart (part : Part) (shown at : ℕ) : Type 0 where
  pub name : Name
  pub attrs : List Attr
  pub is : part ≡ Start at shown name attrs

pub record OfLeaf (bytes : List ℕ) (part : Part) (shown at : ℕ) : Type 0 where
  pub text : List ℕ
  pub tags : List Tag
  pub leaf : Leaf
  pub is : part ≡ Run at (Some at) text
  pub ends : LeafEnds bytes tags at shown leaf
  pub no_text : is_text leaf ≡ false

pub record OfText (bytes : List ℕ) (part : Part) (shown at : ℕ) : Type 0 where
  pub begin : ℕ
  pub non_blank : ℕ
  pub text : List ℕ
  pub tags : List Tag
  pub byte : ℕ
  pub is : part ≡ Run begin (Some non_blank) text
  pub behind : non_blank ≤ shown
  pub here : shown ≡ at
  pub letter : TextByte bytes tags non_blank byte

abbrev pub Kind : List ℕ → Part → ℕ → ℕ → Type 0
Kind bytes part shown at = OfStart part shown at ⊎ (OfLeaf bytes part shown at ⊎ OfText bytes part shown at)

-- the same where a text shows at its first letter
abbrev pub Exact : List ℕ → Part → ℕ → ℕ → Type 0
Exact bytes part shown at = OfStart part shown at ⊎ (OfLeaf bytes part shown at ⊎ ((t : OfText bytes part shown at) × (t.non_blank ≡ shown)))

-- fields of equal parts
starts-same : (a e b f : ℕ) (n m : Name) (x y : List Attr) → Start a e n x ≡ Start b f m y → (a ≡ b) × (e ≡ f)
starts-same a e b f n m x y d = (cc, cc)

runs-same : (a b o q : ℕ) (x y : List ℕ) → Run a (Some o) x ≡ Run b (Some q) y → (a ≡ b) × (o ≡ q)
runs-same a b o q x y d = (cc, some o q non_blanks) where
  non_blanks : ◌≡◌ {A = Option ℕ} (Some o) (Some q)
  non_blanks = cc

  some : (o q : ℕ) → ◌≡◌ {A = Option ℕ} (Some o) (Some q) → o ≡ q
  some o q d = cc

start-run : (a e b : ℕ) (n : Name) (x : List Attr) (o : Option ℕ) (y : List ℕ) → Start a e n x ≡ Run b o y → ⊥
start-run a e b n x o y d = cc

-- two causes at one part: the first is not behind the second, and where both show at one byte the answer is one
abbrev pub Before : ℕ → ℕ → ℕ → ℕ → Type 0
Before shown at other answer = (shown ≤ other) × (shown ≡ other → at ≡ answer)

module _ (bytes : List ℕ) where
  pub same-part : (part : Part) (shown at other answer : ℕ) → Exact bytes part shown at → Kind bytes part other answer → Before shown at other answer
  same-part part shown at other answer (inl a) (inl b) =
      let s = starts-same at shown answer other a.name b.name a.attrs b.attrs (sym a.is ∙ b.is) in
      (omega (arith, s.1), λ e. s.0)
  same-part part shown at other answer (inl a) (inr (inl b)) = absurd (start-run at shown answer a.name a.attrs (Some answer) b.text (sym a.is ∙ b.is))
  same-part part shown at other answer (inl a) (inr (inr b)) = absurd (start-run at shown b.begin a.name a.attrs (Some b.non_blank) b.text (sym a.is ∙ b.is))
  same-part part shown at other answer (inr (inl a)) (inl b) = absurd (start-run answer other at b.name b.attrs (Some at) a.text (sym b.is ∙ a.is))
  same-part part shown at other answer (inr (inr a)) (inl b) = absurd (start-run answer other a.0.begin b.name b.attrs (Some a.0.non_blank) a.0.text (sym b.is ∙ a.0.is))
  same-part part shown at other answer (inr (inl a)) (inr (inl b)) =
      let s = runs-same at answer at answer a.text b.text (sym a.is ∙ b.is) in
      let e = leaves-have-one-end bytes a.tags b.tags at shown other a.leaf b.leaf a.ends a.no_text (subst (λ n. LeafEnds bytes b.tags n other b.leaf) (sym s.0) b.ends) b.no_text in
      (omega (arith, e), λ d. s.0)
  same-part part shown at other answer (inr (inl a)) (inr (inr b)) =
      let s = runs-same at b.begin at b.non_blank a.text b.text (sym a.is ∙ b.is) in
      absurd (leaf-no-text bytes a.tags b.tags at shown b.byte a.leaf a.ends a.no_text (subst (λ n. TextByte bytes b.tags n b.byte) (sym s.1) b.letter))
  same-part part shown at other answer (inr (inr a)) (inr (inl b)) =
      let s = runs-same a.0.begin answer a.0.non_blank answer a.0.text b.text (sym a.0.is ∙ b.is) in
      absurd (leaf-no-text bytes b.tags a.0.tags answer other a.0.byte b.leaf b.ends b.no_text (subst (λ n. TextByte bytes a.0.tags n a.0.byte) s.1 a.0.letter))
  same-part part shown at other answer (inr (inr a)) (inr (inr b)) =
      let s = runs-same a.0.begin b.begin a.0.non_blank b.non_blank a.0.text b.text (sym a.0.is ∙ b.is) in
      (omega (arith, a.1, s.1, b.behind), λ d. sym a.0.here ∙ d ∙ b.here)

-- a part before a place shows before it
one-part : (begin at : ℕ) (leaf : Leaf) (non_blank : Option ℕ) (text : List ℕ) → is_text leaf ≡ false → leaf_parts begin leaf ≡ Run at non_blank text ∷ [] → (begin ≡ at) × (non_blank ≡ Some begin) × (is_indirect leaf ≡ true)
one-part begin at (Text text) non_blank said plain e = let bad : true ≡ false = plain in absurd (cc)
one-part begin at (Reference c) non_blank said plain e = by e where
  by : Run begin (Some begin) (encode_utf8 c) ∷ [] ≡ Run at non_blank said ∷ [] → (begin ≡ at) × (non_blank ≡ Some begin) × (true ≡ true)
  by d = (cc, cc, refl)
one-part begin at (Section text) non_blank said plain e = by e where
  by : Run begin (Some begin) (line_ends text) ∷ [] ≡ Run at non_blank said ∷ [] → (begin ≡ at) × (non_blank ≡ Some begin) × (true ≡ true)
  by d = (cc, cc, refl)
one-part begin at Comment non_blank said plain e = let bad : ◌≡◌ {A = List Part} [] (Run at non_blank said ∷ []) = e in absurd (cc)

some-non-blank : (a b : ℕ) → ◌≡◌ {A = Option ℕ} (Some a) (Some b) → a ≡ b
some-non-blank a b e = cc

module _ (front rest : List ℕ) (earlier : List Part) where
  whole-leaf : (tags : List Tag) (begin at : ℕ) (leaf : Leaf) → LeafEnds front tags begin at leaf → LeafEnds (front ++ rest) tags begin at leaf
  whole-leaf tags begin at leaf l = leaf-there (length front) front (front ++ rest) (omega arith) (longer front rest) tags begin at leaf l (leaf-within front tags begin at leaf l)

  pub shows-before : (part : Part) (shown at : ℕ) → Exact (front ++ rest) part shown at → Stands front earlier part → shown < length front
  shows-before part shown at (inl a) s =
      let t : StartStands front earlier at shown a.name a.attrs = subst (λ p. Stands front earlier p) a.is s in
      tag-within front t.tags at shown t.tag t.found
  shows-before part shown at (inr (inl a)) s = by (subst (λ p. Stands front earlier p) a.is s) where
    by : Stands front earlier (Run at (Some at) a.text) → shown < length front
    by (inl l) =
        let p = one-part l.begin at l.leaf (Some at) a.text l.no_text l.is in
        let there : LeafEnds front l.tags at l.at l.leaf = subst (λ n. LeafEnds front l.tags n l.at l.leaf) p.0 l.found in
        let e = leaves-have-one-end (front ++ rest) a.tags l.tags at shown l.at a.leaf l.leaf a.ends a.no_text (whole-leaf l.tags at l.at l.leaf there) l.no_text in
        omega (arith, e, leaf-within front l.tags at l.at l.leaf there)
    by (inr t) =
        let f = t.found at refl in
        let letter = text-there (length front) front (front ++ rest) (omega arith) (longer front rest) t.tags at f.0 f.1 (text-within front t.tags at f.0 f.1) in
        absurd (leaf-no-text (front ++ rest) a.tags t.tags at shown f.0 a.leaf a.ends a.no_text letter)
  shows-before part shown at (inr (inr a)) s = by (subst (λ p. Stands front earlier p) a.0.is s) where
    by : Stands front earlier (Run a.0.begin (Some a.0.non_blank) a.0.text) → shown < length front
    by (inl l) =
        let p = one-part l.begin a.0.begin l.leaf (Some a.0.non_blank) a.0.text l.no_text l.is in
        omega (arith, a.1, some-non-blank a.0.non_blank l.begin p.1, leaf-from front l.tags l.begin l.at l.leaf l.found l.no_text, leaf-within front l.tags l.begin l.at l.leaf l.found)
    by (inr t) =
        let f = t.found a.0.non_blank refl in
        omega (arith, a.1, text-within front t.tags a.0.non_blank f.0 f.1)

-- two places in a list
abbrev pub Apart : List Part → Part → List Part → Part → Type 0
Apart earlier part others other =
    ((mid : List Part) × (others ≡ earlier ++ part ∷ mid))
    ⊎ (((earlier ≡ others) × (part ≡ other)) ⊎ ((mid : List Part) × (earlier ≡ others ++ other ∷ mid)))

parts-tails : (p q : Part) (x y : List Part) → p ∷ x ≡ q ∷ y → x ≡ y
parts-tails p q x y e = cc

pub apart : (earlier later : List Part) (part : Part) (others behind : List Part) (other : Part) → earlier ++ part ∷ later ≡ others ++ other ∷ behind → Apart earlier part others other
apart [] later part [] behind other e = inr (inl (refl, cc))
apart [] later part (p ∷ others) behind other e = inl (others, ap (λ q. q ∷ others) (heads e)) where
  heads : part ∷ later ≡ p ∷ (others ++ other ∷ behind) → p ≡ part
  heads d = cc
apart (p ∷ earlier) later part [] behind other e = inr (inr (earlier, ap (λ q. q ∷ earlier) (heads e))) where
  heads : p ∷ (earlier ++ part ∷ later) ≡ other ∷ behind → p ≡ other
  heads d = cc
apart (p ∷ earlier) later part (q ∷ others) behind other e = by (apart earlier later part others behind other (parts-tails p q (earlier ++ part ∷ later) (others ++ other ∷ behind) e)) where
  heads : p ∷ (earlier ++ part ∷ later) ≡ q ∷ (others ++ other ∷ behind) → p ≡ q
  heads d = cc

  by : Apart earlier part others other → Apart (p ∷ earlier) part (q ∷ others) other
  by (inl (mid, d)) = inl (mid, ap (λ xs. q ∷ xs) d ∙ ap (λ r. r ∷ (earlier ++ part ∷ mid)) (sym (heads e)))
  by (inr (inl (d, f))) = inr (inl (ap (λ r. r ∷ earlier) (heads e) ∙ ap (λ xs. q ∷ xs) d, f))
  by (inr (inr (mid, d))) = inr (inr (mid, ap (λ xs. p ∷ xs) d ∙ ap (λ r. r ∷ (others ++ other ∷ mid)) (heads e)))

-- a cause, and the part that says it
pub record Caught (bytes : List ℕ) (parts : List Part) (shown at : ℕ) : Type 0 where
  pub earlier : List Part
  pub part : Part
  pub later : List Part
  pub tags : List Tag
  pub before : List ℕ
  pub rest : List ℕ
  pub is : parts ≡ earlier ++ part ∷ later
  pub spelled : bytes ≡ before ++ rest
  pub opens : OpensParts tags before earlier
  pub near : length before ≤ shown
  pub kind : Kind bytes part shown at
  pub falls : (j : Judge) → j.level ≡ level_of tags → (place : ℕ) × (part_judged j part ≡ Err place)

same-said : (m n : Name × List Attr) → ◌≡◌ {A = Option (Name × List Attr)} (Some m) (Some n) → m ≡ n
same-said m n e = cc

caught-tag : (bytes : List ℕ) (parts : List Part) → Given bytes parts → (shown at : ℕ) → IsMisplaced bytes shown at → Clear bytes shown → Caught bytes parts shown at
caught-tag bytes parts given shown at s clear =
    let g = (parts-are-found bytes parts given).starts s.tags at shown s.tag s.ends clear in
    let same = same-said (s.name, s.attrs) (g.name, g.attrs) (sym s.says ∙ g.says) in
    let strange : may_stand s.tags g.name g.attrs ≡ false = sym (ap (λ said. may_stand s.tags said.0 said.1) same) ∙ s.misplaced in
    record {
      earlier = g.earlier;
      part = Start at shown g.name g.attrs;
      later = g.later;
      tags = s.tags;
      before = s.ends.before;
      rest = codes "<" ++ (s.ends.inside ++ s.ends.end ∷ s.ends.rest);
      is = g.is;
      spelled = s.ends.spelled;
      opens = g.opens;
      near = omega (arith, s.ends.begins, s.ends.place);
      kind = inl (record { name = g.name; attrs = g.attrs; is = refl });
      falls = λ j l. (at, strange-start s.tags j at shown g.name g.attrs l strange);
    }

pub indirect-no-text : (leaf : Leaf) → is_indirect leaf ≡ true → is_text leaf ≡ false
indirect-no-text (Text text) e = let no : false ≡ true = e in absurd (cc)
indirect-no-text (Reference c) e = refl
indirect-no-text (Section text) e = refl
indirect-no-text Comment e = refl

indirect-part : (at : ℕ) (leaf : Leaf) → is_indirect leaf ≡ true → (text : List ℕ) × (leaf_parts at leaf ≡ Run at (Some at) text ∷ [])
indirect-part at (Text text) e = let no : false ≡ true = e in absurd (cc)
indirect-part at (Reference c) e = (encode_utf8 c, refl)
indirect-part at (Section text) e = (line_ends text, refl)
indirect-part at Comment e = let no : false ≡ true = e in absurd (cc)

caught-leaf : (bytes : List ℕ) (parts : List Part) → Given bytes parts → (shown at : ℕ) → IsIndirect bytes shown at → Clear bytes shown → Caught bytes parts shown at
caught-leaf bytes parts given shown at s clear =
    let plain = indirect-no-text s.leaf s.indirect in
    let p = indirect-part at s.leaf s.indirect in
    let g = (parts-are-found bytes parts given).leaves s.tags at shown s.leaf s.ends plain clear in
    record {
      earlier = g.earlier;
      part = Run at (Some at) p.0;
      later = g.later;
      tags = s.tags;
      before = s.ends.before;
      rest = s.ends.front ++ s.ends.rest;
      is = g.is ∙ ap (λ ps. g.earlier ++ (ps ++ g.later)) p.1;
      spelled = s.ends.spelled;
      opens = g.opens;
      near = omega (arith, s.ends.begins, leaf-from bytes s.tags at shown s.leaf s.ends plain);
      kind = inr (inl (record { text = p.0; tags = s.tags; leaf = s.leaf; is = refl; ends = s.ends; no_text = plain }));
      falls = λ j l. (at, refl);
    }

caught-text : (bytes : List ℕ) (parts : List Part) → Given bytes parts → (shown at : ℕ) → IsStray bytes shown at → Clear bytes shown → Caught bytes parts shown at
caught-text bytes parts given shown at s clear =
    let g = (parts-are-found bytes parts given).texts s.tags at s.byte s.begins (subst (λ n. Clear bytes n) s.here clear) in
    let kind : OfText bytes (Run (length g.before) (Some g.non_blank) g.text) shown at = record { begin = length g.before; non_blank = g.non_blank; text = g.text; tags = s.tags; byte = g.letter.0; is = refl; behind = omega (arith, g.to, s.here); here = s.here; letter = g.letter.1 } in
    record { earlier = g.earlier; part = Run (length g.before) (Some g.non_blank) g.text; later = g.later; tags = s.tags; before = g.before; rest = g.between ++ g.rest; is = g.is; spelled = g.spelled; opens = g.opens; near = omega (arith, g.from, g.to, s.here); kind = inr (inr kind); falls = λ j l. (g.non_blank, refl) }

pub caught : (bytes : List ℕ) (parts : List Part) → Given bytes parts → (shown at : ℕ) → Shows bytes shown at → Clear bytes shown → Caught bytes parts shown at
caught bytes parts given shown at (inl s) clear = caught-tag bytes parts given shown at s clear
caught bytes parts given shown at (inr (inl s)) clear = caught-leaf bytes parts given shown at s clear
caught bytes parts given shown at (inr (inr s)) clear = caught-text bytes parts given shown at s clear

-- nothing shows where all parts stand
pub falls-front : (earlier later : List Part) (part : Part) (tags : List Tag) (before : List ℕ) → OpensParts tags before earlier → ((j : Judge) → j.level ≡ level_of tags → (place : ℕ) × (part_judged j part ≡ Err place)) → (k : Judge) → parts_judged nothing_said (earlier ++ part ∷ later) ≡ Ok k → ⊥
falls-front earlier later part tags before opens falls k e =
    let f = judged-front nothing_said k earlier (part ∷ later) e in
    let s = falls f.0 (stands-level tags before earlier opens f.0 f.1) in
    let n = and-ok (part_judged f.0 part) (λ j. parts_judged j later) k f.2 in
    ok-err n.0 s.0 (sym s.1 ∙ n.1)

pub none-caught : (bytes : List ℕ) (parts : List Part) (shown at : ℕ) → Caught bytes parts shown at → (k : Judge) → parts_judged nothing_said parts ≡ Ok k → ⊥
none-caught bytes parts shown at c k e =
    falls-front c.earlier c.later c.part c.tags c.before c.opens c.falls k (sym (ap (parts_judged nothing_said) c.is) ∙ e)

-- the first part that does not stand, and what shows by it
pub record FirstShown (bytes : List ℕ) (part : Part) (place : ℕ) : Type 0 where
  pub shown : ℕ
  pub exact : Exact bytes part shown place
  pub shows : Shows bytes shown place
  pub clear : Clear bytes shown

same-place : (at place : ℕ) → ◌≡◌ {A = Answer} (Err at) (Err place) → at ≡ place
same-place at place e = cc

shown-start : (bytes : List ℕ) (earlier : List Part) (j : Judge) (begin end place : ℕ) (name : Name) (attrs : List Attr) → parts_judged nothing_said earlier ≡ Ok j → part_judged j (Start begin end name attrs) ≡ Err place → StartStands bytes earlier begin end name attrs → FirstShown bytes (Start begin end name attrs) place
shown-start bytes earlier j begin end place name attrs ok falls s =
    let f = start-strange s.tags j begin end place name attrs (stands-level s.tags s.found.before earlier s.parts j ok) falls in
    record { shown = end; exact = inl (record { name = name; attrs = attrs; is = ap (λ n. Start n end name attrs) (sym f.1) }); shows = inl (record { tags = s.tags; tag = s.tag; name = name; attrs = attrs; ends = subst (λ n. TagEnds bytes s.tags n end s.tag) (sym f.1) s.found; says = s.says; misplaced = f.0 }); clear = s.clear }

shown-run : (bytes : List ℕ) (earlier : List Part) (begin non_blank place : ℕ) (text : List ℕ) → non_blank ≡ place → Stands bytes earlier (Run begin (Some non_blank) text) → FirstShown bytes (Run begin (Some non_blank) text) place
shown-run bytes earlier begin non_blank place text e (inl l) =
    let p = one-part l.begin begin l.leaf (Some non_blank) text l.no_text l.is in
    let here : l.begin ≡ place = sym (some-non-blank non_blank l.begin p.1) ∙ e in
    let ends : LeafEnds bytes l.tags place l.at l.leaf = subst (λ n. LeafEnds bytes l.tags n l.at l.leaf) here l.found in
    record {
      shown = l.at;
      exact = inr (inl (record { text = text; tags = l.tags; leaf = l.leaf; is = ap (λ n. Run n (Some non_blank) text) (sym p.0 ∙ here) ∙ ap (λ n. Run place (Some n) text) e; ends = ends; no_text = l.no_text }));
      shows = inr (inl (record { tags = l.tags; leaf = l.leaf; ends = ends; indirect = p.2 }));
      clear = l.clear;
    }
shown-run bytes earlier begin non_blank place text e (inr t) =
    let f = t.found non_blank refl in
    record {
      shown = non_blank;
      exact = inr (inr (record { begin = begin; non_blank = non_blank; text = text; tags = t.tags; byte = f.0; is = refl; behind = omega arith; here = e; letter = f.1 }, refl));
      shows = inr (inr (record { tags = t.tags; byte = f.0; begins = subst (λ n. TextByte bytes t.tags n f.0) e f.1; here = e }));
      clear = f.2;
    }

shown-part : (bytes : List ℕ) (earlier : List Part) (j : Judge) (place : ℕ) → parts_judged nothing_said earlier ≡ Ok j → (part : Part) → part_judged j part ≡ Err place → Stands bytes earlier part → FirstShown bytes part place
shown-part bytes earlier j place ok (Start begin end name attrs) falls s = shown-start bytes earlier j begin end place name attrs ok falls s
shown-part bytes earlier j place ok (Run begin None text) falls s = let no : ◌≡◌ {A = Answer} (Ok j) (Err place) = falls in absurd (cc)
shown-part bytes earlier j place ok (Run begin (Some non_blank) text) falls s = shown-run bytes earlier begin non_blank place text (same-place non_blank place falls) s
shown-part bytes earlier j place ok (End at) falls s = absurd (ends j falls) where
  ends : (j : Judge) → part_judged j (End at) ≡ Err place → ⊥
  ends j e = let no : part_judged j (End at) ≡ Err place = e in cc

pub first-shown : (bytes : List ℕ) (parts : List Part) → Given bytes parts → (place : ℕ) → (f : FirstFault parts place) → FirstShown bytes f.part place
first-shown bytes parts given place f = shown-part bytes f.earlier f.judge place f.stand f.part f.falls ((parts-are-found bytes parts given).each f.earlier f.later f.part f.is)

-- nothing shows before it
front-within : (bytes before rest : List ℕ) (other n : ℕ) → bytes ≡ before ++ rest → length before ≤ other → (other < n) ⊎ (length bytes ≤ n) → length before ≤ n
front-within bytes before rest other n e near (inl less) = omega (arith, less, near)
front-within bytes before rest other n e near (inr few) = omega (arith, few, ap length e, length-append before rest)

module _ (bytes : List ℕ) (parts : List Part) (given : Given bytes parts) (place : ℕ) (fault : FirstFault parts place) (first : FirstShown bytes fault.part place) where
  pub nothing-before : (other answer : ℕ) → Shows bytes other answer → Clear bytes other → Before first.shown place other answer
  nothing-before other answer shows clear = by (apart fault.earlier fault.later fault.part c.earlier c.later c.part (sym fault.is ∙ c.is)) where
    c : Caught bytes parts other answer
    c = caught bytes parts given other answer shows clear

    less : (n m : ℕ) → n < m → Before n place m answer
    less n m h = (omega (arith, h), λ e. absurd (omega (arith, h, e)))

    by : Apart fault.earlier fault.part c.earlier c.part → Before first.shown place other answer
    by (inl (mid, e)) =
        let front = parts-stand-before c.before c.earlier (front-within bytes c.before c.rest other INPUT_LIMIT c.spelled c.near clear.short) (inl (c.tags, c.opens)) in
        let stands = (parts-are-found c.before c.earlier front).each fault.earlier mid fault.part e in
        let shown = shows-before c.before c.rest fault.earlier fault.part first.shown place (subst (λ xs. Exact xs fault.part first.shown place) c.spelled first.exact) stands in
        less first.shown other (omega (arith, shown, c.near))
    by (inr (inl (e, d))) = same-part bytes fault.part first.shown place other answer first.exact (subst (λ p. Kind bytes p other answer) (sym d) c.kind)
    by (inr (inr (mid, e))) = absurd (falls-front c.earlier mid c.part c.tags c.before c.opens c.falls fault.judge (sym (ap (parts_judged nothing_said) e) ∙ fault.stand))
