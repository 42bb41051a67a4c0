-- What stands inside an element, token by token, is what the grammar says.
use Rattle.std.proofs.Common.{◌≡◌, ◌==◌, ℕ, Bool, true, false, cond, inl, inr, List, [], ◌∷◌, ◌++◌, codes, drop, length, refl, sym, ap, subst, ◌∙◌, arith, encode_utf8, not, ◌&&◌, map, append_assoc, Option, Some, None, ◌+◌, take, ◌<◌}
use Rattle.cds_markup.proofs.Terms.{is_in_name, Byte, IsComment, IsSection, Without, is_any, begins_with_text, Decides-eqb, nat_tests, starts_is, drop-append_seam, append-nil, IsReference, is_allowed, Ampersand, Opened, Content, Slashed, QName, Tag, Open, RootState, Word, Character, Then, Says, Many, name_bytes, IsBlanks, IsTag, Leaf, Text, IsLeaf, is_text, IsStartTag, IsEndTag, is_in_text, IsText, Tree, EmptyElement, Full, Nothing, LeafThen, TreeThen, IsTree, IsContent, IsProlog, IsName, qualified, IsQName, ends_tag, brackets_with, closes_section, Token, Letter, Referred, SectionOf, Commented, Ended, Given, given, opened, is_in_run, tag_given, begins_with, Opens, Bang, Cdata, Comment, Dash, Done, EndTag, Less, Next, On, Reference, Section, StartTag, Stuck, drop-drop, encode_ascii, end_name_step, slash_step, step_comment, step_reference, step_tag, step_root, Grammar-reference, Grammar-section, Grammar-comment, Inner, length-append, take-append_seam, leads, IsQuoted, IsSpace, IsEquals, is_blank, begins_name, Stage, Version, Encoding, Standalone, Closing, DeclarationState, Xml, Gap, PartName, PartEquals, PartValue, YesOrNo, BehindPart, Question, Misc, Blanks, MiscLess, MiscBang, MiscDash, MiscComment, Maybe, MiscPiece, Blank, IsMiscPiece, IsMisc, lower_case, AnyCase, is_quote, IsPseudoAttr, IsYesOrNo, IsDeclaration, byte_order_mark, behind, closing_step, standalone_step, begin_step, value_begins, step_declaration, misc_step, is_between, CommentPiece, step, To, Inside}
use Rattle.cds_markup.proofs.TagForms.{Second, IsClosed, reference-form, reference-reads, tag-reads, same-small, quote-small}
use Rattle.cds_markup.proofs.ScanForms.{characters-are, clean, state, without-word, comment-reads, sec, section-reads}
use Rattle.cds_markup.proofs.Ways.{cases, is-byte, and-both, and-first, and-second, and-no, heads, allowed-append, bytes_of, Allowed, none-spelled, same-first, bytes-append, Spell, Form, Alike, Or, same, also, or-alike, then-alike, then-or, assoc, none-alike, word-more, Reads, Behind, reads-as, reads-if, reads-letter, reads-word, reads-or, reads-blanks, reads-state, then-of, then-says, says-then, Said, takes-then, next-by, no-cons, Takes, Steps, steps-done, cut, less-bytes, mark-bytes, is_ascii, ascii-first, ascii-rest, steps-as, way-as, reads-in, reads-many, turned, or-turned, or-assoc, maybe-or, says-alike, blanks-or, reads-byte, reads-space, reads-equals, blank-small, Way, way-then, way-none, way-text, way-byte, way-many, said-on, way-one, Early, AtBegin, AtMarked, AtFirst, InDeclaration, InProlog, early_next, misc_next, marked_next, name-no-bang, mode_of}
use Rattle.cds_markup.proofs.Decoded.{encoded}

-- lists
pub last-same : (xs : List ℕ) (b : ℕ) (ys : List ℕ) (c : ℕ) → xs ++ b ∷ [] ≡ ys ++ c ∷ [] → (xs ≡ ys) × (b ≡ c)
last-same xs b ys c e =
    let n : length xs ≡ length ys = omega (arith, ap length e, length-append xs (b ∷ []), length-append ys (c ∷ [])) in
    (sym (take-append_seam xs (b ∷ [])) ∙ ap (take (length xs)) e ∙ ap (λ n. take n (ys ++ c ∷ [])) n ∙ take-append_seam ys (c ∷ []), (heads b c [] [] (sym (drop-append_seam xs (b ∷ [])) ∙ ap (drop (length xs)) e ∙ ap (λ n. drop n (ys ++ c ∷ [])) n ∙ drop-append_seam ys (c ∷ []))).0)

-- White space and comments.
piece-way : (bytes : List ℕ) (p : MiscPiece) → IsMiscPiece bytes p → Way misc_step Blanks bytes Blanks
piece-way bytes Blank (b, g) = way-byte misc_step b g.0 (blank-small b g.1).0 (blank-small b g.1).1 (rw g.1 refl)
piece-way bytes CommentPiece t =
    way-then misc_step bytes t.spelled (way-text misc_step (codes "<!--") refl t.first refl)
    (said-on step_comment misc_step MiscComment (λ u. On Blanks) (λ m c. refl) 0 Blanks refl ((comment-reads t.back tt).1 t.second))

pub misc-way : (bytes : List ℕ) → IsMisc bytes tt → Way misc_step Blanks bytes Blanks
misc-way bytes t = let s = says-then (Many IsMiscPiece) (λ ps. tt) bytes tt t in way-many misc_step IsMiscPiece piece-way s.0 bytes s.1

misc-on : (m n : Misc) (c : ℕ) → misc_step m c ≡ On n → early_next (InProlog m) c ≡ On (InProlog n)
misc-on m n c e = ap (λ x. leads x InProlog (λ u. cond (begins_name c) (Done tt) Stuck)) e

-- The declaration, part by part.
abbrev D : DeclarationState → ℕ → Next DeclarationState (Unit {0})
D = step_declaration

abbrev R : DeclarationState → Form (Unit {0})
R m = Reads D (D m)

-- what may stand behind the version, the encoding and the standalone part
abbrev Named : List ℕ → Form (Unit {0}) → Form (Unit {0})
Named word G = Then (Word word) (λ name. Then IsEquals (λ sign. IsQuoted G))

abbrev Closes : Form (Unit {0})
Closes = Then IsBlanks (λ blanks. Word (codes "?>"))

abbrev Tail : Form (Unit {0})
Tail = Then (Maybe (IsPseudoAttr (codes "standalone") IsYesOrNo)) (λ standalone. Closes)

abbrev Rest : Form (Unit {0})
Rest = Then (Maybe (IsPseudoAttr (codes "encoding") (AnyCase (codes "utf-8")))) (λ encoding. Tail)

-- the value of a part, and the quote behind it
abbrev Quoted : ℕ → Form (Unit {0}) → Form (Unit {0})
Quoted quote H = Then (Byte (λ b. b == quote)) (λ same. H)

module _ (t : Stage) (H : Form (Unit {0})) (next : Alike (R (BehindPart (behind t))) H) where
  quote-reads : (quote : ℕ) → is_quote quote ≡ true → Alike (R (PartValue t quote [])) (Quoted quote H)
  quote-reads quote q = reads-byte D (λ c. c == quote) (λ c. On (BehindPart (behind t))) (λ c. H) (λ c e. same-small quote c q e) (λ c e. next)

  -- a part from its name on
  pub named-reads : (first : ℕ) (name : List ℕ) (G : Form (Unit {0})) → is_ascii (first ∷ name) ≡ true → ((quote : ℕ) → is_quote quote ≡ true → Alike (Behind D (value_begins t quote)) (Then G (λ value. Quoted quote H)))
      → Alike (Reads D (λ c. cond (c == first) (On (PartName t name)) Stuck)) (Then (Named (first ∷ name) G) (λ u. H))
  named-reads first name G ascii value =
      let one = ascii-first first name ascii in
      let quoted = also (reads-byte D is_quote (value_begins t) (λ quote. Then G (λ value. Quoted quote H)) quote-small value)
      (also (then-alike (same (Byte is_quote)) (λ quote. also (then-alike (same G) (λ value. also (then-alike (same (Byte (λ b. b == quote))) (λ c. says-alike tt (λ u. H))) (assoc (Byte (λ b. b == quote)) (λ c. Says tt) (λ u. H)))) (assoc G (λ value. Then (Byte (λ b. b == quote)) (λ c. Says tt)) (λ u. H))))
      (assoc (Byte is_quote) (λ quote. Then G (λ value. Then (Byte (λ b. b == quote)) (λ c. Says tt))) (λ u. H))) in
      let equals = also (reads-equals D (PartName t []) (PartEquals t) (λ c. cond (is_quote c) (value_begins t c) Stuck) (Then (IsQuoted G) (λ u. H)) refl refl (λ c d. let other : is_quote c ≡ false = grind (arith, nat_tests) in rw other refl) quoted)
      (assoc IsEquals (λ u. IsQuoted G) (λ u. H)) in
      also (reads-letter D first (On (PartName t name)) name (Then (Then IsEquals (λ u. IsQuoted G)) (λ u. H)) one.0 one.1 (reads-word D (PartName t) (Then (Then IsEquals (λ u. IsQuoted G)) (λ u. H)) (λ b left. refl) equals name (ascii-rest first name ascii)))
      (assoc (Word (first ∷ name)) (λ u. Then IsEquals (λ u. IsQuoted G)) (λ u. H))

-- the values
pub case-reads : (quote : ℕ) (H : Form (Unit {0})) → Alike (R (PartValue Encoding quote [])) H → (left : List ℕ) → is_ascii left ≡ true → Alike (R (PartValue Encoding quote left)) (Then (AnyCase left) (λ value. H))
case-reads quote H e [] ok = also e (λ bytes a. (λ h. then-of [] bytes tt refl refl h, λ t. by t.front t.first t.back t.spelled t.second)) where
  by : (front : List ℕ) → map lower_case front ≡ [] → {bytes : List ℕ} {a : Unit {0}} (back : List ℕ) → bytes ≡ front ++ back → H back a → H bytes a
  by [] d back e h = subst (λ xs. H xs _) (sym e) h
  by (c ∷ front) d back e h = no-cons (sym d)
case-reads quote H e (b ∷ left) ok =
    let one = ascii-first b left ok in
    also (reads-byte D (λ c. lower_case c == b) (λ c. On (PartValue Encoding quote left)) (λ c. Then (AnyCase left) (λ value. H)) (λ c d. (grind (arith, nat_tests, one.0), grind (arith, nat_tests, one.0, one.1))) (λ c d. case-reads quote H e left (ascii-rest b left ok)))
    (λ bytes a. (
      λ t. let s = t.second in then-of (t.what ∷ s.front) s.back tt (t.spelled ∙ ap (λ xs. xs ++ t.back) t.first.0 ∙ ap (λ xs. t.what ∷ xs) s.spelled) (ap (λ x. x ∷ map lower_case s.front) (is-byte (lower_case t.what) b t.first.1) ∙ ap (λ xs. b ∷ xs) s.first) s.second,
      λ t. by t.front t.first t.back t.spelled t.second,
    )) where
      by : {bytes : List ℕ} {a : Unit {0}} (front : List ℕ) → map lower_case front ≡ b ∷ left → (back : List ℕ) → bytes ≡ front ++ back → H back a → Then (Byte (λ c. lower_case c == b)) (λ c. Then (AnyCase left) (λ value. H)) bytes a
      by [] d back e h = no-cons d
      by (c ∷ front) d back e h = let s = heads (lower_case c) b (map lower_case front) left d in then-of (c ∷ []) (front ++ back) c e (refl, grind (arith, nat_tests, s.0)) (then-of front back tt refl s.1 h)

either-reads : (quote : ℕ) (H : Form (Unit {0})) → Alike (R (PartValue Standalone quote [])) H → Alike (R (YesOrNo quote)) (Then IsYesOrNo (λ value. H))
either-reads quote H e = also
    (reads-or D (λ c. c == 121) (D (YesOrNo quote)) (λ c. On (PartValue Standalone quote (codes "es"))) (λ c. cond (c == 110) (On (PartValue Standalone quote (codes "o"))) Stuck) (Then (Word (codes "yes")) (λ u. H)) (Then (Word (codes "no")) (λ u. H)) (λ c. refl)
    (λ c d. let other : (c == 110) ≡ false = grind (arith, nat_tests) in rw other refl) (word 121 (codes "es") refl) (word 110 (codes "o") refl)) (λ bytes a. (
      λ s. elim s [ inl t ↦ then-of t.front t.back tt t.spelled (inl t.first) t.second | inr t ↦ then-of t.front t.back tt t.spelled (inr t.first) t.second ],
      λ t. elim t.first [ inl d ↦ inl (then-of t.front t.back tt t.spelled d t.second) | inr d ↦ inr (then-of t.front t.back tt t.spelled d t.second) ],
    )) where
      word : (b : ℕ) (left : List ℕ) → is_ascii (b ∷ left) ≡ true → Alike (Reads D (λ c. cond (c == b) (On (PartValue Standalone quote left)) Stuck)) (Then (Word (b ∷ left)) (λ u. H))
      word b left ok = let one = ascii-first b left ok in reads-letter D b (On (PartValue Standalone quote left)) left H one.0 one.1 (reads-word D (PartValue Standalone quote) H (λ b left. refl) e left (ascii-rest b left ok))

-- what begins behind white space, and what stands behind a part
closing-reads : Alike (Reads D closing_step) (Word (codes "?>"))
closing-reads = also (reads-letter D 63 (On Question) (codes ">") (Says tt) (omega arith) refl (reads-letter D 62 (Done tt) [] (Says tt) (omega arith) refl none-alike)) (λ bytes a. (λ t. t.spelled ∙ ap (λ xs. t.front ++ xs) t.second.0 ∙ append-nil t.front ∙ t.first, λ e. then-of bytes [] tt (sym (append-nil bytes)) e (refl, refl)))

-- behind a part stands what may come behind white space, or the end
part-reads : (s : Stage) (next : ℕ → Next DeclarationState (Unit {0})) (B : Form (Unit {0})) → D (Gap s) ≡ (λ c. cond (is_blank c) (On (Gap s)) (next c)) → ((c : ℕ) → is_blank c ≡ true → next c ≡ Stuck) → Alike (Reads D next) B
    → Alike (Reads D (λ c. cond (is_blank c) (On (Gap s)) (closing_step c))) (Or (Then IsSpace (λ space. B)) (Word (codes "?>")))
part-reads s next B is apart e =
    reads-or D is_blank (λ c. cond (is_blank c) (On (Gap s)) (closing_step c)) (λ c. On (Gap s)) closing_step (Then IsSpace (λ space. B)) (Word (codes "?>")) (λ c. refl) (λ c d. let other : (c == 63) ≡ false = grind (arith, nat_tests) in rw other refl) (reads-space D (Gap s) B (reads-blanks D (Gap s) next B is apart e)) closing-reads

-- with a part that may be missing
maybe-alike : (N H B E : Form (Unit {0})) → Alike (Or (Then IsSpace (λ space. B)) E) H → Alike (Or (Then IsSpace (λ space. Or (Then N (λ u. H)) B)) E) (Then (Maybe (Then IsSpace (λ space. N))) (λ u. H))
maybe-alike N H B E e = also (or-alike then-or (same E)) (also (or-assoc (Then IsSpace (λ space. Then N (λ u. H))) (Then IsSpace (λ space. B)) E) (also (or-alike (assoc IsSpace (λ space. N) (λ u. H)) e) (maybe-or (λ o. H))))

closes-read : Alike (R (BehindPart Closing)) Closes
closes-read = also (part-reads Closing closing_step (Word (codes "?>")) refl (λ c d. let other : (c == 63) ≡ false = grind (arith, nat_tests) in rw other refl) closing-reads) blanks-or

abbrev StandaloneOr : Form (Unit {0})
StandaloneOr = Or (Then (Named (codes "standalone") IsYesOrNo) (λ u. Closes)) (Word (codes "?>"))

standalone-reads : Alike (Reads D standalone_step) StandaloneOr
standalone-reads =
    reads-or D (λ c. c == 115) standalone_step (λ c. On (PartName Standalone (codes "tandalone"))) closing_step (Then (Named (codes "standalone") IsYesOrNo) (λ u. Closes)) (Word (codes "?>")) (λ c. refl) (λ c d. let other : (c == 63) ≡ false = grind (arith, nat_tests) in rw other refl)
    (named-reads Standalone Closes closes-read 115 (codes "tandalone") IsYesOrNo refl (λ quote q. either-reads quote (Quoted quote Closes) (quote-reads Standalone Closes closes-read quote q))) closing-reads

tail-alike : Alike (Or (Then IsSpace (λ space. StandaloneOr)) (Word (codes "?>"))) Tail
tail-alike = maybe-alike (Named (codes "standalone") IsYesOrNo) Closes (Word (codes "?>")) (Word (codes "?>")) blanks-or

no-part : (c : ℕ) → is_blank c ≡ true → standalone_step c ≡ Stuck
no-part c e = let one : (c == 115) ≡ false = grind (arith, nat_tests) in let two : (c == 63) ≡ false = grind (arith, nat_tests) in rw (one, two) refl

tail-reads : Alike (R (BehindPart Standalone)) Tail
tail-reads = also (part-reads Standalone standalone_step StandaloneOr refl no-part standalone-reads) tail-alike

rest-reads : Alike (R (BehindPart Encoding)) Rest
rest-reads =
    let N : Form (Unit {0}) = Named (codes "encoding") (AnyCase (codes "utf-8")) in
    also (part-reads Encoding (begin_step Encoding) (Or (Then N (λ u. Tail)) StandaloneOr) refl (λ c d. let other : (c == 101) ≡ false = grind (arith, nat_tests) in rw other (no-part c d))
    (reads-or D (λ c. c == 101) (begin_step Encoding) (λ c. On (PartName Encoding (codes "ncoding"))) standalone_step (Then N (λ u. Tail)) StandaloneOr (λ c. refl) (λ c d. rw (is-byte c 101 d) refl)
    (named-reads Encoding Tail tail-reads 101 (codes "ncoding") (AnyCase (codes "utf-8")) refl (λ quote q. case-reads quote (Quoted quote Tail) (quote-reads Encoding Tail tail-reads quote q) (codes "utf-8") refl)) standalone-reads))
    (maybe-alike N Tail StandaloneOr (Word (codes "?>")) tail-alike)

declared-reads : Alike (R (Xml [])) (Then (IsPseudoAttr (codes "version") (Word (codes "1.0"))) (λ version. Rest))
declared-reads =
    let N : Form (Unit {0}) = Named (codes "version") (Word (codes "1.0")) in
    also (reads-space D (Gap Version) (Then N (λ u. Rest)) (reads-blanks D (Gap Version) (begin_step Version) (Then N (λ u. Rest)) refl (λ c d. let other : (c == 118) ≡ false = grind (arith, nat_tests) in rw other refl)
    (named-reads Version Rest rest-reads 118 (codes "ersion") (Word (codes "1.0")) refl (λ quote q. reads-word D (PartValue Version quote) (Quoted quote Rest) (λ b left. refl) (quote-reads Version Rest rest-reads quote q) (codes "1.0") refl))))
    (assoc IsSpace (λ space. N) (λ u. Rest))

abbrev pub question : List ℕ
question = codes "<?"

declaration-reads : Alike (Then (Word question) (λ u. Reads D (D (Xml (codes "xml"))))) IsDeclaration
declaration-reads =
    let X : Form (Unit {0}) = Then (IsPseudoAttr (codes "version") (Word (codes "1.0"))) (λ version. Rest) in
    also (then-alike (same (Word question)) (λ u. reads-word D Xml X (λ b left. refl) declared-reads (codes "xml") refl)) (word-more question (codes "xml"))

-- Before the root: what is read from a state to the first character of the root's name.
abbrev L : Early → Form (Unit {0})
L e = Reads early_next (early_next e)

abbrev Root : Form (Unit {0})
Root = Then (Word (codes "<")) (λ u. Then (Character begins_name) (λ c. Says tt))

abbrev Comments : Form (Unit {0})
Comments = Then IsComment (λ u. L (InProlog Blanks))

early-less : Alike (Then (Word (codes "<")) (λ u. L (InProlog MiscLess))) (Or Comments Root)
early-less =
    let K : Form (Unit {0}) = Then (Then (Without (codes "--") is_any) (λ text. Word (codes "-->"))) (λ u. L (InProlog Blanks)) in
    also (then-alike (same (Word (codes "<"))) (λ u. reads-or early_next (λ c. c == 33) (early_next (InProlog MiscLess)) (λ c. On (InProlog MiscBang)) (λ c. cond (begins_name c) (Done tt) Stuck) (Then (Word (codes "!--")) (λ u. K)) (Then (Character begins_name) (λ c. Says tt))
    (λ c. cases (c == 33) (λ d. rw d refl) (λ d. rw d refl)) (λ c d. rw (is-byte c 33 d) refl)
    (reads-letter early_next 33 (On (InProlog MiscBang)) (codes "--") K (omega arith) refl (word 45 (InProlog MiscBang) (InProlog MiscDash) (codes "-") K (λ c. cases (c == 45) (λ d. rw d refl) (λ d. rw d refl)) (word 45 (InProlog MiscDash) (InProlog (MiscComment 0)) [] K (λ c. cases (c == 45) (λ d. rw d refl) (λ d. rw d refl))
    (also (also (reads-in early_next step_comment (λ n. InProlog (MiscComment n)) (λ u. On (InProlog Blanks)) comment (early_next (InProlog (MiscComment 0))) (step_comment 0) (comment 0)) (then-alike comment-reads (λ u. same (L (InProlog Blanks))))) none-alike))))
    (reads-if early_next begins_name (λ c. Done tt) (λ c. Says tt) (λ c d. same (Says tt)))))
    (also then-or (or-alike (also (word-more (codes "<") (codes "!--")) (assoc (Word (codes "<!--")) (λ u. Then (Without (codes "--") is_any) (λ text. Word (codes "-->"))) (λ u. L (InProlog Blanks)))) (same Root))) where
      word : (b : ℕ) (e f : Early) (left : List ℕ) (K : Form (Unit {0})) → ((c : ℕ) → early_next e c ≡ cond (c == 45) (On f) Stuck) → Alike (L f) (Then (Word left) (λ u. K)) → Alike (L e) (Then (Word (45 ∷ left)) (λ u. K))
      word b e f left K is h = reads-as early_next is (reads-letter early_next 45 (On f) left K (omega arith) refl h)

      comment : (n c : ℕ) → early_next (InProlog (MiscComment n)) c ≡ leads (step_comment n c) (λ k. InProlog (MiscComment k)) (λ u. On (InProlog Blanks))
      comment n c = next-by (step_comment n c) (λ e. rw e refl) (λ k e. rw e refl) (λ u e. rw e refl)

abbrev Blank-first : Form (Unit {0})
Blank-first = Then (Byte is_blank) (λ b. L (InProlog Blanks))

blank-reads : Alike (Reads early_next (λ c. cond (is_blank c) (On (InProlog Blanks)) Stuck)) Blank-first
blank-reads = reads-byte early_next is_blank (λ c. On (InProlog Blanks)) (λ b. L (InProlog Blanks)) blank-small (λ c d. same (L (InProlog Blanks)))

blanks-first : Alike (L (InProlog Blanks)) (Or Blank-first (Or Comments Root))
blanks-first = reads-or early_next is_blank (early_next (InProlog Blanks)) (λ c. On (InProlog Blanks)) (λ c. cond (c == 60) (On (InProlog MiscLess)) Stuck) Blank-first (Or Comments Root)
    (λ c. cases (is_blank c) (λ d. rw d refl) (λ d. cases (c == 60) (λ e. rw (d, e) refl) (λ e. rw (d, e) refl))) (λ c d. let other : (c == 60) ≡ false = grind (arith, nat_tests) in rw other refl)
    blank-reads (also (reads-letter early_next 60 (On (InProlog MiscLess)) [] (L (InProlog MiscLess)) (omega arith) refl none-alike) early-less)

misc-reads : Alike (L (InProlog Blanks)) (Then IsMisc (λ u. Root))
misc-reads = also (reads-many early_next {X = Unit {0}} (λ x p. tt) (λ x. early_next (InProlog Blanks)) IsMiscPiece (λ x. Root) some (λ x. also blanks-first (also (turned (or-assoc Blank-first Comments Root)) (or-alike piece (same Root)))) tt)
    (also (then-alike (same (Many IsMiscPiece)) (λ ps. says-alike tt (λ u. Root))) (assoc (Many IsMiscPiece) (λ ps. Says tt) (λ u. Root))) where
      some : (bytes : List ℕ) (p : MiscPiece) → IsMiscPiece bytes p → 0 < length bytes
      some bytes Blank (b, g) = omega (arith, ap length g.0)
      some bytes CommentPiece t = omega (arith, ap length (t.spelled ∙ ap (λ xs. xs ++ t.back) t.first))

      piece : Alike (Or Blank-first Comments) (Then IsMiscPiece (λ p. L (InProlog Blanks)))
      piece bytes a = (λ s. elim s [ inl t ↦ then-of t.front t.back Blank t.spelled (t.what, t.first) t.second | inr t ↦ then-of t.front t.back CommentPiece t.spelled t.first t.second ], λ t. by t.what t.front t.back t.spelled t.first t.second) where
        by : (p : MiscPiece) (front back : List ℕ) → bytes ≡ front ++ back → IsMiscPiece front p → L (InProlog Blanks) back a → Or Blank-first Comments bytes a
        by Blank front back e (b, g) k = inl (then-of front back b e g k)
        by CommentPiece front back e g k = inr (then-of front back tt e g k)

abbrev Marked-form : Form (Unit {0})
Marked-form = Then (Maybe IsDeclaration) (λ declaration. Then IsMisc (λ u. Root))

marked-reads : Alike (L AtMarked) Marked-form
marked-reads =
    let I : Form (Unit {0}) = Then IsDeclaration (λ u. L (InProlog Blanks)) in
    also (reads-or early_next (λ c. c == 60) marked_next (λ c. On AtFirst) (λ c. cond (is_blank c) (On (InProlog Blanks)) Stuck) (Or I (Or Comments Root)) Blank-first (λ c. cases (c == 60) (λ d. rw d refl) (λ d. cases (is_blank c) (λ e. rw (d, e) refl) (λ e. rw (d, e) refl))) (λ c d. rw (is-byte c 60 d) refl)
    (also (reads-letter early_next 60 (On AtFirst) [] (L AtFirst) (omega arith) refl none-alike) (also (then-alike (same (Word (codes "<"))) (λ u. reads-or early_next (λ c. c == 63) (early_next AtFirst) (λ c. On (InDeclaration (Xml (codes "xml")))) (misc_next MiscLess) (Then (Word (codes "?")) (λ u. Then (R (Xml (codes "xml"))) (λ u. L (InProlog Blanks)))) (L (InProlog MiscLess)) (λ c. refl) (λ c d. rw (is-byte c 63 d) refl)
    (reads-letter early_next 63 (On (InDeclaration (Xml (codes "xml")))) [] (Then (R (Xml (codes "xml"))) (λ u. L (InProlog Blanks))) (omega arith) refl (also (reads-state early_next D InDeclaration (λ u. On (InProlog Blanks)) (λ n c. refl) (Xml (codes "xml"))) none-alike)) (same (L (InProlog MiscLess)))))
    (also then-or (or-alike (also (word-more (codes "<") (codes "?")) (also (assoc (Word question) (λ u. R (Xml (codes "xml"))) (λ u. L (InProlog Blanks))) (then-alike declaration-reads (λ u. same (L (InProlog Blanks)))))) early-less))))
    blank-reads)
    (also (or-assoc I (Or Comments Root) Blank-first) (also (or-alike (then-alike (same IsDeclaration) (λ u. misc-reads)) (also (or-turned (Or Comments Root) Blank-first) (also (turned blanks-first) misc-reads))) (maybe-or (λ d. Then IsMisc (λ u. Root)))))

prolog-reads : Alike (L AtBegin) (Then IsProlog (λ u. Root))
prolog-reads =
    also (reads-or early_next (λ c. c == 65279) (early_next AtBegin) (λ c. On AtMarked) marked_next (Then (Word byte_order_mark) (λ u. Marked-form)) Marked-form (λ c. refl) (λ c d. rw (is-byte c 65279 d) refl)
    (also (reads-if early_next (λ c. c == 65279) (λ c. On AtMarked) (λ c. Marked-form) (λ c d. marked-reads)) mark) marked-reads)
    (also (maybe-or (λ o. Marked-form)) (also (then-alike (same (Maybe (Word byte_order_mark))) (λ m. assoc (Maybe IsDeclaration) (λ d. IsMisc) (λ u. Root))) (assoc (Maybe (Word byte_order_mark)) (λ m. Then (Maybe IsDeclaration) (λ d. IsMisc)) (λ u. Root)))) where
      mark : Alike (Then (Character (λ c. c == 65279)) (λ c. Marked-form)) (Then (Word byte_order_mark) (λ u. Marked-form))
      mark bytes a = (
        λ t. then-of t.front t.back tt t.spelled (t.first.spelled ∙ ap encode_utf8 (is-byte t.what 65279 t.first.passes) ∙ sym (append-nil (encode_utf8 65279)) ∙ mark-bytes) t.second,
        λ t. then-of t.front t.back 65279 t.spelled (record { spelled = t.first ∙ sym mark-bytes ∙ append-nil (encode_utf8 65279); allowed = refl; passes = refl }) t.second,
      )

-- Words of the prolog lead to where a `<` may begin the root.
pub record Leads-root (e : Early) : Type 0 where
  pub next : Early
  pub less : early_next e 60 ≡ On next
  pub between : is_between (mode_of e) ≡ true
  pub apart : is_between (mode_of next) ≡ false
  pub named : (x : ℕ) → begins_name x ≡ true → early_next next x ≡ Done tt

first-root : (e : Early) → early_next e 60 ≡ On AtFirst → is_between (mode_of e) ≡ true → Leads-root e
first-root e d b = record { next = AtFirst; less = d; between = b; apart = refl; named = λ x n. let no : (x == 63) ≡ false = grind (arith, nat_tests) in rw (no, name-no-bang x n, n) refl }

misc-root : Leads-root (InProlog Blanks)
misc-root = record { next = InProlog MiscLess; less = refl; between = refl; apart = refl; named = λ x n. rw (name-no-bang x n, n) refl }

-- The characters of a prolog, or of what stands behind a byte order mark.
abbrev pub Led : Early → List ℕ → Type 0
Led e bytes = (state : Early) × Way early_next e bytes state × Leads-root state

-- what leads on from white space and comments leads there from the first place
marked-steps : (c : ℕ) (w : List ℕ) → Steps early_next (InProlog Blanks) (c ∷ w) (InProlog Blanks) → Steps early_next AtMarked (c ∷ w) (InProlog Blanks)
marked-steps c w h =
    cases (c == 60) (λ e. subst (λ x. Steps early_next AtMarked (x ∷ w) (InProlog Blanks)) (sym (is-byte c 60 e)) (first w (subst (λ x. Steps early_next (InProlog Blanks) (x ∷ w) (InProlog Blanks)) (is-byte c 60 e) h))) (λ e. rw e (rw e at h)) where
      first : (w : List ℕ) → Steps early_next (InProlog MiscLess) w (InProlog Blanks) → Steps early_next AtFirst w (InProlog Blanks)
      first [] h = absurd (cc)
      first (d ∷ w) h = cases (d == 63) (λ e. absurd (subst (λ x. Steps early_next (InProlog MiscLess) (x ∷ w) (InProlog Blanks)) (is-byte d 63 e) h)) (λ e. rw e h)

marked-led : (bytes : List ℕ) → Then (Maybe IsDeclaration) (λ declaration. IsMisc) bytes tt → Led AtMarked bytes
marked-led bytes t = by t.what t.first where
  m : Way early_next (InProlog Blanks) t.back (InProlog Blanks)
  m = way-as misc_step early_next InProlog misc-on (misc-way t.back t.second)

  plain : (w : List ℕ) → bytes ≡ bytes_of w → Allowed w → Steps early_next (InProlog Blanks) w (InProlog Blanks) → Led AtMarked bytes
  plain [] e ok s = (AtMarked, way-none early_next e, first-root AtMarked refl refl)
  plain (c ∷ w) e ok s = (InProlog Blanks, record { text = c ∷ w; spelled = e; allowed = ok; steps = marked-steps c w s }, misc-root)

  by : (what : Option (Unit {0})) → Maybe IsDeclaration t.front what → Led AtMarked bytes
  by None e = plain m.text (t.spelled ∙ ap (λ xs. xs ++ t.back) e ∙ m.spelled) m.allowed m.steps
  by (Some u) p =
      let d = (declaration-reads t.front tt).1 p in
      (InProlog Blanks, way-then early_next bytes t.spelled (way-then early_next t.front d.spelled (way-text early_next {n = InDeclaration (Xml (codes "xml"))} question refl d.first refl) (said-on D early_next InDeclaration (λ u. On (InProlog Blanks)) (λ m c. refl) (Xml (codes "xml")) (InProlog Blanks) refl d.second)) m, misc-root)

pub prolog-led : (bytes : List ℕ) → IsProlog bytes tt → Led AtBegin bytes
prolog-led bytes t = by t.what t.first where
  m : Led AtMarked t.back
  m = marked-led t.back t.second

  plain : (w : List ℕ) → bytes ≡ bytes_of w → Allowed w → Steps early_next AtMarked w m.0 → Led AtBegin bytes
  plain [] e ok s = (AtBegin, way-none early_next e, first-root AtBegin refl refl)
  plain (c ∷ w) e ok s = (m.0, record { text = c ∷ w; spelled = e; allowed = ok; steps = cases (c == 65279) (λ d. absurd (subst (λ x. Steps early_next AtMarked (x ∷ w) m.0) (is-byte c 65279 d) s)) (λ d. rw d s) }, m.2)

  by : (what : Option (Unit {0})) → Maybe (Word byte_order_mark) t.front what → Led AtBegin bytes
  by None e = plain m.1.text (t.spelled ∙ ap (λ xs. xs ++ t.back) e ∙ m.1.spelled) m.1.allowed m.1.steps
  by (Some u) e = (m.0, way-then early_next bytes t.spelled (way-one early_next 65279 (e ∙ sym mark-bytes ∙ append-nil (encode_utf8 65279)) refl refl) m.1, m.2)

-- What stands before the `<` of a root.
same-text : (v w : List ℕ) → Allowed v → Allowed w → bytes_of v ≡ bytes_of w → v ≡ w
same-text v w a b e = let c = cut v w [] a b (e ∙ sym (append-nil (bytes_of w))) in by c.0 c.1 c.2 where
  by : (left : List ℕ) → v ≡ w ++ left → [] ≡ bytes_of left → v ≡ w
  by [] s i = s ∙ append-nil w
  by (x ∷ left) s i = absurd (none-spelled x (bytes_of left) i)

root-split : {G : Form (Unit {0})} (u p : List ℕ) (x : ℕ) → Allowed (u ++ x ∷ []) → Allowed p → (t : Then G (λ v. Root) (bytes_of (u ++ x ∷ [])) tt) → t.front ≡ bytes_of p → u ≡ p ++ 60 ∷ []
root-split u p x a b t e =
    let s = t.second in
    let k = s.second in
    let c : ℕ = k.what in
    let name : s.back ≡ bytes_of (c ∷ []) = k.spelled ∙ ap (λ xs. xs ++ k.back) k.first.spelled ∙ ap (λ xs. encode_utf8 c ++ xs) k.second.0 in
    let all : bytes_of (u ++ x ∷ []) ≡ bytes_of (p ++ 60 ∷ c ∷ []) = t.spelled ∙ ap (λ xs. xs ++ t.back) e ∙ ap (λ xs. bytes_of p ++ xs) (s.spelled ∙ ap (λ xs. xs ++ s.back) s.first ∙ ap (λ xs. 60 ∷ xs) name ∙ sym (less-bytes (c ∷ []))) ∙ sym (bytes-append p (60 ∷ c ∷ [])) in
    (last-same u x (p ++ 60 ∷ []) c (same-text (u ++ x ∷ []) (p ++ 60 ∷ c ∷ []) a (allowed-append p (60 ∷ c ∷ []) b (refl, (k.first.allowed, tt))) all ∙ sym (append_assoc p (60 ∷ []) (c ∷ [])))).0

pub prolog-word : (x : ℕ) → begins_name x ≡ true → (u : List ℕ) (e : Early) → Allowed u → Steps early_next AtBegin u e → early_next e x ≡ Done tt → (p : List ℕ) × (u ≡ p ++ 60 ∷ []) × IsProlog (bytes_of p) tt
prolog-word x name u e ok s d =
    let fine : is_allowed x ≡ true = grind (arith, nat_tests) in
    let a = allowed-append u (x ∷ []) ok (fine, tt) in
    let t = (prolog-reads (bytes_of (u ++ x ∷ [])) tt).0 (record { text = u ++ x ∷ []; spelled = refl; allowed = a; takes = steps-done early_next u AtBegin e x tt s d }) in
    let l = (prolog-led t.front t.first).1 in
    (l.text, root-split u l.text x a l.allowed t l.spelled, subst (λ xs. IsProlog xs tt) l.spelled t.first)

pub misc-is : (w : List ℕ) → Allowed w → Steps misc_step Blanks w Blanks → IsMisc (bytes_of w) tt
misc-is w ok s =
    let u : List ℕ = w ++ 60 ∷ [] in
    let a = allowed-append u (97 ∷ []) (allowed-append w (60 ∷ []) ok (refl, tt)) (refl, tt) in
    let takes = takes-then early_next w (60 ∷ 97 ∷ []) (InProlog Blanks) (InProlog Blanks) tt (steps-as misc_step early_next InProlog misc-on w Blanks Blanks s) (refl, refl) in
    let t = (misc-reads (bytes_of (u ++ 97 ∷ [])) tt).0 (record { text = u ++ 97 ∷ []; spelled = refl; allowed = a; takes = subst (λ xs. Takes early_next (InProlog Blanks) xs tt) (sym (append_assoc w (60 ∷ []) (97 ∷ []))) takes }) in
    let m = misc-way t.front t.first in
    subst (λ xs. IsMisc xs tt) (m.spelled ∙ ap bytes_of (sym (last-same w 60 m.text 60 (root-split u m.text 97 a m.allowed t m.spelled)).0)) t.first

-- A name that is spelled in characters, as that of each open element is.
abbrev pub WholeName : QName → Type 0
WholeName q = Spell (name_bytes q)

abbrev pub AllWhole : List Open → Type 0
AllWhole [] = Unit {0}
AllWhole (o ∷ outer) = WholeName o.name × AllWhole outer

-- The machine inside elements.
abbrev pub T : List Open → RootState → ℕ → Next RootState Given
T opens = λ t c. step_root t opens c

-- end tags, from within their name
module _ (o : Open) (outer : List Open) where
  abbrev E : RootState → ℕ → Next RootState Given
  E = T (o ∷ outer)

  pub end-reads : (text : List ℕ) (n : ℕ) → drop n (name_bytes o.name) ≡ bytes_of text → Allowed text → Alike (Reads E (E (EndTag n))) (Then (Word (bytes_of text)) (λ u. Then IsBlanks (λ blanks. Then (Word (codes ">")) (λ u. Says (given Ended outer (Content 0))))))
  end-reads [] n e ok =
      also (reads-blanks E (EndTag n) (λ c. cond (c == 62) (Done (given Ended outer (Content 0))) Stuck) (Then (Word (codes ">")) (λ u. Says (given Ended outer (Content 0)))) (ap (λ l c. end_name_step n l outer c) e) (λ c d. let other : (c == 62) ≡ false = grind (arith, nat_tests) in rw other refl)
      (reads-letter E 62 (Done (given Ended outer (Content 0))) [] (Says (given Ended outer (Content 0))) (omega arith) refl none-alike)) none-alike
  end-reads (d ∷ text) n e ok =
      let s = encoded d in
      let left : List ℕ = s.1 ++ bytes_of text in
      let all : bytes_of (d ∷ text) ≡ s.0 ∷ left = ap (λ xs. xs ++ bytes_of text) s.2 in
      let m : ℕ = length (encode_utf8 d) in
      let test : ℕ → Bool = λ c. begins_with (s.0 ∷ left) (encode_utf8 c) in
      let more = end-reads text (n + m) (sym (drop-drop m n (name_bytes o.name)) ∙ ap (drop m) e ∙ drop-append_seam (encode_utf8 d) (bytes_of text)) ok.1 in
      also (reads-as E {g = λ c. cond (test c) (On (EndTag (n + length (encode_utf8 c)))) Stuck} (λ c. ap (λ l. end_name_step n l outer c) (e ∙ all)) (reads-if E test (λ c. On (EndTag (n + length (encode_utf8 c)))) (λ c. Reads E (E (EndTag (n + length (encode_utf8 c))))) (λ c f. same (Reads E (E (EndTag (n + length (encode_utf8 c))))))))
      (also (λ bytes a. (
        λ t. let front = (starts_is Decides-eqb (s.0 ∷ left) (encode_utf8 t.what) (test t.what) refl).0 t.first.passes in
            let same-one = same-first d t.what (bytes_of text) (drop (length (encode_utf8 t.what)) (s.0 ∷ left)) ok.0 t.first.allowed (all ∙ front) in
            then-of t.front t.back tt t.spelled (t.first.spelled ∙ ap encode_utf8 (sym same-one.0)) ((more t.back a).0 (subst (λ x. Reads E (E (EndTag (n + length (encode_utf8 x)))) t.back a) (sym same-one.0) t.second)),
        λ t. then-of t.front t.back d t.spelled (record { spelled = t.first; allowed = ok.0; passes = (starts_is Decides-eqb (s.0 ∷ left) (encode_utf8 d) (test d) refl).1 (bytes_of text) (sym all) }) ((more t.back a).1 t.second),
      )) (word-more (encode_utf8 d) (bytes_of text)))

-- a start tag in its parts: what stands between its `<` and the word that closes it
pub record TagParts (bytes : List ℕ) (tag : Tag) (close : List ℕ) : Type 0 where
  pub inside : List ℕ
  pub spelled : bytes ≡ 60 ∷ (inside ++ close)
  pub is : IsTag inside tag

abbrev pub TagWith : List ℕ → List ℕ → Tag → Type 0
TagWith close = Then (Word (codes "<")) (λ opening. Then IsTag (λ t. Then (Word close) (λ end. Says t)))

pub parts-of : (close bytes : List ℕ) (tag : Tag) → TagWith close bytes tag → TagParts bytes tag close
parts-of close bytes tag t =
    let s = t.second in
    let d = says-then (Word close) (λ u. s.what) s.back tag s.second in
    record {
      inside = s.front;
      spelled = t.spelled ∙ ap (λ xs. xs ++ t.back) t.first ∙ ap (λ xs. 60 ∷ xs) (s.spelled ∙ ap (λ xs. s.front ++ xs) d.1);
      is = subst (IsTag s.front) (sym d.2) s.first;
    }

pub of-parts : (close bytes : List ℕ) (tag : Tag) → TagParts bytes tag close → TagWith close bytes tag
of-parts close bytes tag p = then-of (60 ∷ []) (p.inside ++ close) tt p.spelled refl (then-of p.inside close tag refl p.is (then-says (Word close) (λ u. tag) close tag tt refl refl))

abbrev pub TagCases : List Open → List ℕ → Given → Type 0
TagCases opens bytes g = (tag : Tag) × (e : ℕ) × (ends_tag e ≡ true) × TagParts bytes tag (e ∷ []) × (g ≡ tag_given opens (tag, e))

-- the tokens inside an element
abbrev pub leaf_token : Leaf → Token
leaf_token (Grammar-reference c) = Referred c
leaf_token (Grammar-section text) = SectionOf text
leaf_token other = Commented

pub data Piece (n : ℕ) (opens : List Open) (bytes : List ℕ) (g : Given) : Type 0 where
  Character-of : (c : ℕ) → Character (is_in_run n) bytes c → g ≡ given (Letter c) opens (Content (brackets_with n c)) → Piece n opens bytes g
  Leaf-of : (l : Leaf) → IsLeaf bytes l → is_text l ≡ false → g ≡ given (leaf_token l) opens (Content 0) → Piece n opens bytes g
  Tag-of : TagCases opens bytes g → Piece n opens bytes g
  End-of : (o : Open) (outer : List Open) → opens ≡ o ∷ outer → IsEndTag o.name bytes tt → g ≡ given Ended outer (Content 0) → Piece n opens bytes g

pub closed-tag : (tag : Tag) (e : ℕ) (inside : List ℕ) → ends_tag e ≡ true → IsTag inside tag → Then IsTag IsClosed (inside ++ e ∷ []) (tag, e)
closed-tag tag e inside ends t = then-of inside (e ∷ []) tag refl t (then-says (Byte ends_tag) (λ e. (tag, e)) (e ∷ []) (tag, e) e (refl, ends) refl)

-- What the machine reads as one token is one.
module _ (opens : List Open) where
  -- start tags
  pub tag-form : Alike (Then (Word (codes "<")) (λ u. Then (Then IsTag IsClosed) (λ found. Says (tag_given opens found)))) (TagCases opens)
  tag-form bytes g = (
    λ t. let s = t.second in
        let k = s.first in
        let e = says-then (Byte ends_tag) (λ e. (k.what, e)) k.back s.what k.second in (
          k.what,
          e.0,
          e.1.1,
          record { inside = k.front; spelled = t.spelled ∙ ap (λ xs. xs ++ t.back) t.first ∙ ap (λ xs. 60 ∷ xs) (s.spelled ∙ ap (λ xs. s.front ++ xs) s.second.0 ∙ append-nil s.front ∙ k.spelled ∙ ap (λ xs. k.front ++ xs) e.1.0); is = k.first },
          s.second.1 ∙ ap (tag_given opens) e.2,
        ),
    λ k. let p = k.3 in
        then-of (codes "<") (p.inside ++ k.1 ∷ []) tt p.spelled refl (then-says (Then IsTag IsClosed) (tag_given opens) (p.inside ++ k.1 ∷ []) g (k.0, k.1) (closed-tag k.0 k.1 p.inside k.2 p.is) k.4),
  )

  pub start-reads : Alike (Reads (T opens) (T opens (StartTag Opened))) (Then (Then IsTag IsClosed) (λ found. Says (tag_given opens found)))
  start-reads = also (reads-state (T opens) step_tag StartTag (λ found. Done (tag_given opens found)) (λ n c. refl) Opened) (then-alike tag-reads (λ found. same (Says (tag_given opens found))))

  -- the tokens that are no letters
  abbrev Saying : Token → Form Given
  Saying t = Says (given t opens (Content 0))

  -- what begins with a `<`
  abbrev Marked : Form Given
  Marked = Or (Then (Word (codes "</")) (λ u. Behind (T opens) (slash_step opens))) (Or (Or (Then IsComment (λ u. Saying Commented)) (Then IsSection (λ text. Saying (SectionOf text)))) (TagCases opens))

  less-reads : Alike (Then (Word (codes "<")) (λ u. Reads (T opens) (T opens Less))) Marked
  less-reads =
      let C : Form Given = Then (Then (Without (codes "--") is_any) (λ text. Word (codes "-->"))) (λ u. Saying Commented) in
      let S : Form Given = Then (Then (Without (codes "]]>") is_any) (λ text. Then (Word (codes "]]>")) (λ closing. Says text))) (λ text. Saying (SectionOf text)) in
      let B : Form Given = Or (Then (Word (codes "--")) (λ u. C)) (Then (Word (codes "[CDATA[")) (λ u. S)) in
      let G : Form Given = Then (Then IsTag IsClosed) (λ found. Says (tag_given opens found)) in
      let less : ℕ → Next RootState Given = λ c. cond (c == 33) (On Bang) (T opens (StartTag Opened) c) in
      let bang = reads-or (T opens) (λ c. c == 45) (T opens Bang) (λ c. On Dash) (λ c. cond (c == 91) (On (Cdata (codes "CDATA["))) Stuck) (Then (Word (codes "--")) (λ u. C)) (Then (Word (codes "[CDATA[")) (λ u. S)) (λ c. refl) (λ c d. rw (is-byte c 45 d) refl)
      (reads-letter (T opens) 45 (On Dash) (codes "-") C (omega arith) refl (reads-letter (T opens) 45 (On (Comment 0)) [] C (omega arith) refl (also (also (reads-state (T opens) step_comment Comment (λ over. Done (given Commented opens (Content 0))) (λ n c. refl) 0) (then-alike comment-reads (λ u. same (Saying Commented)))) none-alike)))
      (reads-letter (T opens) 91 (On (Cdata (codes "CDATA["))) (codes "CDATA[") S (omega arith) refl (reads-word (T opens) Cdata S (λ b left. refl) (also (reads-state (T opens) sec (λ s. Section s.0 s.1) (λ said. Done (given (SectionOf said) opens (Content 0))) (λ n c. refl) (0, [])) (then-alike section-reads (λ text. same (Saying (SectionOf text))))) (codes "CDATA[") refl)) in
      also (then-alike (same (Word (codes "<"))) (λ u. reads-or (T opens) (λ c. c == 47) (T opens Less) (λ c. slash_step opens) less (Then (Word (codes "/")) (λ u. Behind (T opens) (slash_step opens))) (Or (Then (Word (codes "!")) (λ u. B)) G) (λ c. refl) (λ c d. rw (is-byte c 47 d) refl)
      (reads-letter (T opens) 47 (slash_step opens) [] (Behind (T opens) (slash_step opens)) (omega arith) refl none-alike)
      (reads-or (T opens) (λ c. c == 33) less (λ c. On Bang) (T opens (StartTag Opened)) (Then (Word (codes "!")) (λ u. B)) G (λ c. refl) (λ c d. rw (is-byte c 33 d) refl) (reads-letter (T opens) 33 (On Bang) [] B (omega arith) refl (also bang none-alike)) start-reads)))
      (also then-or (or-alike (word-more (codes "<") (codes "/")) (also then-or (or-alike (also (word-more (codes "<") (codes "!")) (also then-or (or-alike
      (also (word-more (codes "<!") (codes "--")) (assoc (Word (codes "<!--")) (λ u. Then (Without (codes "--") is_any) (λ text. Word (codes "-->"))) (λ u. Saying Commented)))
      (also (word-more (codes "<!") (codes "[CDATA[")) (assoc (Word (codes "<![CDATA[")) (λ u. Then (Without (codes "]]>") is_any) (λ text. Then (Word (codes "]]>")) (λ closing. Says text))) (λ text. Saying (SectionOf text))))))) tag-form))))

  -- and what does not
  abbrev Lone : ℕ → Form Given
  Lone n = Or (Then IsReference (λ c. Saying (Referred c))) (Then (Character (is_in_run n)) (λ c. Says (given (Letter c) opens (Content (brackets_with n c)))))

  pub content-reads : (n : ℕ) → Alike (Reads (T opens) (T opens (Content n))) (Or Marked (Lone n))
  content-reads n =
      let letter : ℕ → Next RootState Given = λ c. cond (is_in_run n c) (Done (given (Letter c) opens (Content (brackets_with n c)))) Stuck in
      let other : ℕ → Next RootState Given = λ c. cond (c == 38) (On (Reference Ampersand)) (letter c) in
      reads-or (T opens) (λ c. c == 60) (T opens (Content n)) (λ c. On Less) other Marked (Lone n) (λ c. cases (c == 60) (λ d. rw d refl) (λ d. cases (c == 38) (λ e. rw (d, e) refl) (λ e. cases (closes_section n c) (λ f. rw (d, e, f) refl) (λ f. rw (d, e, f) refl)))) (λ c d. rw (is-byte c 60 d) refl)
      (also (reads-letter (T opens) 60 (On Less) [] (Reads (T opens) (T opens Less)) (omega arith) refl none-alike) less-reads)
      (reads-or (T opens) (λ c. c == 38) other (λ c. On (Reference Ampersand)) letter (Then IsReference (λ c. Saying (Referred c))) (Then (Character (is_in_run n)) (λ c. Says (given (Letter c) opens (Content (brackets_with n c))))) (λ c. refl) (λ c d. rw (is-byte c 38 d) refl)
      (also (reads-letter (T opens) 38 (On (Reference Ampersand)) [] (Then (λ bytes c. IsReference (38 ∷ bytes) c) (λ c. Saying (Referred c))) (omega arith) refl
      (also (also (reads-state (T opens) step_reference Reference (λ code. Done (given (Referred code) opens (Content 0))) (λ n c. refl) Ampersand) (then-alike reference-reads (λ c. same (Saying (Referred c))))) none-alike)) (reference-form (λ c. Saying (Referred c))))
      (reads-if (T opens) (is_in_run n) (λ c. Done (given (Letter c) opens (Content (brackets_with n c)))) (λ c. Says (given (Letter c) opens (Content (brackets_with n c)))) (λ c d. same (Says (given (Letter c) opens (Content (brackets_with n c)))))))

pub piece-reads : (n : ℕ) (opens : List Open) → AllWhole opens → Alike (Reads (T opens) (T opens (Content n))) (Piece n opens)
piece-reads n opens whole = also (content-reads opens n) (λ bytes g. (to opens whole bytes g, from opens whole bytes g)) where
  ending : (o : Open) (outer : List Open) → WholeName o.name → Alike (Then (Word (codes "</")) (λ u. Reads (T (o ∷ outer)) (T (o ∷ outer) (EndTag 0)))) (Then (IsEndTag o.name) (λ u. Says (given Ended outer (Content 0))))
  ending o outer w =
      let ended : Form Given = Says (given Ended outer (Content 0)) in
      let behind : Unit {0} → Form (Unit {0}) = λ u. Then IsBlanks (λ blanks. Word (codes ">")) in
      also (then-alike (same (Word (codes "</"))) (λ u. also (rw (← w.spelled) at (end-reads o outer w.text 0 w.spelled w.allowed)) (also (then-alike (same (Word (name_bytes o.name))) (λ u. assoc IsBlanks (λ blanks. Word (codes ">")) (λ u. ended))) (assoc (Word (name_bytes o.name)) behind (λ u. ended)))))
      (assoc (Word (codes "</")) (λ u. Then (Word (name_bytes o.name)) behind) (λ u. ended))

  to : (opens : List Open) → AllWhole opens → (bytes : List ℕ) (g : Given) → Or (Marked opens) (Lone opens n) bytes g → Piece n opens bytes g
  to [] w bytes g (inl (inl t)) = absurd t.second
  to (o ∷ outer) w bytes g (inl (inl t)) = let k = says-then (IsEndTag o.name) (λ u. given Ended outer (Content 0)) bytes g ((ending o outer w.0 bytes g).0 t) in End-of o outer refl k.1 k.2
  to opens w bytes g (inl (inr (inl (inl t)))) = let k = says-then IsComment (λ u. given Commented opens (Content 0)) bytes g t in Leaf-of Grammar-comment k.1 refl k.2
  to opens w bytes g (inl (inr (inl (inr t)))) = let k = says-then IsSection (λ text. given (SectionOf text) opens (Content 0)) bytes g t in Leaf-of (Grammar-section k.0) k.1 refl k.2
  to opens w bytes g (inl (inr (inr t))) = Tag-of t
  to opens w bytes g (inr (inl t)) = let k = says-then IsReference (λ c. given (Referred c) opens (Content 0)) bytes g t in Leaf-of (Grammar-reference k.0) k.1 refl k.2
  to opens w bytes g (inr (inr t)) = let k = says-then (Character (is_in_run n)) (λ c. given (Letter c) opens (Content (brackets_with n c))) bytes g t in Character-of k.0 k.1 k.2

  from : (opens : List Open) → AllWhole opens → (bytes : List ℕ) (g : Given) → Piece n opens bytes g → Or (Marked opens) (Lone opens n) bytes g
  from opens w bytes g (Character-of c h e) = inr (inr (then-says (Character (is_in_run n)) (λ c. given (Letter c) opens (Content (brackets_with n c))) bytes g c h e))
  from opens w bytes g (Leaf-of (Text text) h isn e) = absurd (cc)
  from opens w bytes g (Leaf-of (Grammar-reference c) h isn e) = inr (inl (then-says IsReference (λ c. given (Referred c) opens (Content 0)) bytes g c h e))
  from opens w bytes g (Leaf-of (Grammar-section text) h isn e) = inl (inr (inl (inr (then-says IsSection (λ text. given (SectionOf text) opens (Content 0)) bytes g text h e))))
  from opens w bytes g (Leaf-of Grammar-comment h isn e) = inl (inr (inl (inl (then-says IsComment (λ u. given Commented opens (Content 0)) bytes g tt h e))))
  from opens w bytes g (Tag-of t) = inl (inr (inr t))
  from opens w bytes g (End-of o outer d h e) = inl (inl (subst (λ os. Then (Word (codes "</")) (λ u. Behind (T os) (slash_step os)) bytes g) (sym d) ((ending o outer (subst AllWhole d w).0 bytes g).1 (then-says (IsEndTag o.name) (λ u. given Ended outer (Content 0)) bytes g tt h e))))

pub piece-said : (n : ℕ) (opens : List Open) → AllWhole opens → (bytes : List ℕ) (g : Given) → Piece n opens bytes g → Said (T opens) (Content n) bytes g
piece-said n opens whole bytes g p = (piece-reads n opens whole bytes g).1 p

-- Where tokens lead by the grammar: the elements that are open, and what stands in them.

-- content behind content
abbrev pub and_content : Inner → Inner → Inner
and_content Nothing d = d
and_content (LeafThen l more) d = LeafThen l (and_content more d)
and_content (TreeThen t more) d = TreeThen t (and_content more d)

-- whether it ends in a literal text
abbrev pub ends_by : Bool → Inner → Bool
ends_by b Nothing = b
ends_by b (LeafThen l more) = ends_by (is_text l) more
ends_by b (TreeThen t more) = ends_by false more

pub begins-append : (m : Leaf) (more d : Inner) → (is_text m && begins_with_text more) ≡ false → (ends_by (is_text m) more && begins_with_text d) ≡ false → (is_text m && begins_with_text (and_content more d)) ≡ false
begins-append m Nothing d n isn = isn
begins-append m other d n isn = n

pub ends-append : (b : Bool) (c d : Inner) → ends_by b (and_content c d) ≡ ends_by (ends_by b c) d
ends-append b Nothing d = refl
ends-append b (LeafThen l more) d = ends-append (is_text l) more d
ends-append b (TreeThen t more) d = ends-append false more d

pub content-behind : (c d : Inner) (b : Bool) (bytes last : List ℕ) → IsContent c bytes → IsContent d last → (ends_by b c && begins_with_text d) ≡ false → IsContent (and_content c d) (bytes ++ last)
content-behind Nothing d b bytes last e h isn = subst (λ xs. IsContent d (xs ++ last)) (sym e) h
content-behind (LeafThen m c) d b bytes last (front, back, e, f, g, n) h isn =
    (front, back ++ last, ap (λ xs. xs ++ last) e ∙ append_assoc front back last, f, content-behind c d (is_text m) back last g h isn, begins-append m c d n isn)
content-behind (TreeThen t c) d b bytes last (front, back, e, f, g) h isn = (front, back ++ last, ap (λ xs. xs ++ last) e ∙ append_assoc front back last, f, content-behind c d false back last g h isn)

-- a literal text so far
abbrev pub InText : List ℕ → Type 0
InText [] = Unit {0}
InText (c ∷ t) = (is_allowed c ≡ true) × (is_in_text c ≡ true) × InText t

text-more : (n : ℕ) (s : List ℕ) (c : ℕ) → InText s → clean n s ≡ true → is_allowed c ≡ true → is_in_text c ≡ true → closes_section (state n s) c ≡ false → InText (s ++ c ∷ []) × (clean n (s ++ c ∷ []) ≡ true) × (state n (s ++ c ∷ []) ≡ brackets_with (state n s) c)
text-more n [] c a e ok t b = ((ok, t, tt), ap (λ x. not x && true) b, refl)
text-more n (d ∷ s) c a e ok t b =
    let m : ℕ = brackets_with n d in
    let r = text-more m s c a.2 (and-second (not (closes_section n d)) (clean m s) e) ok t b in
    ((a.0, a.1, r.0), and-both (not (closes_section n d)) (clean m (s ++ c ∷ [])) (and-first (not (closes_section n d)) (clean m s) e) r.1, r.2)

pub letter-step : (k : ℕ) (o : Open) (outer : List Open) (c : ℕ) → is_in_text c ≡ true → closes_section k c ≡ false → step (Inside (Content k)) (o ∷ outer) c ≡ To (Inside (Content (brackets_with k c))) (o ∷ outer) (Letter c ∷ [])
letter-step k o outer c e d =
    let a : (c == 60) ≡ false = grind (arith, nat_tests) in
    let b : (c == 38) ≡ false = grind (arith, nat_tests) in
    rw (a, b, d) refl

pub text-characters : (t : List ℕ) → InText t → Many (Character is_in_text) (bytes_of t) t
text-characters [] a = refl
text-characters (c ∷ t) a = (encode_utf8 c, bytes_of t, refl, record { spelled = refl; allowed = a.0; passes = a.1 }, text-characters t a.2)

-- In the innermost element, behind its content, and more of it.
pub more-inside : (before last earlier start inside : List ℕ) → before ≡ earlier ++ (start ++ inside) → before ++ last ≡ earlier ++ (start ++ (inside ++ last))
more-inside before last earlier start inside e = ap (λ xs. xs ++ last) e ∙ append_assoc earlier (start ++ inside) last ∙ ap (λ xs. earlier ++ xs) (append_assoc start inside last)

abbrev closed-more : (tag : Tag) (outer : List Tag) (before bytes : List ℕ) (d : Inner) (c : Opens (tag ∷ outer) before) → IsContent d bytes → (ends_by false c.3 && begins_with_text d) ≡ false → Opens (tag ∷ outer) (before ++ bytes)
closed-more tag outer before bytes d c h isn = (c.0, c.1, c.2 ++ bytes, and_content c.3 d, more-inside before bytes c.0 c.1 c.2 c.4, c.5, c.6, content-behind c.3 d false c.2 bytes c.7 h isn)

one-leaf : (l : Leaf) (bytes : List ℕ) → IsLeaf bytes l → IsContent (LeafThen l Nothing) bytes
one-leaf l bytes h = (bytes, [], sym (append-nil bytes), h, refl, and-no (is_text l))

-- There, and behind a literal text so far.
pub record Standing (tag : Tag) (outer : List Tag) (n : ℕ) (before : List ℕ) : Type 0 where
  pub front : List ℕ
  pub text : List ℕ
  pub spelled : before ≡ front ++ bytes_of text
  pub within : Opens (tag ∷ outer) front
  pub no_text : ends_by false within.3 ≡ false
  pub each : InText text
  pub clear : clean 0 text ≡ true
  pub count : state 0 text ≡ n

-- the text is a part of the content
pub closed : (tag : Tag) (outer : List Tag) (n : ℕ) (before : List ℕ) → Standing tag outer n before → Opens (tag ∷ outer) before
closed tag outer n before s = subst (Opens (tag ∷ outer)) (sym s.spelled) (by s.text s.each s.clear) where
  by : (text : List ℕ) → InText text → clean 0 text ≡ true → Opens (tag ∷ outer) (s.front ++ bytes_of text)
  by [] a b = subst (Opens (tag ∷ outer)) (sym (append-nil s.front)) s.within
  by (c ∷ t) a b =
      let bytes : List ℕ = bytes_of (c ∷ t) in
      let leaf : IsText bytes bytes = record { characters = record { says = refl; characters = c ∷ t; each = text-characters (c ∷ t) a; none = without-word (c ∷ t) b }; some = λ d. none-spelled c (bytes_of t) (sym d) } in
      closed-more tag outer s.front bytes (LeafThen (Text bytes) Nothing) s.within (one-leaf (Text bytes) bytes leaf) (ap (λ x. x && true) s.no_text)

-- nothing of a text
abbrev fresh : (tag : Tag) (outer : List Tag) (before : List ℕ) (c : Opens (tag ∷ outer) before) → ends_by false c.3 ≡ false → Standing tag outer 0 before
fresh tag outer before c isn = record { front = before; text = []; spelled = sym (append-nil before); within = c; no_text = isn; each = tt; clear = refl; count = refl }

-- Where a token leads.
abbrev pub Stands : List Tag → RootState → List ℕ → Type 0
Stands tags Slashed before = (tag : Tag) × (earlier : List ℕ) × (slash : List ℕ) × (before ≡ earlier ++ slash) × Opens tags earlier × TagWith (codes "/") slash tag
Stands [] (Content n) before = (root : Tree) × (prolog : List ℕ) × (element : List ℕ) × (before ≡ prolog ++ element) × IsProlog prolog tt × IsTree root element
Stands (tag ∷ outer) (Content n) before = Standing tag outer n before
Stands tags other before = ⊥

-- an element that ends
pub finish : (tags : List Tag) (tree : Tree) (earlier bytes : List ℕ) → Opens tags earlier → IsTree tree bytes → Stands tags (Content 0) (earlier ++ bytes)
finish [] tree earlier bytes o t = (tree, earlier, bytes, refl, o, t)
finish (tag ∷ outer) tree earlier bytes o t =
    fresh tag outer (earlier ++ bytes) (closed-more tag outer earlier bytes (TreeThen tree Nothing) o (bytes, [], sym (append-nil bytes), t, refl) (and-no (ends_by false o.3))) (ends-append false o.3 (TreeThen tree Nothing))

-- a start tag
pub begin : (tags : List Tag) (tag : Tag) (earlier bytes : List ℕ) → Opens tags earlier → IsStartTag bytes tag → Standing tag tags 0 (earlier ++ bytes)
begin tags tag earlier bytes o s =
    fresh tag tags (earlier ++ bytes) (earlier, bytes, [], Nothing, ap (λ xs. earlier ++ xs) (sym (append-nil bytes)), o, s, refl) refl

-- one token
abbrev pub Leads : Given → List ℕ → Type 0
Leads g before = (tags : List Tag) × (g.opens ≡ map opened tags) × Stands tags g.root_state before

letter-stands : (tag : Tag) (outer : List Tag) (n c : ℕ) (before bytes : List ℕ) → Standing tag outer n before → Character (is_in_run n) bytes c → Standing tag outer (brackets_with n c) (before ++ bytes)
letter-stands tag outer n c before bytes s h =
    let e = h.passes in
    let in_text : is_in_text c ≡ true = grind arith in
    let open_still : closes_section n c ≡ false = grind arith in
    let m = text-more 0 s.text c s.each s.clear h.allowed in_text (ap (λ m. closes_section m c) s.count ∙ open_still) in
    let more : bytes_of (s.text ++ c ∷ []) ≡ bytes_of s.text ++ bytes = bytes-append s.text (c ∷ []) ∙ ap (λ xs. bytes_of s.text ++ xs) (append-nil (encode_utf8 c) ∙ sym h.spelled) in
    record {
      front = s.front;
      text = s.text ++ c ∷ [];
      spelled = ap (λ xs. xs ++ bytes) s.spelled ∙ append_assoc s.front (bytes_of s.text) bytes ∙ ap (λ xs. s.front ++ xs) (sym more);
      within = s.within;
      no_text = s.no_text;
      each = m.0;
      clear = m.1;
      count = m.2 ∙ ap (λ m. brackets_with m c) s.count;
    }

pub tag-stands : (tags : List Tag) (before bytes : List ℕ) (g : Given) → Opens tags before → TagCases (map opened tags) bytes g → Leads g (before ++ bytes)
tag-stands tags before bytes g o (tag, e, ends, p, d) =
    subst (λ x. Leads x (before ++ bytes)) (sym d)
    (cases (e == 62) (λ f. rw f (tag ∷ tags, refl, begin tags tag before bytes o (of-parts (62 ∷ []) bytes tag (subst (λ x. TagParts bytes tag (x ∷ [])) (is-byte e 62 f) p))))
    (λ f. let other : e ≡ 47 = grind (arith, nat_tests) in rw f (tags, refl, (tag, before, bytes, refl, o, of-parts (47 ∷ []) bytes tag (subst (λ x. TagParts bytes tag (x ∷ [])) other p)))))

pub piece-stands : (tag : Tag) (outer : List Tag) (n : ℕ) (before bytes : List ℕ) (g : Given) → Standing tag outer n before → Piece n (map opened (tag ∷ outer)) bytes g → Leads g (before ++ bytes)
piece-stands tag outer n before bytes g s (Character-of c h e) =
    subst (λ x. Leads x (before ++ bytes)) (sym e) (tag ∷ outer, refl, letter-stands tag outer n c before bytes s h)
piece-stands tag outer n before bytes g s (Leaf-of l h isn e) =
    let c = closed tag outer n before s in
    let more = closed-more tag outer before bytes (LeafThen l Nothing) c (one-leaf l bytes h) (ap (λ x. ends_by false c.3 && x) isn ∙ and-no (ends_by false c.3)) in
    subst (λ x. Leads x (before ++ bytes)) (sym e) (tag ∷ outer, refl, fresh tag outer (before ++ bytes) more (ends-append false c.3 (LeafThen l Nothing) ∙ isn))
piece-stands tag outer n before bytes g s (Tag-of t) = tag-stands (tag ∷ outer) before bytes g (closed tag outer n before s) t
piece-stands tag outer n before bytes g s0 (End-of o os d h e) =
    let s = heads (opened tag) o (map opened outer) os d in
    let c = closed tag outer n before s0 in
    let ended = finish outer (Full tag c.3) c.0 (c.1 ++ (c.2 ++ bytes)) c.5 (c.1, c.2, bytes, refl, c.6, c.7, subst (λ x. IsEndTag x.name bytes tt) (sym s.0) h) in
    subst (λ x. Leads x (before ++ bytes)) (sym e) (outer, sym s.1, subst (Stands outer (Content 0)) (sym (more-inside before bytes c.0 c.1 c.2 c.4)) ended)

pub shut-stands : (tags : List Tag) (before : List ℕ) → Stands tags Slashed before → Stands tags (Content 0) (before ++ 62 ∷ [])
shut-stands tags before (tag, earlier, slash, e, o, t) =
    let p = parts-of (47 ∷ []) slash tag t in
    let closes = of-parts (47 ∷ 62 ∷ []) (slash ++ 62 ∷ []) tag (record { inside = p.inside; spelled = ap (λ xs. xs ++ 62 ∷ []) p.spelled ∙ ap (λ xs. 60 ∷ xs) (append_assoc p.inside (47 ∷ []) (62 ∷ [])); is = p.is }) in
    subst (Stands tags (Content 0)) (sym (ap (λ xs. xs ++ 62 ∷ []) e ∙ append_assoc earlier slash (62 ∷ []))) (finish tags (EmptyElement tag) earlier (slash ++ 62 ∷ []) o closes)

-- The names of open elements are whole characters; where the root's start tag leads.

name-spell : (bytes text : List ℕ) → IsName bytes text → Spell text
name-spell bytes text (e, cs, t) =
    let r = characters-are is_in_name t.back cs t.second in
    record { text = t.what ∷ cs; spelled = e ∙ t.spelled ∙ ap (λ xs. xs ++ t.back) t.first.spelled ∙ ap (λ xs. encode_utf8 t.what ++ xs) r.0; allowed = (t.first.allowed, r.1) }

qname-whole : (bytes : List ℕ) (q : QName) → IsQName bytes q → WholeName q
qname-whole bytes q t = let s = says-then Second (λ second. qualified t.what second) t.back q t.second in subst WholeName (sym s.2) (by s.0 s.1) where
  first : Spell t.what
  first = name-spell t.front t.what t.first

  by : (second : Option (List ℕ)) → Second t.back second → WholeName (qualified t.what second)
  by None e = first
  by (Some second) u =
      let n = t.first.2 in
      let h = encoded n.what in
      let some : t.what ≡ h.0 ∷ (h.1 ++ n.back) = t.first.0 ∙ n.spelled ∙ ap (λ xs. xs ++ n.back) (n.first.spelled ∙ h.2) in
      let local = name-spell u.back second u.second in
      let whole : t.what ++ codes ":" ++ second ≡ bytes_of (first.text ++ 58 ∷ local.text) = ap (λ xs. xs ++ codes ":" ++ second) first.spelled ∙ ap (λ xs. bytes_of first.text ++ codes ":" ++ xs) local.spelled
      ∙ ap (λ xs. bytes_of first.text ++ xs ++ bytes_of local.text) (sym (encode_ascii 58 (omega arith))) ∙ append_assoc (bytes_of first.text) (encode_utf8 58) (bytes_of local.text) ∙ sym (bytes-append first.text (58 ∷ local.text)) in
      record { text = first.text ++ 58 ∷ local.text; spelled = subst (λ xs. name_bytes (qualified xs (Some second)) ≡ xs ++ codes ":" ++ second) (sym some) refl ∙ whole; allowed = allowed-append first.text (58 ∷ local.text) first.allowed (refl, local.allowed) }

tag-name : (bytes : List ℕ) (tag : Tag) → IsTag bytes tag → WholeName tag.name
tag-name bytes tag t =
    let m = t.second in
    let b = says-then IsBlanks (λ blanks. record { name = t.what; attrs = m.what }) m.back tag m.second in
    subst WholeName (ap (λ x. x.name) (sym b.2)) (qname-whole t.front t.what t.first)

pub start-name : (bytes : List ℕ) (tag : Tag) → IsStartTag bytes tag → WholeName tag.name
start-name bytes tag t = let p = parts-of (62 ∷ []) bytes tag t in tag-name p.inside tag p.is

pub opens-whole : (tags : List Tag) (before : List ℕ) → Opens tags before → AllWhole (map opened tags)
opens-whole [] before o = tt
opens-whole (tag ∷ outer) before (earlier, start, inside, content, e, o, s, c) = (start-name start tag s, opens-whole outer earlier o)
