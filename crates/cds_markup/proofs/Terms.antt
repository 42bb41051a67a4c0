-- The words of the definitions and the lemmas of std that most files cite, passed on from one place to the lemmas; small facts; machines.
pub use Rattle.std.proofs.Math.Seq.{drop-append_seam, take-append_seam}
pub use Rattle.std.proofs.lemmas.Bool.{cases_lt, eqb-true}
pub use Rattle.std.proofs.lemmas.Bool.Decides.{Decides-eqb, nat_tests}
pub use Rattle.std.proofs.lemmas.List.{append-nil, append_cancel_left, drop-drop, length-append, length-map, length-take-le, take-append-drop, take-append-le, take_all, same_from_push}
pub use Rattle.std.proofs.lemmas.Slice.Eq.{bytes_eq-Decides, starts_is}
pub use Rattle.std.proofs.lemmas.Str.{encode_ascii, encodes-append}
pub use Rattle.std.specs.Char.{digit_value, is_digit, OutOfScalarRange}
pub use Rattle.std.specs.List.{flat_map, list_all, take_while, AllByRecursion, list_any}
pub use Rattle.cds_base.specs.Characters.{begins_name, is_allowed, is_blank, is_in_name}
pub use Rattle.cds_base.specs.Number.{is_number_in, number_in, value_in}
pub use Rattle.cds_base.specs.Reference.{IsReference, code_of, named, number_after_sign, numbered, where_allowed}
pub use Rattle.cds_base.specs.declared.limits.TheConstants.{INPUT_LIMIT}
pub use Rattle.cds_markup.specs.declared.utf8.Decoded.TheVariants.{More, Whole, Broken as NoCharacter}
pub use Rattle.cds_markup.specs.declared.error.MarkupError.{MarkupError}
pub use Rattle.cds_markup.specs.declared.error.MarkupError.TheVariants.{Bad, Failed, Mem, TooDeep, TooLong}
pub use Rattle.cds_markup.specs.declared.error.MachineError.{MachineError}
pub use Rattle.cds_markup.specs.declared.error.MachineError.TheVariants.{Broken, Deep, NamespaceRule, Mem as OutOfMemory}
pub use Rattle.cds_markup.specs.declared.event.Event.{Event}
pub use Rattle.cds_markup.specs.declared.event.Event.TheVariants.{Empty}
pub use Rattle.cds_markup.specs.declared.marks.Marks.{Marks}
pub use Rattle.cds_markup.specs.declared.marks.OpenText.{OpenText}
pub use Rattle.cds_markup.specs.declared.mode.AttributeState.{AttributeState}
pub use Rattle.cds_markup.specs.declared.mode.AttributeState.TheVariants.{AttrName, AttrNamed, Equals, Value}
pub use Rattle.cds_markup.specs.declared.mode.DeclarationState.{DeclarationState}
pub use Rattle.cds_markup.specs.declared.mode.DeclarationState.TheVariants.{BehindPart, Gap, PartEquals, PartName, PartValue, Question, Xml, YesOrNo}
pub use Rattle.cds_markup.specs.declared.mode.Misc.{Misc}
pub use Rattle.cds_markup.specs.declared.mode.Misc.TheVariants.{Blanks, MiscBang, MiscComment, MiscDash, MiscLess}
pub use Rattle.cds_markup.specs.declared.mode.Mode.{Mode}
pub use Rattle.cds_markup.specs.declared.mode.Mode.TheVariants.{Begin, Declaration, Epilog, First, Inside, Marked, Prolog}
pub use Rattle.cds_markup.specs.declared.mode.NameState.{NameState}
pub use Rattle.cds_markup.specs.declared.mode.ReferenceState.{ReferenceState}
pub use Rattle.cds_markup.specs.declared.mode.ReferenceState.TheVariants.{Ampersand, Entity, EntityA, Number, Sharp}
pub use Rattle.cds_markup.specs.declared.mode.Stage.{Stage}
pub use Rattle.cds_markup.specs.declared.mode.Stage.TheVariants.{Closing, Encoding, Standalone, Version}
pub use Rattle.cds_markup.specs.declared.mode.StartTagState.{StartTagState}
pub use Rattle.cds_markup.specs.declared.mode.StartTagState.TheVariants.{Attribute, Name, Opened, Spaced, Tagged}
pub use Rattle.cds_markup.specs.declared.mode.RootState.{RootState}
pub use Rattle.cds_markup.specs.declared.mode.RootState.TheVariants.{Bang, Cdata, Comment, Content, Dash, EndTag, Less, Reference, Section, Slashed, StartTag}
pub use Rattle.cds_markup.specs.declared.mode.ValueState.{ValueState}
pub use Rattle.cds_markup.specs.declared.name.Attr.{Attr}
pub use Rattle.cds_markup.specs.declared.part.Part.{Part}
pub use Rattle.cds_markup.specs.declared.part.Part.TheVariants.{End, Run, Start}
pub use Rattle.cds_markup.specs.declared.tag.Open.{Open}
pub use Rattle.cds_markup.specs.declared.tag.QName.{QName}
pub use Rattle.cds_markup.specs.declared.tag.Tag.{Tag}
pub use Rattle.cds_markup.specs.declared.tag.TagAttr.{TagAttr}
pub use Rattle.cds_markup.specs.declared.values.ValuePiece.{ValuePiece}
pub use Rattle.cds_markup.specs.declared.values.ValuePiece.TheVariants.{Literal, Referred as Referred-piece}
pub use Rattle.cds_markup.specs.Attributes.{attr_of, equals_step, named_or, named_step, step_attr}
pub use Rattle.cds_markup.specs.Bytes.{Ran, Reading, answered, begins_tag, breaks_rule, byte_step, go_on, is_behind, is_deep, is_missing, is_none, judge, judged, may_begin, may_begin_name, may_end, moved, nothing_read, ran_on, reading, refusal, run, scopes_in, takes_wide, root_begins, wide_attr, wide_misc, wide_tag, wide_root, Goes as Gone}
unfoldable pub use Rattle.cds_markup.specs.Bytes.{answer_of}
pub use Rattle.cds_markup.specs.XmlDeclaration.{begin_step, behind, closing_step, is_letter, name_step, part_step, right_step, standalone_step, step_declaration, value_begins, value_letter, xml_step}
pub use Rattle.cds_markup.specs.Utf8.{Step, after, begins_character, behind_first, byte_at, four_bytes_at, is_within, second_high, second_low, tail_at, third_high, three_bytes_at, two_bytes_at}
unfoldable pub use Rattle.cds_markup.specs.Utf8.{any_at}
pub use Rattle.cds_markup.specs.Document.{ChildThen, Doc, DocOf, Element, Meaning, Meanings, TextThen, and_children, and_joined, depth, depths, joined, leaf_says, line_ends, lone_returns, meaning, meanings, most_open, of_tag, return_before, without_feed, End as Childless}
pub use Rattle.cds_markup.specs.Feeding.{A-part, AreGiven, GoesOn, InRuns, IsClean, IsDecided, IsIn, More-text, No-runs, RunsSay, StandsFor, TakesEnd, TakesPiece, or_then, BeginsText}
pub use Rattle.cds_markup.specs.Form.{Byte, Character, Many, Maybe, Says, Then, Word}
pub use Rattle.cds_markup.specs.GivenParts.{IsBegun, IsPlain, PartsTo, RootEnds, SlashEnds, Tells, TellsTo, TextCut, ends_with_text}
pub use Rattle.cds_markup.specs.Grammar.{AnyCase, Blank, EmptyElement, Full, IsBlanks, IsComment, IsContent, IsDeclaration, IsDocument, IsEmptyTag, IsEndTag, IsEquals, IsInside, IsLeaf, IsMisc, IsMiscPiece, IsName, IsProlog, IsPseudoAttr, IsQName, IsQuoted, IsSection, IsSpace, IsStartTag, IsTag, IsTagAttr, IsText, IsTree, IsValue, IsValuePiece, IsYesOrNo, Leaf, LeafThen, MiscPiece, Nothing, Text, Tree, TreeThen, Without, and_behind, begins_with_text, byte_order_mark, contains, is_any, is_in_text, is_in_value, is_quote, is_text, lower_case, name_bytes, piece_says, qualified, value_says, with_line_ends, written_name, Content as Inner, Content as Grammar-content, Reference as Grammar-reference, Section as Grammar-section, Comment as Grammar-comment, MiscComment as CommentPiece}
pub use Rattle.cds_markup.specs.Marks.{EndsSo, MarksSo, begins, begun_text, completed, completed_as, cuts_text, ended_part, ended_text, given_on, is_between, is_in_content, last_part, last_text, letter_in, line_end_says, marked, marks, open_text, or_here, parts_from, passed_over, run_of, text_or, text_with, goes_on_as, rest_of}
unfoldable pub use Rattle.cds_markup.specs.Marks.{parts_of}
pub use Rattle.cds_markup.specs.Names.{goes_on, goes_with, is_colon, is_whole, name_begun, name_of, name_state}
pub use Rattle.cds_markup.specs.Namespaces.{and_more, declarations, is_empty, tag_says, space_of, xml_space, is_declaration, declaration, is_sound, declared, attr_name, with_value, named_attrs, same_qname, same_name, no_attr_twice, no_name_twice, declared_in}
pub use Rattle.cds_markup.specs.Next.{Done, Next, On, Stuck, comes, leads}
pub use Rattle.cds_markup.specs.Laws.{AllAreAnswered, AllIsTold, EndsNoText, GoOnOrBreak, LeavesHaveOneEnd, NothingCountsPastTheLimit, OneAnswer, OneElement, OneTelling, PartsAreFound, PartsAreGiven, PartsAreOfRoots, PartsAreOne, PartsAreTold, PartsBegin, PartsStandBefore, DocumentsAreRead, PartsAreBuilt}
pub use Rattle.cds_markup.specs.Parts.{ContentParts, DocumentParts, OpensParts, TreeParts, add_part, first_non_blank, leaf_parts, nested}
pub use Rattle.cds_markup.specs.PartsFound.{Clear, EndStands, PartsGiven, Stands, StartStands, TagGiven, TextGiven, TextStands}
pub use Rattle.cds_markup.specs.Reads.{AsciiSo, ByteSo, JudgedSo, Passed, Progress, TakenSo, WholeSo, begin_reading, byte_within, ended_of, if_said, judged_at, passed, passed_byte, passed_on, passed_within, progressed, said_as, progress}
pub use Rattle.cds_markup.specs.References.{base_of, entity_step, number_step, step_reference, with_digit}
pub use Rattle.cds_markup.specs.Refusal.{Breaks, BreaksAt, BreaksRule, CanGoOn, EndsShort, IsBad, IsFirst, IsRefused, IsTooDeep, LeafEnds, Opens, Refuses, TagEnds, TextByte, scopes_of}
pub use Rattle.cds_markup.specs.Delimiters.{brackets_with, closes_section, step_comment, step_section, without_brackets}
pub use Rattle.cds_markup.specs.Steps.{DecodesSo, MovesSo, ReadSo, StandsSo, StandsUpTo, RootSo, opens_after, is_last, Agrees, NamedSo, is_over as is-spent}
pub use Rattle.cds_markup.specs.Tags.{ends_tag, spaced_step, step_tag, tag_named, tagged_step, with_attr}
pub use Rattle.cds_markup.specs.Tellings.{NextSo, Puts, Telling, Told, ToldSo, begin_telling, behind_parts, judged_told, last_parts, listed, moved_on, telling, told, told_byte, told_byte_within, told_from, told_on, told_piece, told_within, shown, telling_of, telling_in}
pub use Rattle.cds_markup.specs.Taking.{Answered, Takes as TakesAll, unless_enough}
pub use Rattle.cds_markup.specs.Root.{Commented, Ended, Given, Letter, Referred, SectionOf, Shut, Slash, Started, Token, begins_with, cdata_step, content_step, end_blanks_step, end_name_step, given, is_in_run, less_step, opened, section_step, slash_step, start_step, step_root, tag_given}
pub use Rattle.cds_markup.specs.Values.{is_return, literal_step, quote_of, says_behind, step_value, value_step, value_state}
pub use Rattle.cds_markup.specs.Verdicts.{AnswersAreExact, AnswersAreSo, Verdict}
pub use Rattle.cds_markup.specs.Wholes.{Move, To, declaration_move, epilog_move, inside_move, is_content, is_over, landed, marked_move, misc_step, prolog_move, root_move, step, Nowhere}
pub use Rattle.std.proofs.lemmas.Option.{slice_get_within}
pub use Rattle.cds_markup.specs.declared.build.Frame.{Frame}
pub use Rattle.cds_markup.specs.Building.{State, state, and_text, closed_in, built, state_of, with_part, builds, nothing_yet, built_as, first_element}
pub use Rattle.cds_markup.specs.Children.{and_place, child_starts, root_start, elements_in, nodes_in, child_at, open_behind, IsPlace}
pub use Rattle.cds_markup.specs.ChildPlaces.{trees_in, StandsBehind, ChildStands, PlacesAreOfElements}
pub use Rattle.std.proofs.lemmas.Grind.{flat_map-append}
pub use Rattle.cds_markup.specs.Written.{tag_attrs, with_name, counted, written_attr, written_attrs, written_inside}
pub use Rattle.cds_base.specs.Escape.{escaped, escaped_byte}
pub use Rattle.std.specs.Result.{IsErrAnd, is_err, OnOk}
pub use Rattle.std.proofs.lemmas.List.Folds.{length-prefix_len, list_all-append}
pub use Rattle.std.specs.Str.{IsAscii, bytes_eq, encode_utf8_all}
pub use Rattle.cds_markup.specs.declared.element.Node.TheVariants.{Child}
pub use Rattle.cds_markup.specs.Elements.{nodes_of, children_then, and_node, meanings_of}
use Rattle.std.proofs.Common.{◌≡◌, ◌==◌, ℕ, Bool, true, false, not, ◌&&◌, List, [], ◌∷◌, ◌++◌, refl, arith, ◌⊎◌, inl, inr, cond, sym, subst, ap, ◌∙◌, Result, Ok, Err, Some, None, Option}

pub is-byte : (b c : ℕ) → (b == c) ≡ true → b ≡ c
is-byte b c e = grind (arith, nat_tests)

pub and-both : (s t : Bool) → s ≡ true → t ≡ true → (s && t) ≡ true
and-both s t e d = grind arith

pub and-first : (s t : Bool) → (s && t) ≡ true → s ≡ true
and-first s t e = grind arith

pub and-second : (s t : Bool) → (s && t) ≡ true → t ≡ true
and-second s t e = grind arith

pub and-no : (b : Bool) → (b && false) ≡ false
and-no b = grind arith

pub both-no : (b : Bool) → (b && not b) ≡ false
both-no b = grind arith

pub and-so : (b : Bool) → (b && true) ≡ false → b ≡ false
and-so b e = grind arith

pub same-byte : (b : ℕ) → (b == b) ≡ true
same-byte b = grind (arith, nat_tests)

-- lists
pub heads : {A : Type 0} (a b : A) (x y : List A) → a ∷ x ≡ b ∷ y → (a ≡ b) × (x ≡ y)
heads a b x y e = (cc, cc)

pub no-cons : {A X : Type 0} {a : A} {xs : List A} → [] ≡ a ∷ xs → X
no-cons e = absurd (cc)

pub none-behind : {A X : Type 0} (xs : List A) (b : A) (ys : List A) → [] ≡ xs ++ b ∷ ys → X
none-behind [] b ys e = absurd (cc)
none-behind (x ∷ xs) b ys e = absurd (cc)

pub ok-err : {A E X : Type 0} {a : A} {e : E} → ◌≡◌ {A = Result A E} (Ok a) (Err e) → X
ok-err e = absurd (cc)

pub some-is : {A : Type 0} {a b : A} → Some a ≡ Some b → a ≡ b
some-is e = cc

pub empty-is : (xs : List ℕ) → is_empty xs ≡ true → xs ≡ []
empty-is [] e = refl
empty-is (x ∷ xs) e = absurd (grind (arith, nat_tests))

-- Statements that follow from one another, and what may come by the next character.

pub clash : {A : Type 0} {b : Bool} → b ≡ true → b ≡ false → A
clash e f = absurd (cc)

pub taken-if : {A : Type 0} (b : Bool) (o : Option A) (a : A) → cond b o None ≡ Some a → (b ≡ true) × (o ≡ Some a)
taken-if true o a e = (refl, e)
taken-if false o a e = absurd (cc)

pub by-test : (P : Bool → Type 0) → P true → P false → (b : Bool) → P b
by-test P x y true = x
by-test P x y false = y

pub cases : {A : Type 0} (b : Bool) → (b ≡ true → A) → (b ≡ false → A) → A
cases true f g = f refl
cases false f g = g refl

-- Machines whose states have a law: what they take, from a state to the end of what is read, is what may come.

-- From where a character leads so these characters are read, and this is what they say.
abbrev pub Enters : {M A : Type 0} → (M → ℕ → Next M A) → (ℕ → Next M A) → List ℕ → A → Type 0
Enters step f [] a = ⊥
Enters step f (c ∷ w) a = comes (f c) (λ n. Enters step (step n) w a) (λ b. (b ≡ a) × (w ≡ []))

-- The same from a state.
abbrev pub Takes : {M A : Type 0} → (M → ℕ → Next M A) → M → List ℕ → A → Type 0
Takes step m w a = Enters step (step m) w a

-- From one state to another one, with nothing read to its end.
abbrev pub Steps : {M A : Type 0} → (M → ℕ → Next M A) → M → List ℕ → M → Type 0
Steps step m [] n = m ≡ n
Steps step m (c ∷ w) n = comes (step m c) (λ l. Steps step l w n) (λ a. ⊥)

-- by where a character leads
pub next-by : {M A R : Type 0} (next : Next M A) → (next ≡ Stuck → R) → ((m : M) → next ≡ On m → R) → ((a : A) → next ≡ Done a → R) → R
next-by Stuck f g h = f refl
next-by (On m) f g h = g m refl
next-by (Done a) f g h = h a refl

-- what holds of the last state holds of the first one, where a character passes it back
pub steps-back : {M A : Type 0} (step : M → ℕ → Next M A) (R : M → List ℕ → Type 0) → ((m : M) (c : ℕ) (w : List ℕ) → comes (step m c) (λ n. R n w) (λ a. ⊥) → R m (c ∷ w))
    → (w : List ℕ) (m n : M) (v : List ℕ) → Steps step m w n → R n v → R m (w ++ v)
steps-back step R back [] m n v s h = subst (λ x. R x v) (sym s) h
steps-back step R back (c ∷ w) m n v s h = back m c (w ++ v) (next-by (step m c) (λ e. absurd (rw e at s)) (λ k e. rw e (steps-back step R back w k n v (rw e at s) h)) (λ a e. absurd (rw e at s)))

module _ {M A : Type 0} (step : M → ℕ → Next M A) where
  pub steps-then : (v w : List ℕ) (m l n : M) → Steps step m v l → Steps step l w n → Steps step m (v ++ w) n
  steps-then v w m l n s t = steps-back step (λ k u. Steps step k u n) (λ k c u h. h) v m l w s t

  pub takes-then : (v w : List ℕ) (m l : M) (a : A) → Steps step m v l → Takes step l w a → Takes step m (v ++ w) a
  takes-then v w m l a s t = steps-back step (λ k u. Takes step k u a) (λ k c u h. next-by (step k c) (λ e. absurd (rw e at h)) (λ n e. rw e (rw e at h)) (λ b e. absurd (rw e at h))) v m l w s t

  -- one character more
  pub steps-on : (w : List ℕ) (m n l : M) (c : ℕ) → Steps step m w n → step n c ≡ On l → Steps step m (w ++ c ∷ []) l
  steps-on w m n l c s e = steps-then w (c ∷ []) m n l s (subst (λ x. comes x (λ k. k ≡ l) (λ a. ⊥)) (sym e) refl)

  pub steps-done : (w : List ℕ) (m n : M) (c : ℕ) (a : A) → Steps step m w n → step n c ≡ Done a → Takes step m (w ++ c ∷ []) a
  steps-done w m n c a s e = takes-then w (c ∷ []) m n a s (subst (λ x. comes x (λ k. Takes step k [] a) (λ b. (b ≡ a) × (◌≡◌ {A = List ℕ} [] []))) (sym e) (refl, refl))

  pub takes-last : (w : List ℕ) (m : M) (a : A) → Takes step m w a → (v : List ℕ) × (c : ℕ) × (n : M) × (w ≡ v ++ c ∷ []) × Steps step m v n × (step n c ≡ Done a)
  takes-last [] m a t = absurd t
  takes-last (c ∷ w) m a t =
      next-by (step m c) (λ e. absurd (rw e at t)) (λ l e. let r = takes-last w l a (rw e at t) in (c ∷ r.0, r.1, r.2, ap (λ xs. c ∷ xs) r.3, rw e r.4, r.5)) (λ b e. let h = rw e at t in ([], c, m, ap (λ xs. c ∷ xs) h.1, refl, e ∙ ap Done h.0))

-- one character is not two
pub apart : {X : Type 0} (a b c : ℕ) → (c == a) ≡ true → (c == b) ≡ true → (a == b) ≡ false → X
apart a b c e f g = let two : (a == b) ≡ true = grind (arith, nat_tests) in clash two g

-- what holds of where a character leads
abbrev pub holds : {M A : Type 0} → Next M A → (M → Type 0) → (A → Type 0) → Type 0
holds Stuck on done = Unit {0}
holds (On m) on done = on m
holds (Done a) on done = done a

pub holds-if : {M A : Type 0} (b : Bool) (x y : Next M A) (on : M → Type 0) (done : A → Type 0) → (b ≡ true → holds x on done) → (b ≡ false → holds y on done) → holds (cond b x y) on done
holds-if true x y on done f g = f refl
holds-if false x y on done f g = g refl

pub holds-leads : {M A N B : Type 0} (next : Next M A) (to : M → N) (over : A → Next N B) (P : M → Type 0) (Q : A → Type 0) (on : N → Type 0) (done : B → Type 0)
    → holds next P Q → ((m : M) → P m → on (to m)) → ((a : A) → Q a → holds (over a) on done) → holds (leads next to over) on done
holds-leads Stuck to over P Q on done h f g = tt
holds-leads (On m) to over P Q on done h f g = f m h
holds-leads (Done a) to over P Q on done h f g = g a h

pub leads-any : {M A N B : Type 0} (next : Next M A) (to : M → N) (over : A → Next N B) (on : N → Type 0) (done : B → Type 0) → ((m : M) → on (to m)) → ((a : A) → holds (over a) on done) → holds (leads next to over) on done
leads-any Stuck to over on done f g = tt
leads-any (On m) to over on done f g = f m
leads-any (Done a) to over on done f g = g a

pub holds-named : {M A : Type 0} (next : Option NameState) (to : NameState → M) (whole : Bool) (behind : Next M A) (on : M → Type 0) (done : A → Type 0) → ((n : NameState) → on (to n)) → holds behind on done → holds (named_or next to whole behind) on done
holds-named (Some n) to whole behind on done f h = f n
holds-named None to true behind on done f h = h
holds-named None to false behind on done f h = tt

abbrev pub Anything : {A : Type 0} → A → Type 0
Anything a = Unit {0}

-- what is taken by a test
pub either-if : {M A : Type 0} (b : Bool) (x y : Next M A) (on : M → Type 0) (done : A → Type 0) → comes (cond b x y) on done → ((b ≡ true) × comes x on done) ⊎ ((b ≡ false) × comes y on done)
either-if true x y on done h = inl (refl, h)
either-if false x y on done h = inr (refl, h)

pub only-if : {M A : Type 0} (b : Bool) (x : Next M A) (on : M → Type 0) (done : A → Type 0) → comes (cond b x Stuck) on done → (b ≡ true) × comes x on done
only-if true x on done h = (refl, h)
only-if false x on done h = absurd h
