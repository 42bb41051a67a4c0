-- What is written of a draft or of an element is a document that means it.
use Rattle.std.proofs.Common.{◌≡◌, ℕ, suc, ◌^◌, ◌<◌, ◌≤◌, false, List, [], ◌∷◌, ◌++◌, length, max, Option, Some, None, refl, sym, ap, ◌∙◌, arith, length-append, append-nil, codes}
use Rattle.cds_markup.specs.declared.tag.Declaration.{Declaration}
use Rattle.cds_markup.specs.Drafts.{Draft, Drafts, Tagged, Done, TextThen as DraftText, DraftThen, drafted, drafted_in, draft_says, drafts_say, draft_depth, drafts_depth, CanBeDraft, CanBeDrafts, version_declared, DraftsAreRead}
use Rattle.cds_markup.specs.Written.{tag_of, written_start, written_end, written_in, written_inside, written, begins_with_text, CanBe, CanBeInside, element_depth, inside_depth, WrittenIsRead}
use Rattle.cds_markup.proofs.Terms.{INPUT_LIMIT, is_empty, declarations, tag_says, Tag, Tree, Full, Nothing, TreeThen, IsTree, IsProlog, Meaning, Meanings, Element, Childless, TextThen, ChildThen, joined, of_tag, and_children, meaning, depth, most_open, Doc, escaped, space_of}
use Rattle.cds_markup.proofs.Ways.{then-of, no-blanks}
use Rattle.cds_markup.proofs.Built.{no-misc, no-prolog}
use Rattle.cds_markup.proofs.WrittenTags.{TagStands, a-space, a-equals, start-of, end-of, tag-starts, Means, text-before}

-- bytes that are an element by the grammar, what it says and how deep it is
record TreeSays (scopes : List (List Declaration)) (bytes : List ℕ) (said : Option Meaning) (deep : ℕ) : Type 0 where
  tree : Tree
  is : IsTree tree bytes
  means : meaning tree scopes ≡ said
  deep_is : depth tree ≡ deep

nothing : (scopes : List (List Declaration)) → Means scopes [] (Some Childless) 0
nothing scopes = record { content = Nothing; clean = tt; is = refl; means = refl; depth = refl }

tagged : (scopes : List (List Declaration)) (t : Tag) (inside : List ℕ) (said : Option Meanings) (deep : ℕ) → TagStands t → Means (declarations t.attrs ∷ scopes) inside said deep
    → TreeSays scopes (written_start t ++ (inside ++ written_end t)) (of_tag (tag_says scopes t) said) (suc deep)
tagged scopes t inside said deep can m = record { tree = Full t m.content; is = (written_start t, inside, written_end t, refl, start-of t can, m.is, end-of t); means = ap (of_tag (tag_says scopes t)) m.means; deep_is = ap suc m.depth }

child-before : (scopes : List (List Declaration)) (front back : List ℕ) (child : Option Meaning) (said : Option Meanings) (d e : ℕ) → TreeSays scopes front child d → Means scopes back said e → Means scopes (front ++ back) (and_children child said) (max d e)
child-before scopes front back child said d e c m = record { content = TreeThen c.tree m.content; clean = tt; is = (front, back, refl, c.is, m.is); means = rw (c.means, m.means) refl; depth = rw (c.deep_is, m.depth) refl }

mutual
  draft-is : (draft : Draft) (scopes : List (List Declaration)) → CanBeDraft draft → TreeSays scopes (drafted draft) (draft_says scopes draft) (draft_depth draft)
  draft-is (Tagged t inside) scopes can =
      tagged scopes t (drafted_in inside) (drafts_say (declarations t.attrs ∷ scopes) inside) (drafts_depth inside) can.0 (drafts-are inside (declarations t.attrs ∷ scopes) can.1)

  drafts-are : (drafts : Drafts) (scopes : List (List Declaration)) → CanBeDrafts drafts → Means scopes (drafted_in drafts) (drafts_say scopes drafts) (drafts_depth drafts)
  drafts-are Done scopes can = nothing scopes
  drafts-are (DraftText text more) scopes can = text-before scopes text (drafted_in more) (drafts_say scopes more) (drafts_depth more) can.0 (drafts-are more scopes can.2)
  drafts-are (DraftThen draft more) scopes can =
      child-before scopes (drafted draft) (drafted_in more) (draft_says scopes draft) (drafts_say scopes more) (draft_depth draft) (drafts_depth more) (draft-is draft scopes can.0) (drafts-are more scopes can.1)

text-is : (text : List ℕ) (more : Meanings) → is_empty text ≡ false → begins_with_text more ≡ false → joined text more ≡ TextThen text more
text-is text Childless e d = rw e refl
text-is text (TextThen other more) e d = absurd (cc)
text-is text (ChildThen child more) e d = rw e refl

front-short : (x y : List ℕ) → length (x ++ y) < 2 ^ 64 → (length x < 2 ^ 64) × (length y < 2 ^ 64)
front-short x y h = omega (arith, length-append x y)

mutual
  element-is : (element : Meaning) (around : List ℕ) (scopes : List (List Declaration)) → CanBe element → length (written_in around element) < 2 ^ 64 → space_of scopes [] ≡ Some around
      → TreeSays scopes (written_in around element) (Some element) (element_depth element)
  element-is (Element name attrs children) around scopes can short is =
      let t = tag_of around name attrs in
      let inside = written_inside name.space children in
      let k = tag-starts scopes around name attrs (inside ++ written_end t) can.0 short is in
      let within = (front-short inside (written_end t) (front-short (written_start t) (inside ++ written_end t) short).1).0 in
      rw k.says at (tagged scopes t inside (Some children) (inside_depth children) k.stands (inside-is children name.space (declarations t.attrs ∷ scopes) can.1 within k.space))

  inside-is : (ms : Meanings) (space : List ℕ) (scopes : List (List Declaration)) → CanBeInside ms → length (written_inside space ms) < 2 ^ 64 → space_of scopes [] ≡ Some space
      → Means scopes (written_inside space ms) (Some ms) (inside_depth ms)
  inside-is Childless space scopes can short is = nothing scopes
  inside-is (TextThen text more) space scopes can short is =
      rw (text-is text more can.0 can.2) at (text-before scopes text (written_inside space more) (Some more) (inside_depth more) can.1 (inside-is more space scopes can.3 (front-short (escaped text) (written_inside space more) short).1 is))
  inside-is (ChildThen child more) space scopes can short is =
      let s = front-short (written_in space child) (written_inside space more) short in
      child-before scopes (written_in space child) (written_inside space more) (Some child) (Some more) (element_depth child) (inside_depth more) (element-is child space scopes can.0 s.0 is) (inside-is more space scopes can.1 s.1 is)

-- the whole document behind a prolog
behind : (front bytes : List ℕ) (said : Option Meaning) (element : Meaning) (deep : ℕ) → IsProlog front tt → TreeSays [] bytes said deep → said ≡ Some element → deep ≤ most_open → length (front ++ bytes) ≤ INPUT_LIMIT → Doc (front ++ bytes) element
behind front bytes said element deep prolog t says within short = (
  t.tree,
  record {
    document = record { prolog = front; element = bytes; epilog = []; spelled = ap (λ b. front ++ b) (sym (append-nil bytes)); is_prolog = prolog; is_element = t.is; is_epilog = no-misc };
    means = t.means ∙ says;
    within = rw t.deep_is within;
    short = short;
  },
)

version-prolog : IsProlog version_declared tt
version-prolog =
    then-of [] version_declared None refl refl
    (then-of version_declared [] (Some tt) refl
    (then-of (codes "<?xml") (codes " version=\"1.0\"?>") tt refl refl
    (then-of (codes " version=\"1.0\"") (codes "?>") tt refl
    (then-of (codes " ") (codes "version=\"1.0\"") tt refl a-space
    (then-of (codes "version") (codes "=\"1.0\"") tt refl refl
    (then-of (codes "=") (codes "\"1.0\"") tt refl a-equals
    (then-of (codes "\"") (codes "1.0\"") 34 refl (refl, refl) (then-of (codes "1.0") (codes "\"") tt refl refl (then-of (codes "\"") [] 34 refl (refl, refl) (refl, refl)))))))
    (then-of [] (codes "?>") None refl refl (then-of [] (codes "?>") None refl refl (then-of [] (codes "?>") tt refl no-blanks refl)))))
    no-misc)

pub drafts-are-read : DraftsAreRead
drafts-are-read = (
  λ draft element can says. behind [] (drafted draft) (draft_says [] draft) element (draft_depth draft) no-prolog (draft-is draft [] can.can_be) says can.within can.short,
  λ draft element can says. behind version_declared (drafted draft) (draft_says [] draft) element (draft_depth draft) version-prolog (draft-is draft [] can.can_be) says can.within can.short,
)

pub written-is-read : WrittenIsRead
written-is-read element can =
    behind [] (written element) (Some element) element (element_depth element) no-prolog (element-is element [] [] can.can_be (omega (arith, can.short)) refl) refl can.within can.short
