-- Texts of documents that are written with prefixes: trees of tags as they stand, and of texts, which are escaped.
use Rattle.std.specs.Prelude.{◌≡◌, ◌++◌, ◌≤◌, ℕ, suc, max, Bool, true, false, Option, Some, List, [], ◌∷◌, codes, length}
use Rattle.std.specs.List.{AllByRecursion}
use Rattle.cds_base.specs.declared.limits.TheConstants.{INPUT_LIMIT}
use Rattle.cds_base.specs.Escape.{escaped}
use Rattle.cds_base.specs.Characters.{AreAllowed}
use Rattle.cds_markup.specs.declared.tag.Tag.{Tag}
use Rattle.cds_markup.specs.declared.tag.TagAttr.{TagAttr}
use Rattle.cds_markup.specs.declared.tag.Declaration.{Declaration}
use Rattle.cds_markup.specs.Grammar.{IsQName, name_bytes}
use Rattle.cds_markup.specs.Namespaces.{declarations, tag_says}
use Rattle.cds_markup.specs.Document.{Meaning, Meanings, End, and_joined, and_children, of_tag, most_open, Doc}
use Rattle.cds_markup.specs.Written.{written_start, written_end}

mutual
  pub data Draft : Type 0 where
    Tagged : Tag → Drafts → Draft

  pub data Drafts : Type 0 where
    Done : Drafts
    TextThen : List ℕ → Drafts → Drafts
    DraftThen : Draft → Drafts → Drafts

-- How a draft is written: each element with both its tags.
abbrev mutual
  pub drafted : Draft → List ℕ
  drafted (Tagged tag inside) = written_start tag ++ (drafted_in inside ++ written_end tag)

  pub drafted_in : Drafts → List ℕ
  drafted_in Done = []
  drafted_in (TextThen text more) = escaped text ++ drafted_in more
  drafted_in (DraftThen draft more) = drafted draft ++ drafted_in more

-- The element that it says in the scopes of the elements around it, if its tags keep the rules.
abbrev mutual
  pub draft_says : List (List Declaration) → Draft → Option Meaning
  draft_says scopes (Tagged tag inside) = of_tag (tag_says scopes tag) (drafts_say (declarations tag.attrs ∷ scopes) inside)

  pub drafts_say : List (List Declaration) → Drafts → Option Meanings
  drafts_say scopes Done = Some End
  drafts_say scopes (TextThen text more) = and_joined text (drafts_say scopes more)
  drafts_say scopes (DraftThen draft more) = and_children (draft_says scopes draft) (drafts_say scopes more)

-- The greatest number of elements that are open at one place of it.
abbrev mutual
  pub draft_depth : Draft → ℕ
  draft_depth (Tagged tag inside) = suc (drafts_depth inside)

  pub drafts_depth : Drafts → ℕ
  drafts_depth Done = 0
  drafts_depth (TextThen text more) = drafts_depth more
  drafts_depth (DraftThen draft more) = max (draft_depth draft) (drafts_depth more)

-- What can be written: names are names, all characters are allowed, and no two texts stand side by side.
pub record CanBeDraftAttr (a : TagAttr) : Type 0 where
  pub name : IsQName (name_bytes a.name) a.name
  pub value : AreAllowed a.value

pub record CanBeDraftTag (t : Tag) : Type 0 where
  pub name : IsQName (name_bytes t.name) t.name
  pub attrs : AllByRecursion CanBeDraftAttr t.attrs

abbrev pub begins_with_text : Drafts → Bool
begins_with_text Done = false
begins_with_text (TextThen text more) = true
begins_with_text (DraftThen draft more) = false

abbrev mutual
  pub CanBeDraft : Draft → Type 0
  CanBeDraft (Tagged tag inside) = CanBeDraftTag tag × CanBeDrafts inside

  pub CanBeDrafts : Drafts → Type 0
  CanBeDrafts Done = Unit {0}
  CanBeDrafts (TextThen text more) = AreAllowed text × (begins_with_text more ≡ false) × CanBeDrafts more
  CanBeDrafts (DraftThen draft more) = CanBeDraft draft × CanBeDrafts more

-- A draft that can be written after some bytes within the limits.
pub record CanBeDrafted (front : List ℕ) (draft : Draft) : Type 0 where
  pub can_be : CanBeDraft draft
  pub within : draft_depth draft ≤ most_open
  pub short : length (front ++ drafted draft) ≤ INPUT_LIMIT

-- The declaration of the version alone.
abbrev pub version_declared : List ℕ
version_declared = codes "<?xml version=\"1.0\"?>"

-- Let a draft say an element. Then the written draft is a document of the element, with or without the declaration of the version
-- before it.
abbrev pub DraftsAreRead : Type 0
DraftsAreRead =
    ((draft : Draft) (element : Meaning) → CanBeDrafted [] draft → draft_says [] draft ≡ Some element → Doc (drafted draft) element)
    × ((draft : Draft) (element : Meaning) → CanBeDrafted version_declared draft → draft_says [] draft ≡ Some element
    → Doc (version_declared ++ drafted draft) element)
