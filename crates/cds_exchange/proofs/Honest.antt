-- What is asked, and what an honest server replies, is read as it was written.
use Rattle.std.proofs.Common.{ℕ, ◌<◌, ◌≤◌, ◌^◌, true, Option, Some, None, List, [], ◌∷◌, ◌++◌, length, codes, refl, arith}
use Rattle.std.specs.Prelude.{IfSome}
use Rattle.std.specs.List.{AllByRecursion}
use Rattle.std.specs.Fmt.{decimal}
use Rattle.cds_base.specs.Escape.{escaped}
use Rattle.cds_base.specs.Characters.{AreAllowed}
use Rattle.cds_object.specs.declared.content.Content.{Content}
use Rattle.cds_object.specs.declared.content.Content.TheVariants.{Folder, Track}
use Rattle.cds_object.specs.Object.{ObjectRow}
use Rattle.cds_didl.specs.Fragment.{didl_text}
use Rattle.cds_didl.specs.Plain.{IsPlainText, HasPlainTexts}
use Rattle.cds_didl.specs.ReadBack.{HasAllowedTexts, IsWritable}
use Rattle.cds_didl.proofs.ReadBack.{rows-are-read-back}
use Rattle.cds_soap.specs.Names.{name_of_action, IsVersion}
use Rattle.cds_soap.specs.Written.{answer_body, Fits}
use Rattle.cds_soap.specs.Laws.{IsAllowedBrowse, IsAllowedAction, IsAllowedAnswer, action_texts, answer_texts}
use Rattle.cds_soap.proofs.Lengths.{bodies-are-short}
use Rattle.cds_soap.proofs.RequestsBack.{requests-are-read}
use Rattle.cds_soap.proofs.AnswersBack.{answers-are-read}
use Rattle.cds_load.specs.declared.exchange.Ask.{Ask}
use Rattle.cds_load.specs.declared.exchange.Ask.TheVariants.{Token, Number as AskNumber, Metadata, Children}
use Rattle.cds_load.specs.declared.exchange.Shown.{Shown}
use Rattle.cds_load.specs.declared.exchange.Shown.TheVariants.{Text, Number, Page, Fault}
use Rattle.cds_exchange.specs.Asking.{browse_of, action_of}
use Rattle.cds_exchange.specs.Readings.{ShowsAs}
use Rattle.cds_exchange.specs.Honest.{answer_saying, IsBase, IsPlainRow, IsPlainPage, CanBeShownTo, IsInRange}
use Rattle.cds_exchange.specs.Laws.{AsksAreRead, PagesAreShort, HonestRepliesAreRead, page_bound}
use Rattle.cds_exchange.proofs.Light.{wide, no-shorter, Light, light-none, light-number, light-escaped, light-literal, ◌⊕◌}
use Rattle.cds_exchange.proofs.Rows.{didl-light}

-- ---- requests

browse-allowed : (id start : ℕ) (flag : List ℕ) → id < 2 ^ 32 → start < 2 ^ 32 → Light 20 flag → IsAllowedBrowse (browse_of id flag start)
browse-allowed id start flag h s f =
    let object = light-number id h in
    let all = light-literal 1 (codes "*") refl refl refl in
    record {
      object = object.allowed;
      flag = f.allowed;
      filter = all.allowed;
      start = s;
      count = omega arith;
      sort = light-none.allowed;
    }

browse-short : (id : ℕ) (flag : List ℕ) → id < 2 ^ 32 → Light 20 flag → wide (decimal id ++ flag ++ codes "*" ++ []) ≤ 31
browse-short id flag h f = (light-number id h ⊕ f ⊕ light-literal 1 (codes "*") refl refl refl ⊕ light-none).short

metadata : Light 20 (codes "BrowseMetadata")
metadata = light-literal 20 (codes "BrowseMetadata") refl refl refl

children : Light 20 (codes "BrowseDirectChildren")
children = light-literal 20 (codes "BrowseDirectChildren") refl refl refl

ask-allowed : (ask : Ask) → IsInRange ask → IsAllowedAction (action_of ask)
ask-allowed Token is = tt
ask-allowed AskNumber is = tt
ask-allowed (Metadata id) is = browse-allowed id 0 (codes "BrowseMetadata") is (omega arith) metadata
ask-allowed (Children id start) is = browse-allowed id start (codes "BrowseDirectChildren") is.0 is.1 children

ask-short : (ask : Ask) → IsInRange ask → wide (action_texts (action_of ask)) ≤ 31
ask-short Token is = omega arith
ask-short AskNumber is = omega arith
ask-short (Metadata id) is = browse-short id (codes "BrowseMetadata") is metadata
ask-short (Children id start) is = browse-short id (codes "BrowseDirectChildren") is.0 children

pub asks-are-read : AsksAreRead
asks-are-read ask url more ended is path query host =
    let asked = action_of ask in
    let allowed = ask-allowed ask is in
    let few = ask-short ask is in
    let body = bodies-are-short.request 4 asked (omega arith, omega arith) allowed in
    requests-are-read asked url more ended allowed path query host (omega (arith, few, body))

-- ---- answers

fits : (ask : Ask) (base : List ℕ) (shown : Shown) → CanBeShownTo ask shown → Fits (name_of_action (action_of ask)) (answer_saying base shown)
fits Token base (Text token) can = refl
fits Token base (Number n) can = absurd can
fits Token base (Page rows total update) can = absurd can
fits Token base (Fault code) can = can
fits AskNumber base (Text token) can = absurd can
fits AskNumber base (Number n) can = refl
fits AskNumber base (Page rows total update) can = absurd can
fits AskNumber base (Fault code) can = can
fits (Metadata id) base (Text token) can = absurd can
fits (Metadata id) base (Number n) can = absurd can
fits (Metadata id) base (Page rows total update) can = refl
fits (Metadata id) base (Fault code) can = can
fits (Children id start) base (Text token) can = absurd can
fits (Children id start) base (Number n) can = absurd can
fits (Children id start) base (Page rows total update) can = refl
fits (Children id start) base (Fault code) can = can

-- what may be shown, whatever was asked
abbrev IsPlainShown : Shown → Type 0
IsPlainShown (Text token) = IsPlainText token
IsPlainShown (Number n) = n < 2 ^ 32
IsPlainShown (Page rows total update) = IsPlainPage rows total update
IsPlainShown (Fault code) = Unit {0}

shown-plain : (ask : Ask) (shown : Shown) → CanBeShownTo ask shown → IsPlainShown shown
shown-plain ask (Fault code) can = tt
shown-plain Token (Text token) can = can
shown-plain Token (Number n) can = absurd can
shown-plain Token (Page rows total update) can = absurd can
shown-plain AskNumber (Text token) can = absurd can
shown-plain AskNumber (Number n) can = can
shown-plain AskNumber (Page rows total update) can = absurd can
shown-plain (Metadata id) (Text token) can = absurd can
shown-plain (Metadata id) (Number n) can = absurd can
shown-plain (Metadata id) (Page rows total update) can = can
shown-plain (Children id start) (Text token) can = absurd can
shown-plain (Children id start) (Number n) can = absurd can
shown-plain (Children id start) (Page rows total update) can = can

answer-allowed : (base : List ℕ) (shown : Shown) → IsBase base → IsPlainShown shown → IsAllowedAnswer (answer_saying base shown)
answer-allowed base (Text token) b is = is.allowed
answer-allowed base (Number n) b is = is
answer-allowed base (Page rows total update) b is =
    let light = didl-light base rows b is.each in
    let few = is.few in
    (light.allowed, omega (arith, few), is.total_fits, is.update_fits)
answer-allowed base (Fault code) b is = tt

-- how long the body is: that of a page by its rows
page-short : (ask : Ask) (base : List ℕ) (version : ℕ) (rows : List ObjectRow) (total update : ℕ) → IsVersion version → IsBase base → CanBeShownTo ask (Page rows total update)
    → length (answer_body (name_of_action (action_of ask)) version (answer_saying base (Page rows total update))) ≤ page_bound (length rows)
page-short ask base version rows total update is b can =
    let plain : IsPlainPage rows total update = shown-plain ask (Page rows total update) can in
    let light = (didl-light base rows b plain.each).short in
    let body = bodies-are-short.answer (action_of ask) version (answer_saying base (Page rows total update)) is (fits ask base (Page rows total update) can)
    (answer-allowed base (Page rows total update) b plain) in
    omega (arith, light, body)

pub pages-are-short : PagesAreShort
pages-are-short ask base version rows total update is b can = page-short ask base version rows total update is b can

wide-texts : (base : List ℕ) (shown : Shown) → IsBase base → IsPlainShown shown → wide (answer_texts (answer_saying base shown)) ≤ 60000000
wide-texts base (Text token) b is =
    let less = no-shorter (escaped token) in
    let twice = (light-escaped 255 token is.allowed is.short).short in
    omega (arith, less, twice)
wide-texts base (Number n) b is = omega arith
wide-texts base (Page rows total update) b is =
    let light = (didl-light base rows b is.each).short in
    let few = is.few in
    omega (arith, light, few)
wide-texts base (Fault code) b is = omega arith

-- ---- rows are read back

each-allowed : (o : Option (List ℕ)) → IfSome o IsPlainText → IfSome o AreAllowed
each-allowed None is = tt
each-allowed (Some text) is = is.allowed

texts-allowed : (content : Content) → HasPlainTexts content → HasAllowedTexts content
texts-allowed (Folder title) is = is.allowed
texts-allowed (Track track) is = record {
  title = is.title.allowed;
  artist = each-allowed track.artist is.artist;
  album = each-allowed track.album is.album;
  genre = each-allowed track.genre is.genre;
}

writable : (rows : List ObjectRow) → AllByRecursion IsPlainRow rows → AllByRecursion IsWritable rows
writable [] each = tt
writable (row ∷ rows) each = (record { ranges = each.0.ranges; texts = texts-allowed row.content each.0.texts }, writable rows each.1)

shows : (base : List ℕ) (shown : Shown) → IsBase base → IsPlainShown shown → ShowsAs (answer_saying base shown) shown
shows base (Text token) b is = refl
shows base (Number n) b is = refl
shows base (Page rows total update) b is =
    let light = (didl-light base rows b is.each).short in
    let less = no-shorter (didl_text None base rows) in
    let few = is.few in
    (rows-are-read-back base rows b.allowed (writable rows is.each) (omega (arith, light, less, few)), refl, refl)
shows base (Fault code) b is = refl

pub honest-replies-are-read : HonestRepliesAreRead
honest-replies-are-read ask base version shown token more is b can reset =
    let asked = action_of ask in
    let given = answer_saying base shown in
    let plain = shown-plain ask shown can in
    let fit = fits ask base shown can in
    let allowed = answer-allowed base shown b plain in
    let texts = wide-texts base shown b plain in
    let body = bodies-are-short.answer asked version given is fit allowed in
    let reply = answers-are-read asked version given token more true is fit allowed reset (omega (arith, texts, body)) in
    (given, reply.answers, shows base shown b plain)
