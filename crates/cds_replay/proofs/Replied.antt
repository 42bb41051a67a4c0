-- What a script's server answers to an ask is what an honest server has.
use Rattle.std.proofs.Common.{◌≡◌, ℕ, ◌<◌, ◌^◌, List, [], ◌∷◌, map, filter, take, drop, length, Bool, true, false, suc, cond, nat_eq, Option, Some, None, Result, Ok, Err, refl, ap, ◌∙◌, arith}
use Rattle.std.specs.Prelude.{codes}
use Rattle.std.specs.Fmt.{decimal}
use Rattle.std.specs.List.{AllByRecursion}
use Rattle.std.proofs.lemmas.Slice.Eq.{bytes_eq-Decides}
use Rattle.uuid.specs.Text.{by_index}
use Rattle.cds_object.specs.Object.{ObjectRow, is_folder}
use Rattle.cds_object.specs.Tree.{row_of, children_of, is_child_of, IdsAscend}
use Rattle.cds_base.proofs.Plain.{decimal-read}
use Rattle.cds_didl.specs.Filter.{filter_of}
use Rattle.cds_didl.specs.Fragment.{didl_text}
use Rattle.cds_soap.specs.declared.action.BrowseRequest.{BrowseRequest}
use Rattle.cds_soap.specs.declared.answer.Answer.{Answer}
use Rattle.cds_soap.specs.declared.answer.Answer.TheVariants as answer
use Rattle.cds_criteria.specs.Sorting.{ordered}
use Rattle.cds_criteria.proofs.Unique.{none_keep}
use Rattle.cds_store.specs.Views.{IdsFit}
use Rattle.cds_browse.specs.Paging.{row_named, ids_of, most_rows}
use Rattle.cds_browse.specs.Browsing.{row_answer, target_asked}
use Rattle.cds_browse.specs.declared.page.Page.{Page}
use Rattle.cds_browse.specs.declared.error.BrowseError.{BrowseError}
use Rattle.cds_browse.specs.declared.error.BrowseError.TheVariants.{NoContainer}
use Rattle.cds_browse.proofs.Alone.{alone}
use Rattle.cds_load.specs.declared.exchange.Shown.TheVariants.{Page as PageShown, Fault}
use Rattle.cds_browse.proofs.Named.{named_by}
use Rattle.cds_browse.proofs.Pages.{filtered_ascend}
use Rattle.cds_load.specs.Server.{Moment, page_size, update_of, metadata_reply, children_reply, reply_to}
use Rattle.cds_load.specs.declared.exchange.Ask.{Ask}
use Rattle.cds_load.specs.declared.exchange.Ask.TheVariants.{Token, Number, Metadata, Children}
use Rattle.cds_exchange.specs.Asking.{browse_of, action_of}
use Rattle.cds_exchange.specs.Honest.{IsPlainMoment, IsPlainRow, IsInRange, answer_saying}
use Rattle.cds_commands.specs.Commands.{Command}
use Rattle.cds_commands.specs.Names.{names_of}
use Rattle.cds_follow.specs.Given.{moment_after}
use Rattle.cds_script.specs.Report.{script_token}
use Rattle.cds_control.specs.Answering.{base_of, rows_with, page_answer, answer_to}
use Rattle.cds_control.specs.Published.{Published}
use Rattle.cds_control.proofs.PagesRows.{found-have}
use Rattle.cds_server.specs.Published.{token_of, published_by}
use Rattle.cds_replay.specs.Session.{script_start}
use Rattle.cds_replay.specs.Wire.{script_base}

-- ---- a row by its id

ids-fit : (rows : List ObjectRow) → AllByRecursion IsPlainRow rows → IdsFit rows
ids-fit [] all = tt
ids-fit (row ∷ rows) all = (all.0.ranges.id, ids-fit rows all.1)

named-row : (rows : List ObjectRow) (id : ℕ) → IdsFit rows → id < 2 ^ 32 → row_named (decimal id) rows ≡ row_of id rows
named-row rows id fit low =
    named_by (decimal id) id rows fit (decimal-read (2 ^ 32) id (omega arith) low) ((bytes_eq-Decides (decimal id) (decimal id)).1 refl)

-- ---- its page

map-length : (rows : List ObjectRow) → length (map (λ (r : ObjectRow). r.id) rows) ≡ length rows
map-length [] = refl
map-length (row ∷ rows) = ap suc (map-length rows)

everything : filter_of (codes "*") ≡ None
unfolding filter_of
everything = refl

-- what comes of a target, where one is asked for
abbrev with-target : {T R : Type 0} (asked : Option T) → (T → R) → R → R
with-target None gives other = other
with-target (Some target) gives other = gives target

module _ (host : List ℕ) (moment : Moment) (plain : IsPlainMoment moment) where
  abbrev rows : List ObjectRow
  rows = moment.rows

  ascend : IdsAscend rows
  ascend = plain.tree.ascending

  abbrev answered : Result Page BrowseError → Answer
  answered result = page_answer (codes "*") host rows result

  -- without keys the rows that match stay as they are
  kept : (test : ObjectRow → Bool) → ordered [] (filter test rows) ≡ filter test rows
  kept test = none_keep (filter test rows) (filtered_ascend test rows ascend)

  -- a page of rows that match is the page of these rows
  paged : (test : ObjectRow → Bool) (start total update : ℕ) (shown : List ObjectRow) → take page_size (drop start (filter test rows)) ≡ shown →
      answered (Ok (record { ids = ids_of (take (most_rows page_size) (drop start (ordered [] (filter test rows)))); total = total; update = update }))
      ≡ answer_saying (base_of host) (PageShown shown total update)
  paged test start total update shown are =
      let back : rows_with (map (λ (r : ObjectRow). r.id) (take page_size (drop start (filter test rows)))) rows ≡ take page_size (drop start (filter test rows)) =
      found-have rows test start page_size ascend in
      ap (λ (l : List ObjectRow). answered (Ok (record { ids = ids_of (take (most_rows page_size) (drop start l)); total = total; update = update }))) (kept test)
      ∙ (λ i. answer.Page (didl_text (everything i) (base_of host) (back i)) (map-length (take page_size (drop start (filter test rows))) i) total update)
      ∙ ap (λ (shown : List ObjectRow). answer.Page (didl_text None (base_of host) shown) (length shown) total update) are

  -- what a request is answered of an object, where there is one
  abbrev asked-row : BrowseRequest → Option ObjectRow → Result Page BrowseError
  asked-row asked o = with-target (target_asked asked) (λ target. row_answer moment.number rows asked target o) (Err NoContainer)

  itself : (id : ℕ) (o : Option ObjectRow) → id < 2 ^ 32 → row_of id rows ≡ o →
      answered (asked-row (browse_of id (codes "BrowseMetadata") 0) o) ≡ answer_saying (base_of host) (metadata_reply moment o)
  itself id None low e = refl
  itself id (Some row) low e =
      let one : filter (λ (other : ObjectRow). nat_eq other.id row.id) rows ≡ row ∷ [] =
      alone (decimal id) row rows ascend (named-row rows id (ids-fit rows plain.each) low ∙ e) in
      ap (λ total. answered (Ok (record {
        ids = ids_of (take (most_rows page_size) (drop 0 (ordered [] (filter (λ (other : ObjectRow). nat_eq other.id row.id) rows))));
        total = total;
        update = update_of moment row;
      }))) (ap length one)
      ∙ paged (λ (other : ObjectRow). nat_eq other.id row.id) 0 1 (update_of moment row) (row ∷ [])
      (ap (λ (found : List ObjectRow). take page_size (drop 0 found)) one)

  children : (id start : ℕ) (o : Option ObjectRow) → row_of id rows ≡ o →
      answered (asked-row (browse_of id (codes "BrowseDirectChildren") start) o) ≡ answer_saying (base_of host) (children_reply moment start o)
  children id start None e = refl
  children id start (Some row) e = by (is_folder row.content)
    where
      by : (f : Bool) →
          answered (cond f (Ok (record {
            ids = ids_of (take (most_rows page_size) (drop start (ordered [] (filter (is_child_of row.id) rows))));
            total = length (children_of row.id rows);
            update = update_of moment row;
          })) (Err NoContainer))
          ≡ answer_saying (base_of host)
          (cond f (PageShown (take page_size (drop start (children_of row.id rows))) (length (children_of row.id rows)) (update_of moment row)) (Fault 710))
      by true =
          paged (is_child_of row.id) start (length (children_of row.id rows)) (update_of moment row)
          (take page_size (drop start (children_of row.id rows))) refl
      by false = refl

  abbrev published : Published
  published = record { token = moment.token; number = moment.number; rows = rows }

  pub answers-say : (ask : Ask) → IsInRange ask → answer_to published host (action_of ask) ≡ answer_saying (base_of host) (reply_to moment ask)
  answers-say Token fits = refl
  answers-say Number fits = refl
  answers-say (Metadata id) fits =
      ap (λ o. answered (asked-row (browse_of id (codes "BrowseMetadata") 0) o)) (named-row rows id (ids-fit rows plain.each) fits)
      ∙ itself id (row_of id rows) fits refl
  answers-say (Children id start) fits =
      ap (λ o. answered (asked-row (browse_of id (codes "BrowseDirectChildren") start) o)) (named-row rows id (ids-fit rows plain.each) fits.0)
      ∙ children id start (row_of id rows) refl

-- ---- a script's server

token-is : (wrap first : ℕ) → token_of (names_of (script_start wrap first)) ≡ script_token
unfolding by_index
token-is wrap first = refl

pub server-says : (wrap first : ℕ) (commands : List Command) (ask : Ask) → IsPlainMoment (moment_after script_token first commands) → IsInRange ask →
    answer_to (published_by (script_start wrap first) commands) (codes "127.0.0.1:49152") (action_of ask) ≡ answer_saying script_base (reply_to (moment_after script_token first commands) ask)
server-says wrap first commands ask plain fits =
    ap (λ token. answer_to (record { token = token; number = (moment_after script_token first commands).number; rows = (moment_after script_token first commands).rows })
    (codes "127.0.0.1:49152") (action_of ask)) (token-is wrap first)
    ∙ answers-say (codes "127.0.0.1:49152") (moment_after script_token first commands) plain ask fits
