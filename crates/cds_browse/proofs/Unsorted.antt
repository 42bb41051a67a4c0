-- A page of children without sort keys, and which page each target has.
use Rattle.std.proofs.Common.{◌≡◌, ◌==◌, ℕ, true, Some, List, [], take, drop, length, sym, ◌∙◌, ap, subst, arith}
use Rattle.std.proofs.lemmas.Bool.Decides.{nat_tests}
use Rattle.std.proofs.lemmas.List.{nil_from_length}
use Rattle.cds_object.specs.Object.{ObjectRow}
use Rattle.cds_object.specs.Tree.{row_of, is_container_row, is_child_of, children_of, IdsAscend}
use Rattle.cds_criteria.specs.Sorting.{ordered}
use Rattle.cds_criteria.specs.declared.sort.SortKey.{SortKey}
use Rattle.cds_criteria.proofs.Unique.{none_keep}
use Rattle.cds_browse.specs.declared.page.Target.{Target}
use Rattle.cds_browse.specs.declared.page.Target.TheVariants.{Children}
use Rattle.cds_object.specs.Updates.{update_of}
use Rattle.cds_browse.specs.Paging.{row_named, ids_of, most_rows, page_of}
use Rattle.cds_browse.specs.Browsing.{can_answer, matches}
use Rattle.cds_browse.proofs.Alone.{made, same_page}
use Rattle.cds_browse.proofs.Named.{named_row}
use Rattle.cds_browse.proofs.Pages.{filtered_ascend}

no_keys : (keys : List SortKey) → (length keys == 0) ≡ true → keys ≡ []
no_keys keys none = nil_from_length keys (grind (arith, nat_tests, none))

unsorted : (keys : List SortKey) (id : ℕ) (rows : List ObjectRow) → IdsAscend rows → (length keys == 0) ≡ true → children_of id rows ≡ ordered keys (children_of id rows)
unsorted keys id rows ascend none =
    sym (ap (λ (k : List SortKey). ordered k (children_of id rows)) (no_keys keys none) ∙ none_keep (children_of id rows) (filtered_ascend (is_child_of id) rows ascend))

pub children_page : (number : ℕ) (rows : List ObjectRow) (row : ObjectRow) (keys : List SortKey) (start count id update : ℕ) (target : Target) → IdsAscend rows
    → target ≡ Children → (length keys == 0) ≡ true → id ≡ row.id → update ≡ update_of number row rows
    → made (ids_of (take (most_rows count) (drop start (children_of id rows)))) (length (children_of id rows)) update
    ≡ page_of number rows row keys start count (matches target row rows)
children_page number rows row keys start count id update target ascend is none same told =
    same_page (ids_of (take (most_rows count) (drop start (children_of id rows)))) (ids_of (take (most_rows count) (drop start (ordered keys (children_of row.id rows)))))
    (length (children_of id rows)) (length (children_of row.id rows)) update (update_of number row rows)
    (ap (λ n. ids_of (take (most_rows count) (drop start (children_of n rows)))) same
    ∙ ap (λ (l : List ObjectRow). ids_of (take (most_rows count) (drop start l))) (unsorted keys row.id rows ascend none))
    (ap (λ n. length (children_of n rows)) same) told
    ∙ ap (λ (t : Target). page_of number rows row keys start count (matches t row rows)) (sym is)

-- what is asked of the children of a row is asked of a container
pub is_container : (text : List ℕ) (row : ObjectRow) (rows : List ObjectRow) (id : ℕ) (target : Target) → row_named text rows ≡ Some row → can_answer target row ≡ true
    → target ≡ Children → id ≡ row.id → is_container_row (row_of id rows) ≡ true
is_container text row rows id target found has is same =
    ap (λ n. is_container_row (row_of n rows)) same ∙ ap is_container_row (named_row text row rows found) ∙ subst (λ (t : Target). can_answer t row ≡ true) is has
