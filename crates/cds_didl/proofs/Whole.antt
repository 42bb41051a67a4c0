-- With everything let through and an empty base, the text of a row is that of the report.
use Rattle.std.proofs.Common.{◌≡◌, ℕ, List, [], ◌++◌, codes, decimal, Option, Some, None, refl, ap, sym, ◌∙◌, append_assoc}
use Rattle.cds_object.specs.Writing.{number_attribute, number_element, text_element}
use Rattle.cds_object.specs.declared.content.Content.{Content}
use Rattle.cds_object.specs.declared.content.Content.TheVariants.{Folder, Track}
use Rattle.cds_object.specs.declared.row.Trackers.{Trackers}
use Rattle.cds_object.specs.Object.{ObjectRow}
use Rattle.cds_object.specs.Fragment.{object_attributes, container_text, item_text, item_front, container_front, trackers_text, resource_attributes, sound_attributes, resource_text, work_text, fragment}
use Rattle.cds_didl.specs.Filter.{wants_resource}
use Rattle.cds_didl.specs.Fragment.{text_of, container_attributes, container_start, trackers_wanted, container_wanted, sound_wanted, resource_attributes_wanted, place_text, resource_wanted, work_wanted, item_wanted, fragment_of, ReportIsTheWhole}

-- the text of the report by a row's content
abbrev of_content : ObjectRow → Content → Option Trackers → List ℕ
of_content row (Folder title) None = []
of_content row (Folder title) (Some trackers) = container_text row title trackers
of_content row (Track track) trackers = item_text row track

-- pieces put together otherwise
start-again : (a o s p d q g : List ℕ) → (a ++ ((o ++ s) ++ ((p ++ d) ++ q))) ++ g ≡ (((a ++ o) ++ (s ++ p)) ++ d) ++ (q ++ g)
start-again a o s p d q g =
    let y = (p ++ d) ++ q in
    let flat : y ++ g ≡ p ++ (d ++ (q ++ g)) = append_assoc (p ++ d) q g ∙ append_assoc p d (q ++ g) in
    let left : (a ++ ((o ++ s) ++ y)) ++ g ≡ a ++ (o ++ (s ++ (p ++ (d ++ (q ++ g))))) =
    append_assoc a ((o ++ s) ++ y) g
    ∙ ap (λ x. a ++ x) (append_assoc (o ++ s) y g ∙ append_assoc o s (y ++ g) ∙ ap (λ x. o ++ (s ++ x)) flat) in
    let right : (((a ++ o) ++ (s ++ p)) ++ d) ++ (q ++ g) ≡ a ++ (o ++ (s ++ (p ++ (d ++ (q ++ g))))) =
    append_assoc ((a ++ o) ++ (s ++ p)) d (q ++ g)
    ∙ append_assoc (a ++ o) (s ++ p) (d ++ (q ++ g))
    ∙ append_assoc a o ((s ++ p) ++ (d ++ (q ++ g)))
    ∙ ap (λ x. a ++ (o ++ x)) (append_assoc s p (d ++ (q ++ g))) in
    left ∙ sym right

place-again : (a g m d : List ℕ) → (a ++ g) ++ (m ++ d) ≡ (a ++ (g ++ m)) ++ d
place-again a g m d =
    append_assoc a g (m ++ d) ∙ ap (λ x. a ++ x) (sym (append_assoc g m d)) ∙ sym (append_assoc a (g ++ m) d)

pub report-is-the-whole : ReportIsTheWhole
unfolding number_attribute container_front trackers_text resource_attributes sound_attributes resource_text work_text wants_resource container_attributes container_start trackers_wanted container_wanted sound_wanted resource_attributes_wanted place_text resource_wanted work_wanted item_wanted
report-is-the-whole row = by row.content row.trackers
  where
    by : (content : Content) (trackers : Option Trackers) → text_of None [] row content trackers ≡ of_content row content trackers
    by (Folder title) None = refl
    by (Folder title) (Some trackers) =
        ap (λ x. ((((x ++ text_element (codes "dc:title") title) ++ codes "<upnp:class>object.container</upnp:class>") ++ trackers_text row.object_update trackers) ++ codes "</container>"))
        (start-again (codes "<container") (object_attributes row) (codes " searchable=\"1\"") (codes " childCount=\"") (decimal trackers.child_count) (codes "\"") (codes ">"))
    by (Track track) trackers =
        ap (λ x. ((((item_front row track ++ work_text track) ++ number_element (codes "upnp:objectUpdateID") row.object_update) ++ (x ++ codes "</res>")) ++ codes "</item>"))
        (place-again (codes "<res" ++ resource_attributes track) (codes ">") (codes "/media/") (decimal row.id))

pub whole_text : (row : ObjectRow) → fragment_of None [] row ≡ fragment row
whole_text = report-is-the-whole
