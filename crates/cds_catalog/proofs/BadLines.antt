-- The line of the first record that cannot stand.
use Rattle.std.proofs.Common.{◌≡◌, ℕ, ◌+◌, Bool, true, false, cond, List, [], ◌∷◌, ◌++◌, length, Option, Some, None, refl, sym, ap, ◌∙◌}
use Rattle.std.specs.Option.{option_map}
use Rattle.cds_object.specs.First.{NoneRefused}
use Rattle.cds_object.specs.declared.record.Record.{Record}
use Rattle.cds_object.proofs.Firsts.{walk, walk_finds, walk_passes, found_by_walk, passed_by_walk}
use Rattle.cds_catalog.specs.Scans.{is_bad, bad_from, bad_record}
use Rattle.cds_catalog.specs.Laws.{IsBadLine, bad_records_have_their_line}

-- the definition is the walk, with the line of what it finds
abbrev Walked : List Record → List Record → List Record → Type 0
Walked records before rest = bad_from records before rest ≡ option_map (λ b. length b + 1) (walk (is_bad records) before rest)

as_walk : (records before rest : List Record) → Walked records before rest
as_walk records before [] = refl
as_walk records before (r ∷ rest) = by (is_bad records before r) (as_walk records (before ++ r ∷ []) rest) where
  by : (b : Bool) → Walked records (before ++ r ∷ []) rest
      → cond b (Some (length before + 1)) (bad_from records (before ++ r ∷ []) rest) ≡ option_map (λ b. length b + 1) (cond b (Some before) (walk (is_bad records) (before ++ r ∷ []) rest))
  by true more = refl
  by false more = more

named : (records : List Record) (line : ℕ) → bad_record records ≡ Some line → IsBadLine records line
named records line e = by (walk (is_bad records) [] records) refl (sym (as_walk records [] records) ∙ e) where
  by : (o : Option (List Record)) → walk (is_bad records) [] records ≡ o → option_map (λ b. length b + 1) o ≡ Some line → IsBadLine records line
  by None is e = absurd (cc)
  by (Some before) is e =
      let first = walk_finds (is_bad records) records before is in
      let place : line ≡ length before + 1 = cc in
      record { before = before; bad = first.0; rest = first.1; first = first.2; place = place }

line_of : (records : List Record) (line : ℕ) → IsBadLine records line → bad_record records ≡ Some line
line_of records line is =
    as_walk records [] records
    ∙ ap (option_map (λ b. length b + 1)) (found_by_walk (is_bad records) records is.before is.bad is.rest is.first)
    ∙ ap Some (sym is.place)

all_stand : (records : List Record) → bad_record records ≡ None → NoneRefused (is_bad records) records
all_stand records e = walk_passes (is_bad records) records (by (walk (is_bad records) [] records) refl (sym (as_walk records [] records) ∙ e)) where
  by : (o : Option (List Record)) → walk (is_bad records) [] records ≡ o → option_map (λ b. length b + 1) o ≡ None → walk (is_bad records) [] records ≡ None
  by None is e = is
  by (Some before) is e = absurd (cc)

none_named : (records : List Record) → NoneRefused (is_bad records) records → bad_record records ≡ None
none_named records none = as_walk records [] records ∙ ap (option_map (λ b. length b + 1)) (passed_by_walk (is_bad records) records none)

pub bad_lines : bad_records_have_their_line
bad_lines = (λ records line. (named records line, line_of records line), λ records. (all_stand records, none_named records))
