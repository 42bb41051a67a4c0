-- The variables of one name as they come: how many, and their own texts one after the other.
use Rattle.std.specs.Prelude.{◌==◌, ◌+◌, ℕ, Bool, if◌then◌else◌, Option, Some, None, List, [], ◌++◌}

pub record Texts : Type 0 where
  pub count : ℕ
  pub text : List ℕ

abbrev pub texts : ℕ → List ℕ → Texts
texts count text = record { count = count; text = text }

abbrev pub no_texts : Texts
no_texts = texts 0 []

-- one more, if one begins, and a run of text, if it stands in one
abbrev pub counted : Bool → Texts → Texts
counted begins t = if begins then texts (t.count + 1) t.text else t

abbrev pub run_kept : Bool → List ℕ → Texts → Texts
run_kept inside run t = if inside then texts t.count (t.text ++ run) else t

-- the text, if exactly one came
abbrev pub only_text : Texts → Option (List ℕ)
only_text t = if t.count == 1 then Some t.text else None
