-- The names that were seen in a start tag: local names, each with its prefix or with its namespace and a hash of it.
use Rattle.std.specs.Prelude.{◌≡◌, ◌==◌, ℕ, Bool, not, ◌&&◌, ◌||◌, List}
use Rattle.std.specs.List.{list_any}
use Rattle.std.specs.Str.{bytes_eq}
use Rattle.std.specs.BTreeSet.{BTreeSet}
use denote.Ref.{Bor}
use Rattle.cds_markup.specs.declared.tag.TagAttr.{TagAttr}
use Rattle.cds_markup.specs.Namespaces.{is_empty, declares_prefix}

-- The set has the local name first, since namespaces are long and mostly the same. The hash is a number for each text, 0 for all
-- prefixes.
abbrev pub SeenName : Type 0
SeenName = Bor (List ℕ) × (ℕ × Bor (List ℕ))

-- Whether a name with this prefix or namespace is among them.
abbrev pub is_hashed : ℕ → List ℕ → ℕ → List ℕ → Bool
is_hashed hash space h s = hash == h && bytes_eq space s

abbrev pub is_among : List SeenName → ℕ → List ℕ → List ℕ → Bool
is_among names hash space local =
    list_any (λ name. is_hashed name.1.0 name.1.1.now hash space && bytes_eq name.0.now local) names

abbrev pub has_seen : BTreeSet SeenName → ℕ → List ℕ → List ℕ → Bool
has_seen seen hash space local = is_among seen.keys hash space local

-- One name is added.
abbrev pub Sees : BTreeSet SeenName → BTreeSet SeenName → ℕ → List ℕ → List ℕ → Type 0
Sees old new hash space local =
    (h : ℕ) (s l : List ℕ) → has_seen new h s l ≡ ((is_hashed hash space h s && bytes_eq local l) || has_seen old h s l)

-- An attribute of an element is in no namespace, unless it has a prefix.
abbrev pub is_prefixed : TagAttr → Bool
is_prefixed a = not (is_empty a.name.prefix) && not (declares_prefix a.name)
