-- Names with their namespaces (Namespaces in XML), and the rules that a start tag keeps. In this project's profile `xml` is never
-- declared, not even with its own name. Other prefixes may be declared with any name that is not empty.
use Rattle.std.specs.Prelude.{◌==◌, ℕ, Bool, true, not, ◌&&◌, ◌||◌, if◌then◌else◌, Option, Some, None, List, [], ◌∷◌, codes, map, filter, find, length}
use Rattle.std.specs.List.{list_all, list_any}
use Rattle.std.specs.Str.{bytes_eq}
use Rattle.cds_markup.specs.declared.name.Name.{Name}
use Rattle.cds_markup.specs.declared.name.Attr.{Attr}
use Rattle.cds_markup.specs.declared.tag.QName.{QName}
use Rattle.cds_markup.specs.declared.tag.TagAttr.{TagAttr}
use Rattle.cds_markup.specs.declared.tag.Tag.{Tag}
use Rattle.cds_markup.specs.declared.tag.Declaration.{Declaration}

abbrev pub is_empty : List ℕ → Bool
is_empty text = length text == 0

-- The namespace of the prefix `xml`, which is never declared.
abbrev pub xml_space : List ℕ
xml_space = codes "http://www.w3.org/XML/1998/namespace"

-- An attribute `xmlns` declares the namespace of names without a prefix. An attribute `xmlns:p` declares that of the prefix p.
abbrev pub declares_default : QName → Bool
declares_default q = is_empty q.prefix && bytes_eq q.local (codes "xmlns")

abbrev pub declares_prefix : QName → Bool
declares_prefix q = bytes_eq q.prefix (codes "xmlns")

abbrev pub is_declaration : TagAttr → Bool
is_declaration a = declares_default a.name || declares_prefix a.name

-- What it declares. The empty prefix stands for none.
abbrev pub declaration : TagAttr → Declaration
declaration a = record { prefix = if declares_default a.name then [] else a.name.local; space = a.value }

abbrev pub declarations : List TagAttr → List Declaration
declarations attrs = map declaration (filter is_declaration attrs)

-- The prefixes `xml` and `xmlns` are not declared, and no prefix is declared as empty.
abbrev pub is_sound : Declaration → Bool
is_sound d =
    not (bytes_eq d.prefix (codes "xml")) && not (bytes_eq d.prefix (codes "xmlns"))
    && (is_empty d.prefix || not (is_empty d.space))

-- What these declarations say of a prefix.
abbrev pub declared_as : Option Declaration → Option (List ℕ)
declared_as None = None
declared_as (Some d) = Some d.space

abbrev pub declared : List Declaration → List ℕ → Option (List ℕ)
declared ds prefix = declared_as (find (λ d. bytes_eq d.prefix prefix) ds)

-- The declarations of the open elements, from the innermost to the root. The innermost that speaks of a prefix counts.
abbrev pub or_outer : Option (List ℕ) → Option (List ℕ) → Option (List ℕ)
or_outer (Some space) outer = Some space
or_outer None outer = outer

abbrev pub declared_in : List (List Declaration) → List ℕ → Option (List ℕ)
declared_in [] prefix = None
declared_in (ds ∷ outer) prefix = or_outer (declared ds prefix) (declared_in outer prefix)

-- The namespace of a prefix. If nothing is declared, a name without a prefix is in no namespace.
abbrev pub otherwise_none : List ℕ → Option (List ℕ) → Option (List ℕ)
otherwise_none prefix (Some space) = Some space
otherwise_none prefix None = if is_empty prefix then Some [] else None

abbrev pub space_of : List (List Declaration) → List ℕ → Option (List ℕ)
space_of scopes prefix =
    if bytes_eq prefix (codes "xml") then Some xml_space else otherwise_none prefix (declared_in scopes prefix)

-- The name of an element, and that of an attribute. An attribute without a prefix is in no namespace.
abbrev pub in_space : List ℕ → Option (List ℕ) → Option Name
in_space local None = None
in_space local (Some space) = Some record { space = space; local = local }

abbrev pub element_name : List (List Declaration) → QName → Option Name
element_name scopes q = in_space q.local (space_of scopes q.prefix)

abbrev pub attr_name : List (List Declaration) → QName → Option Name
attr_name scopes q = if is_empty q.prefix then in_space q.local (Some []) else element_name scopes q

-- The attributes of an element, without the declarations. There are none if a prefix is not declared.
abbrev pub with_value : List ℕ → Option Name → Option Attr
with_value value None = None
with_value value (Some name) = Some record { name = name; value = value }

abbrev pub and_more : Option Attr → Option (List Attr) → Option (List Attr)
and_more None more = None
and_more (Some attr) None = None
and_more (Some attr) (Some more) = Some (attr ∷ more)

abbrev pub named_attrs : List (List Declaration) → List TagAttr → Option (List Attr)
named_attrs scopes [] = Some []
named_attrs scopes (a ∷ more) =
    if is_declaration a then named_attrs scopes more
    else and_more (with_value a.value (attr_name scopes a.name)) (named_attrs scopes more)

-- Two qualified names that are written alike, and two names that are the same.
abbrev pub same_qname : QName → QName → Bool
same_qname p q = bytes_eq p.prefix q.prefix && bytes_eq p.local q.local

abbrev pub same_name : Name → Name → Bool
same_name m n = bytes_eq m.space n.space && bytes_eq m.local n.local

abbrev pub no_attr_twice : List TagAttr → Bool
no_attr_twice [] = true
no_attr_twice (a ∷ more) = not (list_any (λ b. same_qname a.name b.name) more) && no_attr_twice more

abbrev pub no_name_twice : List Attr → Bool
no_name_twice [] = true
no_name_twice (a ∷ more) = not (list_any (λ b. same_name a.name b.name) more) && no_name_twice more

-- What a start tag says in the scopes of the elements around it: the element's name and its attributes. It says nothing if it
-- breaks one of these rules:
-- - Each prefix that it uses is declared.
-- - No qualified name comes twice among its attributes.
-- - No two of them have the same namespace and local name.
-- - No prefix is declared as empty.
-- - Neither `xml` nor `xmlns` is declared.
abbrev pub where_once : Option Name → Option (List Attr) → Option (Name × List Attr)
where_once None attrs = None
where_once (Some name) None = None
where_once (Some name) (Some attrs) = if no_name_twice attrs then Some (name, attrs) else None

abbrev pub keeps_rules : List TagAttr → Bool
keeps_rules attrs = list_all is_sound (declarations attrs) && no_attr_twice attrs

abbrev pub tag_says : List (List Declaration) → Tag → Option (Name × List Attr)
tag_says outer t =
    let scopes = declarations t.attrs ∷ outer in
    if keeps_rules t.attrs then where_once (element_name scopes t.name) (named_attrs scopes t.attrs) else None
