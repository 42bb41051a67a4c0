-- Elements and their written forms, computed.
use Rattle.std.specs.Prelude.{◌≡◌, ℕ, List, [], ◌∷◌, codes}
use Rattle.cds_markup.specs.declared.name.Name.{Name}
use Rattle.cds_markup.specs.declared.name.Attr.{Attr}
use Rattle.cds_markup.specs.Namespaces.{xml_space}
use Rattle.cds_markup.specs.Document.{Element, End, TextThen, ChildThen}
use Rattle.cds_markup.specs.Written.{written}

abbrev name : List ℕ → List ℕ → Name
name space local = record { space = space; local = local }

abbrev attr : List ℕ → List ℕ → List ℕ → Attr
attr space local value = record { name = name space local; value = value }

-- An element without a namespace, attributes and children has both its tags and declares nothing.
abbrev pub AloneHasBothTags : Type 0
AloneHasBothTags = written (Element (name [] (codes "a")) [] End) ≡ codes "<a></a>"

-- The namespace is declared if it differs from that around it, also if there is none any more.
abbrev pub NamespacesAreDeclared : Type 0
NamespacesAreDeclared =
    written (Element (name (codes "urn:u") (codes "a")) []
    (ChildThen (Element (name (codes "urn:u") (codes "b")) [] End)
    (ChildThen (Element (name [] (codes "c")) [] (ChildThen (Element (name [] (codes "d")) [] End) End))
    (ChildThen (Element (name (codes "urn:v") (codes "e")) [] End) End))))
    ≡ codes "<a xmlns=\"urn:u\"><b></b><c xmlns=\"\"><d></d></c><e xmlns=\"urn:v\"></e></a>"

-- The number in a prefix counts every attribute that has a namespace, also those of `xml`. An attribute of its element's
-- namespace has a prefix all the same.
abbrev pub PrefixesAreNumbered : Type 0
PrefixesAreNumbered =
    written (Element (name (codes "urn:u") (codes "a"))
    (attr [] (codes "b") (codes "1") ∷ attr (codes "urn:u") (codes "b") (codes "2")
    ∷ attr xml_space (codes "lang") (codes "en") ∷ attr (codes "urn:v") (codes "b") (codes "3") ∷ [])
    End)
    ≡ codes "<a xmlns=\"urn:u\" b=\"1\" xmlns:a1=\"urn:u\" a1:b=\"2\" xml:lang=\"en\" xmlns:a3=\"urn:v\" a3:b=\"3\"></a>"

-- Texts, values and namespaces are escaped.
abbrev pub TextsAreEscaped : Type 0
TextsAreEscaped =
    written (Element (name (codes "u&v") (codes "a")) (attr [] (codes "b") (codes "\"\n'") ∷ [])
    (TextThen (codes "x<y>\t") (ChildThen (Element (name (codes "u&v") (codes "c")) [] End) (TextThen (codes "]]>") End))))
    ≡ codes "<a xmlns=\"u&amp;v\" b=\"&quot;&#10;&apos;\">x&lt;y&gt;&#9;<c></c>]]&gt;</a>"

abbrev pub WrittenRows : Type 0
WrittenRows = AloneHasBothTags × NamespacesAreDeclared × PrefixesAreNumbered × TextsAreEscaped
