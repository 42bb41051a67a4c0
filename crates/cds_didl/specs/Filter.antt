-- Which properties are written of objects (UPnP ContentDirectory:4 on the filter of Browse and Search).
use Rattle.std.specs.Prelude.{◌≡◌, ◌==◌, ℕ, Bool, true, ◌||◌, if◌then◌else◌, Option, Some, None, List, [], ◌∷◌, codes, drop, map}
use Rattle.std.specs.List.{slice_split, list_any, prefix_len, filter_map}
use Rattle.std.specs.Str.{bytes_eq}

-- A name without the spaces before and after it.
abbrev pub without_front : List ℕ → List ℕ
without_front text = drop (prefix_len (λ b. b == 32) text) text

abbrev pub or_none : ℕ → List ℕ → List ℕ
or_none b [] = if b == 32 then [] else b ∷ []
or_none b (c ∷ rest) = b ∷ c ∷ rest

abbrev pub without_back : List ℕ → List ℕ
without_back [] = []
without_back (b ∷ rest) = or_none b (without_back rest)

abbrev pub trimmed : List ℕ → List ℕ
trimmed text = without_back (without_front text)

-- The names that a text has between its commas.
abbrev pub names_of : List ℕ → List (List ℕ)
names_of text = map trimmed (slice_split (λ b. b == 44) text)

-- Whether a name is among names.
abbrev pub has_name : List (List ℕ) → List ℕ → Bool
has_name names name = list_any (λ n. bytes_eq n name) names

-- The names of all properties that a filter can leave out of an object. Any other name says nothing.
abbrev pub known : List (List ℕ)
known =
    codes "@searchable" ∷ codes "container@searchable" ∷ codes "@childCount" ∷ codes "container@childCount"
    ∷ codes "upnp:objectUpdateID" ∷ codes "upnp:containerUpdateID" ∷ codes "upnp:totalDeletedChildCount"
    ∷ codes "upnp:artist" ∷ codes "upnp:album" ∷ codes "upnp:genre" ∷ codes "upnp:originalTrackNumber"
    ∷ codes "res" ∷ codes "res@protocolInfo" ∷ codes "res@size" ∷ codes "res@duration"
    ∷ codes "res@sampleFrequency" ∷ codes "res@bitsPerSample" ∷ codes "res@nrAudioChannels" ∷ []

unfoldable pub is_known : List ℕ → Bool
is_known name = has_name known name

-- Of all known names, these names have just those that the others have.
pub record HaveTheKnown (these others : List (List ℕ)) : Type 0 where
  pub same : (name : List ℕ) → is_known name ≡ true → has_name these name ≡ has_name others name

-- A name, if it is among names.
abbrev pub name_in : List (List ℕ) → List ℕ → Option (List ℕ)
name_in names name = if has_name names name then Some name else None

-- The known ones among names, each once. To evaluate it by `filter` would double the steps with each known name.
abbrev pub known_in : List (List ℕ) → List (List ℕ)
known_in names = filter_map (name_in names) known

-- What a filter lets through. The text `*` lets everything through, which `None` says. Any other text lets through those of its
-- names that are known.
unfoldable pub filter_of : List ℕ → Option (List (List ℕ))
filter_of text = if bytes_eq text (codes "*") then None else Some (known_in (names_of text))

-- The same with all names of the text, known or not.
abbrev pub all_named : List ℕ → Option (List (List ℕ))
all_named text = if bytes_eq text (codes "*") then None else Some (names_of text)

-- Whether a property of this name is written.
abbrev pub wants : Option (List (List ℕ)) → List ℕ → Bool
wants None name = true
wants (Some names) name = has_name names name

-- Whether one of two names is wanted. An attribute of a container may be named with or without its element.
abbrev pub wants_either : Option (List (List ℕ)) → List ℕ → List ℕ → Bool
wants_either filter name other = wants filter name || wants filter other

-- An attribute of a resource is written if it is named, or if the whole resource is.
abbrev pub wants_of_resource : Option (List (List ℕ)) → List ℕ → Bool
wants_of_resource filter name = wants_either filter (codes "res") name

-- A resource is written if anything of it is named.
unfoldable pub wants_resource : Option (List (List ℕ)) → Bool
wants_resource filter =
    wants filter (codes "res") || wants filter (codes "res@protocolInfo") || wants filter (codes "res@size")
    || wants filter (codes "res@duration") || wants filter (codes "res@sampleFrequency")
    || wants filter (codes "res@bitsPerSample") || wants filter (codes "res@nrAudioChannels")
