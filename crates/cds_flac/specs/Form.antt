-- The form of a FLAC file's metadata as RFC 9639 states it: a marker and a list of blocks. The first is STREAMINFO, and the first
-- of type VORBIS_COMMENT has the comments.
use Rattle.std.specs.Prelude.{◌≡◌, ◌≢◌, ◌==◌, ℕ, ◌≤◌, Bool, true, false, Option, Some, None, MatchOption, List, [], ◌∷◌, ◌++◌, length, map, find, Result, Ok, Err, ⊤}
use Rattle.std.specs.List.{flat_map}
use Rattle.std.specs.Str.{is_utf8}
use Rattle.cds_flac.specs.declared.error.FlacError.{FlacError}
use Rattle.cds_flac.specs.declared.error.FlacError.TheVariants.{ReadFault, Mem}
use Rattle.cds_object.specs.declared.info.Comment.{Comment}
use Rattle.cds_object.specs.declared.info.FlacInfo.{FlacInfo}
use Rattle.cds_flac.specs.Numbers.{big_endian, little_endian, sound_bits}
use Rattle.cds_flac.specs.Comment.{comment_of}
use Rattle.cds_flac.specs.Reading.{kind_of, is_last, marker, metadata_limit, info_of}

-- A metadata block: the first byte of its header, the bytes of its length, and its body.
pub record Block : Type 0 where
  pub head : ℕ
  pub size : List ℕ
  pub body : List ℕ

abbrev pub block_bytes : Block → List ℕ
block_bytes b = b.head ∷ (b.size ++ b.body)

-- Its three bytes of length, the highest first, say how long the body is, and its type is not the forbidden one.
pub record IsBlock (b : Block) : Type 0 where
  pub size_bytes : length b.size ≡ 3
  pub size_says : big_endian b.size ≡ length b.body
  pub allowed : kind_of b.head ≢ 127

abbrev pub EachIsBlock : List Block → Type 0
EachIsBlock [] = Unit {0}
EachIsBlock (b ∷ more) = IsBlock b × EachIsBlock more

-- The last block says that it is the last, and no other does.
abbrev pub LastIsLast : Block → List Block → Type 0
LastIsLast b [] = is_last b.head ≡ true
LastIsLast b (next ∷ more) = (is_last b.head ≡ false) × LastIsLast next more

-- A text after the bytes of its length.
pub record Field : Type 0 where
  pub size : List ℕ
  pub text : List ℕ

abbrev pub field_bytes : Field → List ℕ
field_bytes f = f.size ++ f.text

-- Its four bytes of length, the lowest first, say how long the text is.
pub record IsField (f : Field) : Type 0 where
  pub size_bytes : length f.size ≡ 4
  pub size_says : little_endian f.size ≡ length f.text

abbrev pub EachIsField : List Field → Type 0
EachIsField [] = Unit {0}
EachIsField (f ∷ more) = IsField f × EachIsField more

-- The body of a VORBIS_COMMENT block says these comments: a vendor in UTF-8, the count of the comments in four bytes, each as a
-- text in its form, and some bytes left over.
pub record SaysComments (body : List ℕ) (comments : List Comment) : Type 0 where
  pub vendor : Field
  pub count : List ℕ
  pub fields : List Field
  pub over : List ℕ
  pub spelled : body ≡ field_bytes vendor ++ (count ++ (flat_map field_bytes fields ++ over))
  pub vendor_is_field : IsField vendor
  pub vendor_is_text : is_utf8 vendor.text ≡ true
  pub count_bytes : length count ≡ 4
  pub count_says : little_endian count ≡ length fields
  pub each_is_field : EachIsField fields
  pub each_in_form : map (λ f. comment_of f.text) fields ≡ map Some comments

abbrev pub is_comment_block : Block → Bool
is_comment_block b = kind_of b.head == 4

-- The comments of these blocks are those of the first VORBIS_COMMENT block, if there is one.
abbrev pub FirstComments : List Block → Option (List Comment) → Type 0
FirstComments blocks found =
    MatchOption (find is_comment_block blocks) (found ≡ None)
    (λ b. (comments : List Comment) × (found ≡ Some comments) × SaysComments b.body comments)

-- The bytes are the metadata of a file, with this rest after it, and say this.
pub record IsMetadata (bytes rest : List ℕ) (info : FlacInfo) : Type 0 where
  pub first : Block
  pub more : List Block
  pub found : Option (List Comment)
  pub spelled : bytes ≡ marker ++ (flat_map block_bytes (first ∷ more) ++ rest)
  pub each_is_block : EachIsBlock (first ∷ more)
  pub last_is_last : LastIsLast first more
  pub within : length (flat_map block_bytes (first ∷ more)) ≤ metadata_limit
  pub stream_kind : kind_of first.head ≡ 0
  pub stream_length : length first.body ≡ 34
  pub comments : FirstComments more found
  pub says : info ≡ info_of (sound_bits first.body) found

-- The bytes begin with a file's metadata that says this, and the source has left what comes after it.
abbrev pub BeginsWith : List ℕ → FlacInfo → Option (List ℕ) → Type 0
BeginsWith bytes info left = (rest : List ℕ) × IsMetadata bytes rest info × (left ≡ Some rest)

-- The result is this, except a failed read or that memory ran out.
abbrev pub ReadAs : FlacInfo → Result FlacInfo FlacError → Type 0
ReadAs info (Ok found) = found ≡ info
ReadAs info (Err ReadFault) = ⊤
ReadAs info (Err Mem) = ⊤
ReadAs info (Err refusal) = ⊥

-- Bytes that begin with a file's metadata are read as what it says.
abbrev pub ReadsWhatBegins : List ℕ → Result FlacInfo FlacError → Type 0
ReadsWhatBegins bytes result = (rest : List ℕ) (info : FlacInfo) → IsMetadata bytes rest info → ReadAs info result
