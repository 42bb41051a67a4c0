-- Why the metadata of a FLAC file is refused, said of its form and of no reader (RFC 9639): what comes before the fault is in its
-- form, and the fault comes after it. Places are counted in bytes from the start of the file.
use Rattle.std.specs.Prelude.{◌≡◌, ◌≢◌, ◌⊎◌, ℕ, zero, suc, ◌+◌, ◌≤◌, ◌<◌, true, false, Option, None, List, [], ◌∷◌, ◌++◌, length, find, Result, Ok, Err, ⊤}
use Rattle.std.specs.List.{flat_map}
use Rattle.std.specs.Str.{is_utf8}
use Rattle.cds_flac.specs.declared.error.FlacError.{FlacError}
use Rattle.cds_flac.specs.declared.error.FlacError.TheVariants.{NotFlac, NoStreamInfo, BadStreamInfo, Forbidden, Truncated, BadComment, TooLong, ReadFault, Mem}
use Rattle.cds_object.specs.declared.info.Comment.{Comment}
use Rattle.cds_object.specs.declared.info.FlacInfo.{FlacInfo}
use Rattle.cds_flac.specs.Numbers.{big_endian, little_endian}
use Rattle.cds_flac.specs.Comment.{comment_of}
use Rattle.cds_flac.specs.Reading.{kind_of, is_last, marker, metadata_limit}
use Rattle.cds_flac.specs.Form.{Block, block_bytes, EachIsBlock, Field, field_bytes, IsField, EachIsField, is_comment_block, FirstComments}

-- None of these blocks says that it is the last.
abbrev pub NoneIsLast : List Block → Type 0
NoneIsLast [] = ⊤
NoneIsLast (b ∷ more) = (is_last b.head ≡ false) × NoneIsLast more

-- The first block, if there is one, is STREAMINFO.
abbrev pub StartsWithStream : List Block → Type 0
StartsWithStream [] = ⊤
StartsWithStream (b ∷ more) = (kind_of b.head ≡ 0) × (length b.body ≡ 34)

-- How many bytes blocks take, and the bytes of the marker and the blocks.
abbrev pub size_of : List Block → ℕ
size_of blocks = length (flat_map block_bytes blocks)

abbrev pub front_bytes : List Block → List ℕ
front_bytes blocks = marker ++ flat_map block_bytes blocks

-- These are the first blocks of a file, and another has to follow them.
pub record AreFront (blocks : List Block) : Type 0 where
  pub each_is_block : EachIsBlock blocks
  pub none_is_last : NoneIsLast blocks
  pub stream : StartsWithStream blocks
  pub found : Option (List Comment)
  pub comments : FirstComments blocks found
  pub within : size_of blocks ≤ metadata_limit

-- The first byte of a header may follow these blocks: the first block has to be STREAMINFO, and no type is forbidden.
pub record IsHead (blocks : List Block) (head : ℕ) : Type 0 where
  pub allowed : kind_of head ≢ 127
  pub stream : blocks ≡ [] → kind_of head ≡ 0

-- A header may follow these blocks: STREAMINFO has 34 bytes, and the block stays within the limit.
pub record IsHeader (blocks : List Block) (head : ℕ) (size : List ℕ) : Type 0 where
  pub is_head : IsHead blocks head
  pub size_bytes : length size ≡ 3
  pub stream : blocks ≡ [] → big_endian size ≡ 34
  pub within : size_of blocks + 4 + big_endian size ≤ metadata_limit

-- A block with this first byte, after these blocks, is the one that has the comments.
abbrev pub HasComments : List Block → ℕ → Type 0
HasComments blocks head = (kind_of head ≡ 4) × (find is_comment_block blocks ≡ None)

-- What comes next in a block of comments: the vendor; the count; or this many comments and then what is left over.
pub data Next : Type 0 where
  Vendor : Next
  Count : Next
  Comments : ℕ → Next

-- The texts are comments.
abbrev pub AreComments : List Field → Type 0
AreComments [] = ⊤
AreComments (f ∷ more) = (comment_of f.text ≢ None) × AreComments more

-- The bytes from the start of a block of comments on are in their form, and this comes next.
abbrev pub IsVendor : Field → Type 0
IsVendor vendor = IsField vendor × (is_utf8 vendor.text ≡ true)

pub record AreSome (bytes : List ℕ) (more : ℕ) : Type 0 where
  pub vendor : Field
  pub count : List ℕ
  pub fields : List Field
  pub spelled : bytes ≡ field_bytes vendor ++ (count ++ flat_map field_bytes fields)
  pub is_vendor : IsVendor vendor
  pub count_bytes : length count ≡ 4
  pub count_says : little_endian count ≡ length fields + more
  pub each_is_field : EachIsField fields
  pub each_in_form : AreComments fields

abbrev pub ComesNext : List ℕ → Next → Type 0
ComesNext bytes Vendor = bytes ≡ []
ComesNext bytes Count = (vendor : Field) × (bytes ≡ field_bytes vendor) × IsVendor vendor
ComesNext bytes (Comments more) = AreSome bytes more

-- A text is not in the form of what comes next.
abbrev pub IsNotInForm : Next → List ℕ → Type 0
IsNotInForm Vendor text = is_utf8 text ≡ false
IsNotInForm Count text = ⊥
IsNotInForm (Comments zero) text = ⊥
IsNotInForm (Comments (suc more)) text = comment_of text ≡ None

-- A length or a count stands next, or a length alone.
abbrev pub IsNumberNext : Next → Type 0
IsNumberNext Vendor = ⊤
IsNumberNext Count = ⊤
IsNumberNext (Comments zero) = ⊥
IsNumberNext (Comments (suc more)) = ⊤

abbrev pub IsLengthNext : Next → Type 0
IsLengthNext Vendor = ⊤
IsLengthNext Count = ⊥
IsLengthNext (Comments zero) = ⊥
IsLengthNext (Comments (suc more)) = ⊤

-- What comes next, if this many bytes of the block are left, is a fault. The length or count field reaches past the block, or the
-- text after the length does, or the text is whole and not in its form.
abbrev pub IsBad : Next → ℕ → List ℕ → Type 0
IsBad next room bytes =
    (IsNumberNext next × (room < 4))
    ⊎ (IsLengthNext next × ((size : List ℕ) × (rest : List ℕ) × (bytes ≡ size ++ rest) × (length size ≡ 4) × (4 ≤ room) × (room < 4 + little_endian size)))
    ⊎ ((f : Field) × (rest : List ℕ) × (bytes ≡ field_bytes f ++ rest) × IsField f × (length (field_bytes f) ≤ room) × IsNotInForm next f.text)

-- The file ends within what comes next, of which nothing is a fault: within the length or the count, within the text, or within
-- what is left over.
abbrev pub IsCutWithin : Next → ℕ → List ℕ → Type 0
IsCutWithin next room bytes =
    (IsNumberNext next × (4 ≤ room) × (length bytes < 4))
    ⊎ (IsLengthNext next × ((size : List ℕ) × (text : List ℕ) × (bytes ≡ size ++ text) × (length size ≡ 4) × (4 + little_endian size ≤ room) × (length text < little_endian size)))
    ⊎ ((next ≡ Comments 0) × (length bytes < room))

-- A block of comments with this many bytes has a fault at the end of these bytes of it. They are in their form, and what comes
-- after them is not.
abbrev pub AreBadComments : ℕ → List ℕ → List ℕ → Type 0
AreBadComments n before bytes = (next : Next) × (room : ℕ) × ComesNext before next × (n ≡ length before + room) × IsBad next room bytes

-- A block of comments with this many bytes has only these in the file, and none of them is a fault.
abbrev pub AreCutComments : ℕ → List ℕ → Type 0
AreCutComments n bytes =
    (before : List ℕ) × (here : List ℕ) × (next : Next) × (room : ℕ)
    × (bytes ≡ before ++ here) × ComesNext before next × (n ≡ length before + room) × IsCutWithin next room here

-- The source ends within the header of a block after these blocks.
abbrev pub IsPartOfHeader : List Block → List ℕ → Type 0
IsPartOfHeader blocks [] = ⊤
IsPartOfHeader blocks (head ∷ size) = IsHead blocks head × (length size < 3)

pub record EndsInHeader (bytes : List ℕ) : Type 0 where
  pub blocks : List Block
  pub here : List ℕ
  pub are_front : AreFront blocks
  pub spelled : bytes ≡ front_bytes blocks ++ here
  pub is_part : IsPartOfHeader blocks here

-- It ends within the body of a block.
pub record EndsInBody (bytes : List ℕ) : Type 0 where
  pub blocks : List Block
  pub head : ℕ
  pub size : List ℕ
  pub here : List ℕ
  pub are_front : AreFront blocks
  pub is_header : IsHeader blocks head size
  pub spelled : bytes ≡ front_bytes blocks ++ (head ∷ (size ++ here))
  pub short : length here < big_endian size
  pub cut : HasComments blocks head → AreCutComments (big_endian size) here

-- A block after these blocks has the forbidden type.
pub record HasForbidden (bytes : List ℕ) (at : ℕ) : Type 0 where
  pub blocks : List Block
  pub head : ℕ
  pub rest : List ℕ
  pub are_front : AreFront blocks
  pub spelled : bytes ≡ front_bytes blocks ++ (head ∷ rest)
  pub forbidden : kind_of head ≡ 127
  pub place : at ≡ length (front_bytes blocks)

-- The block of the comments has a fault in it.
pub record HasBadComment (bytes : List ℕ) (at : ℕ) : Type 0 where
  pub blocks : List Block
  pub head : ℕ
  pub size : List ℕ
  pub before : List ℕ
  pub rest : List ℕ
  pub are_front : AreFront blocks
  pub is_header : IsHeader blocks head size
  pub has_comments : HasComments blocks head
  pub spelled : bytes ≡ front_bytes blocks ++ (head ∷ (size ++ (before ++ rest)))
  pub bad : AreBadComments (big_endian size) before rest
  pub place : at ≡ length (front_bytes blocks) + 4 + length before

-- A block after STREAMINFO would pass the limit.
pub record PassesLimit (bytes : List ℕ) : Type 0 where
  pub first : Block
  pub more : List Block
  pub head : ℕ
  pub size : List ℕ
  pub rest : List ℕ
  pub are_front : AreFront (first ∷ more)
  pub spelled : bytes ≡ front_bytes (first ∷ more) ++ (head ∷ (size ++ rest))
  pub allowed : kind_of head ≢ 127
  pub size_bytes : length size ≡ 3
  pub past : metadata_limit < size_of (first ∷ more) + 4 + big_endian size

-- The bytes of a file are refused for this.
abbrev pub IsRefused : List ℕ → FlacError → Type 0
IsRefused bytes NotFlac = (four : List ℕ) × (rest : List ℕ) × (bytes ≡ four ++ rest) × (length four ≡ 4) × (four ≢ marker)
IsRefused bytes NoStreamInfo = (head : ℕ) × (rest : List ℕ) × (bytes ≡ marker ++ (head ∷ rest)) × (kind_of head ≢ 0) × (kind_of head ≢ 127)
IsRefused bytes BadStreamInfo =
    (head : ℕ) × (size : List ℕ) × (rest : List ℕ)
    × (bytes ≡ marker ++ (head ∷ (size ++ rest))) × (kind_of head ≡ 0) × (length size ≡ 3) × (big_endian size ≢ 34)
IsRefused bytes (Forbidden at) = HasForbidden bytes at
IsRefused bytes (Truncated at) = (at ≡ length bytes) × ((length bytes < 4) ⊎ (EndsInHeader bytes ⊎ EndsInBody bytes))
IsRefused bytes (BadComment at) = HasBadComment bytes at
IsRefused bytes TooLong = PassesLimit bytes
IsRefused bytes ReadFault = ⊥
IsRefused bytes Mem = ⊥

-- A refusal is one of the bytes, except a failed read or that memory ran out, which no bytes decide.
abbrev pub RefusedAs : List ℕ → Result FlacInfo FlacError → Type 0
RefusedAs bytes (Ok info) = ⊤
RefusedAs bytes (Err ReadFault) = ⊤
RefusedAs bytes (Err Mem) = ⊤
RefusedAs bytes (Err refusal) = IsRefused bytes refusal

-- Bytes that are refused for something are refused for that, except if a read failed or memory ran out.
abbrev pub AnswersRefusal : FlacError → Result FlacInfo FlacError → Type 0
AnswersRefusal refusal (Ok info) = ⊥
AnswersRefusal refusal (Err ReadFault) = ⊤
AnswersRefusal refusal (Err Mem) = ⊤
AnswersRefusal refusal (Err other) = other ≡ refusal

abbrev pub RefusesWhatIs : List ℕ → Result FlacInfo FlacError → Type 0
RefusesWhatIs bytes result = (refusal : FlacError) → IsRefused bytes refusal → AnswersRefusal refusal result
