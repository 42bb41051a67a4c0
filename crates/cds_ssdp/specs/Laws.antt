-- Laws of searches and of what is found.
use Rattle.std.specs.Prelude.{◌≡◌, ◌≢◌, ◌<◌, ◌≤◌, ◌^◌, ℕ, true, false, IsTrue, List, [], ◌∷◌, ◌++◌, codes, Some}
use Rattle.std.specs.List.{AllByRecursion}
use Rattle.url.specs.Parts.{Parts}
use Rattle.cds_markup.specs.Document.{Doc}
use Rattle.cds_ssdp.specs.declared.device.Device.{Device}
use Rattle.cds_ssdp.specs.declared.finding.Found.{Found}
use Rattle.cds_ssdp.specs.Location.{http_url, is_location}
use Rattle.cds_ssdp.specs.Targets.{are_same_letters, device_name, device_type, root_device, service_type, targets_of, usn_of}
use Rattle.cds_ssdp.specs.Replies.{reply_text}
use Rattle.cds_ssdp.specs.Search.{Searches, AnswersSearch}
use Rattle.cds_ssdp.specs.Finding.{found_as, Tells}
use Rattle.cds_ssdp.specs.Description.{device_text, service_text}
use Rattle.cds_ssdp.specs.Documents.{device_said, service_said}

-- A datagram searches for one text at most.
abbrev pub OneSearch : Type 0
OneSearch = (datagram one other : List ℕ) → Searches datagram one → Searches datagram other → one ≡ other

-- A datagram has one answer.
abbrev pub OneAnswer : Type 0
OneAnswer =
    (device : Device) (datagram : List ℕ) (before one other : List (List ℕ)) → AnswersSearch device datagram before one
    → AnswersSearch device datagram before other → one ≡ other

-- A datagram tells of one thing at most.
abbrev pub OneFound : Type 0
OneFound = (datagram : List ℕ) (one other : Found) → Tells datagram one → Tells datagram other → one ≡ other

-- If the location is one, each reply to a search tells of its target, under its name, with the location of the device. The
-- number in BOOTID.UPNP.ORG has 32 bits.
abbrev pub RepliesAreReadBack : Type 0
RepliesAreReadBack =
    (device : Device) (asked : List ℕ) (url : Parts) → IsTrue (is_location device.location) → http_url device.location ≡ Some url
    → device.boot < 2 ^ 32
    → AllByRecursion (λ text. Tells (reply_text device text) (found_as text (usn_of device.uuid text) url)) (targets_of device.uuid asked)

-- Both descriptions are documents of XML, with these elements.
abbrev pub DescriptionsAreDocuments : Type 0
DescriptionsAreDocuments = ((id : List ℕ) → Doc (device_text id) (device_said id)) × Doc service_text service_said

-- The table of what is asked for and what is found: the root device, the two types in each version, the name of the
-- device by its letters in either case, all, and anything else. And the USN of each target.
pub record IsTable (id : List ℕ) : Type 0 where
  pub root : targets_of id root_device ≡ root_device ∷ []
  pub devices : (version : ℕ) → 1 ≤ version → version ≤ 4 → targets_of id (device_type version) ≡ device_type version ∷ []
  pub services : (version : ℕ) → 1 ≤ version → version ≤ 4 → targets_of id (service_type version) ≡ service_type version ∷ []
  pub own : (asked : List ℕ) → are_same_letters asked (device_name id) ≡ true → targets_of id asked ≡ device_name id ∷ []
  pub all : targets_of id (codes "ssdp:all") ≡ root_device ∷ device_name id ∷ device_type 4 ∷ service_type 4 ∷ []
  pub others : (asked : List ℕ) → asked ≢ root_device
      → ((version : ℕ) → 1 ≤ version → version ≤ 4 → (asked ≢ device_type version) × (asked ≢ service_type version))
      → are_same_letters asked (device_name id) ≡ false → asked ≢ codes "ssdp:all" → targets_of id asked ≡ []
  pub own_usn : usn_of id (device_name id) ≡ device_name id
  pub root_usn : usn_of id root_device ≡ device_name id ++ codes "::" ++ root_device
  pub device_usn : (version : ℕ) → 1 ≤ version → version ≤ 4 → usn_of id (device_type version) ≡ device_name id ++ codes "::" ++ device_type version
  pub service_usn : (version : ℕ) → 1 ≤ version → version ≤ 4 → usn_of id (service_type version) ≡ device_name id ++ codes "::" ++ service_type version

abbrev pub TargetsAreTheTable : Type 0
TargetsAreTheTable = (id : List ℕ) → IsTable id
