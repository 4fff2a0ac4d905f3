-- The handshake, after Faktory's protocol specification: the server speaks first, and the client answers by a
-- HELLO. How the hash of a password is taken, what an empty or null wid says, and the texts of refusals are
-- this server's own; SHA-256 is that of FIPS 180-4.
use Rattle.std.specs.Prelude.{ℕ, zero, suc, List, [], ◌++◌, Bool, true, false, ◌==◌, bytes_eq, codes, if◌then◌else◌, Option, Some, option_and_then}
use Rattle.std.specs.Option.{option_map_or}
use Rattle.std.specs.Fmt.{decimal}
use Rattle.std.specs.Int.{to_be_bytes, w64}
use Rattle.sha2.specs.Sha256.{sha256}
use Rattle.hex.specs.Hex.{encode_lower}
use Rattle.serde_json.specs.Data.{Data, null, Members}
use Rattle.serde_json.specs.Find.{as_number, as_str, as_u64, get_member}
use Rattle.fk_model.specs.declared.gate.Gate.{Gate}
use Rattle.fk_model.specs.Payloads.{object_read, string_among}

-- ---- the hash of a password

-- SHA-256 of some bytes, then of what came, and so on, so many times
unfoldable pub hashed : ℕ → List ℕ → List ℕ
hashed zero bytes = bytes
hashed (suc times) bytes = hashed times (sha256 bytes)

-- what is hashed first is the password and, behind it, the salt's text; the hash, which is taken at least once,
-- is told in hexadecimal digits
abbrev pub pass_hash : List ℕ → List ℕ → ℕ → List ℕ
pass_hash password salt rounds = encode_lower (hashed rounds (password ++ salt))

-- the salt's text: the 64 bits of the word as 16 hexadecimal digits
abbrev pub salt_text : ℕ → List ℕ
salt_text word = encode_lower (to_be_bytes w64 word)

-- ---- the greeting

-- it tells the rounds and the salt where a password is set
abbrev pub greeting : Gate → List ℕ
greeting gate =
    option_map_or
    (λ password. codes "+HI {\"i\":" ++ decimal gate.rounds ++ codes ",\"s\":\"" ++ salt_text gate.salt
    ++ codes "\",\"v\":2}\r\n")
    gate.password (codes "+HI {\"v\":2}\r\n")

-- ---- a HELLO

-- what becomes of a HELLO: it is refused with these words, or accepted from the worker of this wid, or from a
-- producer, whose wid is empty
pub data Welcome : Type 0 where
  turned_away : List ℕ → Welcome
  let_in : List ℕ → Welcome

-- a wid as a HELLO has it: null is an empty one
abbrev pub wid_of : Data → Option (List ℕ)
wid_of null = Some []
wid_of other = as_str other

-- the wid of a HELLO, empty where it has none; there is no answer where it has one that is neither null nor
-- a string
abbrev pub wid_said : Members → Option (List ℕ)
wid_said members = option_map_or wid_of (get_member (codes "wid") members) (Some [])

-- the protocol's version, which has to be the integer 2
abbrev pub has_version : Members → Bool
has_version members =
    option_map_or (λ version. version == 2)
    (option_and_then as_u64 (option_and_then as_number (get_member (codes "v") members))) false

-- the members tell the hash of the password, where one is set
abbrev pub opens : Gate → Members → Bool
opens gate members =
    option_map_or
    (λ password. option_map_or
    (λ told. bytes_eq told (pass_hash password (salt_text gate.salt) gate.rounds))
    (string_among (codes "pwdhash") members) false)
    gate.password true

-- what becomes of a HELLO of these members: the first of its faults counts
abbrev pub welcome_of : Gate → Members → Welcome
welcome_of gate members =
    option_map_or
    (λ wid. if has_version members
    then (if opens gate members then let_in wid else turned_away (codes "Invalid password"))
    else turned_away (codes "Bad version"))
    (wid_said members) (turned_away (codes "Bad HELLO"))

-- what becomes of a HELLO of these arguments, which have to be an object
abbrev pub welcome : Gate → List ℕ → Welcome
welcome gate arguments =
    option_map_or (welcome_of gate) (object_read arguments) (turned_away (codes "Bad HELLO"))
