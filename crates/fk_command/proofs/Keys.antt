-- The key of an element: what is told of it by the members that were found.
use Rattle.std.proofs.Common.{◌≡◌, ◌⊎◌, inl, inr, ℕ, List, [], Option, None, Some, Result, Ok, Err, IfOk, String, Global, string_bytes, IsUtf8, codes, MatchOption, sym, ◌∙◌, subst}
use Rattle.fk_json.specs.declared.member.Member.{Member}
use Rattle.fk_json.specs.declared.fault.JsonFault.{JsonFault}
use Rattle.fk_json.specs.declared.fault.JsonFault.TheVariants.{Syntax, TooDeep, NoMemory}
use Rattle.fk_json.specs.Json.{IsObjectText, most_levels}
use Rattle.fk_json.specs.String.{IsString}
use Rattle.fk_json.proofs.Strings.{string_utf8}
use Rattle.fk_job.specs.Members.{value_of}
use Rattle.fk_job.specs.Fields.{HasString}
use Rattle.fk_job.specs.JobText.{HasJid}
use Rattle.fk_model.specs.Payloads.{HasKey}

utf8_of : (found : Option (List ℕ)) (decoded : List ℕ)
    → MatchOption found ⊥ (λ value. IsString value decoded) → IsUtf8 decoded
utf8_of None decoded is = absurd is
utf8_of (Some value) decoded is = string_utf8 value decoded is

-- a decoded string is UTF-8
pub has_utf8 : (text : List ℕ) (members : List Member) (name decoded : List ℕ)
    → HasString text members name decoded → IsUtf8 decoded
has_utf8 text members name decoded is = utf8_of (value_of text members name) decoded is

-- the key of a text with these members, which are its only ones
pub has_key : (text : List ℕ) (members : List Member) (key : List ℕ)
    → IsObjectText most_levels text members
    → ((others : List Member) → IsObjectText most_levels text others → members ≡ others)
    → HasString text members (codes "jid") key ⊎ ((key ≡ []) × ¬ HasJid text members)
    → HasKey text key
has_key text members key is one (inl named) = inl (members, is, named)
has_key text members key is one (inr (empty, unnamed)) =
    inr (empty, λ others other. subst (λ found. ¬ HasJid text found) (one others other) unnamed)

pub has_keys : {E : Type 0} (text : List ℕ) (members : List Member) (found : Result (String Global) E)
    → IsObjectText most_levels text members
    → ((others : List Member) → IsObjectText most_levels text others → members ≡ others)
    → IfOk found (λ key. HasString text members (codes "jid") (string_bytes key)
    ⊎ ((string_bytes key ≡ []) × ¬ HasJid text members))
    → IfOk found (λ key. HasKey text (string_bytes key))
has_keys text members (Ok key) is one told = has_key text members (string_bytes key) is one told
has_keys text members (Err refused) is one told = tt

-- the key of a text that is no object of so many levels
has_no_key : (text key : List ℕ) → key ≡ []
    → ((members : List Member) → IsObjectText most_levels text members → ⊥) → HasKey text key
has_no_key text key empty none = inr (empty, λ members is. absurd (none members is))

-- a text that stops being one, and one that goes too deep
pub no_key_there : (text key : List ℕ) (fault : JsonFault) (at : ℕ) → key ≡ [] → fault ≡ Syntax at
    → ((members : List Member) → IsObjectText most_levels text members → fault ≡ NoMemory)
    → HasKey text key
no_key_there text key fault at empty is none =
    has_no_key text key empty (λ members object. let no = sym is ∙ none members object in cc)

pub no_key_so_deep : (text key : List ℕ) (fault : JsonFault) (at : ℕ) → key ≡ [] → fault ≡ TooDeep at
    → ((members : List Member) → IsObjectText most_levels text members → fault ≡ NoMemory)
    → HasKey text key
no_key_so_deep text key fault at empty is none =
    has_no_key text key empty (λ members object. let no = sym is ∙ none members object in cc)
