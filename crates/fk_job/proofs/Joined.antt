-- Pieces that are added to a text, with commas between them.
use Rattle.std.proofs.Common.{◌≡◌, ℕ, zero, suc, ◌+◌, ◌<◌, ◌≤◌, Bool, true, false, not, if◌then◌else◌, List, [], ◌∷◌, ◌++◌, length, drop, get_or, map, filter, slice_range, refl, sym, ap, ◌∙◌, arith}
use Rattle.std.proofs.lemmas.List.{append-nil, append_assoc, drop_more, length-append}
use Rattle.std.specs.List.{flat_map, join_with_byte, list_any}
use Rattle.fk_json.specs.declared.member.Member.{Member}
use Rattle.fk_job.specs.Members.{body_of, counting_members, is_handed_on, is_named, sent_member, sent_value}
use Rattle.fk_job.specs.Pieces.{counting_flags, joined, with_counting}
use Rattle.fk_job.proofs.Strings.{join-cons}

-- a text with the pieces behind it
abbrev pub behind_text : List ℕ → List (List ℕ) → List ℕ
behind_text text [] = text
behind_text text (piece ∷ pieces) = behind_text (joined text piece) pieces

-- the pieces of the members
abbrev pub pieces_of : List ℕ → List Member → List (List ℕ)
pieces_of text members =
    map (sent_member text) (filter (is_handed_on text) (counting_members members))

-- the members up to a place are written
pub record Written (text : List ℕ) (members : List Member) (at : ℕ) (body : List ℕ) : Type 0 where
  pub inside : at ≤ length members
  pub whole : behind_text body (pieces_of text (drop at members)) ≡ body_of text members

-- ---- pieces behind a text, joined

joined_some : (text piece : List ℕ) → 0 < length text → joined text piece ≡ text ++ (44 ∷ piece)
joined_some [] piece some = absurd (omega arith)
joined_some (first ∷ text) piece some = simp append_assoc refl

behind_some : {X : Type 0} (f : X → List ℕ) (xs : List X) (text : List ℕ) → ((x : X) → 0 < length (f x))
    → 0 < length text → behind_text text (map f xs) ≡ text ++ flat_map (λ x. 44 ∷ f x) xs
behind_some f [] text each some = sym (append-nil text)
behind_some f (x ∷ xs) text each some =
    let e = joined_some text (f x) some in
    let more : 0 < length (joined text (f x)) = omega (arith, ap length e, length-append text (44 ∷ f x)) in
    behind_some f xs (joined text (f x)) each more
    ∙ ap (λ t. t ++ flat_map (λ x. 44 ∷ f x) xs) e
    ∙ append_assoc text (44 ∷ f x) (flat_map (λ x. 44 ∷ f x) xs)

behind_none : {X : Type 0} (f : X → List ℕ) (xs : List X) → ((x : X) → 0 < length (f x))
    → behind_text [] (map f xs) ≡ join_with_byte 44 (map f xs)
behind_none f [] each = refl
behind_none f (x ∷ xs) each = behind_some f xs (f x) each (each x) ∙ sym (join-cons 44 f x xs)

sent_some : (text : List ℕ) (member : Member) → 0 < length (sent_member text member)
sent_some text member =
    let name = slice_range text member.name_from member.name_to in
    let value = sent_value text member in
    simp length-append (omega arith)

-- nothing is written yet
pub none_written : (text : List ℕ) (members : List Member) (body : List ℕ) → body ≡ []
    → Written text members 0 body
none_written text members body none = record {
  inside = omega arith;
  whole = ap (λ l. behind_text l (pieces_of text members)) none
      ∙ behind_none (sent_member text) (filter (is_handed_on text) (counting_members members)) (sent_some text);
}

-- ---- one more member

piece_step : (text body : List ℕ) (member : Member) (counting : List Member) (repeated handed : Bool)
    → is_handed_on text member ≡ handed
    → behind_text body (map (sent_member text) (filter (is_handed_on text)
    (if repeated then counting else member ∷ counting)))
    ≡ behind_text (with_counting text (not repeated) body member)
    (map (sent_member text) (filter (is_handed_on text) counting))
piece_step text body member counting true handed e = refl
piece_step text body member counting false true e = rw e refl
piece_step text body member counting false false e = rw e refl

pub flag_at : (members : List Member) (at : ℕ) (member : Member) (d : Bool) → at < length members
    → member ≡ get_or members at member
    → get_or (counting_flags members) at d ≡ not (list_any (is_named member.name) (drop (suc at) members))
flag_at [] at member d inside is = absurd (omega arith)
flag_at (m ∷ members) zero member d inside is =
    ap (λ x. not (list_any (is_named x.name) members)) (sym is)
flag_at (m ∷ members) (suc at) member d inside is = flag_at members at member d (omega arith) is

pub as_many : (members : List Member) → length (counting_flags members) ≡ length members
as_many [] = refl
as_many (m ∷ members) = ap suc (as_many members)

pub one_written : (text : List ℕ) (members : List Member) (at : ℕ) (member : Member) (counts : Bool)
    (body new : List ℕ) → at < length members → member ≡ get_or members at member
    → counts ≡ not (list_any (is_named member.name) (drop (at + 1) members))
    → new ≡ with_counting text counts body member → Written text members at body
    → Written text members (at + 1) new
one_written text members at member counts body new inside is counted adds so_far =
    let left = drop (at + 1) members in
    let there : drop at members ≡ member ∷ left
    = drop_more members at member inside ∙ ap (λ m. m ∷ left) (sym is) in
    record {
      inside = omega arith;
      whole = ap (λ l. behind_text l (pieces_of text left)) (adds ∙ ap (λ t. with_counting text t body member) counted)
          ∙ sym (piece_step text body member (counting_members left) (list_any (is_named member.name) left) _ refl)
          ∙ ap (λ l. behind_text body (pieces_of text l)) (sym there)
          ∙ so_far.whole;
    }

-- the same, where all flags are told before
pub one_flagged : (text : List ℕ) (members : List Member) (at : ℕ) (member : Member) (d counts : Bool)
    (flags : List Bool) (body new : List ℕ) → at < length members → member ≡ get_or members at member
    → flags ≡ counting_flags members → counts ≡ get_or flags at d
    → new ≡ with_counting text counts body member → Written text members at body
    → Written text members (at + 1) new
one_flagged text members at member d counts flags body new inside is told count adds so_far =
    let next : suc at ≡ at + 1 = omega arith in
    one_written text members at member counts body new inside is
    (count ∙ ap (λ l. get_or l at d) told ∙ flag_at members at member d inside is
    ∙ ap (λ k. not (list_any (is_named member.name) (drop k members))) next)
    adds so_far
